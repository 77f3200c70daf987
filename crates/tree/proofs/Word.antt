-- Trees and their words.
--     ones-word, zeros-word     a tree of n nodes has n ones and n + 1 zeros
--     front, word-front         the word without its final leaf
--     front-schedule            that is a closed schedule
--     word-tree                 the tree of a closed schedule has its word
--     one-tree                  no other tree has its word
-- Assumes nothing.
use mathlib.Core.Bool.{true, false≢true}
use mathlib.Core.List.{List, [], ◌∷◌, ◌++◌, append_assoc, append-nil}
use mathlib.Core.Path.{◌≡◌, refl, sym, ◌∙◌, ap}
use Prim.Native.Nat.{ℕ, zero, suc, ◌+◌}
use native.Mathlib.Omega.{arith}
use lib.ListN.{length, length-append}
use Rattle.schedule.specs.Schedule.{ones, zeros, Schedule}
use Rattle.schedule.proofs.Tally.{ones-append, zeros-append}
use Rattle.schedule.proofs.Hand.{plays, schedule-plays, schedule-zeros, plays-schedule}
use Rattle.tree.specs.Tree.{Tree, leaf, node, size, word}
use Rattle.tree.specs.Parse.{grow, parse, foremost, tree_of}

pub ones-word : (t : Tree) → ones (word t) ≡ size t
unfolding word size ones
ones-word leaf = refl
ones-word (node a b) = omega (arith, ones-append (word a) (word b), ones-word a, ones-word b)

pub zeros-word : (t : Tree) → zeros (word t) ≡ suc (size t)
unfolding word size zeros
zeros-word leaf = refl
zeros-word (node a b) = omega (arith, zeros-append (word a) (word b), zeros-word a, zeros-word b)

unfoldable pub front : Tree → List ℕ
front leaf = []
front (node a b) = 1 ∷ (word a ++ front b)

pub word-front : (t : Tree) → word t ≡ front t ++ 0 ∷ []
unfolding word front
word-front leaf = refl
word-front (node a b) =
    ap (λ (w : List ℕ). 1 ∷ w)
    (ap (λ (w : List ℕ). word a ++ w) (word-front b) ∙ sym (append_assoc (word a) (front b) (0 ∷ [])))

-- a word sets down one task more than it takes up; without its final leaf it sets down what it takes up
word-plays : (t : Tree) (h : ℕ) (c : List ℕ) → plays (suc h) (word t ++ c) ≡ plays h c
unfolding word plays
word-plays leaf h c = refl
word-plays (node a b) h c =
    ap (plays (suc (suc h))) (append_assoc (word a) (word b) c) ∙ word-plays a (suc h) (word b ++ c) ∙ word-plays b h c

front-plays : (t : Tree) (h : ℕ) (c : List ℕ) → plays h (front t ++ c) ≡ plays h c
unfolding front plays
front-plays leaf h c = refl
front-plays (node a b) h c =
    ap (plays (suc h)) (append_assoc (word a) (front b) c) ∙ word-plays a h (front b ++ c) ∙ front-plays b h c

pub front-schedule : (t : Tree) → Schedule (size t) (size t) (front t)
unfolding ones zeros plays
front-schedule t =
    plays-schedule
    (ap (plays 0) (sym (append-nil (front t))) ∙ front-plays t 0 [])
    (omega (arith, ones-word t, ap ones (word-front t), ones-append (front t) (0 ∷ [])))
    (omega (arith, zeros-word t, ap zeros (word-front t), zeros-append (front t) (0 ∷ [])))

unfoldable words : List Tree → List ℕ
words [] = []
words (t ∷ ts) = word t ++ words ts

grown : (ts : List Tree) (h : ℕ) (c : List ℕ) → words ts ≡ c → length ts ≡ suc (suc h)
    → (words (grow ts) ≡ 1 ∷ c) × (length (grow ts) ≡ suc h)
unfolding grow words word
grown [] h c e n = absurd (omega arith)
grown (a ∷ []) h c e n = absurd (omega arith)
grown (a ∷ (b ∷ ts)) h c e n = (ap (λ (w : List ℕ). 1 ∷ w) (append_assoc (word a) (word b) (words ts) ∙ e), omega arith)

-- beats that play with h in hand, and set all down, make h + 1 words with one more leaf
parsed : (h : ℕ) (b : List ℕ) → plays h b ≡ true → h + ones b ≡ zeros b
    → (words (parse (b ++ 0 ∷ [])) ≡ b ++ 0 ∷ []) × (length (parse (b ++ 0 ∷ [])) ≡ suc h)
unfolding plays ones zeros parse words word
parsed h [] o e = (refl, omega arith)
parsed zero (zero ∷ b) o e = absurd (false≢true o)
parsed (suc h) (zero ∷ b) o e = let i = parsed h b o (omega arith) in (ap (λ (w : List ℕ). 0 ∷ w) i.0, ap suc i.1)
parsed h (suc zero ∷ b) o e =
    let i = parsed (suc h) b o (omega arith) in
    grown (parse (b ++ 0 ∷ [])) h (b ++ 0 ∷ []) i.0 i.1
parsed h (suc (suc x) ∷ b) o e = absurd (false≢true o)

pub word-tree : {n : ℕ} {b : List ℕ} → Schedule n n b → b ++ 0 ∷ [] ≡ word (tree_of b)
unfolding tree_of foremost words
word-tree {n} {b} q =
    let i = parsed 0 b (schedule-plays q) (omega (arith, q.taken, schedule-zeros q)) in
    go (parse (b ++ 0 ∷ [])) i.0 i.1
  where
    go : (ts : List Tree) → words ts ≡ b ++ 0 ∷ [] → length ts ≡ 1 → b ++ 0 ∷ [] ≡ word (foremost ts)
    go [] w k = absurd (omega arith)
    go (t ∷ []) w k = sym (sym (append-nil (word t)) ∙ w)
    go (t ∷ (u ∷ ts)) w k = absurd (omega arith)

parse-word : (t : Tree) (c : List ℕ) → parse (word t ++ c) ≡ t ∷ parse c
unfolding parse word grow
parse-word leaf c = refl
parse-word (node a b) c = rw (append_assoc (word a) (word b) c, parse-word a (word b ++ c), parse-word b c)

pub one-tree : (t : Tree) (b : List ℕ) → b ++ 0 ∷ [] ≡ word t → tree_of b ≡ t
unfolding tree_of foremost parse
one-tree t b e = ap (λ (c : List ℕ). foremost (parse c)) (e ∙ sym (append-nil (word t))) ∙ ap foremost (parse-word t [])

-- a list is known by the list with one more leaf
pub front-unique : (b c : List ℕ) → b ++ 0 ∷ [] ≡ c ++ 0 ∷ [] → b ≡ c
front-unique [] [] e = refl
front-unique [] (y ∷ c) e = absurd (omega (arith, ap length e, length-append c (0 ∷ [])))
front-unique (x ∷ b) [] e = absurd (omega (arith, ap length e, length-append b (0 ∷ [])))
front-unique (x ∷ b) (y ∷ c) e =
    let rest : b ++ 0 ∷ [] ≡ c ++ 0 ∷ [] = cc in
    let same = front-unique b c rest in
    cc
