-- What a tree table is, the manual, "Tree table", once over n.
--     closed-tree               every closed schedule has exactly one tree, of n nodes [T1]
--     tree-closed               every tree of n nodes has exactly one closed schedule [T1]
--     has-closed, closed-has    what has tables is a closed schedule, and every closed schedule has tables
--     one-tables                a schedule has one triple of tables
--     treed-one                 no second answer and no second content of what is lent fits the contract [P11]
--     popped-one                the same of the top that a stack gives and of what it leaves [P11]
--     tree-accepts, accepts-tree     the way there accepts exactly the closed schedules of n ≤ largest with
--                                    room for their tables [T4]
-- Assumes nothing.
use mathlib.Core.Bool.{true≢false}
use mathlib.Core.List.{List, [], ◌∷◌, ◌++◌, reverse, reverse-append, append-nil}
use mathlib.Core.Path.{◌≡◌, refl, sym, ◌∙◌, ap, subst}
use Prim.Native.Nat.{ℕ, ◌+◌, ◌≤◌, ◌<◌}
use native.Mathlib.Omega.{arith}
use lib.ListN.{length}
use Rattle.std.proofs.Common.{Ok, Option, None, Some, ◌↔◌}
use Rattle.std.proofs.lemmas.List.{reverse-reverse}
use Rattle.std.specs.Option.{option_to_list, IsSome}
use Rattle.refusal.specs.Answer.{Verdict}
use Rattle.refusal.specs.Rows.{judge}
use Rattle.refusal.proofs.Rows.{judge-front, both}
use Rattle.triangle.specs.Count.{largest}
use Rattle.schedule.specs.Schedule.{ones, Schedule}
use Rattle.schedule.specs.Check.{play_rows}
use Rattle.schedule.proofs.Theorems.{accepted-schedule, schedule-accepted}
use Rattle.tree.specs.Tree.{Tree, size, word, lefts, rights, parents}
use Rattle.tree.specs.Parse.{tree_of}
use Rattle.tree.specs.Table.{Has, lent_rows, tree_rows, Treed, filled, kept}
use Rattle.schedule.proofs.Tally.{ones-append}
use Rattle.tree.proofs.Word.{
  ones-word,
  word-front,
  front,
  front-schedule,
  front-unique,
  word-tree,
  one-tree,
}
use Rattle.tree.proofs.Sizes.{sizes-right, fitting-sizes, tree-checked}

-- a tree whose word is b with one leaf more has as many nodes as b has ones
size-ones : (t : Tree) (b : List ℕ) → b ++ 0 ∷ [] ≡ word t → size t ≡ ones b
unfolding ones
size-ones t b e = omega (arith, ones-word t, ap ones e, ones-append b (0 ∷ []))

pub closed-tree : {n : ℕ} {b : List ℕ} → Schedule n n b
    → (t : Tree) × (size t ≡ n) × (b ++ 0 ∷ [] ≡ word t) × ((s : Tree) → b ++ 0 ∷ [] ≡ word s → s ≡ t)
closed-tree {n} {b} q =
    let e = word-tree q in
    (tree_of b, size-ones (tree_of b) b e ∙ q.taken, e, λ s f. sym (one-tree s b f))

pub tree-closed : (t : Tree)
    → (b : List ℕ) × Schedule (size t) (size t) b × (b ++ 0 ∷ [] ≡ word t)
    × ((c : List ℕ) → c ++ 0 ∷ [] ≡ word t → c ≡ b)
tree-closed t = (front t, front-schedule t, sym (word-front t), λ c e. front-unique c (front t) (e ∙ word-front t))

pub has-closed : {n : ℕ} {b l r p : List ℕ} → Has n b l r p → Schedule n n b
has-closed {n} {b} q =
    let t = tree-closed q.tree in
    let same : b ≡ t.0 = t.3 b q.beats in
    subst (λ (m : ℕ). Schedule m m b) q.nodes (subst (Schedule (size q.tree) (size q.tree)) (sym same) t.1)

pub closed-has : {n : ℕ} {b : List ℕ} → Schedule n n b → (l : List ℕ) × (r : List ℕ) × (p : List ℕ) × Has n b l r p
closed-has q =
    let t = closed-tree q in (
      lefts 1 t.0,
      rights 1 t.0,
      parents 0 1 t.0,
      record { tree = t.0; nodes = t.1; beats = t.2; left = refl; right = refl; parent = refl },
    )

-- two trees of one schedule are one
same-tree : {n m : ℕ} {b l r p x y z : List ℕ} (q : Has n b l r p) (u : Has m b x y z) → q.tree ≡ u.tree
same-tree {b = b} q u = sym (one-tree q.tree b q.beats) ∙ one-tree u.tree b u.beats

pub one-tables : {n : ℕ} {b l r p x y z : List ℕ} → Has n b l r p → Has n b x y z → (l ≡ x) × (r ≡ y) × (p ≡ z)
one-tables q u =
    let e = same-tree q u in (
      q.left ∙ ap (lefts 1) e ∙ sym u.left,
      q.right ∙ ap (rights 1) e ∙ sym u.right,
      q.parent ∙ ap (parents 0 1) e ∙ sym u.parent,
    )

pub treed-one : {n : ℕ} {b l r p : List ℕ} {v w : Verdict} {x y z x' y' z' : List ℕ}
    → Treed n b l r p v x y z → Treed n b l r p w x' y' z' → (v ≡ w) × (x ≡ x') × (y ≡ y') × (z ≡ z')
treed-one (filled e q) (filled f u) = let s = one-tables q u in (refl, s.0, s.1, s.2)
treed-one (filled e q) (kept f) = both e f
treed-one (kept e) (filled f u) = both f e
treed-one (kept e) (kept f) = (sym e ∙ f, refl, refl, refl)

-- two lists with one item more
one-more : (u v : List ℕ) (x y : ℕ) → u ++ x ∷ [] ≡ v ++ y ∷ [] → (u ≡ v) × (x ≡ y)
one-more u v x y e =
    let turned : x ∷ reverse u ≡ y ∷ reverse v =
    sym (reverse-append u (x ∷ [])) ∙ ap reverse e ∙ reverse-append v (y ∷ []) in
    let below : reverse u ≡ reverse v = cc in
    (sym (reverse-reverse u) ∙ ap reverse below ∙ reverse-reverse v, cc)

-- by the two clauses of a pop: what was there is what is left and the answer, and there is one if anything was there
pub popped-one : {st : List ℕ} (u v : List ℕ) (o i : Option ℕ) → st ≡ u ++ option_to_list o
    → (IsSome o ↔ (0 < length st)) → st ≡ v ++ option_to_list i → (IsSome i ↔ (0 < length st)) → (u ≡ v) × (o ≡ i)
popped-one u v None None e h f k = (sym (append-nil u) ∙ sym e ∙ f ∙ append-nil v, refl)
popped-one u v None (Some y) e h f k = absurd (true≢false (sym (h.1 (k.0 refl))))
popped-one u v (Some x) None e h f k = absurd (true≢false (sym (k.1 (h.0 refl))))
popped-one u v (Some x) (Some y) e h f k =
    let same = one-more u v x y (sym e ∙ f) in
    (same.0, ap Some same.1)

module _ (n : ℕ) (b l r p : List ℕ) where
  abbrev pub Sized : Type 0
  Sized = (n ≤ largest) × (length b ≡ n + n) × (length l ≡ n) × (length r ≡ n) × (length p ≡ n)

  pub tree-accepts : judge (tree_rows n b l r p) ≡ Ok tt → Sized × Schedule n n b
  tree-accepts e =
      let fit = judge-front (lent_rows n b l r p) (play_rows n b) e in (
        sizes-right n (length b) (length l) (length r) (length p) fit,
        (accepted-schedule n n b (sym (tree-checked n b l r p fit) ∙ e)).1,
      )

  pub accepts-tree : Sized → Schedule n n b → judge (tree_rows n b l r p) ≡ Ok tt
  accepts-tree s q =
      tree-checked n b l r p (fitting-sizes n (length b) (length l) (length r) (length p) s)
      ∙ schedule-accepted n n b (s.0, omega arith) q
