-- The loop that reads tables from the root on and writes the beats that it meets.
--     Traced-to           after `at` beats, k of them nodes: what is still to be read would make a tree of the tables
--                         whose word the beats begin, and every tree of the tables has such a word and such a rest
--     trace-start         before the first turn
--     trace-leaf          a 0, and on to the right slot of the node that waits last
--     trace-node          a 1, and on to the left slot of that node
--     trace-stuck, trace-other     tables that no schedule has: no node waits though beats are missing; or a slot does
--                                  not hold the next node, or that has another parent
--     trace-end           when the beats are full, the tables are theirs exactly if the last slot is a leaf
--     traced-whole, traced-broken     what the loop's answer says
--     has-read            the tree that a schedule and its tables have is read from the tables
--     next-so, next-not   the test for the next node, as a fact
-- Assumes nothing.
use mathlib.Core.Bool.{Bool, true, false, ◌&&◌, and-eq-true_iff, true≢false}
use mathlib.Core.List.{List, [], ◌∷◌, ◌++◌, append_assoc, append-nil}
use mathlib.Core.Path.{◌≡◌, refl, sym, ◌∙◌, ap, subst}
use Prim.Native.Nat.{ℕ, zero, suc, ◌+◌, ◌-◌, ◌≤◌, ◌<◌}
use native.Mathlib.Nat.{add-zero}
use native.Mathlib.Numerals.{add-one, sub-one}
use native.Mathlib.Omega.{arith}
use native.Mathlib.Decide.{ℕ_discrete}
use borrow.Author.Tests.{lt-ltb, eq-eqb, ne_eqb, ltb-true, eqb-true}
use lib.Dec.{eqb, ltb}
use lib.ListN.{length, get_or, set, take, length-set}
use lib.Seq.{take_all, take-suc-set}
use Rattle.schedule.specs.Schedule.{ones, zeros}
use Rattle.tree.specs.Tree.{Tree, leaf, node, size, word, root, rights, parents}
use Rattle.tree_back.specs.Tracing.{root_number, is_next, Traced, whole, broken}
use Rattle.tree.specs.Table.{Has}
use Rattle.schedule.proofs.Tally.{ones-append}
use Rattle.tree.proofs.Word.{ones-word}
use Rattle.tree.proofs.Forest.{words}
use Rattle.std.proofs.lemmas.List.{nil_from_length}
use Rattle.tree_back.proofs.Slots.{
  Reads,
  none,
  tables-read,
  read-tables,
  entry,
  Rest,
  last,
  more,
  rest-pop,
  rest-last,
  rest-open,
  rest-close,
}

root-number : (t : Tree) → root 1 t ≡ root_number (size t)
unfolding root size
root-number leaf = refl
root-number (node a b) = refl

-- a tree of the tables, whose word begins with b and goes on with w
pub record Grown (n : ℕ) (l r p b w : List ℕ) : Type 0 where
  pub tree : Tree
  pub read : Reads l r p 0 0 (root_number n) tree
  pub beats : word tree ≡ b ++ w

-- each of the waiting nodes is one of the first k
pub data Low (k : ℕ) : List ℕ → Type 0 where
  bottom : Low k []
  above : {x : ℕ} {s : List ℕ} → 1 ≤ x → x ≤ k → Low k s → Low k (x ∷ s)

low-more : {k : ℕ} {s : List ℕ} → Low k s → Low (suc k) s
low-more bottom = bottom
low-more (above h i u) = above h (omega arith) (low-more u)

low-top : {k x : ℕ} {s : List ℕ} → Low k (x ∷ s) → (1 ≤ x) × (x ≤ k)
low-top (above h i u) = (h, i)

low-below : {k x : ℕ} {s : List ℕ} → Low k (x ∷ s) → Low k s
low-below (above h i u) = u

pub record Traced-to (n : ℕ) (l r p : List ℕ) (at k own c : ℕ) (s buf : List ℕ) : Type 0 where
  pub within : at ≤ n + n
  pub long : length buf ≡ n + n
  pub nodes : k ≤ n
  pub ahead : k ≤ at
  pub deep : length s + at ≡ k + k
  pub counted : ones (take at buf) ≡ k
  pub low : Low k s
  pub sound : (ts : List Tree) → Rest l r p own k c s ts → Grown n l r p (take at buf) (words ts)
  pub complete : (t : Tree) → Reads l r p 0 0 (root_number n) t
      → (ts : List Tree) × Rest l r p own k c s ts × (word t ≡ take at buf ++ words ts)

pub trace-start : (n : ℕ) (l r p buf : List ℕ) → length buf ≡ n + n → Traced-to n l r p 0 0 0 (root_number n) [] buf
unfolding words ones
trace-start n l r p buf e = record {
  within = omega arith;
  long = e;
  nodes = omega arith;
  ahead = omega arith;
  deep = refl;
  counted = refl;
  low = bottom;
  sound = only;
  complete = λ t q. (t ∷ [], last q, sym (append-nil (word t)));
}
  where
    only : (ts : List Tree) → Rest l r p 0 0 (root_number n) [] ts → Grown n l r p [] (words ts)
    only ts (last {t = t} q) = record { tree = t; read = q; beats = unfold words in sym (append-nil (word t)) }

-- an entry of a node, and the next node of the tables, in the words of the code
entry-is : (x : List ℕ) (c : ℕ) → 1 ≤ c → entry x c ≡ get_or x (c - 1) 0
entry-is x zero h = absurd (omega arith)
entry-is x (suc c) h = rw (sub-one (suc c))

module _ (n : ℕ) (p : List ℕ) (k c own : ℕ) (e : length p ≡ n) where
  pub next-so : is_next p k c own ≡ true → (k < n) × (c ≡ suc k) × (get_or p k 0 ≡ own)
  next-so t =
      let x = (and-eq-true_iff (ltb k (length p) && eqb c (suc k)) (eqb (get_or p k 0) own)).0 t in
      let y = (and-eq-true_iff (ltb k (length p)) (eqb c (suc k))).0 x.0 in
      (omega (arith, ltb-true k (length p) y.0), eqb-true c (suc k) y.1, eqb-true (get_or p k 0) own x.1)

  pub next-not : is_next p k c own ≡ false → (k < n) × (c ≡ suc k) × (get_or p k 0 ≡ own) → ⊥
  next-not f q =
      true≢false (sym ((and-eq-true_iff (ltb k (length p) && eqb c (suc k)) (eqb (get_or p k 0) own)).1 (
        (and-eq-true_iff (ltb k (length p)) (eqb c (suc k))).1
            (lt-ltb k (length p) (omega (arith, q.0)), eq-eqb c (suc k) q.1),
        eq-eqb (get_or p k 0) own q.2,
      )) ∙ f)

-- one beat more
ones-more : (buf : List ℕ) (at v : ℕ) → at < length buf
    → ones (take (suc at) (set buf at v)) ≡ ones (take at buf ++ v ∷ [])
ones-more buf at v h = ap ones (take-suc-set buf at v h)

zero_more : (b : List ℕ) → ones (b ++ 0 ∷ []) ≡ ones b
unfolding ones
zero_more b = omega (arith, ones-append b (0 ∷ []))

one_more : (b : List ℕ) → ones (b ++ 1 ∷ []) ≡ suc (ones b)
unfolding ones
one_more b = omega (arith, ones-append b (1 ∷ []))

longer : (buf : List ℕ) (at v : ℕ) (w : List ℕ) → at < length buf
    → take (suc at) (set buf at v) ++ w ≡ take at buf ++ (v ∷ w)
longer buf at v w h = rw (take-suc-set buf at v) (append_assoc (take at buf) (v ∷ []) w)

module _ {n : ℕ} {l r p : List ℕ} {at k own c : ℕ} {s buf : List ℕ} (u : Traced-to n l r p at k own c s buf)
    (h : at < n + n) where
  inside : at < length buf
  inside = omega (arith, u.long)

  -- the node on top is the one that waits last
  module _ (z : c ≡ 0) (top : ℕ) (below : List ℕ) (f : s ≡ top ∷ below) where
    pub trace-low : (1 ≤ top) × (top ≤ k)
    trace-low = low-top (subst (Low k) f u.low)

    leaf-sound : (ts : List Tree) → Rest l r p top k (entry r top) below ts
        → Grown n l r p (take (suc at) (set buf at 0)) (words ts)
    unfolding words word size
    leaf-sound ts q =
        let rest : Rest l r p own k c s (leaf ∷ ts) =
        subst (λ (w : List ℕ). Rest l r p own k c w (leaf ∷ ts)) (sym f)
        (subst (λ (j : ℕ). Rest l r p own k j (top ∷ below) (leaf ∷ ts)) (sym z)
        (more none (subst (λ (j : ℕ). Rest l r p top j (entry r top) below ts) (sym (add-zero k)) q))) in
        let g = u.sound (leaf ∷ ts) rest in
        record { tree = g.tree; read = g.read; beats = g.beats ∙ sym (longer buf at 0 (words ts) inside) }

    leaf-complete : (t : Tree) → Reads l r p 0 0 (root_number n) t
        → (ts : List Tree) × Rest l r p top k (entry r top) below ts
        × (word t ≡ take (suc at) (set buf at 0) ++ words ts)
    leaf-complete t q =
        let g = u.complete t q in
        let o = rest-pop l r p g.1 z top below f in
        (o.0, o.1, g.2 ∙ ap (λ (w : List ℕ). take at buf ++ w) o.2 ∙ sym (longer buf at 0 (words o.0) inside))

    leaf-more : Traced-to n l r p (suc at) k top (entry r top) below (set buf at 0)
    leaf-more = record {
      within = h;
      long = length-set buf at 0 ∙ u.long;
      nodes = u.nodes;
      ahead = omega (arith, u.ahead);
      deep = omega (arith, u.deep, ap length f);
      counted = ones-more buf at 0 inside ∙ zero_more (take at buf) ∙ u.counted;
      low = low-below (subst (Low k) f u.low);
      sound = leaf-sound;
      complete = leaf-complete;
    }

    -- the same in the words of the code
    pub trace-leaf : Traced-to n l r p (at + 1) k top (get_or r (top - 1) 0) below (set buf at 0)
    trace-leaf =
        rw (add-one at)
        (subst (λ (j : ℕ). Traced-to n l r p (suc at) k top j below (set buf at 0)) (entry-is r top trace-low.0)
        leaf-more)

  module _ (next : c ≡ suc k) (inner : k < n) (upper : get_or p k 0 ≡ own) where
    node-sound : (ts : List Tree) → Rest l r p c (suc k) (get_or l k 0) (c ∷ s) ts
        → Grown n l r p (take (suc at) (set buf at 1)) (words ts)
    node-sound ts q =
        let open-rest : Rest l r p (suc k) (suc k) (get_or l k 0) (suc k ∷ s) ts =
        subst (λ (j : ℕ). Rest l r p j (suc k) (get_or l k 0) (j ∷ s) ts) next q in
        let f = rest-close l r p upper open-rest refl in
        let g = u.sound f.0 (subst (λ (j : ℕ). Rest l r p own k j s f.0) (sym next) f.1) in
        record {
          tree = g.tree;
          read = g.read;
          beats = g.beats ∙ ap (λ (w : List ℕ). take at buf ++ w) f.2 ∙ sym (longer buf at 1 (words ts) inside);
        }

    node-complete : (t : Tree) → Reads l r p 0 0 (root_number n) t
        → (ts : List Tree) × Rest l r p c (suc k) (get_or l k 0) (c ∷ s) ts
        × (word t ≡ take (suc at) (set buf at 1) ++ words ts)
    node-complete t q =
        let g = u.complete t q in
        let f = rest-open l r p g.1 (λ z. omega arith) in (
          f.trees,
          subst (λ (j : ℕ). Rest l r p j (suc k) (get_or l k 0) (j ∷ s) f.trees) (sym next) f.rest,
          g.2 ∙ ap (λ (w : List ℕ). take at buf ++ w) f.beats ∙ sym (longer buf at 1 (words f.trees) inside),
        )

    node-more : Traced-to n l r p (suc at) (suc k) c (get_or l k 0) (c ∷ s) (set buf at 1)
    node-more = record {
      within = h;
      long = length-set buf at 1 ∙ u.long;
      nodes = inner;
      ahead = omega (arith, u.ahead);
      deep = omega (arith, u.deep);
      counted = ones-more buf at 1 inside ∙ one_more (take at buf) ∙ ap suc u.counted;
      low = above (omega arith) (omega arith) (low-more u.low);
      sound = node-sound;
      complete = node-complete;
    }

  pub trace-node : (k < n) × (c ≡ suc k) × (get_or p k 0 ≡ own)
      → Traced-to n l r p (at + 1) (k + 1) c (get_or l k 0) (c ∷ s) (set buf at 1)
  trace-node q = rw (add-one at, add-one k) (node-more q.1 q.0 q.2)

-- the tree that a schedule and its tables have is read from the tables
pub has-read : {n : ℕ} {b l r p : List ℕ} (q : Has n b l r p) → Reads l r p 0 0 (root_number n) q.tree
has-read {n} {b} {l} {r} {p} q =
    let t = q.tree in
    subst (λ (j : ℕ). Reads l r p 0 0 j t) (root-number t ∙ ap root_number q.nodes)
    (subst (λ (w : List ℕ). Reads l r w 0 0 (root 1 t) t) (sym q.parent)
    (subst (λ (w : List ℕ). Reads l w (parents 0 1 t) 0 0 (root 1 t) t) (sym q.right)
    (subst (λ (w : List ℕ). Reads w (rights 1 t) (parents 0 1 t) 0 0 (root 1 t) t) (sym q.left) (tables-read t))))

none_has : (n : ℕ) (l r p : List ℕ) → ((t : Tree) → Reads l r p 0 0 (root_number n) t → size t ≡ n → ⊥) → (b : List ℕ)
    → Has n b l r p → ⊥
none_has n l r p f b q = f q.tree (has-read q) q.nodes

module _ {n : ℕ} {l r p : List ℕ} {at k own c : ℕ} {s buf : List ℕ} (u : Traced-to n l r p at k own c s buf) where
  pub trace-stuck : c ≡ 0 → s ≡ [] → at < n + n → (b : List ℕ) → Has n b l r p → ⊥
  unfolding ones zeros
  trace-stuck z e h = none_has n l r p (λ t q m. short t (u.complete t q) m)
    where
      short : (t : Tree)
          → (ts : List Tree) × Rest l r p own k c s ts × (word t ≡ take at buf ++ words ts)
          → size t ≡ n → ⊥
      short t g m =
          let w : word t ≡ take at buf ++ 0 ∷ [] =
          g.2
          ∙ ap (λ (w : List ℕ). take at buf ++ w) (rest-last l r p g.1 z e) in
          omega (arith, u.deep, ap length e, ones-word t, ap ones w, ones-append (take at buf) (0 ∷ []), u.counted)

  -- a node in the slot is one more than were met
  beyond : ((c ≡ 0) → ⊥) → (t : Tree) → Reads l r p 0 0 (root_number n) t → size t ≡ n
      → (k < n) × (c ≡ suc k) × (get_or p k 0 ≡ own)
  unfolding ones
  beyond z t q m =
      let g = u.complete t q in
      let f = rest-open l r p g.1 z in
      let w : word t ≡ take at buf ++ 1 ∷ words f.trees =
      g.2 ∙ ap (λ (w : List ℕ). take at buf ++ w) f.beats in (
        omega (arith, u.counted, ones-word t, ap ones w, ones-append (take at buf) (1 ∷ words f.trees)),
        f.next,
        f.parent,
      )

  pub trace-other : ((c ≡ 0) → ⊥) → ((k < n) × (c ≡ suc k) × (get_or p k 0 ≡ own) → ⊥) → (b : List ℕ) → Has n b l r p
      → ⊥
  trace-other z f = none_has n l r p (λ t q m. f (beyond z t q m))

  module _ (e : n + n ≤ at) where
    met : (k ≡ n) × (s ≡ [])
    met = (omega (arith, u.deep, u.within, u.nodes), nil_from_length s (omega (arith, u.deep, u.within, u.nodes)))

    trace-over : ((c ≡ 0) → ⊥) → (b : List ℕ) → Has n b l r p → ⊥
    trace-over z = none_has n l r p (λ t q m. omega (arith, met.0, (beyond z t q m).0))

    trace-all : c ≡ 0 → length l ≡ n → length r ≡ n → length p ≡ n → Has n buf l r p
    unfolding words word ones
    trace-all z hl hr hp =
        let rest : Rest l r p own k c s (leaf ∷ []) =
        subst (λ (w : List ℕ). Rest l r p own k c w (leaf ∷ [])) (sym met.1)
        (subst (λ (j : ℕ). Rest l r p own k j [] (leaf ∷ [])) (sym z) (last none)) in
        let g = u.sound (leaf ∷ []) rest in
        let w : word g.tree ≡ buf ++ 0 ∷ [] =
        g.beats ∙ ap (λ (v : List ℕ). v ++ 0 ∷ []) (take_all at buf (omega (arith, u.long))) in
        let m : size g.tree ≡ n = omega (
          arith,
          ones-word g.tree,
          ap ones g.beats,
          ones-append (take at buf) (0 ∷ []),
          u.counted,
          met.0,
        ) in
        let f = read-tables l r p g.read (hl ∙ sym m) (hr ∙ sym m) (hp ∙ sym m) in
        record { tree = g.tree; nodes = m; beats = sym w; left = f.0; right = f.1; parent = f.2 }

    -- when the beats are full, the last slot decides
    pub trace-end : length l ≡ n → length r ≡ n → length p ≡ n → Traced n l r p buf (eqb c 0)
    trace-end hl hr hp =
        elim (ℕ_discrete c 0) [
          | yes z ↦ subst (Traced n l r p buf) (sym (eq-eqb c 0 z)) (whole (trace-all z hl hr hp))
          | no z ↦ subst (Traced n l r p buf) (sym (ne_eqb c 0 z)) (broken (trace-over z))
        ]

module _ {n : ℕ} {l r p b : List ℕ} where
  pub traced-whole : {v : Bool} → Traced n l r p b v → v ≡ true → Has n b l r p
  traced-whole (whole q) e = q
  traced-whole (broken f) e = absurd (true≢false (sym e))

  pub traced-broken : {v : Bool} → Traced n l r p b v → v ≡ false → (c : List ℕ) → Has n c l r p → ⊥
  traced-broken (whole q) e = absurd (true≢false e)
  traced-broken (broken f) e = f
