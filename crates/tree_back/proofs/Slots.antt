-- Tables read from a node on.
--     Reads own k c t     the tables, read at a slot that holds c and belongs to node own, with k nodes before it
--                         in preorder, give t: 0 is a leaf; else c is node k + 1, its parent is own, and its two
--                         slots give its two trees
--     tables-read         a tree's own tables give it
--     read-tables         tables that give a tree are its own
--     Rest                the slot in hand gives the first tree, and the right slots of the waiting nodes the others
--     rest-pop            at a leaf, the next slot is the right one of the node that waits last
--     rest-open, rest-close     at a node, the next slot is its left one, and its right one waits
-- Assumes nothing.
use mathlib.Core.List.{List, [], ◌∷◌, ◌++◌, append_assoc, append-nil}
use mathlib.Core.Path.{◌≡◌, refl, sym, ◌∙◌, ap, ap₂, subst}
use Prim.Native.Nat.{ℕ, zero, suc, ◌+◌, ◌≤◌, ◌<◌}
use native.Mathlib.Nat.{add-zero}
use native.Mathlib.Omega.{arith}
use lib.ListN.{length, get_or, take, drop}
use lib.Seq.{drop_at, drop-drop, drop-cons, get_or-drop, take-add, take_all}
use Rattle.tree.specs.Tree.{Tree, leaf, node, size, word, root, lefts, rights, parents}
use Rattle.tree.proofs.Forest.{words, length-lefts, length-rights, length-parents}

pub data Reads (l r p : List ℕ) : ℕ → ℕ → ℕ → Tree → Type 0 where
  none : {own k : ℕ} → Reads l r p own k 0 leaf
  some : {own k : ℕ} {a b : Tree} → get_or p k 0 ≡ own → Reads l r p (suc k) (suc k) (get_or l k 0) a
      → Reads l r p (suc k) (suc k + size a) (get_or r k 0) b → Reads l r p own k (suc k) (node a b)

-- a list whose part from k on is known: its entry at k, and its parts further on
head_at : (l : List ℕ) (k x : ℕ) (w : List ℕ) → drop k l ≡ x ∷ w → get_or l k 0 ≡ x
head_at l k x w e =
    sym (get_or-drop k l 0 0 ∙ ap (λ (j : ℕ). get_or l j 0) (add-zero k)) ∙ ap (λ (c : List ℕ). get_or c 0 0) e

module _ (l : List ℕ) (k x : ℕ) (u v w : List ℕ) (e : drop k l ≡ x ∷ ((u ++ v) ++ w)) where
  part-one : drop (suc k) l ≡ u ++ (v ++ w)
  part-one =
      let q : k + 1 ≡ suc k = omega arith in
      ap (λ (j : ℕ). drop j l) (sym q) ∙ sym (drop-drop 1 k l) ∙ ap (drop 1) e ∙ append_assoc u v w

  part-two : (n : ℕ) → length u ≡ n → drop (suc k + n) l ≡ v ++ w
  part-two n h = sym (drop-drop n (suc k) l) ∙ ap (drop n) part-one ∙ drop_at u (v ++ w) n h

same_read : {l r p : List ℕ} {own k c d : ℕ} {t : Tree} → d ≡ c → Reads l r p own k c t → Reads l r p own k d t
same_read {l} {r} {p} {own} {k} {t = t} e q = subst (λ (j : ℕ). Reads l r p own k j t) (sym e) q

beyond : (k : ℕ) (a : Tree) → suc (suc k + size a) ≡ suc (suc k) + size a
beyond k a = omega arith

read-part : (t : Tree) (own k : ℕ) (l r p u v w : List ℕ)
    → drop k l ≡ lefts (suc k) t ++ u → drop k r ≡ rights (suc k) t ++ v → drop k p ≡ parents own (suc k) t ++ w
    → Reads l r p own k (root (suc k) t) t
unfolding lefts rights parents root
read-part leaf own k l r p u v w el er ep = none
read-part (node a b) own k l r p u v w el er ep =
    some
    (head_at p k own _ ep)
    (same_read (head_at l k _ _ el)
    (read-part a (suc k) (suc k) l r p (lefts m b ++ u) (rights m b ++ v) (parents (suc k) m b ++ w)
    (part-one l k _ (lefts (suc (suc k)) a) (lefts m b) u el)
    (part-one r k _ (rights (suc (suc k)) a) (rights m b) v er)
    (part-one p k _ (parents (suc k) (suc (suc k)) a) (parents (suc k) m b) w ep)))
    (same_read (head_at r k _ _ er ∙ ap (λ (j : ℕ). root j b) further)
    (read-part b (suc k) (suc k + size a) l r p u v w
    (part-two l k _ (lefts (suc (suc k)) a) (lefts m b) u el (size a) (length-lefts (suc (suc k)) a)
    ∙ ap (λ (j : ℕ). lefts j b ++ u) further)
    (part-two r k _ (rights (suc (suc k)) a) (rights m b) v er (size a) (length-rights (suc (suc k)) a)
    ∙ ap (λ (j : ℕ). rights j b ++ v) further)
    (part-two p k _ (parents (suc k) (suc (suc k)) a) (parents (suc k) m b) w ep (size a)
    (length-parents (suc k) (suc (suc k)) a)
    ∙ ap (λ (j : ℕ). parents (suc k) j b ++ w) further)))
  where
    m : ℕ
    m = suc (suc k) + size a

    further : suc (suc k) + size a ≡ suc (suc k + size a)
    further = sym (beyond k a)

pub tables-read : (t : Tree) → Reads (lefts 1 t) (rights 1 t) (parents 0 1 t) 0 0 (root 1 t) t
tables-read t =
    read-part t 0 0 (lefts 1 t) (rights 1 t) (parents 0 1 t) [] [] []
    (sym (append-nil (lefts 1 t))) (sym (append-nil (rights 1 t))) (sym (append-nil (parents 0 1 t)))

-- the rows of a node and of its two trees, from the list's part
rows : (l : List ℕ) (k n m : ℕ) (u v : List ℕ) → k < length l → take n (drop (suc k) l) ≡ u
    → take m (drop (suc k + n) l) ≡ v
    → take (suc (n + m)) (drop k l) ≡ get_or l k 0 ∷ (u ++ v)
rows l k n m u v h e f =
    ap (take (suc (n + m))) (drop-cons l k 0 h)
    ∙ ap (λ (c : List ℕ). get_or l k 0 ∷ c)
    (take-add n m (drop (suc k) l) ∙ ap₂ (λ (c d : List ℕ). c ++ d) e (ap (take m) (drop-drop n (suc k) l) ∙ f))

read-root : {l r p : List ℕ} {own k c : ℕ} {t : Tree} → Reads l r p own k c t → c ≡ root (suc k) t
unfolding root
read-root none = refl
read-root (some e x y) = refl

module _ (l r p : List ℕ) where
  tables-part : {own k c : ℕ} {t : Tree} → Reads l r p own k c t → k + size t ≤ length l → k + size t ≤ length r
      → k + size t ≤ length p
      → (take (size t) (drop k l) ≡ lefts (suc k) t) × (take (size t) (drop k r) ≡ rights (suc k) t)
      × (take (size t) (drop k p) ≡ parents own (suc k) t)
  unfolding size lefts rights parents
  tables-part none hl hr hp = (refl, refl, refl)
  tables-part (some {own} {k} {a} {b} e x y) hl hr hp =
      let i = tables-part x (omega arith) (omega arith) (omega arith) in
      let j = tables-part y (omega arith) (omega arith) (omega arith) in (
        rows l k (size a) (size b) _ _ (omega arith) i.0 j.0
            ∙ ap₂ (λ (c : ℕ) (w : List ℕ). c ∷ (lefts (suc (suc k)) a ++ w)) (read-root x)
            (ap (λ (m : ℕ). lefts m b) (beyond k a)),
        rows r k (size a) (size b) _ _ (omega arith) i.1 j.1
            ∙ ap₂ (λ (c : ℕ) (w : List ℕ). c ∷ (rights (suc (suc k)) a ++ w))
            (read-root y ∙ ap (λ (m : ℕ). root m b) (beyond k a)) (ap (λ (m : ℕ). rights m b) (beyond k a)),
        rows p k (size a) (size b) _ _ (omega arith) i.2 j.2
            ∙ ap₂ (λ (c : ℕ) (w : List ℕ). c ∷ (parents (suc k) (suc (suc k)) a ++ w)) e
            (ap (λ (m : ℕ). parents (suc k) m b) (beyond k a)),
      )

  pub read-tables : {c : ℕ} {t : Tree} → Reads l r p 0 0 c t → length l ≡ size t → length r ≡ size t → length p ≡ size t
      → (l ≡ lefts 1 t) × (r ≡ rights 1 t) × (p ≡ parents 0 1 t)
  read-tables {t = t} q hl hr hp =
      let i = tables-part q (omega arith) (omega arith) (omega arith) in (
        sym (take_all (size t) l (omega arith)) ∙ i.0,
        sym (take_all (size t) r (omega arith)) ∙ i.1,
        sym (take_all (size t) p (omega arith)) ∙ i.2,
      )

-- what stands at node c of a table; 0 is no node
abbrev pub entry : List ℕ → ℕ → ℕ
entry x zero = 0
entry x (suc j) = get_or x j 0

pub data Rest (l r p : List ℕ) : ℕ → ℕ → ℕ → List ℕ → List Tree → Type 0 where
  last : {own k c : ℕ} {t : Tree} → Reads l r p own k c t → Rest l r p own k c [] (t ∷ [])
  more : {own k c s : ℕ} {st : List ℕ} {t : Tree} {ts : List Tree} → Reads l r p own k c t
      → Rest l r p s (k + size t) (entry r s) st ts → Rest l r p own k c (s ∷ st) (t ∷ ts)

module _ (l r p : List ℕ) where
  leaf-read : {own k c : ℕ} {t : Tree} → Reads l r p own k c t → c ≡ 0 → t ≡ leaf
  leaf-read none e = refl
  leaf-read (some f x y) e = absurd (omega arith)

  moved : {s s' k k' : ℕ} {st su : List ℕ} {ts : List Tree} → k ≡ k' → s ∷ st ≡ s' ∷ su
      → Rest l r p s k (entry r s) st ts → Rest l r p s' k' (entry r s') su ts
  moved {s} {s'} {k} {k'} {st} {su} {ts} e f q =
      let top : s ≡ s' = cc in
      let below : st ≡ su = cc in
      subst (λ (j : ℕ). Rest l r p s' j (entry r s') su ts) e
      (subst (λ (w : List ℕ). Rest l r p s' k (entry r s') w ts) below
      (subst (λ (j : ℕ). Rest l r p j k (entry r j) st ts) top q))

  behind-leaf : (k : ℕ) → k + size leaf ≡ k
  unfolding size
  behind-leaf k = add-zero k

  -- what is left of a rest of two or more trees, the first of them a leaf
  pub rest-pop : {own k c : ℕ} {st : List ℕ} {ts : List Tree} → Rest l r p own k c st ts → c ≡ 0 → (s : ℕ) (su : List ℕ)
      → st ≡ s ∷ su
      → (us : List Tree) × Rest l r p s k (entry r s) su us × (words ts ≡ 0 ∷ words us)
  unfolding words word
  rest-pop (last q) z s su e = absurd (omega (arith, ap length e))
  rest-pop (more {k = k} {t = t} {ts = ts} q f) z s su e =
      let one = leaf-read q z in
      let same : k + size t ≡ k = ap (λ (x : Tree). k + size x) one ∙ behind-leaf k in
      (ts, moved same e f, ap (λ (x : Tree). word x ++ words ts) one)

  pub rest-last : {own k c : ℕ} {st : List ℕ} {ts : List Tree} → Rest l r p own k c st ts → c ≡ 0 → st ≡ []
      → words ts ≡ 0 ∷ []
  unfolding words word
  rest-last (last {t = t} q) z e = rw (leaf-read q z)
  rest-last (more q f) z e = absurd (omega (arith, ap length e))

  behind-node : (k : ℕ) (a b : Tree) → k + size (node a b) ≡ suc k + size a + size b
  unfolding size
  behind-node k a b = omega arith

  -- a rest whose first tree is a node, that node opened
  pub record Opened (own k c : ℕ) (st : List ℕ) (ts : List Tree) : Type 0 where
    pub next : c ≡ suc k
    pub parent : get_or p k 0 ≡ own
    pub trees : List Tree
    pub rest : Rest l r p (suc k) (suc k) (get_or l k 0) (suc k ∷ st) trees
    pub beats : words ts ≡ 1 ∷ words trees

  pub rest-open : {own k c : ℕ} {st : List ℕ} {ts : List Tree} → Rest l r p own k c st ts → ((c ≡ 0) → ⊥)
      → Opened own k c st ts
  unfolding words word
  rest-open (last none) z = absurd (z refl)
  rest-open (last (some {own} {k} {a} {b} e x y)) z = record {
    next = refl;
    parent = e;
    trees = a ∷ (b ∷ []);
    rest = more x (last y);
    beats = ap (λ (w : List ℕ). 1 ∷ w) (append_assoc (word a) (word b) []);
  }
  rest-open (more none f) z = absurd (z refl)
  rest-open (more {ts = ts} (some {own} {k} {a} {b} e x y) f) z = record {
    next = refl;
    parent = e;
    trees = a ∷ (b ∷ ts);
    rest = more x (more y (moved (behind-node k a b) refl f));
    beats = ap (λ (w : List ℕ). 1 ∷ w) (append_assoc (word a) (word b) (words ts));
  }

  -- the first tree of a rest, and what may stand in its place
  record Headed (own k c : ℕ) (st : List ℕ) (ts : List Tree) : Type 0 where
    first : Tree
    others : List Tree
    split : ts ≡ first ∷ others
    read : Reads l r p own k c first
    instead : {j m d : ℕ} {t : Tree} → Reads l r p j m d t → m + size t ≡ k + size first
        → Rest l r p j m d st (t ∷ others)

  headed : {own k c : ℕ} {st : List ℕ} {ts : List Tree} → Rest l r p own k c st ts → Headed own k c st ts
  headed (last {t = t} q) = record { first = t; others = []; split = refl; read = q; instead = λ x e. last x }
  headed (more {t = t} {ts = ts} q f) =
      record { first = t; others = ts; split = refl; read = q; instead = λ x e. more x (moved (sym e) refl f) }

  -- and closed again
  pub rest-close : {own k c : ℕ} {st : List ℕ} {us : List Tree} → get_or p k 0 ≡ own
      → Rest l r p (suc k) (suc k) c (suc k ∷ st) us → c ≡ get_or l k 0
      → (ts : List Tree) × Rest l r p own k (suc k) st ts × (words ts ≡ 1 ∷ words us)
  unfolding words word
  rest-close {own} {k} {c} {st} e (more {t = a} {ts = ts} x f) g =
      let h = headed f in
      let b = h.first in
      let others = h.others in
      let left : Reads l r p (suc k) (suc k) (get_or l k 0) a =
      subst (λ (j : ℕ). Reads l r p (suc k) (suc k) j a) g x in (
        node a b ∷ others,
        h.instead (some e left h.read) (behind-node k a b),
        ap (λ (w : List ℕ). 1 ∷ w)
            (append_assoc (word a) (word b) (words others)
            ∙ ap (λ (vs : List Tree). word a ++ words vs) (sym h.split)),
      )

-- what a node's slot gives, opened
record Node (l r p : List ℕ) (own k : ℕ) (t : Tree) : Type 0 where
  first : Tree
  second : Tree
  split : t ≡ node first second
  left : Reads l r p (suc k) (suc k) (get_or l k 0) first
  right : Reads l r p (suc k) (suc k + size first) (get_or r k 0) second

node-read : {l r p : List ℕ} {own k c : ℕ} {t : Tree} → Reads l r p own k c t → ((c ≡ 0) → ⊥) → Node l r p own k t
node-read none z = absurd (z refl)
node-read (some {a = a} {b = b} e x y) z = record { first = a; second = b; split = refl; left = x; right = y }

pub reads-one : {l r p : List ℕ} {own k c : ℕ} {t s : Tree} → Reads l r p own k c t → Reads l r p own k c s → t ≡ s
reads-one {l} {r} {p} none u = sym (leaf-read l r p u refl)
reads-one {l} {r} {p} (some {own} {k} {a} {b} e x y) u =
    let o = node-read u (λ z. omega arith) in
    let first : a ≡ o.first = reads-one x o.left in
    let again : Reads l r p (suc k) (suc k + size a) (get_or r k 0) o.second =
    subst (λ (t : Tree). Reads l r p (suc k) (suc k + size t) (get_or r k 0) o.second) (sym first) o.right in
    ap₂ node first (reads-one y again) ∙ sym o.split
