-- The loop that makes a schedule's tables, from its last beat to its first.
--     Planted           the beats behind those that are left are words of trees; their roots are on the stack, the
--                       nearest on top, and the tables hold their links from node k + 1 on, the roots' parents being 0
--     planted-start     before the first turn: one leaf, the one that a schedule leaves out
--     planted-down      a 0 puts a leaf in front
--     planted-up        a 1 makes one tree of the first two
--     planted-all       at the first beat there is one tree, and the tables are its own
-- Assumes nothing.
use mathlib.Core.List.{List, [], ◌∷◌, ◌++◌, reverse, reverse-append, append_assoc, append-nil}
use mathlib.Core.Path.{◌≡◌, refl, sym, ◌∙◌, ap, ap₂, subst}
use Prim.Native.Nat.{ℕ, zero, suc, ◌+◌, ◌≤◌, ◌<◌}
use native.Mathlib.Numerals.{add-one}
use native.Mathlib.Omega.{arith}
use Rattle.std.proofs.Common.{Option, Some}
use Rattle.std.proofs.lemmas.List.{nil_from_length}
use Rattle.std.specs.Option.{option_to_list}
use lib.ListN.{length, get_or, set, take, drop, length-append, length-set}
use lib.Seq.{get_or_at, take-append_seam, drop-length, drop_at, length-take-le, set_split}
use Rattle.schedule.specs.Schedule.{ones, zeros, Schedule}
use Rattle.schedule.proofs.Tally.{ones-append, zeros-append}
use Rattle.schedule.proofs.Hand.{schedule-zeros}
use Rattle.schedule.proofs.Copied.{stored}
use Rattle.tree.specs.Tree.{Tree, leaf, node, size, word, root, lefts, rights, parents}
use Rattle.tree.specs.Planting.{adopted}
use Rattle.tree.specs.Table.{Has}
use Rattle.tree.proofs.Forest.{
  each,
  root_list,
  words,
  sizes,
  forest-count,
  forest-ones,
  each-leaf,
  root-node,
  left-node,
  right-node,
  parent-node,
  adopt-at,
  length-parents,
}

-- a stack is a list whose last item is on top
pub popped : {st : List ℕ} (s : List ℕ) {o : Option ℕ} {x : ℕ} → st ≡ s ++ option_to_list o → o ≡ Some x
    → st ≡ s ++ x ∷ []
popped s e f = e ∙ ap (λ (o : Option ℕ). s ++ option_to_list o) f

pub popped-two : {st : List ℕ} (below s : List ℕ) {o i : Option ℕ} {x y : ℕ} → st ≡ below ++ option_to_list o
    → o ≡ Some x → below ≡ s ++ option_to_list i → i ≡ Some y
    → st ≡ (s ++ y ∷ []) ++ x ∷ []
popped-two below s {x = x} e f g h = popped below e f ∙ ap (λ (w : List ℕ). w ++ x ∷ []) (popped s g h)

pub top : (st : List ℕ) (v : ℕ) → reverse (st ++ v ∷ []) ≡ v ∷ reverse st
top st v = reverse-append st (v ∷ [])

length-adopted : (c v : ℕ) (p : List ℕ) → length (adopted c v p) ≡ length p
length-adopted zero v p = refl
length-adopted (suc c) v p = length-set p c v

pub record Planted (b : List ℕ) (n : ℕ) (before : List ℕ) (k : ℕ) (st l r p : List ℕ) : Type 0 where
  pub trees : List Tree
  pub after : List ℕ
  pub parts : before ++ after ≡ b
  pub behind : words trees ≡ after ++ 0 ∷ []
  pub nodes : k + sizes trees ≡ n
  pub deep : length st ≡ length trees
  pub stack : reverse st ≡ each root_list (suc k) trees
  pub long-l : length l ≡ n
  pub long-r : length r ≡ n
  pub long-p : length p ≡ n
  pub left : drop k l ≡ each lefts (suc k) trees
  pub right : drop k r ≡ each rights (suc k) trees
  pub parent : drop k p ≡ each (parents 0) (suc k) trees

pub planted-start : (b : List ℕ) (n : ℕ) (before l r p : List ℕ) → before ≡ b → length l ≡ n → length r ≡ n
    → length p ≡ n → Planted b n before n (0 ∷ []) l r p
unfolding words word sizes size each root lefts rights parents
planted-start b n before l r p e hl hr hp = record {
  trees = leaf ∷ [];
  after = [];
  parts = append-nil before ∙ e;
  behind = refl;
  nodes = omega arith;
  deep = refl;
  stack = refl;
  long-l = hl;
  long-r = hr;
  long-p = hp;
  left = ap (λ (j : ℕ). drop j l) (sym hl) ∙ drop-length l;
  right = ap (λ (j : ℕ). drop j r) (sym hr) ∙ drop-length r;
  parent = ap (λ (j : ℕ). drop j p) (sym hp) ∙ drop-length p;
}

module _ {b : List ℕ} {n : ℕ} {before : List ℕ} {k : ℕ} {st l r p : List ℕ} (q : Schedule n n b)
    (u : Planted b n before k st l r p) where
  -- how many trees there are, by the beats
  many : length st + ones u.after ≡ suc (zeros u.after)
  unfolding ones zeros
  many =
      omega (
        arith,
        u.deep,
        forest-count u.trees,
        ap ones u.behind,
        ap zeros u.behind,
        ones-append u.after (0 ∷ []),
        zeros-append u.after (0 ∷ []),
      )

  left_over : k + ones u.after ≡ n
  unfolding ones
  left_over = omega (arith, u.nodes, forest-ones u.trees, ap ones u.behind, ones-append u.after (0 ∷ []))

  -- x is the next beat, the last of those that were left
  module _ (rest : List ℕ) (x : ℕ) (e : before ≡ rest ++ x ∷ []) where
    whole : rest ++ x ∷ u.after ≡ b
    whole = sym (append_assoc rest (x ∷ []) u.after) ∙ ap (λ (w : List ℕ). w ++ u.after) (sym e) ∙ u.parts

    module _ (z : x ≡ 0) where
      zero-here : rest ++ 0 ∷ u.after ≡ b
      zero-here = ap (λ (y : ℕ). rest ++ y ∷ u.after) (sym z) ∙ whole

      pub down-room : length st ≤ n
      unfolding zeros
      down-room = omega (arith, many, zeros-append rest (0 ∷ u.after), ap zeros zero-here, schedule-zeros q)

      pub planted-down : Planted b n rest k (st ++ 0 ∷ []) l r p
      unfolding words word sizes size each root lefts rights parents
      planted-down = record {
        trees = leaf ∷ u.trees;
        after = 0 ∷ u.after;
        parts = zero-here;
        behind = ap (λ (c : List ℕ). 0 ∷ c) u.behind;
        nodes = omega (arith, u.nodes);
        deep = omega (arith, length-append st (0 ∷ []), u.deep);
        stack = top st 0 ∙ ap (λ (c : List ℕ). 0 ∷ c) (u.stack ∙ sym (each-leaf (suc k) u.trees root_list));
        long-l = u.long-l;
        long-r = u.long-r;
        long-p = u.long-p;
        left = u.left ∙ sym (each-leaf (suc k) u.trees lefts);
        right = u.right ∙ sym (each-leaf (suc k) u.trees rights);
        parent = u.parent ∙ sym (each-leaf (suc k) u.trees (parents 0));
      }

    module _ (m : (x ≡ 0) → ⊥) where
      one : x ≡ 1
      one = omega (
        arith,
        m,
        q.beats (length rest) (omega (arith, ap length whole, length-append rest (x ∷ u.after))),
        ap (λ (w : List ℕ). get_or w (length rest) 0) whole,
        get_or_at rest x u.after 0 (length rest) refl,
      )

      one-here : rest ++ 1 ∷ u.after ≡ b
      one-here = ap (λ (y : ℕ). rest ++ y ∷ u.after) (sym one) ∙ whole

      -- before the 1 nothing was set down too many
      up-counts : (ones rest + 1 + ones u.after ≡ n) × (zeros rest + zeros u.after ≡ n) × (zeros rest ≤ ones rest)
      unfolding ones zeros
      up-counts = (
        omega (arith, ones-append rest (1 ∷ u.after), ap ones one-here, q.taken),
        omega (arith, zeros-append rest (1 ∷ u.after), ap zeros one-here, schedule-zeros q),
        subst (λ (w : List ℕ). zeros w ≤ ones w) front
            (q.ahead (length rest) (omega (arith, ap length one-here, length-append rest (1 ∷ u.after)))),
      )
        where
          front : take (length rest) b ≡ rest
          front = ap (take (length rest)) (sym one-here) ∙ take-append_seam rest (1 ∷ u.after)

      pub up_room : (1 ≤ k) × (2 ≤ length st) × (length st ≤ suc n)
      up_room = (omega (arith, left_over, up-counts), omega (arith, many, up-counts), omega (arith, many, up-counts))

-- the three stores into the parents make the first two trees children of the node in front of them
adopted-two : (p : List ℕ) (k : ℕ) (a c : Tree) (ts : List Tree) → k < length p
    → drop (suc k) p ≡ each (parents 0) (suc (suc k)) (a ∷ (c ∷ ts))
    → drop k (adopted (root (suc (suc k) + size a) c) (suc k) (adopted (root (suc (suc k)) a) (suc k) (set p k 0)))
    ≡ each (parents 0) (suc k) (node a c ∷ ts)
unfolding each
adopted-two p k a c ts h e =
    ap (λ (w : List ℕ). drop k (adopted (root m c) v (adopted (root (suc v) a) v w))) start
    ∙ ap (λ (w : List ℕ). drop k (adopted (root m c) v w))
    (adopt-at a 0 v (suc v) (front ++ 0 ∷ []) (parents 0 m c ++ rest) first)
    ∙ ap (λ (w : List ℕ). drop k (adopted (root m c) v w))
    (sym (append_assoc (front ++ 0 ∷ []) (parents v (suc v) a) (parents 0 m c ++ rest)))
    ∙ ap (drop k) (adopt-at c 0 v m ((front ++ 0 ∷ []) ++ parents v (suc v) a) rest second)
    ∙ ap (drop k) (append_assoc (front ++ 0 ∷ []) (parents v (suc v) a) (parents v m c ++ rest))
    ∙ ap (drop k) (append_assoc front (0 ∷ []) (parents v (suc v) a ++ (parents v m c ++ rest)))
    ∙ drop_at front (0 ∷ (parents v (suc v) a ++ (parents v m c ++ rest))) k long
    ∙ sym (parent-node v a c ts)
  where
    v : ℕ
    v = suc k

    m : ℕ
    m = suc (suc k) + size a

    front : List ℕ
    front = take k p

    rest : List ℕ
    rest = each (parents 0) (m + size c) ts

    long : length (take k p) ≡ k
    long = length-take-le k p (omega arith)

    start : set p k 0
        ≡ (take k p ++ 0 ∷ [])
        ++ (parents 0 (suc (suc k)) a
        ++ (parents 0 (suc (suc k) + size a) c ++ each (parents 0) (suc (suc k) + size a + size c) ts))
    start =
        set_split p k 0 h
        ∙ ap (λ (w : List ℕ). take k p ++ 0 ∷ w) e
        ∙ sym (append_assoc (take k p) (0 ∷ [])
        (parents 0 (suc (suc k)) a
        ++ (parents 0 (suc (suc k) + size a) c ++ each (parents 0) (suc (suc k) + size a + size c) ts)))

    first : suc (suc k) ≡ suc (length (take k p ++ 0 ∷ []))
    first = omega (arith, length-append (take k p) (0 ∷ []), long)

    second : suc (suc k) + size a ≡ suc (length ((take k p ++ 0 ∷ []) ++ parents (suc k) (suc (suc k)) a))
    second = omega (
      arith,
      length-append (take k p ++ 0 ∷ []) (parents (suc k) (suc (suc k)) a),
      length-parents (suc k) (suc (suc k)) a,
      first,
    )

-- the two roots on top of the stack
front-two : (x y z w : ℕ) (u v : List ℕ) → x ∷ (y ∷ u) ≡ z ∷ (w ∷ v) → (x ≡ z) × (y ≡ w) × (u ≡ v)
front-two x y z w u v e = (cc, cc, cc)

two-roots : (st s : List ℕ) (x y k : ℕ) (a c : Tree) (ts : List Tree) → st ≡ (s ++ y ∷ []) ++ x ∷ []
    → reverse st ≡ each root_list k (a ∷ (c ∷ ts))
    → (x ≡ root k a) × (y ≡ root (k + size a) c) × (reverse s ≡ each root_list (k + size a + size c) ts)
unfolding each
two-roots st s x y k a c ts f e =
    front-two _ _ _ _ _ _
    (ap (λ (w : List ℕ). x ∷ w) (sym (top s y)) ∙ sym (top (s ++ y ∷ []) x) ∙ ap reverse (sym f) ∙ e)

module _ {b : List ℕ} {n : ℕ} {before : List ℕ} {k : ℕ} {st l r p : List ℕ} (u : Planted b n before (suc k) st l r p)
    (rest : List ℕ) (o : rest ++ 1 ∷ u.after ≡ b) (s : List ℕ) (x y : ℕ) (f : st ≡ (s ++ y ∷ []) ++ x ∷ []) where
  two : length s + 2 ≡ length st
  two = omega (arith, ap length f, length-append (s ++ y ∷ []) (x ∷ []), length-append s (y ∷ []))

  node_of : (ts : List Tree) → u.trees ≡ ts
      → Planted b n rest k (s ++ suc k ∷ []) (set l k x) (set r k y)
      (adopted y (suc k) (adopted x (suc k) (set p k 0)))
  unfolding words word
  node_of [] same = absurd (omega (arith, u.deep, two, ap length same))
  node_of (a ∷ []) same = absurd (omega (arith, u.deep, two, ap length same))
  node_of (a ∷ (c ∷ ts)) same = record {
    trees = node a c ∷ ts;
    after = 1 ∷ u.after;
    parts = o;
    behind = ap (λ (v : List ℕ). 1 ∷ v) (append_assoc (word a) (word c) (words ts) ∙ words-so);
    nodes = nodes-so;
    deep = omega (arith, length-append s (suc k ∷ []), two, u.deep, ap length same);
    stack = top s (suc k) ∙ ap (λ (v : List ℕ). suc k ∷ v) roots.2 ∙ sym (root-node (suc k) a c ts);
    long-l = length-set l k x ∙ u.long-l;
    long-r = length-set r k y ∙ u.long-r;
    long-p = long-so;
    left =
        stored l k x in-l
        ∙ ap₂ (λ (i : ℕ) (v : List ℕ). i ∷ v) roots.0 (u.left ∙ ap (each lefts (suc (suc k))) same)
        ∙ sym (left-node (suc k) a c ts);
    right =
        stored r k y in-r
        ∙ ap₂ (λ (i : ℕ) (v : List ℕ). i ∷ v) roots.1 (u.right ∙ ap (each rights (suc (suc k))) same)
        ∙ sym (right-node (suc k) a c ts);
    parent = ap₂ (λ (i j : ℕ). drop k (adopted i (suc k) (adopted j (suc k) (set p k 0)))) roots.1 roots.0
        ∙ adopted-two p k a c ts in_p (u.parent ∙ ap (each (parents 0) (suc (suc k))) same);
  }
    where
      roots : (x ≡ root (suc (suc k)) a) × (y ≡ root (suc (suc k) + size a) c)
          × (reverse s ≡ each root_list (suc (suc k) + size a + size c) ts)
      roots = two-roots st s x y (suc (suc k)) a c ts f (u.stack ∙ ap (each root_list (suc (suc k))) same)

      words-so : word a ++ (word c ++ words ts) ≡ u.after ++ 0 ∷ []
      words-so = unfold words in ap words (sym same) ∙ u.behind

      nodes-so : k + sizes (node a c ∷ ts) ≡ n
      nodes-so = unfold sizes size in omega (arith, u.nodes, ap sizes same)

      in-l : k < length l
      in-l = omega (arith, u.long-l, u.nodes)

      in-r : k < length r
      in-r = omega (arith, u.long-r, u.nodes)

      in_p : k < length p
      in_p = omega (arith, u.long-p, u.nodes)

      long-so : length (adopted y (suc k) (adopted x (suc k) (set p k 0))) ≡ n
      long-so =
          length-adopted y (suc k) (adopted x (suc k) (set p k 0))
          ∙ length-adopted x (suc k) (set p k 0)
          ∙ length-set p k 0
          ∙ u.long-p

pub planted-up : {b : List ℕ} {n : ℕ} {before : List ℕ} {m : ℕ} {st l r p : List ℕ} → Schedule n n b
    → Planted b n before m st l r p → (rest : List ℕ) (v : ℕ) → before ≡ rest ++ v ∷ [] → ((v ≡ 0) → ⊥) → (k : ℕ)
    → m ≡ k + 1 → (s : List ℕ) (x y : ℕ) → st ≡ (s ++ y ∷ []) ++ x ∷ []
    → Planted b n rest k (s ++ (k + 1) ∷ []) (set l k x) (set r k y)
    (adopted y (k + 1) (adopted x (k + 1) (set p k 0)))
planted-up {b} {n} {before} {m} {st} {l} {r} {p} q u rest v e z k w s x y f =
    let rows : m ≡ suc k = omega arith in
    let next : Planted b n before (suc k) st l r p = subst (λ (j : ℕ). Planted b n before j st l r p) rows u in
    rw (add-one k) (node_of next rest (one-here q next rest v e z) s x y f next.trees refl)

root-le : (k : ℕ) (t : Tree) → root (suc k) t ≤ k + size t
unfolding root size
root-le k leaf = omega arith
root-le k (node a b) = omega arith

-- the roots are nodes of the tables, or leaves
pub planted-roots : {b : List ℕ} {n : ℕ} {before : List ℕ} {k : ℕ} {st l r p : List ℕ}
    → Planted b n before k st l r p → (s : List ℕ) (x y : ℕ) → st ≡ (s ++ y ∷ []) ++ x ∷ [] → (x ≤ n) × (y ≤ n)
planted-roots {b} {n} {before} {k} {st} {l} {r} {p} u s x y f = go u.trees refl
  where
    two : length s + 2 ≡ length st
    two = omega (arith, ap length f, length-append (s ++ y ∷ []) (x ∷ []), length-append s (y ∷ []))

    go : (ts : List Tree) → u.trees ≡ ts → (x ≤ n) × (y ≤ n)
    go [] same = absurd (omega (arith, u.deep, two, ap length same))
    go (a ∷ []) same = absurd (omega (arith, u.deep, two, ap length same))
    go (a ∷ (c ∷ ts)) same =
        let roots = two-roots st s x y (suc k) a c ts f (u.stack ∙ ap (each root_list (suc k)) same) in
        let all : k + sizes (a ∷ (c ∷ ts)) ≡ n = ap (λ (w : List Tree). k + sizes w) (sym same) ∙ u.nodes in
        ((bounds all).0 roots.0, (bounds all).1 roots.1)
      where
        bounds : k + sizes (a ∷ (c ∷ ts)) ≡ n
            → (x ≡ root (suc k) a → x ≤ n) × (y ≡ root (suc k + size a) c → y ≤ n)
        bounds all = unfold sizes in
            (λ e. omega (arith, root-le k a), λ e. omega (arith, root-le (k + size a) c, further))
          where
            further : root (suc k + size a) c ≡ root (suc (k + size a)) c
            further = let i : suc k + size a ≡ suc (k + size a) = omega arith in ap (λ (j : ℕ). root j c) i

planted-whole : (b : List ℕ) (n : ℕ) (st l r p : List ℕ) → Schedule n n b → Planted b n [] 0 st l r p → Has n b l r p
planted-whole b n st l r p q u = go u.trees refl
  where
    one : length u.trees ≡ 1
    one = omega (arith, u.deep, many q u, q.taken, schedule-zeros q, ap ones u.parts, ap zeros u.parts)

    go : (ts : List Tree) → u.trees ≡ ts → Has n b l r p
    go [] same = absurd (omega (arith, one, ap length same))
    go (t ∷ []) same = unfold words sizes each in record {
      tree = t;
      nodes = omega (arith, u.nodes, ap sizes same);
      beats = ap (λ (w : List ℕ). w ++ 0 ∷ []) (sym u.parts) ∙ sym u.behind ∙ ap words same ∙ append-nil (word t);
      left = u.left ∙ ap (each lefts 1) same ∙ append-nil (lefts 1 t);
      right = u.right ∙ ap (each rights 1) same ∙ append-nil (rights 1 t);
      parent = u.parent ∙ ap (each (parents 0) 1) same ∙ append-nil (parents 0 1 t);
    }
    go (t ∷ (s ∷ ts)) same = absurd (omega (arith, one, ap length same))

pub planted-all : {b : List ℕ} {n : ℕ} {before : List ℕ} {k : ℕ} {st l r p : List ℕ} → Schedule n n b
    → Planted b n before k st l r p → length before ≡ 0 → Has n b l r p
planted-all {b} {n} {before} {k} {st} {l} {r} {p} q u z =
    let first : Planted b n [] k st l r p =
    subst (λ (w : List ℕ). Planted b n w k st l r p) (nil_from_length before z) u in
    let none : k ≡ 0 = omega (arith, left_over q first, q.taken, ap ones first.parts) in
    planted-whole b n st l r p q (subst (λ (i : ℕ). Planted b n [] i st l r p) none first)
