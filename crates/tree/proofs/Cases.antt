-- The definitions of specs/ on small inputs: for each part of them one that fits and one that does not. The example
-- marked P is in the crate `demands`. Assumes nothing.
use mathlib.Core.Bool.{true, false}
use mathlib.Core.List.{List, [], ◌∷◌}
use mathlib.Core.Path.{◌≡◌, refl, ap}
use Prim.Native.Nat.{ℕ}
use native.Mathlib.Omega.{arith}
use lib.ListN.{length, get_or}
use Rattle.std.proofs.Common.{Ok, Err}
use Rattle.bounded.specs.Bounded.{first_from}
use Rattle.refusal.specs.declared.Refusal.{Refusal}
use Rattle.refusal.specs.declared.Refusal.TheVariants.{TooManyTasks, WrongLength, EmptyHand}
use Rattle.refusal.specs.Answer.{refusal}
use Rattle.refusal.specs.Rows.{judge}
use Rattle.refusal.proofs.Theorems.{refused-number}
use Rattle.schedule.specs.Schedule.{ones, zeros}
use Rattle.tree.specs.Tree.{Tree, leaf, node, size, word, root, lefts, rights, parents}
use Rattle.tree.specs.Table.{Has, fits, size_rows, lent_rows, tree_rows, Treed, filled, kept}
use Rattle.tree.specs.Planting.{adopted}
use Rattle.tree.specs.Parse.{grow, parse, foremost, tree_of}
use Rattle.tree.proofs.Theorems.{has-closed, one-tables, treed-one}

-- no node: the empty schedule, and empty tables
none : Has 0 [] [] [] []
unfolding size word lefts rights parents
none = record { tree = leaf; nodes = refl; beats = refl; left = refl; right = refl; parent = refl }

-- one node, on which two leaves hang
pub one : Has 1 (1 ∷ 0 ∷ []) (0 ∷ []) (0 ∷ []) (0 ∷ [])
unfolding size word root lefts rights parents
one = record { tree = node leaf leaf; nodes = refl; beats = refl; left = refl; right = refl; parent = refl }

-- [E10] its root has no other parent: tables 0 / 0 / 1 are no schedule's. The tree has one node, which
-- is its own word's only 1
pub other-parent : (b : List ℕ) → Has 1 b (0 ∷ []) (0 ∷ []) (1 ∷ []) → ⊥
other-parent b q = by q.tree q.parent
  where
    by : (t : Tree) → 1 ∷ [] ≡ parents 0 1 t → ⊥
    by leaf e = unfold parents in omega (arith, ap length e)
    by (node a c) e = unfold parents in omega (arith, ap (λ (l : List ℕ). get_or l 0 0) e)

-- two nodes: the second is the left child in 1100, and the right one in 1010
left-child : Has 2 (1 ∷ 1 ∷ 0 ∷ 0 ∷ []) (2 ∷ 0 ∷ []) (0 ∷ 0 ∷ []) (0 ∷ 1 ∷ [])
unfolding size word root lefts rights parents
left-child = record {
  tree = node (node leaf leaf) leaf;
  nodes = refl;
  beats = refl;
  left = refl;
  right = refl;
  parent = refl;
}

right_child : Has 2 (1 ∷ 0 ∷ 1 ∷ 0 ∷ []) (0 ∷ 0 ∷ []) (2 ∷ 0 ∷ []) (0 ∷ 1 ∷ [])
unfolding size word root lefts rights parents
right_child = record {
  tree = node leaf (node leaf leaf);
  nodes = refl;
  beats = refl;
  left = refl;
  right = refl;
  parent = refl;
}

-- 1100 has no other left children and no other right ones
other-left : Has 2 (1 ∷ 1 ∷ 0 ∷ 0 ∷ []) (0 ∷ 0 ∷ []) (0 ∷ 0 ∷ []) (0 ∷ 1 ∷ []) → ⊥
other-left q = omega (arith, ap (λ (l : List ℕ). get_or l 0 0) (one-tables q left-child).0)

other-right : Has 2 (1 ∷ 1 ∷ 0 ∷ 0 ∷ []) (2 ∷ 0 ∷ []) (2 ∷ 0 ∷ []) (0 ∷ 1 ∷ []) → ⊥
other-right q = omega (arith, ap (λ (l : List ℕ). get_or l 0 0) (one-tables q left-child).1)

-- 10 is the word of one node, not of two
other-size : (l r p : List ℕ) → Has 2 (1 ∷ 0 ∷ []) l r p → ⊥
other-size l r p q = omega (arith, (has-closed q).size)

-- the final leaf is left out: 110 is no word of one node without it
leaf-left-out : (l r p : List ℕ) → Has 1 (1 ∷ 0 ∷ 0 ∷ []) l r p → ⊥
leaf-left-out l r p q = omega (arith, (has-closed q).size)

-- the sizes, by their lengths
sizes-fit : fits 2 4 2 2 2 ≡ true
sizes-fit = refl

table-short : fits 2 4 2 1 2 ≡ false
table-short = refl

beats-long : fits 2 5 2 2 2 ≡ false
beats-long = refl

-- the order of the sizes: 1 before 3
sizes-taken : judge (size_rows 2 4 2 2 2) ≡ Ok tt
sizes-taken = refl

sizes-200 : judge (size_rows 200 0 0 0 0) ≡ Err TooManyTasks
sizes-200 = refl

sizes-short : judge (size_rows 2 4 2 1 2) ≡ Err WrongLength
sizes-short = refl

lent-taken : judge (lent_rows 1 (1 ∷ 0 ∷ []) (7 ∷ []) (7 ∷ []) (7 ∷ [])) ≡ Ok tt
lent-taken = refl

lent-short : judge (lent_rows 1 (1 ∷ 0 ∷ []) (7 ∷ []) [] (7 ∷ [])) ≡ Err WrongLength
lent-short = refl

-- the way there: 10 fills its tables and is not refused; 01 is refused, and leaves what was lent
treed-10 : Treed 1 (1 ∷ 0 ∷ []) (7 ∷ []) (7 ∷ []) (7 ∷ []) (Ok tt) (0 ∷ []) (0 ∷ []) (0 ∷ [])
unfolding first_from ones zeros
treed-10 = filled refl one

treed-01 : Treed 1 (0 ∷ 1 ∷ []) (7 ∷ []) (7 ∷ []) (7 ∷ []) (Err (EmptyHand 0)) (7 ∷ []) (7 ∷ []) (7 ∷ [])
unfolding first_from ones zeros
treed-01 = kept refl

treed-other : Treed 1 (1 ∷ 0 ∷ []) (7 ∷ []) (7 ∷ []) (7 ∷ []) (Ok tt) (0 ∷ []) (0 ∷ []) (1 ∷ []) → ⊥
treed-other q = omega (arith, ap (λ (l : List ℕ). get_or l 0 0) (treed-one q treed-10).3)

treed-refused : (why : Refusal) (l r p : List ℕ)
    → Treed 1 (1 ∷ 0 ∷ []) (7 ∷ []) (7 ∷ []) (7 ∷ []) (Err why) l r p → ⊥
treed-refused why l r p q = omega (arith, ap refusal (treed-one q treed-10).0, (refused-number why).0)

treed-taken : (l r p : List ℕ) → Treed 1 (0 ∷ 1 ∷ []) (7 ∷ []) (7 ∷ []) (7 ∷ []) (Ok tt) l r p → ⊥
treed-taken l r p q = omega (arith, ap refusal (treed-one q treed-01).0)

treed-changed : Treed 1 (0 ∷ 1 ∷ []) (7 ∷ []) (7 ∷ []) (7 ∷ []) (Err (EmptyHand 0)) (0 ∷ []) (7 ∷ [])
    (7 ∷ [])
    → ⊥
treed-changed q = omega (arith, ap (λ (l : List ℕ). get_or l 0 0) (treed-one q treed-01).1)

-- a node adopts a node, and no leaf
adopts : adopted 2 1 (0 ∷ 0 ∷ []) ≡ 0 ∷ 1 ∷ []
adopts = refl

adopts-no-leaf : adopted 0 1 (0 ∷ 0 ∷ []) ≡ 0 ∷ 0 ∷ []
adopts-no-leaf = refl

-- a root with a left child, and one with a right child, from number 1 on
abbrev goes_left : Tree
goes_left = node (node leaf leaf) leaf

abbrev goes-right : Tree
goes-right = node leaf (node leaf leaf)

size-2 : size goes_left ≡ 2
unfolding size
size-2 = refl

size-0 : size leaf ≡ 0
unfolding size
size-0 = refl

word-left : word goes_left ≡ 1 ∷ 1 ∷ 0 ∷ 0 ∷ 0 ∷ []
unfolding word
word-left = refl

word-right : word goes-right ≡ 1 ∷ 0 ∷ 1 ∷ 0 ∷ 0 ∷ []
unfolding word
word-right = refl

root-3 : root 3 goes_left ≡ 3
unfolding root
root-3 = refl

root_none : root 3 leaf ≡ 0
unfolding root
root_none = refl

lefts-left : lefts 1 goes_left ≡ 2 ∷ 0 ∷ []
unfolding root lefts size
lefts-left = refl

lefts-right : lefts 1 goes-right ≡ 0 ∷ 0 ∷ []
unfolding root lefts size
lefts-right = refl

rights-left : rights 1 goes_left ≡ 0 ∷ 0 ∷ []
unfolding root rights size
rights-left = refl

rights-right : rights 1 goes-right ≡ 2 ∷ 0 ∷ []
unfolding root rights size
rights-right = refl

parents-left : parents 0 1 goes_left ≡ 0 ∷ 1 ∷ []
unfolding parents size
parents-left = refl

parents-none : parents 0 1 leaf ≡ []
unfolding parents
parents-none = refl

-- the refusals of a schedule and of the tables lent for it, by the last row and with none
rows-10 : judge (tree_rows 1 (1 ∷ 0 ∷ []) (7 ∷ []) (7 ∷ []) (7 ∷ [])) ≡ Ok tt
unfolding first_from ones zeros
rows-10 = refl

rows-01 : judge (tree_rows 1 (0 ∷ 1 ∷ []) (7 ∷ []) (7 ∷ []) (7 ∷ [])) ≡ Err (EmptyHand 0)
unfolding first_from ones zeros
rows-01 = refl

-- a 1 joins two trees, and has no place before a single one; what zeros and a 1 make of the trees after them
grow-2 : grow (leaf ∷ leaf ∷ []) ≡ node leaf leaf ∷ []
unfolding grow
grow-2 = refl

grow-1 : grow (leaf ∷ []) ≡ []
unfolding grow
grow-1 = refl

parse-100 : parse (1 ∷ 0 ∷ 0 ∷ []) ≡ node leaf leaf ∷ []
unfolding parse grow
parse-100 = refl

parse-00 : parse (0 ∷ 0 ∷ []) ≡ leaf ∷ leaf ∷ []
unfolding parse
parse-00 = refl

foremost-2 : foremost (node leaf leaf ∷ leaf ∷ []) ≡ node leaf leaf
unfolding foremost
foremost-2 = refl

foremost-none : foremost [] ≡ leaf
unfolding foremost
foremost-none = refl

tree-of-1100 : tree_of (1 ∷ 1 ∷ 0 ∷ 0 ∷ []) ≡ goes_left
unfolding tree_of foremost parse grow
tree-of-1100 = refl

tree-of-1010 : tree_of (1 ∷ 0 ∷ 1 ∷ 0 ∷ []) ≡ goes-right
unfolding tree_of foremost parse grow
tree-of-1010 = refl
