-- Trees that stand side by side, numbered one after the other.
--     each            what f gives for each tree, joined; the numbers go on from tree to tree
--     words, sizes    the words joined; all their nodes
--     forest-count    there are as many trees as their words have zeros beyond their ones
--     each-leaf       a leaf in front takes no number
--     left-node, right-node, parent-node     the first two trees become the subtrees of a node in front of them
-- Assumes nothing.
use mathlib.Core.List.{List, [], ◌∷◌, ◌++◌, append_assoc}
use mathlib.Core.Path.{◌≡◌, refl, ◌∙◌, ap}
use Prim.Native.Nat.{ℕ, suc, ◌+◌}
use native.Mathlib.Nat.{add-zero}
use native.Mathlib.Omega.{arith}
use lib.ListN.{length, length-append}
use lib.Seq.{set-append_seam}
use Rattle.schedule.specs.Schedule.{ones, zeros}
use Rattle.tree.specs.Tree.{Tree, leaf, node, size, word, root, lefts, rights, parents}
use Rattle.tree.specs.Planting.{adopted}
use Rattle.schedule.proofs.Tally.{ones-append, zeros-append}
use Rattle.tree.proofs.Word.{ones-word, zeros-word}

unfoldable pub each : (ℕ → Tree → List ℕ) → ℕ → List Tree → List ℕ
each f k [] = []
each f k (t ∷ ts) = f k t ++ each f (k + size t) ts

abbrev pub root_list : ℕ → Tree → List ℕ
root_list k t = root k t ∷ []

unfoldable pub words : List Tree → List ℕ
words [] = []
words (t ∷ ts) = word t ++ words ts

unfoldable pub sizes : List Tree → ℕ
sizes [] = 0
sizes (t ∷ ts) = size t + sizes ts

pub forest-count : (ts : List Tree) → length ts + ones (words ts) ≡ zeros (words ts)
unfolding words ones zeros
forest-count [] = omega arith
forest-count (t ∷ ts) =
    omega (
      arith,
      ones-append (word t) (words ts),
      zeros-append (word t) (words ts),
      ones-word t,
      zeros-word t,
      forest-count ts,
    )

pub forest-ones : (ts : List Tree) → ones (words ts) ≡ sizes ts
unfolding words sizes ones
forest-ones [] = refl
forest-ones (t ∷ ts) = omega (arith, ones-append (word t) (words ts), ones-word t, forest-ones ts)

module _ (k : ℕ) (ts : List Tree) where
  pub each-leaf : (f : ℕ → Tree → List ℕ) → each f (k + size leaf) ts ≡ each f k ts
  unfolding size
  each-leaf f = ap (λ (j : ℕ). each f j ts) (add-zero k)

module _ (k : ℕ) (a b : Tree) (ts : List Tree) where
  behind : (f : ℕ → Tree → List ℕ) → each f (k + size (node a b)) ts ≡ each f (suc k + size a + size b) ts
  unfolding size
  behind f = let e : k + suc (size a + size b) ≡ suc k + size a + size b = omega arith in ap (λ (j : ℕ). each f j ts) e

  join : (f : ℕ → Tree → List ℕ) (u v : List ℕ)
      → (u ++ v) ++ each f (k + size (node a b)) ts ≡ u ++ (v ++ each f (suc k + size a + size b) ts)
  join f u v = append_assoc u v (each f (k + size (node a b)) ts) ∙ ap (λ (w : List ℕ). u ++ (v ++ w)) (behind f)

  pub root-node : each root_list k (node a b ∷ ts) ≡ k ∷ each root_list (suc k + size a + size b) ts
  unfolding each root
  root-node = ap (λ (w : List ℕ). k ∷ w) (behind root_list)

  pub left-node : each lefts k (node a b ∷ ts) ≡ root (suc k) a ∷ each lefts (suc k) (a ∷ (b ∷ ts))
  unfolding each lefts
  left-node = ap (λ (w : List ℕ). root (suc k) a ∷ w) (join lefts (lefts (suc k) a) (lefts (suc k + size a) b))

  pub right-node : each rights k (node a b ∷ ts) ≡ root (suc k + size a) b ∷ each rights (suc k) (a ∷ (b ∷ ts))
  unfolding each rights
  right-node =
      ap (λ (w : List ℕ). root (suc k + size a) b ∷ w) (join rights (rights (suc k) a) (rights (suc k + size a) b))

  pub parent-node : each (parents 0) k (node a b ∷ ts)
      ≡ 0 ∷ (parents k (suc k) a ++ (parents k (suc k + size a) b ++ each (parents 0) (suc k + size a + size b) ts))
  unfolding each parents
  parent-node = ap (λ (w : List ℕ). 0 ∷ w) (join (parents 0) (parents k (suc k) a) (parents k (suc k + size a) b))

-- the node v becomes the parent of the tree that stands after some entries
pub adopt-at : (t : Tree) (q v k : ℕ) (front back : List ℕ) → k ≡ suc (length front)
    → adopted (root k t) v (front ++ (parents q k t ++ back)) ≡ front ++ (parents v k t ++ back)
unfolding root parents
adopt-at leaf q v k front back e = refl
adopt-at (node a b) q v k front back e =
    ap (λ (j : ℕ). adopted j v (front ++ (q ∷ (rest ++ back)))) e ∙ set-append_seam front q (rest ++ back) v
  where
    rest : List ℕ
    rest = parents k (suc k) a ++ parents k (suc k + size a) b

pub length-parents : (q k : ℕ) (t : Tree) → length (parents q k t) ≡ size t
unfolding parents size
length-parents q k leaf = refl
length-parents q k (node a b) =
    omega (
      arith,
      length-append (parents k (suc k) a) (parents k (suc k + size a) b),
      length-parents k (suc k) a,
      length-parents k (suc k + size a) b,
    )

pub length-lefts : (k : ℕ) (t : Tree) → length (lefts k t) ≡ size t
unfolding lefts size
length-lefts k leaf = refl
length-lefts k (node a b) =
    omega (
      arith,
      length-append (lefts (suc k) a) (lefts (suc k + size a) b),
      length-lefts (suc k) a,
      length-lefts (suc k + size a) b,
    )

pub length-rights : (k : ℕ) (t : Tree) → length (rights k t) ≡ size t
unfolding rights size
length-rights k leaf = refl
length-rights k (node a b) =
    omega (
      arith,
      length-append (rights (suc k) a) (rights (suc k + size a) b),
      length-rights (suc k) a,
      length-rights (suc k + size a) b,
    )
