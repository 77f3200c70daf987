-- Binary trees, the manual, "Tree table" (source 000, section 2; source 001, section 2.4.1). Definitions only.
--     Tree        a leaf, or an inner node with a tree on its left and one on its right
--     size        its inner nodes
--     word        its nodes in preorder, a node before its left tree and that before its right one: 1 for an inner
--                 node, 0 for a leaf [O4]
--     The inner nodes have numbers, in preorder from some first number on; 0 stands for a leaf, or for no node:
--     root k      the number of the topmost node
--     lefts k, rights k     for each node in its order, the number of its left child and of its right child [O4]
--     parents q k           for each node in its order, the number of its parent; q is that of the topmost node [O4]
use Rattle.std.specs.Prelude.{List, [], ◌∷◌, ◌++◌, ℕ, suc, ◌+◌}

pub data Tree : Type 0 where
  leaf : Tree
  node : Tree → Tree → Tree

unfoldable pub size : Tree → ℕ
size leaf = 0
size (node a b) = suc (size a + size b)

unfoldable pub word : Tree → List ℕ
word leaf = 0 ∷ []
word (node a b) = 1 ∷ (word a ++ word b)

unfoldable pub root : ℕ → Tree → ℕ
root k leaf = 0
root k (node a b) = k

unfoldable pub lefts : ℕ → Tree → List ℕ
lefts k leaf = []
lefts k (node a b) = root (suc k) a ∷ (lefts (suc k) a ++ lefts (suc k + size a) b)

unfoldable pub rights : ℕ → Tree → List ℕ
rights k leaf = []
rights k (node a b) = root (suc k + size a) b ∷ (rights (suc k) a ++ rights (suc k + size a) b)

unfoldable pub parents : ℕ → ℕ → Tree → List ℕ
parents q k leaf = []
parents q k (node a b) = q ∷ (parents k (suc k) a ++ parents k (suc k + size a) b)
