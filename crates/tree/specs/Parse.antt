-- The tree of a closed schedule, read from its last beat to its first. Definitions only.
--     grow         a 1 makes one tree of the first two
--     parse        the trees whose words, one after the other, make the beats
--     foremost     the first of some trees
--     tree_of b    the tree whose word is b with one leaf more; proofs/Theorems.antt shows that it is the only one
use Rattle.std.specs.Prelude.{List, [], ◌∷◌, ◌++◌, ℕ, zero, suc}
use Rattle.tree.specs.Tree.{Tree, leaf, node}

unfoldable pub grow : List Tree → List Tree
grow [] = []
grow (a ∷ []) = []
grow (a ∷ (b ∷ ts)) = node a b ∷ ts

unfoldable pub parse : List ℕ → List Tree
parse [] = []
parse (zero ∷ c) = leaf ∷ parse c
parse (suc x ∷ c) = grow (parse c)

unfoldable pub foremost : List Tree → Tree
foremost [] = leaf
foremost (t ∷ ts) = t

unfoldable pub tree_of : List ℕ → Tree
tree_of b = foremost (parse (b ++ 0 ∷ []))
