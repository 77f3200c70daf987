-- What the inner functions leave. Definitions only.
--     adopted c v p     the parents p after node v has become the parent of node c; 0 is a leaf, and has none
use Rattle.std.specs.Prelude.{List, ℕ, zero, suc, set}

abbrev pub adopted : ℕ → ℕ → List ℕ → List ℕ
adopted zero v p = p
adopted (suc c) v p = set p c v
