-- Parts of the way from a number to its form, for the contracts of private functions. Nothing here has to be believed.
-- Definitions only.
--     floor_of p q      the forms of p, q at places before it end in a 0: N(p, q−1), and 0 for q = 0
use Rattle.std.specs.Prelude.{ℕ, zero, suc}
use Rattle.triangle.specs.Count.{N}

unfoldable pub floor_of : ℕ → ℕ → ℕ
floor_of p zero = 0
floor_of p (suc q) = N p q
