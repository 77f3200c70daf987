-- Tests over the numbers below a bound. Definitions only.
--     every f n     the test f holds at 0, 1, .., n − 1
--     first f n     the first k below n at which f holds; n where it holds at none
use Rattle.std.specs.Prelude.{Bool, true, cond, ◌&&◌, ℕ, zero, suc}

unfoldable pub every : (ℕ → Bool) → ℕ → Bool
every f zero = true
every f (suc n) = f n && every f n

unfoldable pub first_from : (ℕ → Bool) → ℕ → ℕ → ℕ
first_from f i zero = i
first_from f i (suc n) = cond (f i) i (first_from f (suc i) n)

abbrev pub first : (ℕ → Bool) → ℕ → ℕ
first f n = first_from f 0 n
