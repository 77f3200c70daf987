-- A number and an integer in decimal, as lists of ASCII codes. Definitions only.
--     digits k n       the digits of n in base ten, the most significant first, found by at most k divisions; none for
--                      0
--     decimal n        the digits of n, and the digit 0 for 0; n divisions are enough for any n
--     signed z         an integer: the digits of its number, after a - where it is below 0 [Q6]
use Rattle.std.specs.Prelude.{List, [], ◌∷◌, ◌++◌, ℕ, zero, suc, ◌+◌, ◌/◌, ◌%◌, ℤ, pos, negsuc}

unfoldable pub digits : ℕ → ℕ → List ℕ
digits zero n = []
digits (suc k) zero = []
digits (suc k) (suc n) = digits k (suc n / 10) ++ (48 + suc n % 10) ∷ []

unfoldable pub decimal : ℕ → List ℕ
decimal n = digits n (n / 10) ++ (48 + n % 10) ∷ []

abbrev pub signed : ℤ → List ℕ
signed (pos n) = decimal n
signed (negsuc n) = 45 ∷ decimal (suc n)
