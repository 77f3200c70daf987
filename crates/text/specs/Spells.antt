-- What it means that a text is a number in decimal, as the manual says of the numbers of a line. Definitions only.
--     digits_value v d    the number that the digits d say after those of v; from v = 0 on, the number that they say
--     Spells n d          d is one digit or more, they say n, and the first of several is not 0
--     Says z d            d is how an integer is written: as a number, with a - before it where it is below 0
use Rattle.std.specs.Prelude.{List, [], ◌∷◌, ◌≡◌, ℕ, suc, ◌+◌, ◌-◌, ◌*◌, ◌≤◌, ◌<◌, ℤ, pos, negsuc, length, get_or}

unfoldable pub digits_value : ℕ → List ℕ → ℕ
digits_value v [] = v
digits_value v (x ∷ d) = digits_value (10 * v + (x - 48)) d

pub record Spells (n : ℕ) (d : List ℕ) : Type 0 where
  pub digits : (k : ℕ) → k < length d → (48 ≤ get_or d k 0) × (get_or d k 0 ≤ 57)
  pub value : digits_value 0 d ≡ n
  pub some : 1 ≤ length d
  pub first : 1 < length d → 49 ≤ get_or d 0 0

abbrev pub Says : ℤ → List ℕ → Type 0
Says (pos n) d = Spells n d
Says (negsuc n) d = (e : List ℕ) × Spells (suc n) e × (d ≡ 45 ∷ e)
