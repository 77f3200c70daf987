-- The scan for another beat. Definitions only.
--     skipped b from v     the first place from `from` on whose beat is not v, or the length where there is none;
--                          `from` itself where it is past the end
use Rattle.std.specs.Prelude.{Bool, not, List, ℕ, ◌-◌, eqb, length, get_or}
use Rattle.bounded.specs.Bounded.{first_from}

abbrev pub is_other : List ℕ → ℕ → ℕ → Bool
is_other b v k = not (eqb (get_or b k 0) v)

abbrev pub skipped : List ℕ → ℕ → ℕ → ℕ
skipped b from v = first_from (is_other b v) from (length b - from)
