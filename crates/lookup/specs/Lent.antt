-- The rows of the table of counts that a program lends on. Definitions only.
--     Counts l     row t of l has N(t, s) for each s, 0 past s = t, as far as l goes; no rows at all are such a list,
--                  too
use Rattle.std.specs.Prelude.{List, [], ◌≡◌, ℕ, ◌<◌, length, get_or}
use Rattle.triangle.specs.Count.{counted}

abbrev pub Counts : List (List ℕ) → Type 0
Counts l = (t s : ℕ) → t < length l → get_or (get_or l t []) s 0 ≡ counted t s
