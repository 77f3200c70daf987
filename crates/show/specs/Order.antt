-- The order in which the pairs of counts t and s are visited, s at most t. Definitions only.
--     Next t s u v    after t and s come u and v: the next s of that t, or the first of the next t
use Rattle.std.specs.Prelude.{ℕ, ◌+◌, ◌<◌, ◌≤◌, ◌≡◌}

abbrev pub Next : ℕ → ℕ → ℕ → ℕ → Type 0
Next t s u v = (s < t → (u ≡ t) × (v ≡ s + 1)) × (t ≤ s → (u ≡ t + 1) × (v ≡ 0))
