-- The counts of a schedule, the manual, "How many forms" and "Refusal numbers" (Order: a count). Definitions only.
--     Allowed       counts that a schedule may have: t up to the largest count, s up to t [A5]
--     count_rows    the refusals that a pair of counts can get, in their order [R10]
--     counting      what a count of forms answers: N(t, s), or the refusal
use Rattle.std.specs.Prelude.{List, [], ◌∷◌, ℕ, ◌≤◌, ltb}
use Rattle.refusal.specs.declared.Refusal.TheVariants.{TooManyTasks, MoreDownThanUp}
use Rattle.refusal.specs.Answer.{Answer, answer}
use Rattle.refusal.specs.Rows.{Row, ◌⇒◌, judge}
use Rattle.triangle.specs.Count.{N, largest}

abbrev pub Allowed : ℕ → ℕ → Type 0
Allowed t s = (t ≤ largest) × (s ≤ t)

abbrev pub count_rows : ℕ → ℕ → List Row
count_rows t s = (ltb largest t ⇒ TooManyTasks) ∷ (ltb t s ⇒ MoreDownThanUp) ∷ []

abbrev pub counting : ℕ → ℕ → Answer
counting t s = answer (judge (count_rows t s)) (N t s)
