-- What the number of a form answers, the manual, "The number" and "Refusal numbers" (Order: schedules). Definitions
-- only.
--     number_answer     of a lent schedule: its number, or the check's refusal
use Rattle.std.specs.Prelude.{List, ℕ}
use Rattle.refusal.specs.Answer.{Answer, answer}
use Rattle.schedule.specs.Check.{checked}
use Rattle.number.specs.Number.{number_of}

abbrev pub number_answer : ℕ → ℕ → List ℕ → Answer
number_answer t s b = answer (checked t s b) (number_of t s b)
