-- What the step and the run answer and leave, the manual, "The step" and "Refusal numbers" (Order: schedules).
-- Definitions only.
--     most_steps         the most steps that a run may have [A6]
--     run_rows           the refusals of a run, in their order: those of the schedule, then 13 [R6]
--     next_answer, next_left     of one step: the changed beats, and the next form
--     run_answer, run_left       of a run of k steps: the changed beats of them all, and the form k steps on [D3g]
use Rattle.std.specs.Prelude.{List, [], ◌∷◌, ◌++◌, ℕ, ltb}
use Rattle.refusal.specs.declared.Refusal.TheVariants.{RunTooLong}
use Rattle.refusal.specs.Answer.{Answer, answer, left}
use Rattle.refusal.specs.Rows.{Row, ◌⇒◌, judge}
use Rattle.schedule.specs.Check.{check_rows, checked}
use Rattle.circle.specs.Step.{next}
use Rattle.circle.specs.Walk.{steps, changed, worked}

abbrev pub most_steps : ℕ
most_steps = 65535

abbrev pub run_rows : ℕ → ℕ → List ℕ → ℕ → List Row
run_rows t s b k = check_rows t s b ++ (ltb most_steps k ⇒ RunTooLong) ∷ []

abbrev pub next_answer : ℕ → ℕ → List ℕ → Answer
next_answer t s b = answer (checked t s b) (changed b (next b))

abbrev pub next_left : ℕ → ℕ → List ℕ → List ℕ
next_left t s b = left (checked t s b) (next b) b

abbrev pub run_answer : ℕ → ℕ → List ℕ → ℕ → Answer
run_answer t s b k = answer (judge (run_rows t s b k)) (worked k b)

abbrev pub run_left : ℕ → ℕ → List ℕ → ℕ → List ℕ
run_left t s b k = left (judge (run_rows t s b k)) (steps k b) b
