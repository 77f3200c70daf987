-- What the step and the run back answer and leave, the manual, "The step back" and "Refusal numbers" (Order:
-- schedules). The refusals are those of the step and of the run on, in their order. Definitions only.
--     previous_answer, previous_left   of one step back: the changed beats, and the previous form [V12]
--     run_back_answer, run_back_left   of a run of k steps back: the changed beats of them all, and the form k steps
--                                      back [V12]
use Rattle.std.specs.Prelude.{List, ℕ}
use Rattle.refusal.specs.Answer.{Answer, answer, left}
use Rattle.refusal.specs.Rows.{judge}
use Rattle.schedule.specs.Check.{checked}
use Rattle.circle.specs.Walk.{changed}
use Rattle.circle.specs.Back.{previous, steps_back, worked_back}
use Rattle.circle.specs.Answers.{run_rows}

abbrev pub previous_answer : ℕ → ℕ → List ℕ → Answer
previous_answer t s b = answer (checked t s b) (changed b (previous b))

abbrev pub previous_left : ℕ → ℕ → List ℕ → List ℕ
previous_left t s b = left (checked t s b) (previous b) b

abbrev pub run_back_answer : ℕ → ℕ → List ℕ → ℕ → Answer
run_back_answer t s b k = answer (judge (run_rows t s b k)) (worked_back k b)

abbrev pub run_back_left : ℕ → ℕ → List ℕ → ℕ → List ℕ
run_back_left t s b k = left (judge (run_rows t s b k)) (steps_back k b) b
