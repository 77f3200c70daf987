-- The press run backwards, about the rule and about what the calls answer and leave (Calls.antt): the manual, "The step
-- back". proofs/Backwards.antt proves it of all allowed counts. Definitions only.
--     Backwards t s     the step back gives the one form whose next form is lent, and a run back the form so many steps
--                       back; a round back meets each form once; calls on and back undo each other [V13]
use Rattle.std.specs.Prelude.{List, [], ◌∷◌, ◌≡◌, ℕ, ◌≤◌, Ok}
use Rattle.refusal.specs.Answer.{Verdict}
use Rattle.triangle.specs.Count.{N}
use Rattle.schedule.specs.Schedule.{Schedule}
use Rattle.circle.specs.Walk.{worked, OneWay}
use Rattle.circle.specs.Walk as walk
use Rattle.circle.specs.Back.{Precedes, steps_back, worked_back}
use Rattle.circle.specs.Answers.{most_steps}
use Rattle.demands.specs.Calls.{move, next, run, previous, run-back, Gives}

pub record Backwards (t s : ℕ) : Type 0 where
  -- what a step and a run back give
  pub previous-given : (b : List ℕ) → Schedule t s b
      → (c : List ℕ) × Precedes t s c b
      × Gives (move previous t s b) (Ok tt) (walk.changed b c ∷ []) (c ∷ [])
  pub run-back-given : (b : List ℕ) (k : ℕ) → Schedule t s b → k ≤ most_steps
      → Gives (move (run-back k) t s b) (Ok tt) (worked_back k b ∷ []) (steps_back k b ∷ [])
  -- as many steps back as there are forms meet each form once, the start last, and change what as many steps on change
  pub every-form-once : (a b : List ℕ) → Schedule t s a → Schedule t s b → OneWay steps_back t s a b
  pub start-last : (a : List ℕ) (p : Schedule t s a) → (every-form-once a a p p).count ≡ N t s
  pub round-changes : (b : List ℕ) → Schedule t s b → worked_back (N t s) b ≡ worked (N t s) b
  -- a call back after a call on has the same verdict and the same number, and leaves what was lent first; and the other
  -- way about
  pub next-undone : (b c : List ℕ) (v : Verdict) (m : List ℕ) → Gives (move next t s b) v m (c ∷ [])
      → Gives (move previous t s c) v m (b ∷ [])
  pub previous-undone : (b c : List ℕ) (v : Verdict) (m : List ℕ) → Gives (move previous t s b) v m (c ∷ [])
      → Gives (move next t s c) v m (b ∷ [])
  pub run-undone : (b c : List ℕ) (k : ℕ) (v : Verdict) (m : List ℕ) → Gives (move (run k) t s b) v m (c ∷ [])
      → Gives (move (run-back k) t s c) v m (b ∷ [])
  pub run-back-undone : (b c : List ℕ) (k : ℕ) (v : Verdict) (m : List ℕ) → Gives (move (run-back k) t s b) v m (c ∷ [])
      → Gives (move (run k) t s c) v m (b ∷ [])
