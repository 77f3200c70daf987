-- The calls undo each other, in terms of what they answer and leave, for every t, s, k and every content of the beats:
-- a call that is refused leaves them, and then the other is refused in the same way.
--     next-undone         `previous` after `next` leaves what was lent and answers the same number [V8]
--     previous-undone     and so does `next` after `previous` [V8]
--     run-undone          a backward run after a forward run of equal length brings back the schedule and reports the
--                         same sum: `run_back` after `run` [V8]
--     run-back-undone     and so does `run` after `run_back` [V8]
-- Assumes nothing.
use mathlib.Core.List.{List}
use mathlib.Core.Path.{◌≡◌, refl, ◌∙◌, ap, sym}
use Prim.Native.Nat.{ℕ}
use Rattle.std.proofs.Common.{Ok, Err}
use Rattle.refusal.specs.Answer.{Verdict, answer, left}
use Rattle.refusal.specs.Rows.{judge}
use Rattle.schedule.specs.Schedule.{Schedule}
use Rattle.schedule.specs.Check.{checked}
use Rattle.schedule.proofs.Theorems.{accepted-schedule, schedule-accepted}
use Rattle.circle.specs.Step.{next}
use Rattle.circle.specs.Walk.{steps, changed, worked}
use Rattle.circle.specs.Back.{previous, steps_back, worked_back}
use Rattle.circle.specs.Answers.{run_rows, next_answer, next_left, run_answer, run_left}
use Rattle.circle.proofs.Circle.{next-schedule, steps-schedule}
use Rattle.circle.proofs.Work.{changed-sym}
use Rattle.circle.proofs.Forms.{run-taken, run_allowed}
use Rattle.circle.proofs.Backwards.{
  previous-next,
  next-previous,
  previous-form,
  previous-changes,
  back-form,
  back_on,
  on-back,
  worked-back-on,
  worked-on-back,
}
use Rattle.circle_back.specs.Answers.{previous_answer, previous_left, run_back_answer, run_back_left}

-- one call, which judges its beats, works on them and counts, and another that undoes an accepted one
module _ (judged : List ℕ → Verdict) (on back : List ℕ → List ℕ) (work unwork : List ℕ → ℕ) (b : List ℕ) where
  abbrev lent : List ℕ
  lent = left (judged b) (on b) b

  undone : (judged b ≡ Ok tt
      → (judged (on b) ≡ Ok tt) × (back (on b) ≡ b) × (unwork (on b) ≡ work b))
      → (answer (judged lent) (unwork lent) ≡ answer (judged b) (work b)) × (left (judged lent) (back lent) lent ≡ b)
  undone undoes = by (judged b) refl
    where
      by : (v : Verdict) → judged b ≡ v
          → (answer (judged lent) (unwork lent) ≡ answer (judged b) (work b))
          × (left (judged lent) (back lent) lent ≡ b)
      by (Ok unit) e = let u = undoes e in rw e (rw (u.0, u.2), rw u.0 u.1)
      by (Err why) e = rw e (rw e, rw e)

module _ (t s : ℕ) (b : List ℕ) where
  -- a form of the same counts as an accepted schedule is accepted
  again : (c : List ℕ) → checked t s b ≡ Ok tt → (Schedule t s b → Schedule t s c)
      → checked t s c ≡ Ok tt
  again c e keeps = let right = accepted-schedule t s b e in schedule-accepted t s c right.0 (keeps right.1)

  pub next-undone : (previous_answer t s (next_left t s b) ≡ next_answer t s b)
      × (previous_left t s (next_left t s b) ≡ b)
  next-undone =
      undone (checked t s) next previous (λ c. changed c (next c)) (λ c. changed c (previous c)) b
      (λ e. let p = (accepted-schedule t s b e).1 in (
        again (next b) e next-schedule,
        previous-next p,
        ap (changed (next b)) (previous-next p) ∙ changed-sym (next b) b,
      ))

  pub previous-undone :
      (next_answer t s (previous_left t s b) ≡ previous_answer t s b) × (next_left t s (previous_left t s b) ≡ b)
  previous-undone =
      undone (checked t s) previous next (λ c. changed c (previous c)) (λ c. changed c (next c)) b
      (λ e. let p = (accepted-schedule t s b e).1 in
      (again (previous b) e previous-form, next-previous p, sym (previous-changes p)))

  module _ (k : ℕ) where
    -- the same of a run
    run-again : (c : List ℕ) → judge (run_rows t s b k) ≡ Ok tt → (Schedule t s b → Schedule t s c)
        → judge (run_rows t s c k) ≡ Ok tt
    run-again c e keeps =
        let allowed = run_allowed t s b k e in run-taken t s c k (again c allowed.0 keeps) allowed.1

    run-form : judge (run_rows t s b k) ≡ Ok tt → Schedule t s b
    run-form e = (accepted-schedule t s b (run_allowed t s b k e).0).1

    pub run-undone :
        (run_back_answer t s (run_left t s b k) k ≡ run_answer t s b k) × (run_back_left t s (run_left t s b k) k ≡ b)
    run-undone =
        undone (λ c. judge (run_rows t s c k)) (steps k) (steps_back k) (worked k) (worked_back k) b
        (λ e. (run-again (steps k b) e (steps-schedule k), back_on k (run-form e), worked-back-on k (run-form e)))

    pub run-back-undone :
        (run_answer t s (run_back_left t s b k) k ≡ run_back_answer t s b k)
        × (run_left t s (run_back_left t s b k) k ≡ b)
    run-back-undone =
        undone (λ c. judge (run_rows t s c k)) (steps_back k) (steps k) (worked_back k) (worked k) b
        (λ e. (run-again (steps_back k b) e (back-form k), on-back k (run-form e), worked-on-back k (run-form e)))
