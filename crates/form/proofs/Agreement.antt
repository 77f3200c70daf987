-- The functions agree with each other, in terms of what they answer and leave: the letter, demand 2.
-- No t, s or number is left out; `numbered-asked` asks for t+s lent bytes, `walked-asked` for an allowed run.
--     form-accepted       a form is written for every number that there is, into as many bytes as it has beats
--     asked-numbered      the number of what `form` writes for n is n [D2e]
--     numbered-asked      what `form` writes for the number that `number` answers is the schedule
--                         that was asked about [D2f]
--     walked-asked        walking k steps from form number m leaves what `form` writes for (m + k) mod N(t, s) [D2g]
-- Assumes nothing.
use mathlib.Core.List.{List}
use mathlib.Core.Path.{◌≡◌, ◌∙◌, ap, sym}
use Prim.Native.Nat.{ℕ, ◌+◌, ◌%◌, ◌≤◌, ◌<◌}
use native.Mathlib.Nat.{mod-lt}
use native.Mathlib.Omega.{arith}
use lib.ListN.{length}
use Rattle.std.proofs.Common.{Ok}
use Rattle.form.specs.Answers.{form_verdict, form_left}
use Rattle.refusal.specs.Answer.{Verdict, answer, left}
use Rattle.refusal.proofs.Theorems.{answer-value}
use Rattle.triangle.specs.Count.{N}
use Rattle.triangle.proofs.Count.{N-pos}
use Rattle.counts.specs.Counts.{Allowed}
use Rattle.counts.proofs.Sizes.{allowed-counts}
use Rattle.schedule.specs.Check.{checked}
use Rattle.schedule.proofs.Theorems.{accepted-schedule, schedule-accepted}
use Rattle.circle.specs.Answers.{most_steps, run_left}
use Rattle.circle.specs.Walk.{steps}
use Rattle.circle.proofs.Forms.{run-taken}
use Rattle.number.specs.Number.{number_of, form_of}
use Rattle.number.specs.Answers.{number_answer}
use Rattle.number.proofs.Numbers.{form-schedule}
use Rattle.number.proofs.Theorems.{number-below, number-form, form-number, walking-asking}
use Rattle.form.proofs.Verdicts.{number-allowed, number-taken, form-allowed, form-taken}

module _ (t s : ℕ) where
  -- what is written
  written : (n : ℕ) (out : List ℕ) → form_verdict t s n out ≡ Ok tt → form_left t s n out ≡ form_of t s n
  written n out e = ap (λ (v : Verdict). left v (form_of t s n) out) e

  pub asked-numbered : (n : ℕ) (out : List ℕ) → form_verdict t s n out ≡ Ok tt
      → number_answer t s (form_left t s n out) ≡ Ok n
  asked-numbered n out e =
      let within = number-allowed t s n (form-allowed t s n out e).0 in
      let accepted = schedule-accepted t s (form_of t s n) (within.0, within.1) (form-schedule within.1 n) in
      ap (number_answer t s) (written n out e)
      ∙ ap (λ (v : Verdict). answer v (number_of t s (form_of t s n))) accepted
      ∙ ap Ok (form-number within.1 n within.2)

  pub form-accepted : Allowed t s → (n : ℕ) (out : List ℕ) → n < N t s → length out ≡ t + s
      → form_verdict t s n out ≡ Ok tt
  form-accepted a n out below long = form-taken t s n out (number-taken t s n (allowed-counts t s a) below) long

  pub numbered-asked : (b : List ℕ) (n : ℕ) → number_answer t s b ≡ Ok n
      → (out : List ℕ) → length out ≡ t + s → form_left t s n out ≡ b
  numbered-asked b n e out long =
      let said = answer-value (checked t s b) (number_of t s b) e in
      let right = accepted-schedule t s b said.0 in
      let below : n < N t s = omega (arith, said.1, number-below right.1) in
      written n out (form-accepted right.0 n out below long)
      ∙ ap (form_of t s) said.1
      ∙ number-form right.1

  pub walked-asked : (m k : ℕ) (out : List ℕ) → form_verdict t s m out ≡ Ok tt → k ≤ most_steps
      → run_left t s (form_left t s m out) k ≡ form_left t s ((m + k) % N t s) out
  walked-asked m k out e h =
      let asked = form-allowed t s m out e in
      let within = number-allowed t s m asked.0 in
      let accepted = schedule-accepted t s (form_of t s m) (within.0, within.1) (form-schedule within.1 m) in
      let after = (m + k) % N t s in
      let below = mod-lt (m + k) (N-pos t s within.1) in
      ap (λ (b : List ℕ). run_left t s b k) (written m out e)
      ∙ ap (λ (v : Verdict). left v (steps k (form_of t s m)) (form_of t s m))
      (run-taken t s (form_of t s m) k accepted h)
      ∙ walking-asking within.1 m k
      ∙ sym (written after out (form-accepted (within.0, within.1) after out below asked.1))
