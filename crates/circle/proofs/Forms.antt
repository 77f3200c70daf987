-- Accepted schedules as forms, and what k steps from one have made.
--     own-counts, accepted_form     a schedule, and so what the check accepts, is one of its own counts
--     refused-so        what a refused call answers and leaves
--     run-taken         the verdict on a run of a schedule that the check accepts, and of few steps
--     run_allowed       what an accepted run says of the schedule and the steps
--     run_form, run_short, run_fits     and so: one of its own counts, few enough steps, and beats that fit
--     step_form, previous_form     what a step leaves, on or back, is a schedule of its own counts
--     Walked, walked_start, walked_turn     after some steps of such a walk: the form reached, the beats changed so far
-- Assumes nothing.
use mathlib.Core.List.Memᴰ
use mathlib.Core.List.{List, [], ◌∷◌}
use mathlib.Core.Path.{◌≡◌, refl, ◌∙◌, ap, ap₂, sym}
use Prim.Native.Nat.{ℕ, suc, ◌+◌, ◌*◌, ◌≤◌}
use native.Mathlib.Numerals.{add-one}
use native.Mathlib.Omega.{arith}
use borrow.Author.Tests.{le-ltb, ltb-false}
use lib.Dec.{ltb}
use lib.ListN.{length}
use Rattle.std.proofs.Common.{Ok, Err}
use Rattle.refusal.specs.declared.Refusal.{Refusal}
use Rattle.refusal.specs.declared.Refusal.TheVariants.{RunTooLong}
use Rattle.refusal.specs.Answer.{Verdict, answer, left}
use Rattle.refusal.specs.Rows.{◌⇒◌, judge}
use Rattle.refusal.proofs.Rows.{judge-accepted, judge-front, judge-back}
use Rattle.refusal.proofs.Theorems.{accepted-none}
use Rattle.triangle.specs.Count.{most_beats}
use Rattle.schedule.specs.Schedule.{Schedule}
use Rattle.schedule.specs.Check.{check_rows, checked}
use Rattle.schedule.proofs.Hand.{schedule-plays, plays-schedule}
use Rattle.schedule.proofs.Theorems.{accepted-schedule}
use Rattle.circle.specs.Step.{next}
use Rattle.circle.specs.Walk.{changed}
use Rattle.circle.specs.Back.{previous}
use Rattle.circle.specs.Plan.{Form}
use Rattle.circle.specs.Way.{Goes}
use Rattle.circle.specs.Answers.{most_steps, run_rows}
use Rattle.circle.proofs.Circle.{next-schedule}
use Rattle.circle.proofs.Backwards.{previous-form}

-- what a refused call answers and leaves, by the verdict on its input
pub refused-so : {v : Verdict} {why : Refusal} → v ≡ Err why → (n : ℕ) (done lent : List ℕ)
    → (Err why ≡ answer v n) × (lent ≡ left v done lent)
refused-so e n done lent = (ap (λ (v : Verdict). answer v n) (sym e), ap (λ (v : Verdict). left v done lent) (sym e))

-- the verdict on a run, from the check's
module _ (t s : ℕ) (b : List ℕ) (k : ℕ) where
  pub run-taken : checked t s b ≡ Ok tt → k ≤ most_steps → judge (run_rows t s b k) ≡ Ok tt
  run-taken e h =
      judge-accepted (check_rows t s b) ((ltb most_steps k ⇒ RunTooLong) ∷ []) e ∙ simp (le-ltb most_steps k h)

  pub run_allowed : judge (run_rows t s b k) ≡ Ok tt → (checked t s b ≡ Ok tt) × (k ≤ most_steps)
  run_allowed e =
      let long = (ltb most_steps k ⇒ RunTooLong) in
      let none = accepted-none (long ∷ []) (judge-back (check_rows t s b) (long ∷ []) e) long (Memᴰ.head refl) in
      (judge-front (check_rows t s b) (long ∷ []) e, ltb-false most_steps k none)

pub own-counts : {t s : ℕ} {b : List ℕ} → Schedule t s b → Form b
own-counts p = plays-schedule (schedule-plays p) refl refl

pub accepted_form : (t s : ℕ) (b : List ℕ) → checked t s b ≡ Ok tt → Form b
accepted_form t s b e = own-counts (accepted-schedule t s b e).1

-- an accepted run
module _ (t s : ℕ) (b : List ℕ) (k : ℕ) (e : judge (run_rows t s b k) ≡ Ok tt) where
  pub run_form : Form b
  run_form = accepted_form t s b (run_allowed t s b k e).0

  pub run_short : k ≤ most_steps
  run_short = (run_allowed t s b k e).1

  pub run_fits : length b ≤ most_beats
  run_fits =
      let right = accepted-schedule t s b (run_allowed t s b k e).0 in
      omega (arith, right.0.0, right.0.1, right.1.size)

pub step_form : {b : List ℕ} → Form b → Form (next b)
step_form f = own-counts (next-schedule f)

pub previous_form : {b : List ℕ} → Form b → Form (previous b)
previous_form f = own-counts (previous-form f)

-- after i steps a has come to the form b, and these steps changed n beats
pub record Walked (walk : ℕ → List ℕ → List ℕ) (work : ℕ → List ℕ → ℕ) (a b : List ℕ) (i n : ℕ) : Type 0 where
  pub form : Form b
  pub long : length b ≡ length a
  pub reached : b ≡ walk i a
  pub summed : n ≡ work i a
  pub few : n ≤ 4 * i

module _ {step : List ℕ → List ℕ} {walk : ℕ → List ℕ → List ℕ} {work : ℕ → List ℕ → ℕ} (g : Goes step walk work) where
  pub walked_start : {a : List ℕ} → Form a → Walked walk work a a 0 0
  walked_start {a} f =
      record {
        form = f;
        long = refl;
        reached = sym (g.starts a).0;
        summed = sym (g.starts a).1;
        few = omega arith;
      }

  pub walked_turn : (a b c : List ℕ) (i n r : ℕ) → Walked walk work a b i n → Form c → length c ≡ length b → c ≡ step b
      → r ≡ changed b (step b) → r ≤ 4 → Walked walk work a c (i + 1) (n + r)
  walked_turn a b c i n r w f l e q four =
      let further : c ≡ walk (suc i) a = e ∙ ap step w.reached ∙ sym (g.goes i a) in
      let more : r ≡ changed (walk i a) (walk (suc i) a) =
      q ∙ ap₂ changed w.reached (ap step w.reached ∙ sym (g.goes i a)) in
      record {
        form = f;
        long = l ∙ w.long;
        reached = rw (add-one i) further;
        summed = rw (add-one i) (omega (arith, w.summed, more, g.adds i a));
        few = omega (arith, w.few, four);
      }
