-- The circle walked backwards: the manual, "The step back". Each once over t and s, for all counts that have a form,
-- the one_form cases and (0, 0) too.
--     steps_first           k + 1 steps are k steps after the first one
--     previous-next         the previous form of every form's next form is that form, and [V3]
--     next-previous         the other way about [V3]
--     previous-precedes     the previous form of b is the one schedule of t, s whose next form is b [V2]
--     previous-form         the previous form of a schedule of t, s is a schedule of t, s [V4]
--     one-form-previous     with at most one 1 or no zeros the form comes before itself [V4]
--     previous-changes      a step back changes the beats that the step on from there changes
--     back-form             steps back lead from a schedule of t, s to one [V5]
--     back_on, on-back      k steps back after k steps on bring back the schedule, and the other way about [V5]
--     worked-back-on, worked-on-back     and both change as many beats [V5]
--     circle-back           N(t, s) steps back arrive at every form exactly once [V7]
--     round-back            and come back to the start,
--     circle-back-start-last     which is met last [V7]
--     round-back-changes    a round back changes what a round changes [V7]
-- Assumes nothing.
use mathlib.Core.List.{List}
use mathlib.Core.Logic.{◌⊎◌}
use mathlib.Core.Path.{◌≡◌, refl, ◌∙◌, ap, ap₂, sym, subst}
use Prim.Native.Nat.{ℕ, zero, suc, pred, ◌+◌, ◌≤◌}
use native.Mathlib.Omega.{arith}
use Rattle.triangle.specs.Count.{N}
use Rattle.triangle.proofs.Count.{N-pos}
use Rattle.schedule.specs.Schedule.{Schedule}
use Rattle.schedule.proofs.Hand.{schedule-plays, schedule-le}
use Rattle.circle.specs.Step.{next}
use Rattle.circle.specs.Walk.{steps, changed, worked, OneWay}
use Rattle.circle.specs.Back.{previous, Precedes, steps_back, worked_back}
use Rattle.circle.proofs.Moves.{next-moves}
use Rattle.circle.proofs.Circle.{steps-schedule, round, reaches, once}
use Rattle.circle.proofs.Work.{changed-sym}
use Rattle.circle.proofs.Undone.{previous-moved}
use Rattle.circle.proofs.Theorems.{one_form}

-- the first of some steps, in place of the last
pub steps_first : (k : ℕ) (b : List ℕ) → steps (suc k) b ≡ steps k (next b)
unfolding steps
steps_first zero b = refl
steps_first (suc k) b = ap next (steps_first k b)

back-first : (k : ℕ) (b : List ℕ) → steps_back (suc k) b ≡ steps_back k (previous b)
unfolding steps_back
back-first zero b = refl
back-first (suc k) b = ap previous (back-first k b)

worked-back-first : (k : ℕ) (b : List ℕ) → worked_back (suc k) b ≡ changed b (previous b) + worked_back k (previous b)
unfolding steps_back worked_back
worked-back-first zero b = omega arith
worked-back-first (suc k) b =
    let step = ap₂ changed (back-first k b) (ap previous (back-first k b)) in
    omega (arith, worked-back-first k b, step)

module _ {t s : ℕ} where
  pub previous-next : {b : List ℕ} → Schedule t s b → previous (next b) ≡ b
  previous-next {b} p = previous-moved (next-moves b (schedule-plays p)) (schedule-plays p)

  -- a round leads back to b, so its last step but one is a form whose next form is b
  earlier : {b : List ℕ} → Schedule t s b → (c : List ℕ) × Schedule t s c × (next c ≡ b)
  unfolding steps
  earlier {b} p =
      let k = pred (N t s) in
      let all : suc k ≡ N t s = omega (arith, N-pos t s (schedule-le p)) in
      (steps k b, steps-schedule k p, ap (λ (n : ℕ). steps n b) all ∙ round p)

  pub previous-precedes : {b : List ℕ} → Schedule t s b → Precedes t s (previous b) b
  previous-precedes {b} p =
      let c = earlier p in
      let only : (d : List ℕ) → Schedule t s d → next d ≡ b → d ≡ previous b =
      λ d q e. sym (previous-next q) ∙ ap previous e in
      let same = only c.0 c.1 c.2 in
      record { form = subst (Schedule t s) same c.1; leads = ap next (sym same) ∙ c.2; only = only }

  pub next-previous : {b : List ℕ} → Schedule t s b → next (previous b) ≡ b
  next-previous p = (previous-precedes p).leads

  pub previous-form : {b : List ℕ} → Schedule t s b → Schedule t s (previous b)
  previous-form p = (previous-precedes p).form

  pub one-form-previous : {b : List ℕ} → Schedule t s b → (t ≤ 1) ⊎ (s ≡ 0) → previous b ≡ b
  one-form-previous p few = one_form (previous-form p) p few

  pub previous-changes : {b : List ℕ} → Schedule t s b
      → changed b (previous b) ≡ changed (previous b) (next (previous b))
  previous-changes {b} p = changed-sym b (previous b) ∙ ap (changed (previous b)) (sym (next-previous p))

  pub back-form : {b : List ℕ} (k : ℕ) → Schedule t s b → Schedule t s (steps_back k b)
  unfolding steps_back
  back-form zero p = p
  back-form (suc k) p = previous-form (back-form k p)

  pub back_on : {b : List ℕ} (k : ℕ) → Schedule t s b → steps_back k (steps k b) ≡ b
  unfolding steps steps_back
  back_on zero p = refl
  back_on {b} (suc k) p =
      back-first k (next (steps k b)) ∙ ap (steps_back k) (previous-next (steps-schedule k p)) ∙ back_on k p

  pub on-back : {b : List ℕ} (k : ℕ) → Schedule t s b → steps k (steps_back k b) ≡ b
  unfolding steps steps_back
  on-back zero p = refl
  on-back {b} (suc k) p =
      steps_first k (previous (steps_back k b)) ∙ ap (steps k) (next-previous (back-form k p)) ∙ on-back k p

  pub worked-back-on : {b : List ℕ} (k : ℕ) → Schedule t s b → worked_back k (steps k b) ≡ worked k b
  unfolding steps worked worked_back
  worked-back-on zero p = refl
  worked-back-on {b} (suc k) p =
      let c = steps k b in
      let q = previous-next (steps-schedule k p) in
      omega (
        arith,
        worked-back-first k (next c),
        ap (changed (next c)) q ∙ changed-sym (next c) c,
        ap (worked_back k) q,
        worked-back-on k p,
      )

  pub worked-on-back : {b : List ℕ} (k : ℕ) → Schedule t s b → worked k (steps_back k b) ≡ worked_back k b
  worked-on-back k p = sym (worked-back-on k (back-form k p)) ∙ ap (worked_back k) (on-back k p)

  pub round-back : {b : List ℕ} → Schedule t s b → steps_back (N t s) b ≡ b
  round-back p = ap (steps_back (N t s)) (sym (round p)) ∙ back_on (N t s) p

  pub round-back-changes : {b : List ℕ} → Schedule t s b → worked_back (N t s) b ≡ worked (N t s) b
  round-back-changes p = ap (worked_back (N t s)) (sym (round p)) ∙ worked-back-on (N t s) p

  module _ {a : List ℕ} (p : Schedule t s a) where
    pub circle-back : {b : List ℕ} → Schedule t s b → OneWay steps_back t s a b
    circle-back q =
        let way = reaches q p in
        record {
          count = way.0;
          from = way.1;
          to = way.2;
          leads = ap (steps_back way.0) (sym way.3) ∙ back_on way.0 q;
          only = λ k h l e.
              once k way.0 q h l way.1 way.2 (ap (steps k) (sym e) ∙ on-back k p ∙ sym way.3);
        }

    pub circle-back-start-last : (circle-back p).count ≡ N t s
    circle-back-start-last =
        sym ((circle-back p).only (N t s) (N-pos t s (schedule-le p)) (omega arith) (round-back p))
