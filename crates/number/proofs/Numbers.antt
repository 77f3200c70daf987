-- How many steps lead from one form to another, wherever counting starts.
--     leads-once            below N(t, s) steps at most one number leads from a form to another
--     steps_to-is           a number of steps below N(t, s) that leads there is the one that is found
--     steps_to-leads, steps_to-below      one is found
--     steps_to-fewest       it is the fewest
--     fewest-steps_to       and the only number that is
--     start-schedule, form-schedule, top-form-schedule      the form of a number is a schedule of t, s
-- Assumes nothing.
use mathlib.Core.Bool.{Bool, true, false, and-eq-true_iff}
use mathlib.Core.List.{List}
use mathlib.Core.Path.{◌≡◌, refl, ◌∙◌, ap, sym}
use Prim.Native.Nat.{ℕ, suc, ◌≤◌, ◌<◌}
use native.Mathlib.Omega.{arith}
use native.Mathlib.Decide.{dec_lt}
use borrow.Author.Tests.{eqb-true, eq-eqb}
use lib.Dec.{eqb}
use lib.ListN.{length}
use Rattle.bounded.proofs.First.{first-is}
use Rattle.triangle.specs.Count.{N}
use Rattle.schedule.specs.Schedule.{Schedule}
use Rattle.circle.specs.Step.{next}
use Rattle.circle.specs.Walk.{steps, changed}
use Rattle.circle.proofs.Circle.{next-schedule, steps-schedule, round, reaches, once, top-schedule}
use Rattle.circle.proofs.Work.{changed-self, changed-same}
use Rattle.number.specs.Number.{same, Fewest, steps_to, start, form_of, form_from_top}

-- the test of two lists
same_self : (b : List ℕ) → same b b ≡ true
same_self b =
    (and-eq-true_iff (eqb (length b) (length b)) (eqb (changed b b) 0)).1
    (eq-eqb (length b) (length b) refl, eq-eqb (changed b b) 0 (changed-self b))

not_same : (b c : List ℕ) → (b ≡ c → ⊥) → same b c ≡ false
not_same b c other = by (same b c) refl
  where
    by : (q : Bool) → same b c ≡ q → same b c ≡ false
    by false e = e
    by true e =
        let both = (and-eq-true_iff (eqb (length b) (length c)) (eqb (changed b c) 0)).0 e in
        absurd (other
        (changed-same b c (eqb-true (length b) (length c) both.0) (eqb-true (changed b c) 0 both.1)))

module _ {t s : ℕ} {a : List ℕ} (p : Schedule t s a) where
  pub leads-once : (i j : ℕ) → i < N t s → j < N t s → steps i a ≡ steps j a → i ≡ j
  unfolding steps
  leads-once i j h k e =
      omega (
        arith,
        once (suc i) (suc j) p (omega arith) (omega arith) (omega arith) (omega arith) (ap next e),
      )

  -- some number of steps below N(t, s): a whole round is none
  way : {b : List ℕ} → Schedule t s b → (n : ℕ) × (n < N t s) × (steps n a ≡ b)
  unfolding steps
  way {b} q =
      let w = reaches p q in
      elim (dec_lt w.0 (N t s)) [
        | yes h ↦ (w.0, h, w.3)
        | no h ↦
            let whole : N t s ≡ w.0 = omega (arith, w.2) in
            (0, omega (arith, w.1, w.2), sym (round p) ∙ ap (λ (k : ℕ). steps k a) whole ∙ w.3)
      ]

  module _ {b : List ℕ} (q : Schedule t s b) where
    pub steps_to-is : (n : ℕ) → n < N t s → steps n a ≡ b → steps_to a (N t s) b ≡ n
    steps_to-is n h e =
        first-is (λ k. same (steps k a) b) (N t s) n h (ap (λ (l : List ℕ). same l b) e ∙ same_self b)
        (λ k l. not_same (steps k a) b
        (λ f. omega (arith, leads-once k n (omega arith) h (f ∙ sym e))))

    found : steps_to a (N t s) b ≡ (way q).0
    found = steps_to-is (way q).0 (way q).1 (way q).2

    pub steps_to-below : steps_to a (N t s) b < N t s
    steps_to-below = rw found (way q).1

    pub steps_to-leads : steps (steps_to a (N t s) b) a ≡ b
    steps_to-leads = ap (λ (n : ℕ). steps n a) found ∙ (way q).2

    pub steps_to-fewest : Fewest a b (steps_to a (N t s) b)
    steps_to-fewest = record {
      leads = steps_to-leads;
      none_before = λ k h e.
          omega (
            arith,
            leads-once k (steps_to a (N t s) b) (omega (arith, steps_to-below)) steps_to-below (e ∙ sym steps_to-leads),
          );
    }

    pub fewest-steps_to : (n : ℕ) → Fewest a b n → n ≡ steps_to a (N t s) b
    fewest-steps_to n f =
        elim (dec_lt (steps_to a (N t s) b) n) [
          | yes more ↦ absurd (f.none_before (steps_to a (N t s) b) more steps_to-leads)
          | no few ↦ sym (steps_to-is n (omega (arith, steps_to-below)) f.leads)
        ]

-- where counting starts, and the forms that are so many steps from there
module _ {t s : ℕ} (few : s ≤ t) where
  pub start-schedule : Schedule t s (start t s)
  start-schedule = next-schedule (top-schedule t s few)

  pub form-schedule : (n : ℕ) → Schedule t s (form_of t s n)
  form-schedule n = steps-schedule n start-schedule

  pub top-form-schedule : (n : ℕ) → Schedule t s (form_from_top t s n)
  top-form-schedule n = steps-schedule n (top-schedule t s few)
