-- The tests of the rule, and what they decide.
--     one-form-counts, counts-one-form     the counts have one form exactly if N is 1
--     no-rise, nowhere-none     there is no 01 exactly if no 0 is followed by 1
--     found_first, first_found             the found 1 is that of the first 0 followed by 1
--     moves-may, may-moves, may-not     the beat after the found 1 moves exactly if it may
--     Tests, tests              the four ways that the tests go
--     last-next, next-next, found-next     the next form by them
-- Assumes nothing.
use mathlib.Core.Bool.{Bool, true, false, true≢false, and-eq-true_iff}
use mathlib.Core.List.{List}
use mathlib.Core.Logic.{◌↔◌}
use mathlib.Core.Path.{◌≡◌, refl, ◌∙◌, ap, sym}
use Prim.Native.Nat.{ℕ, zero, suc, ◌<◌}
use native.Mathlib.Decide.{ℕ_discrete, dec_lt}
use native.Mathlib.Omega.{arith}
use borrow.Author.Tests.{le-leb, leb-true, lt-leb, lt-ltb, eq-eqb, eqb-true}
use lib.Dec.{eqb, leb}
use lib.ListN.{length, get_or, get_or-eq_default}
use Rattle.bounded.specs.Bounded.{first}
use Rattle.bounded.proofs.First.{first-before}
use Rattle.triangle.specs.Count.{N}
use Rattle.triangle.proofs.Count.{N-zero, N-pos}
use Rattle.schedule.specs.Meaning.{First, Nowhere}
use Rattle.schedule.specs.Schedule.{ones, zeros, is_schedule}
use Rattle.schedule.proofs.Hand.{schedule-le}
use Rattle.schedule.proofs.Reflect.{computed-first, first-computed, nowhere-computed}
use Rattle.schedule.proofs.Theorems.{is_schedule-true, true-is_schedule}
use Rattle.circle.specs.Plan.{Form}
use Rattle.circle.specs.Step.{shift, is01, found, has01, moves_next, next}
use Rattle.circle.specs.Walk.{steps}
use Rattle.circle.proofs.Circle.{round, once}
use Rattle.circle.proofs.Theorems.{next-form, circle}
use Rattle.reason.specs.Meaning.{OneForm, Rises, MayMove}

-- one form only
module _ {b : List ℕ} (f : Form b) where
  pub counts-one-form : N (ones b) (zeros b) ≡ 1 → OneForm b
  counts-one-form one c q =
      let way = circle f q in
      let count : way.count ≡ N (ones b) (zeros b) = omega (arith, one, way.from, way.to) in
      sym way.leads ∙ ap (λ (n : ℕ). steps n b) count ∙ round f

  pub one-form-counts : OneForm b → N (ones b) (zeros b) ≡ 1
  unfolding steps
  one-form-counts only =
      let some = N-pos (ones b) (zeros b) (schedule-le f) in
      sym (once 1 (N (ones b) (zeros b)) f (omega arith) some some (omega arith)
      (only (next b) (next-form f) ∙ sym (round f)))

-- a 0 followed by 1
rises-decides : (b : List ℕ) (i : ℕ) → Rises b i ↔ (is01 b i ≡ true)
rises-decides b i = (
  λ p. iff.1 (eq-eqb (get_or b i 0) 0 p.0, eq-eqb (get_or b (suc i) 0) 1 p.1),
  λ e. (eqb-true (get_or b i 0) 0 (iff.0 e).0, eqb-true (get_or b (suc i) 0) 1 (iff.0 e).1),
)
  where
    iff : (is01 b i ≡ true) ↔ ((eqb (get_or b i 0) 0 ≡ true) × (eqb (get_or b (suc i) 0) 1 ≡ true))
    iff = and-eq-true_iff (eqb (get_or b i 0) 0) (eqb (get_or b (suc i) 0) 1)

rises-inside : (b : List ℕ) (i : ℕ) → Rises b i → suc i < length b
rises-inside b i p =
    elim (dec_lt (suc i) (length b)) [
      | yes h ↦ h
      | no h ↦ absurd (omega (arith, p.1, get_or-eq_default b 0 {n = suc i} (omega arith)))
    ]

module _ (b : List ℕ) where
  pub no-rise : has01 b ≡ false → Nowhere (Rises b) (length b)
  unfolding has01 found
  no-rise e k h p =
      let inside = rises-inside b k p in
      elim (dec_lt k (first (is01 b) (length b))) [
        | yes l ↦ true≢false (sym ((rises-decides b k).0 p) ∙ first-before (is01 b) (length b) k l)
        | no l ↦ true≢false (sym (le-leb (suc (suc (first (is01 b) (length b)))) (length b) (omega arith)) ∙ e)
      ]

  pub nowhere-none : Nowhere (Rises b) (length b) → has01 b ≡ false
  unfolding has01 found
  nowhere-none none =
      lt-leb (suc (suc (first (is01 b) (length b)))) (length b)
      (omega (arith, nowhere-computed (is01 b) (Rises b) (rises-decides b) (length b) none))

  pub found_first : has01 b ≡ true → (i : ℕ) × (found b ≡ suc (suc i)) × First (Rises b) (length b) i
  unfolding has01 found
  found_first e =
      let i = first (is01 b) (length b) in
      let inside = leb-true (suc (suc i)) (length b) e in
      (i, refl, computed-first (is01 b) (Rises b) (rises-decides b) (length b) (omega arith))

  pub first_found : {i : ℕ} → First (Rises b) (length b) i → (found b ≡ suc (suc i)) × (has01 b ≡ true)
  unfolding has01 found
  first_found {i} p =
      let at = first-computed (is01 b) (Rises b) (rises-decides b) (length b) i p in (
        ap (λ (k : ℕ). suc (suc k)) at,
        le-leb (suc (suc (first (is01 b) (length b)))) (length b) (omega (arith, at, rises-inside b i p.holds)),
      )

  -- the beat after the found 1
  tested : (moves_next b ≡ true)
      ↔ ((leb (suc (found b)) (length b) ≡ true) × (is_schedule (ones b) (zeros b) (shift (suc (found b)) b) ≡ true))
  unfolding moves_next
  tested = and-eq-true_iff (leb (suc (found b)) (length b)) (is_schedule (ones b) (zeros b) (shift (suc (found b)) b))

  pub moves-may : moves_next b ≡ true → MayMove b (found b)
  moves-may e =
      let p = tested.0 e in
      (leb-true (suc (found b)) (length b) p.0, true-is_schedule (ones b) (zeros b) (shift (suc (found b)) b) p.1)

  pub may-moves : MayMove b (found b) → moves_next b ≡ true
  may-moves p =
      tested.1
      (le-leb (suc (found b)) (length b) p.0, is_schedule-true (ones b) (zeros b) (shift (suc (found b)) b) p.1)

  pub may-not : (MayMove b (found b) → ⊥) → moves_next b ≡ false
  may-not stays = by (moves_next b) refl
    where
      by : (t : Bool) → moves_next b ≡ t → moves_next b ≡ false
      by true e = absurd (stays (moves-may e))
      by false e = e

pub data Tests (b : List ℕ) : Type 0 where
  only : N (ones b) (zeros b) ≡ 1 → Tests b
  last : (N (ones b) (zeros b) ≡ 1 → ⊥) → has01 b ≡ false → Tests b
  after : (N (ones b) (zeros b) ≡ 1 → ⊥) → has01 b ≡ true → moves_next b ≡ true → Tests b
  itself : (N (ones b) (zeros b) ≡ 1 → ⊥) → has01 b ≡ true → moves_next b ≡ false → Tests b

pub tests : (b : List ℕ) → Tests b
tests b =
    elim (ℕ_discrete (N (ones b) (zeros b)) 1) [
      | yes e ↦ only e
      | no more ↦ by more (has01 b) refl (moves_next b) refl
    ]
  where
    by : (N (ones b) (zeros b) ≡ 1 → ⊥) → (t : Bool) → has01 b ≡ t → (u : Bool) → moves_next b ≡ u → Tests b
    by more false h u m = last more h
    by more true h true m = after more h m
    by more true h false m = itself more h m

module _ (b : List ℕ) where
  pub last-next : (N (ones b) (zeros b) ≡ 1 → ⊥) → has01 b ≡ false → next b ≡ shift (length b) b
  unfolding next
  last-next more h = by (zeros b) refl
    where
      by : (z : ℕ) → zeros b ≡ z → next b ≡ shift (length b) b
      by zero e = absurd (more (ap (N (ones b)) e ∙ N-zero (ones b)))
      by (suc z) e = unfold next in simp (h, lt-ltb 0 (zeros b) (omega arith))

  pub next-next : has01 b ≡ true → moves_next b ≡ true → next b ≡ shift (suc (found b)) b
  unfolding next
  next-next h m = simp (h, m)

  pub found-next : has01 b ≡ true → moves_next b ≡ false → next b ≡ shift (found b) b
  unfolding next
  found-next h m = simp (h, m)
