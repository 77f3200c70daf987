-- The changed beats of steps, counted by the forms that they arrive at.
--     next-injective     two schedules of one pair of counts with the same next form are equal
--     next-changed       a step changes two beats, and two more if it arrives at a dip
--     worked-dips        so k steps change 2k beats, and two more for each dip
--     idle-changed       with one form only a step changes none
-- Assumes nothing.
use mathlib.Core.Bool.{true, false, true≢false, cond}
use mathlib.Core.List.{List, [], ◌∷◌}
use mathlib.Core.Logic.{◌⊎◌, inl, inr, ⊎_elim}
use mathlib.Core.Path.{◌≡◌, refl, ◌∙◌, ap, ap₂, sym}
use Prim.Native.Nat.{ℕ, zero, suc, ◌+◌, ◌*◌, ◌≤◌, ◌<◌}
use native.Mathlib.Omega.{arith}
use borrow.Author.Tests.{lt-ltb, le-ltb, eq-eqb, ne_eqb}
use lib.ListN.{length, get_or}
use Rattle.triangle.specs.Count.{N}
use Rattle.schedule.specs.Schedule.{ones, zeros, Schedule}
use Rattle.schedule.proofs.Hand.{schedule-plays, schedule-zeros, schedule-le}
use Rattle.circle.specs.Step.{has01, next, top}
use Rattle.circle.specs.Walk.{steps, changed, worked, is_dip, dips}
use Rattle.circle.proofs.Shape.{ups, downs, shape-ones, shape-zeros, top-shape}
use Rattle.circle.proofs.Rank.{rank_of}
use Rattle.circle.proofs.Moves.{has01-none, has01-some}
use Rattle.circle.proofs.Circle.{same_rank, next-schedule, next-rank, steps-schedule, top-schedule}
use Rattle.circle.proofs.Work.{
  changed-self,
  changed-same,
  Work,
  idle,
  turn,
  swap,
  dip,
  next-work,
  turn_two,
  swap-two,
  dip-four,
}

next-injective : {t s : ℕ} {b c : List ℕ} → Schedule t s b → Schedule t s c → next b ≡ next c → b ≡ c
next-injective {t} {s} {b} {c} p q e = same_rank p q (by (next-rank p) (next-rank q))
  where
    by : (rank_of (next b) ≡ suc (rank_of b)) ⊎ ((rank_of (next b) ≡ 0) × (suc (rank_of b) ≡ N t s))
        → (rank_of (next c) ≡ suc (rank_of c)) ⊎ ((rank_of (next c) ≡ 0) × (suc (rank_of c) ≡ N t s))
        → rank_of b ≡ rank_of c
    by (inl x) (inl y) = omega (arith, ap rank_of e)
    by (inl x) (inr y) = omega (arith, ap rank_of e)
    by (inr x) (inl y) = omega (arith, ap rank_of e)
    by (inr x) (inr y) = omega arith

-- whether c is a dip, by its two parts
module _ (t s : ℕ) (c : List ℕ) where
  not-second : (get_or c 1 0 ≡ 0 → ⊥) → is_dip t s c ≡ false
  unfolding is_dip
  not-second n = simp (ne_eqb (get_or c 1 0) 0 n)

  pub not-other : get_or c 1 0 ≡ 0 → c ≡ next (top t s) → is_dip t s c ≡ false
  unfolding is_dip
  not-other z e = simp (
    eq-eqb (get_or c 1 0) 0 z,
    le-ltb 0 (changed c (next (top t s))) (omega (arith, ap (changed c) (sym e), changed-self c)),
  )

  pub is-dip : get_or c 1 0 ≡ 0 → length c ≡ length (next (top t s)) → (c ≡ next (top t s) → ⊥) → is_dip t s c ≡ true
  unfolding is_dip
  is-dip z n e =
      simp (eq-eqb (get_or c 1 0) 0 z, lt-ltb 0 (changed c (next (top t s))) (some (changed c (next (top t s))) refl))
    where
      some : (k : ℕ) → changed c (next (top t s)) ≡ k → 0 < k
      some zero q = absurd (e (changed-same c (next (top t s)) n q))
      some (suc k) q = omega arith

-- ones and zeros alone are the form that takes everything up first
flat-top : {t s : ℕ} {b : List ℕ} (p q : ℕ) → Schedule t s b → b ≡ ups p (downs q []) → b ≡ top t s
unfolding ones zeros
flat-top {t} {s} {b} p q w e =
    let all_up : p ≡ t = omega (arith, w.taken, ap ones e, shape-ones p q []) in
    let all-down : q ≡ s = omega (arith, schedule-zeros w, ap zeros e, shape-zeros p q []) in
    e ∙ ap₂ (λ (x y : ℕ). ups x (downs y [])) all_up all-down ∙ sym (top-shape t s)

module _ {t s : ℕ} (two : 2 ≤ t) (one : 1 ≤ s) where
  pub next-changed : {b : List ℕ} → Schedule t s b → changed b (next b) ≡ 2 + 2 * cond (is_dip t s (next b)) 1 0
  next-changed {b} p = by (next-work b (schedule-plays p))
    where
      by : Work b (next b) → changed b (next b) ≡ 2 + 2 * cond (is_dip t s (next b)) 1 0
      by (idle e o) =
          absurd (⊎_elim (λ (few : ones b ≤ 1). omega (arith, p.taken))
          (λ (no_zero : zeros b ≡ 0). omega (arith, schedule-zeros p)) o)
      by (turn a d e f) =
          simp (not-other t s (next b) (ap (λ (l : List ℕ). get_or l 1 0) f)
          (ap next (flat-top (suc (suc a)) (suc d) p e)))
          (turn_two a d e f)
      by (swap a d z e f) =
          simp (not-second t s (next b) (λ q. omega (arith, q, ap (λ (l : List ℕ). get_or l 1 0) f)))
          (swap-two a d z e f)
      by (dip a d z e f) =
          let top-form = top-schedule t s (schedule-le p) in
          simp (is-dip t s (next b) (ap (λ (l : List ℕ). get_or l 1 0) f)
          ((next-schedule p).size ∙ sym (next-schedule top-form).size) (other top-form))
          (dip-four a d z e f)
        where
          other : Schedule t s (top t s) → next b ≡ next (top t s) → ⊥
          other q same =
              true≢false
              (sym (has01-some (suc (suc a)) d (0 ∷ z))
              ∙ ap has01 (sym e ∙ next-injective p q same ∙ top-shape t s)
              ∙ has01-none t s)

  pub worked-dips : {b : List ℕ} (k : ℕ) → Schedule t s b → worked k b ≡ 2 * k + 2 * dips t s k b
  unfolding worked dips steps
  worked-dips zero p = omega arith
  worked-dips {b} (suc k) p = omega (arith, worked-dips k p, next-changed (steps-schedule k p))

-- with one form only nothing changes
pub idle-changed : {t s : ℕ} {b : List ℕ} → Schedule t s b → (t ≤ 1) ⊎ (s ≡ 0) → changed b (next b) ≡ 0
idle-changed {t} {s} {b} p few = by (next-work b (schedule-plays p))
  where
    -- a shape with two ones and a zero has more than one form
    many : (u d : ℕ) → u ≡ t → d ≡ s → 2 ≤ u → 1 ≤ d → ⊥
    many u d e f h k = ⊎_elim (λ (one : t ≤ 1). omega arith) (λ (none : s ≡ 0). omega arith) few

    shaped : (u d : ℕ) (c : List ℕ) → b ≡ ups u (downs d c) → 2 ≤ u + ones c → 1 ≤ d + zeros c → ⊥
    shaped u d c e h k =
        many (u + ones c) (d + zeros c) (sym (shape-ones u d c) ∙ ap ones (sym e) ∙ p.taken)
        (sym (shape-zeros u d c) ∙ ap zeros (sym e) ∙ schedule-zeros p) h k

    by : Work b (next b) → changed b (next b) ≡ 0
    by (idle e o) = ap (changed b) (sym e) ∙ changed-self b
    by (turn a d e f) = absurd (shaped (suc (suc a)) (suc d) [] e (omega arith) (omega arith))
    by (swap a d z e f) = absurd (shaped (suc a) (suc d) (1 ∷ z) e (unfold ones in omega arith) (omega arith))
    by (dip a d z e f) = absurd (shaped (suc (suc a)) (suc d) (1 ∷ 0 ∷ z) e (omega arith) (omega arith))
