-- The place of a form in list S, from 1 on, by its rank, which counts from t ones then s zeros: these close the list.
--     place_of m v                  the place of rank v in a list S of m forms
--     place-zero, place-more        by whether the rank is 0
--     place-some, place_same        there is a place, and it says which rank it is
--     place-back                    a place before the last is the rank
--     raise-place                   the rank after one more 1, by the place before it
--     raise-more                    it is not 0, so that it is the place
--     form-rank                     the form n steps from t ones then s zeros has the rank n
--     top-number-rank               the number from t ones then s zeros is the rank
--     number-place, form-place      the number is the place less 1
-- Assumes nothing.
use mathlib.Core.List.{List}
use mathlib.Core.Path.{◌≡◌, refl, ◌∙◌, ap, sym}
use Prim.Native.Nat.{ℕ, zero, suc, pred, ◌+◌, ◌-◌, ◌≤◌, ◌<◌}
use native.Mathlib.Omega.{arith}
use Rattle.triangle.specs.Count.{N}
use Rattle.triangle.proofs.Count.{N-add, N-pos}
use Rattle.schedule.specs.Schedule.{Schedule}
use Rattle.schedule.proofs.Hand.{schedule-le}
use Rattle.circle.specs.Step.{top}
use Rattle.circle.proofs.Rank.{raise, rank_of}
use Rattle.circle.proofs.Circle.{At, before, past, walk-rank, rank_lt, same_rank, round, top-schedule, top-rank}
use Rattle.circle.proofs.Backwards.{steps_first}
use Rattle.number.specs.Number.{number_of, form_of, number_from_top, form_from_top}
use Rattle.number.proofs.Numbers.{steps_to-is, start-schedule, form-schedule, top-form-schedule}

unfoldable pub place_of : ℕ → ℕ → ℕ
place_of m zero = m
place_of m (suc v) = suc v

pub place-zero : (m v : ℕ) → v ≡ 0 → m ≡ place_of m v
unfolding place_of
place-zero m v e = rw e

pub place-more : (m v : ℕ) → 1 ≤ v → v ≡ place_of m v
unfolding place_of
place-more m zero h = absurd (omega arith)
place-more m (suc v) h = refl

pub place-some : (m v : ℕ) → v < m → (1 ≤ place_of m v) × (place_of m v ≤ m)
unfolding place_of
place-some m zero h = (omega arith, omega arith)
place-some m (suc v) h = (omega arith, omega arith)

pub place_same : (m v w : ℕ) → v < m → w < m → place_of m v ≡ place_of m w → v ≡ w
unfolding place_of
place_same m zero zero h k e = refl
place_same m zero (suc w) h k e = absurd (omega arith)
place_same m (suc v) zero h k e = absurd (omega arith)
place_same m (suc v) (suc w) h k e = e

pub place-back : (m v k : ℕ) → k < m → place_of m v ≡ k → v ≡ k
unfolding place_of
place-back m zero k h e = absurd (omega arith)
place-back m (suc v) k h e = e

pub raise-place : (p q v : ℕ) → 1 ≤ q → q ≤ p → raise (suc p) q v + 1 ≡ N (suc p) (pred q) + place_of (N p q) v
unfolding raise place_of
raise-place p zero v h l = absurd (omega arith)
raise-place p (suc q) zero h l = omega (arith, N-add p q (omega arith), N-pos (suc p) (suc q) (omega arith))
raise-place p (suc q) (suc v) h l = omega arith

pub raise-more : (p q v : ℕ) → 1 ≤ q → q ≤ p → v < N p q → 1 ≤ raise (suc p) q v
raise-more p q v h l k =
    omega (arith, raise-place p q v h l, N-pos (suc p) (pred q) (omega arith), (place-some (N p q) v k).0)

module _ {t s : ℕ} (few : s ≤ t) where
  pub form-rank : (n : ℕ) → n < N t s → rank_of (form_from_top t s n) ≡ n
  form-rank n h = by (walk-rank n (top-schedule t s few) (omega arith))
    where
      by : At (N t s) (rank_of (top t s)) n (rank_of (form_from_top t s n)) → rank_of (form_from_top t s n) ≡ n
      by (before l e) = omega (arith, top-rank t s)
      by (past l e) = absurd (omega (arith, top-rank t s))

module _ {t s : ℕ} {b : List ℕ} (p : Schedule t s b) where
  rank-leads : form_from_top t s (rank_of b) ≡ b
  rank-leads =
      let few = schedule-le p in
      same_rank (top-form-schedule few (rank_of b)) p (form-rank few (rank_of b) (rank_lt p))

  pub top-number-rank : number_from_top t s b ≡ rank_of b
  top-number-rank = steps_to-is (top-schedule t s (schedule-le p)) p (rank_of b) (rank_lt p) rank-leads

  pub number-place : suc (number_of t s b) ≡ place_of (N t s) (rank_of b)
  unfolding place_of
  number-place = by (rank_of b) refl
    where
      by : (v : ℕ) → rank_of b ≡ v → suc (number_of t s b) ≡ place_of (N t s) v
      by zero e =
          let few = schedule-le p in
          let n = N t s - 1 in
          let all : suc n ≡ N t s = omega (arith, rank_lt p) in
          let last : form_of t s n ≡ b =
          sym (steps_first n (top t s))
          ∙ ap (form_from_top t s) all
          ∙ round (top-schedule t s few)
          ∙ same_rank (top-schedule t s few) p (top-rank t s ∙ sym e) in
          ap suc (steps_to-is (start-schedule few) p n (omega (arith, rank_lt p)) last) ∙ all
      by (suc v) e =
          let few = schedule-le p in
          let here : form_of t s v ≡ b = sym (steps_first v (top t s)) ∙ ap (form_from_top t s) (sym e) ∙ rank-leads in
          ap suc (steps_to-is (start-schedule few) p v (omega (arith, rank_lt p, e)) here)

pub form-place : {t s : ℕ} → s ≤ t → (n : ℕ) → n < N t s → place_of (N t s) (rank_of (form_of t s n)) ≡ suc n
form-place few n h =
    sym (number-place (form-schedule few n))
    ∙ ap suc (steps_to-is (start-schedule few) (form-schedule few n) n h refl)
