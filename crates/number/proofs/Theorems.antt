-- The number of a form: the letter, demand 2, and the manual, "The number". Each once over t and s.
--     start-form          counting starts at 1 0 1…1 0…0, and [M0]
--     start-all           with no zeros at the one form [M0]
--     start-number        which has the number 0 [M0]
--     top-number          t ones then s zeros have the number N(t, s) − 1, the last one, [M0]
--     one_number          and with one form only, 0 [M0]
--     number-fewest       the number is the fewest steps from where counting starts [M1]
--     fewest-number       and the only number that is [M2]
--     number-below        it is below N(t, s) [M3]
--     form-number         the form of number n has number n [D2b]
--     number-form         and the form of a form's number is that form [D2c]
--     walking-asking      a run of k steps from form number m leaves the form of number (m + k) mod N(t, s) [D2d]
--     previous-number     the form before number n has number n − 1, and [V6]
--     previous-number-0   the form before number 0 has number N(t, s) − 1 [V6]
--     S-form              the i-th form of the list S is the form of number i [M4] [K1]
--     S-number            a form stands in S at its number [K1]
--     S-lists, S-length   S has every schedule of t, s exactly once, and is N(t, s) long [M5]
-- The numbers from t ones then s zeros, which records of kind 1 hold:
--     top-fewest, fewest-top        such a number is the fewest steps from there, and the only number that is [M9]
--     top_below, form-top, top-form       it is below N(t, s), and these numbers and forms undo each other [M9]
--     catalogue-number    the number is such a number less 1, mod N(t, s), [K2]
--     number-from-top     and such a number is the number and 1, mod N(t, s) [K2]
--     form-before, form-after       the same of the forms of the numbers [K2]
-- Assumes nothing.
use mathlib.Core.List.{List, [], ◌∷◌}
use mathlib.Core.Path.{◌≡◌, refl, ◌∙◌, ap, sym}
use Prim.Native.Nat.{ℕ, suc, ◌+◌, ◌-◌, ◌%◌, ◌≤◌, ◌<◌}
use native.Mathlib.Nat.{mod-lt, add-mod_right}
use native.Mathlib.Omega.{arith}
use lib.ListN.{length, get_or}
use Rattle.triangle.specs.Count.{N}
use Rattle.triangle.proofs.Count.{N-pos}
use Rattle.schedule.specs.Schedule.{Schedule, Lists}
use Rattle.schedule.proofs.Hand.{schedule-le}
use Rattle.circle.specs.Step.{next, top}
use Rattle.circle.specs.Walk.{steps}
use Rattle.circle.specs.Back.{previous}
use Rattle.circle.proofs.Shape.{top-shape}
use Rattle.circle.proofs.Moves.{next-turns, next-stays}
use Rattle.circle.proofs.Rank.{rank_of}
use Rattle.circle.proofs.Circle.{rank_lt, same_rank, round, top-schedule}
use Rattle.circle.proofs.Backwards.{steps_first, previous-next, previous-form}
use Rattle.number.specs.Number.{Fewest, start, number_of, form_of, number_from_top, form_from_top}
use Rattle.number.specs.Groups.{S}
use Rattle.number.proofs.Numbers.{steps_to-is, steps_to-below, steps_to-leads, steps_to-fewest, fewest-steps_to}
use Rattle.number.proofs.Numbers.{leads-once, start-schedule, form-schedule, top-form-schedule}
use Rattle.number.proofs.Places.{place_same, form-place}
use Rattle.number.proofs.Walking.{steps-add, steps-around}
use Rattle.number.proofs.InGroups.{S-placed}

pub start-form : (t s : ℕ) → start (suc t) (suc s) ≡ 1 ∷ 0 ∷ top t s
start-form t s =
    ap next (top-shape (suc t) (suc s)) ∙ next-turns t s ∙ ap (λ (l : List ℕ). 1 ∷ 0 ∷ l) (sym (top-shape t s))

pub start-all : (t : ℕ) → start t 0 ≡ top t 0
start-all t = ap next (top-shape t 0) ∙ next-stays t ∙ sym (top-shape t 0)

module _ {t s : ℕ} (few : s ≤ t) where
  pub form-number : (n : ℕ) → n < N t s → number_of t s (form_of t s n) ≡ n
  form-number n h = steps_to-is (start-schedule few) (form-schedule few n) n h refl

  pub form-top : (n : ℕ) → n < N t s → number_from_top t s (form_from_top t s n) ≡ n
  form-top n h = steps_to-is (top-schedule t s few) (top-form-schedule few n) n h refl

  pub start-number : number_of t s (start t s) ≡ 0
  unfolding steps
  start-number = form-number 0 (N-pos t s few)

  -- the form of number n is n + 1 steps from t ones then s zeros
  pub form-after : (n : ℕ) → form_of t s n ≡ form_from_top t s (suc n % N t s)
  form-after n = sym (steps_first n (top t s)) ∙ steps-around (top-schedule t s few) (suc n)

  pub form-before : (n : ℕ) → form_from_top t s n ≡ form_of t s ((n + (N t s - 1)) % N t s)
  form-before n =
      let all : suc (n + (N t s - 1)) ≡ n + N t s = omega (arith, N-pos t s few) in
      steps-around (top-schedule t s few) n
      ∙ ap (form_from_top t s) (sym (add-mod_right n (N t s)))
      ∙ sym (steps-around (top-schedule t s few) (n + N t s))
      ∙ ap (form_from_top t s) (sym all)
      ∙ steps_first (n + (N t s - 1)) (top t s)
      ∙ steps-around (start-schedule few) (n + (N t s - 1))

  pub walking-asking : (m k : ℕ) → steps k (form_of t s m) ≡ form_of t s ((m + k) % N t s)
  walking-asking m k = steps-add k m (start t s) ∙ steps-around (start-schedule few) (m + k)

  pub top-number : number_of t s (top t s) ≡ N t s - 1
  top-number =
      let n = N t s - 1 in
      let all : suc n ≡ N t s = omega (arith, N-pos t s few) in
      steps_to-is (start-schedule few) (top-schedule t s few) n (omega (arith, N-pos t s few))
      (sym (steps_first n (top t s)) ∙ ap (form_from_top t s) all ∙ round (top-schedule t s few))

  pub one_number : N t s ≡ 1 → number_of t s (top t s) ≡ 0
  one_number one = omega (arith, top-number)

module _ {t s : ℕ} {b : List ℕ} (p : Schedule t s b) where
  pub number-fewest : Fewest (start t s) b (number_of t s b)
  number-fewest = steps_to-fewest (start-schedule (schedule-le p)) p

  pub fewest-number : (n : ℕ) → Fewest (start t s) b n → n ≡ number_of t s b
  fewest-number = fewest-steps_to (start-schedule (schedule-le p)) p

  pub number-below : number_of t s b < N t s
  number-below = steps_to-below (start-schedule (schedule-le p)) p

  pub number-form : form_of t s (number_of t s b) ≡ b
  number-form = steps_to-leads (start-schedule (schedule-le p)) p

  pub top-fewest : Fewest (top t s) b (number_from_top t s b)
  top-fewest = steps_to-fewest (top-schedule t s (schedule-le p)) p

  pub fewest-top : (n : ℕ) → Fewest (top t s) b n → n ≡ number_from_top t s b
  fewest-top = fewest-steps_to (top-schedule t s (schedule-le p)) p

  pub top_below : number_from_top t s b < N t s
  top_below = steps_to-below (top-schedule t s (schedule-le p)) p

  pub top-form : form_from_top t s (number_from_top t s b) ≡ b
  top-form = steps_to-leads (top-schedule t s (schedule-le p)) p

  pub catalogue-number : number_of t s b ≡ (number_from_top t s b + (N t s - 1)) % N t s
  catalogue-number =
      let few = schedule-le p in
      steps_to-is (start-schedule few) p ((number_from_top t s b + (N t s - 1)) % N t s)
      (mod-lt (number_from_top t s b + (N t s - 1)) (N-pos t s few))
      (sym (form-before few (number_from_top t s b)) ∙ top-form)

  pub number-from-top : number_from_top t s b ≡ (number_of t s b + 1) % N t s
  number-from-top =
      let few = schedule-le p in
      let more : suc (number_of t s b) ≡ number_of t s b + 1 = omega arith in
      steps_to-is (top-schedule t s few) p ((number_of t s b + 1) % N t s)
      (mod-lt (number_of t s b + 1) (N-pos t s few))
      (ap (λ (n : ℕ). form_from_top t s (n % N t s)) (sym more) ∙ sym (form-after few (number_of t s b)) ∙ number-form)

  -- the form before b is where one step less leads
  pub previous-number : (n : ℕ) → number_of t s b ≡ suc n → number_of t s (previous b) ≡ n
  unfolding steps
  previous-number n e =
      let few = schedule-le p in
      steps_to-is (start-schedule few) (previous-form p) n (omega (arith, number-below))
      (sym (previous-next (form-schedule few n)) ∙ ap previous (ap (form_of t s) (sym e) ∙ number-form))

  pub previous-number-0 : number_of t s b ≡ 0 → number_of t s (previous b) ≡ N t s - 1
  unfolding steps
  previous-number-0 e =
      let few = schedule-le p in
      ap (λ (c : List ℕ). number_of t s (previous c)) (sym number-form ∙ ap (form_of t s) e)
      ∙ ap (number_of t s) (previous-next (top-schedule t s few))
      ∙ top-number few

module _ {t s : ℕ} (few : s ≤ t) where
  pub S-length : length (S t s) ≡ N t s
  S-length = (S-placed t s few).long

  pub S-form : (i : ℕ) → i < N t s → get_or (S t s) i [] ≡ form_of t s i
  S-form i h =
      let listed = (S-placed t s few).forms i (omega (arith, S-length)) in
      same_rank listed (form-schedule few i)
      (place_same (N t s) (rank_of (get_or (S t s) i [])) (rank_of (form_of t s i)) (rank_lt listed)
      (rank_lt (form-schedule few i))
      ((S-placed t s few).places i (omega (arith, S-length)) ∙ sym (form-place few i h)))

  pub S-lists : Lists (Schedule t s) (S t s)
  S-lists = record { sound = (S-placed t s few).forms; complete = complete; once = single }
    where
      complete : (b : List ℕ) → Schedule t s b → (i : ℕ) × (i < length (S t s)) × (get_or (S t s) i [] ≡ b)
      complete b q = (
        number_of t s b,
        omega (arith, S-length, number-below q),
        S-form (number_of t s b) (number-below q) ∙ number-form q,
      )

      single : (i j : ℕ) → i < length (S t s) → j < length (S t s) → get_or (S t s) i [] ≡ get_or (S t s) j [] → i ≡ j
      single i j h k e =
          let i-below : i < N t s = omega (arith, S-length) in
          let j-below : j < N t s = omega (arith, S-length) in
          leads-once (start-schedule few) i j i-below j-below (sym (S-form i i-below) ∙ e ∙ S-form j j-below)

pub S-number : {t s : ℕ} {b : List ℕ} → Schedule t s b → get_or (S t s) (number_of t s b) [] ≡ b
S-number {t} {s} {b} p = S-form (schedule-le p) (number_of t s b) (number-below p) ∙ number-form p
