-- The manual's five shams ("Proving what was asked") of the calls back, as in Shams.antt, and two of their own.
--     Refuses everything [P3]: no refusal fits a call that has to be accepted.
--     previous-refusing, previous-changed-refusing, run-back-refusing, run-back-changed-refusing [P3]
--     Answers one fixed number [P5]: none fits both of two calls.
--     previous-fixed, previous-changed-fixed, run-back-fixed, run-back-changed-fixed [P5]
--     Leaves one fixed form [P6d]: none fits both of two calls.
--     previous-fixed-form, run-back-fixed-form [P6d]
--     The previous form is the form that was given, whatever is answered; or no beat is said to change [P6a].
--     previous-still, run-back-still, previous-changed-still, run-back-changed-still [P6a]
--     A run back makes its first step only, however it counts the rest; or it counts that step only [P6b].
--     run-back-first-step, run-back-changed-first-step [P6b]
--     A run back reports twice its length, whatever it leaves [P6c].
--     run-back-twice, run-back-changed-twice [P6c]
--     The previous form is the next one; a run back counts twice what it changes [V14].
--     previous-is-next, run-back-counted-twice [V14]
-- Assumes nothing.
use mathlib.Core.List.{List, [], ◌∷◌}
use mathlib.Core.Path.{◌≡◌, refl, ap, ap₂}
use Prim.Native.Nat.{ℕ, ◌*◌}
use native.Mathlib.Omega.{arith}
use Rattle.std.proofs.Common.{Err}
use Rattle.bounded.specs.Bounded.{every, first_from}
use Rattle.refusal.specs.declared.Refusal.{Refusal}
use Rattle.refusal.specs.Answer.{Verdict}
use Rattle.schedule.specs.Schedule.{ones, zeros, is_schedule}
use Rattle.circle.specs.Step.{shift, found, has01, moves_next}
use Rattle.circle.specs.Step as rule
use Rattle.circle.specs.Walk as walk
use Rattle.circle.specs.Back.{unshift, after_found, before_found, fits, steps_back, worked_back}
use Rattle.circle.specs.Back as back
use Rattle.demands.specs.Calls.{move, previous, run-back, changed, Gives}
use Rattle.demands.proofs.Shams.{never}

-- the first and the fourth form of (3,2), and the forms before them
abbrev form-11100 : List ℕ
form-11100 = 1 ∷ 1 ∷ 1 ∷ 0 ∷ 0 ∷ []

abbrev form-11001 : List ℕ
form-11001 = 1 ∷ 1 ∷ 0 ∷ 0 ∷ 1 ∷ []

abbrev form-10101 : List ℕ
form-10101 = 1 ∷ 0 ∷ 1 ∷ 0 ∷ 1 ∷ []

-- before 11100 comes 11001, two beats away, and then 10101; before 10101 comes 11010, four beats away
before-11100 : back.previous form-11100 ≡ form-11001
unfolding every first_from ones zeros is_schedule unshift before_found fits found has01 back.previous
before-11100 = refl

before-10101 : back.previous form-10101 ≡ 1 ∷ 1 ∷ 0 ∷ 1 ∷ 0 ∷ []
unfolding first_from zeros unshift after_found found has01 back.previous
before-10101 = refl

two_back : steps_back 2 form-11100 ≡ form-10101
unfolding every first_from ones zeros is_schedule unshift before_found fits found has01 back.previous steps_back
two_back = refl

one-back : steps_back 1 form-11100 ≡ form-11001
unfolding steps_back
one-back = before-11100

changed-2 : walk.changed form-11100 (back.previous form-11100) ≡ 2
unfolding walk.changed
changed-2 = ap (walk.changed form-11100) before-11100

changed-4 : walk.changed form-10101 (back.previous form-10101) ≡ 4
unfolding walk.changed
changed-4 = ap (walk.changed form-10101) before-10101

one-worked : worked_back 1 form-11100 ≡ 2
unfolding steps_back worked_back
one-worked = omega (arith, changed-2)

one-worked-4 : worked_back 1 form-10101 ≡ 4
unfolding steps_back worked_back
one-worked-4 = omega (arith, changed-4)

two-worked : worked_back 2 form-11100 ≡ 4
unfolding walk.changed worked_back
two-worked = omega (arith, one-worked, ap₂ walk.changed one-back two_back)

-- [P3] refuses everything
module _ (why : Refusal) (m : List ℕ) (x : List (List ℕ)) where
  pub previous-refusing : Gives (move previous 3 2 form-11100) (Err why) m x → ⊥
  unfolding first_from ones zeros
  previous-refusing g = never g.0.0

  pub previous-changed-refusing : Gives (changed previous 3 2 form-11100) (Err why) m x → ⊥
  unfolding first_from ones zeros
  previous-changed-refusing g = never g.0.0

  pub run-back-refusing : Gives (move (run-back 2) 3 2 form-11100) (Err why) m x → ⊥
  unfolding first_from ones zeros
  run-back-refusing g = never g.0.0

  pub run-back-changed-refusing : Gives (changed (run-back 2) 3 2 form-11100) (Err why) m x → ⊥
  unfolding first_from ones zeros
  run-back-changed-refusing g = never g.0.0

-- [P5] answers one fixed number n
module _ (v w : Verdict) (n : ℕ) (x y : List (List ℕ)) where
  pub previous-fixed :
      Gives (move previous 3 2 form-11100) v (n ∷ []) x → Gives (move previous 3 2 form-10101) w (n ∷ []) y → ⊥
  unfolding first_from ones zeros
  previous-fixed g h = let z : ◌≡◌ {A = ℕ} 2 4 = cc (g.0.1, h.0.1, changed-2, changed-4) in omega arith

  pub previous-changed-fixed :
      Gives (changed previous 3 2 form-11100) v (n ∷ []) x → Gives (changed previous 3 2 form-10101) w (n ∷ []) y → ⊥
  unfolding first_from ones zeros
  previous-changed-fixed g h = let z : ◌≡◌ {A = ℕ} 2 4 = cc (g.0.1, h.0.1, changed-2, changed-4) in omega arith

  pub run-back-fixed :
      Gives (move (run-back 1) 3 2 form-11100) v (n ∷ []) x → Gives (move (run-back 2) 3 2 form-11100) w (n ∷ []) y → ⊥
  unfolding first_from ones zeros
  run-back-fixed g h = let z : ◌≡◌ {A = ℕ} 2 4 = cc (g.0.1, h.0.1, one-worked, two-worked) in omega arith

  pub run-back-changed-fixed : Gives (changed (run-back 1) 3 2 form-11100) v (n ∷ []) x
      → Gives (changed (run-back 2) 3 2 form-11100) w (n ∷ []) y → ⊥
  unfolding first_from ones zeros
  run-back-changed-fixed g h = let z : ◌≡◌ {A = ℕ} 2 4 = cc (g.0.1, h.0.1, one-worked, two-worked) in omega arith

-- [P6d] leaves one fixed form l
module _ (v w : Verdict) (m k l : List ℕ) where
  pub previous-fixed-form :
      Gives (move previous 3 2 form-11100) v m (l ∷ []) → Gives (move previous 3 2 form-10101) w k (l ∷ []) → ⊥
  unfolding first_from ones zeros
  previous-fixed-form g h = let z : ◌≡◌ {A = ℕ} 0 1 = cc (g.1, h.1, before-11100, before-10101) in omega arith

  pub run-back-fixed-form :
      Gives (move (run-back 1) 3 2 form-11100) v m (l ∷ []) → Gives (move (run-back 2) 3 2 form-11100) w k (l ∷ []) → ⊥
  unfolding first_from ones zeros
  run-back-fixed-form g h = let z : ◌≡◌ {A = ℕ} 1 0 = cc (g.1, h.1, one-back, two_back) in omega arith

module _ (v : Verdict) (m : List ℕ) (x : List (List ℕ)) where
  -- [P6a] the previous form is the form that was given, and so no beat changes
  pub previous-still : Gives (move previous 3 2 form-11100) v m (form-11100 ∷ []) → ⊥
  unfolding first_from ones zeros
  previous-still g = let z : ◌≡◌ {A = ℕ} 1 0 = cc (g.1, before-11100) in omega arith

  pub run-back-still : Gives (move (run-back 1) 3 2 form-11100) v m (form-11100 ∷ []) → ⊥
  unfolding first_from ones zeros
  run-back-still g = let z : ◌≡◌ {A = ℕ} 1 0 = cc (g.1, one-back) in omega arith

  pub previous-changed-still : Gives (changed previous 3 2 form-11100) v (0 ∷ []) x → ⊥
  unfolding first_from ones zeros
  previous-changed-still g = let z : ◌≡◌ {A = ℕ} 0 2 = cc (g.0.1, changed-2) in omega arith

  pub run-back-changed-still : Gives (changed (run-back 1) 3 2 form-11100) v (0 ∷ []) x → ⊥
  unfolding first_from ones zeros
  run-back-changed-still g = let z : ◌≡◌ {A = ℕ} 0 2 = cc (g.0.1, one-worked) in omega arith

  -- [P6b] of two steps the first alone: that leaves 11001, and not 10101, and changes 2 beats, and not 4
  pub run-back-first-step : Gives (move (run-back 2) 3 2 form-11100) v m (back.previous form-11100 ∷ []) → ⊥
  unfolding first_from ones zeros
  run-back-first-step g = let z : ◌≡◌ {A = ℕ} 1 0 = cc (g.1, before-11100, two_back) in omega arith

  pub run-back-changed-first-step :
      Gives (changed (run-back 2) 3 2 form-11100) v (walk.changed form-11100 (back.previous form-11100) ∷ []) x → ⊥
  unfolding first_from ones zeros
  run-back-changed-first-step g = let z : ◌≡◌ {A = ℕ} 2 4 = cc (g.0.1, changed-2, two-worked) in omega arith

  -- [P6c] twice its length: one step back from 10101 changes 4 beats, and not 2
  pub run-back-twice : Gives (move (run-back 1) 3 2 form-10101) v (2 * 1 ∷ []) x → ⊥
  unfolding first_from ones zeros
  run-back-twice g = let z : ◌≡◌ {A = ℕ} 2 4 = cc (g.0.1, one-worked-4) in omega arith

  pub run-back-changed-twice : Gives (changed (run-back 1) 3 2 form-10101) v (2 * 1 ∷ []) x → ⊥
  unfolding first_from ones zeros
  run-back-changed-twice g = let z : ◌≡◌ {A = ℕ} 2 4 = cc (g.0.1, one-worked-4) in omega arith

  -- [V14] the previous form is the next one, 10110
  pub previous-is-next : Gives (move previous 3 2 form-11100) v m (rule.next form-11100 ∷ []) → ⊥
  unfolding every first_from ones zeros is_schedule shift moves_next found has01 rule.next
  previous-is-next g = let z : ◌≡◌ {A = ℕ} 0 1 = cc (g.1, before-11100) in omega arith

  -- [V14] what one step back from 11100 changes, counted twice
  pub run-back-counted-twice : Gives (move (run-back 1) 3 2 form-11100) v (2 * worked_back 1 form-11100 ∷ []) x → ⊥
  unfolding first_from ones zeros
  run-back-counted-twice g = let z : ◌≡◌ {A = ℕ} 4 2 = cc (g.0.1, one-worked) in omega arith
