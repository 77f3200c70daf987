-- The shams of Shams.antt, of explaining, and the wrong explanations that W-203 names: each at an input where what it
-- answers is not what the contract gives, whatever else it answers and leaves.
--     explain-refusing        refuses everything [P3]
--     explain-fixed           answers one fixed case, or one fixed explanation [P5]
--     explain-found-moves     case 4 where both shifts give the same form [X13]
--     explain-from-one        the place of the moved beat counted from 1 [X13]
--     explain-step-before     the places that the step changed which led to the form [X13]
--     explain-rightmost       the found 1 of the rightmost 0 followed by 1 [X13]
--     explain-one-form-moves  case 2 for one form only [X13]
-- Assumes nothing.
use mathlib.Core.List.{List, [], ◌∷◌}
use mathlib.Core.Path.{◌≡◌}
use Prim.Native.Nat.{ℕ}
use native.Mathlib.Omega.{arith}
use Rattle.std.proofs.Common.{Err}
use Rattle.bounded.specs.Bounded.{every, first_from}
use Rattle.refusal.specs.declared.Refusal.{Refusal}
use Rattle.refusal.specs.Answer.{Verdict}
use Rattle.triangle.specs.Count.{N}
use Rattle.schedule.specs.Schedule.{ones, zeros, is_schedule}
use Rattle.circle.specs.Step.{shift, found, has01, moves_next}
use Rattle.circle.specs.Step as rule
use Rattle.reason.specs.Explanation.{differing_from, differing, explanation_of}
use Rattle.demands.specs.Calls.{explain, Gives}
use Rattle.demands.proofs.Shams.{never}

-- the forms of (3,2) that are explained, and the one form of (1,1)
abbrev form-11100 : List ℕ
form-11100 = 1 ∷ 1 ∷ 1 ∷ 0 ∷ 0 ∷ []

abbrev form-10110 : List ℕ
form-10110 = 1 ∷ 0 ∷ 1 ∷ 1 ∷ 0 ∷ []

abbrev form-10101 : List ℕ
form-10101 = 1 ∷ 0 ∷ 1 ∷ 0 ∷ 1 ∷ []

abbrev form-10 : List ℕ
form-10 = 1 ∷ 0 ∷ []

pub explain-refusing : (why : Refusal) (m : List ℕ) (x : List (List ℕ))
    → Gives (explain 3 2 form-11100) (Err why) m x → ⊥
unfolding first_from ones zeros
explain-refusing why m x g = never g.0.0

pub explain-fixed : (v w : Verdict) (n : ℕ) (m k : List ℕ) (x y : List (List ℕ))
    → Gives (explain 3 2 form-11100) v (n ∷ m) x → Gives (explain 3 2 form-10110) w (n ∷ k) y → ⊥
unfolding N every first_from ones zeros is_schedule shift found has01 moves_next rule.next differing_from explanation_of
explain-fixed v w n m k x y g h = let z : ◌≡◌ {A = ℕ} 2 3 = cc (g.0.1, h.0.1) in omega arith

module _ (v : Verdict) (m : List ℕ) (x : List (List ℕ)) where
  pub explain-found-moves : Gives (explain 3 2 form-10110) v (4 ∷ m) x → ⊥
  unfolding N every first_from ones zeros is_schedule shift found has01 moves_next rule.next differing_from
      explanation_of
  explain-found-moves g = let z : ◌≡◌ {A = ℕ} 4 3 = cc g.0.1 in omega arith

  pub explain-from-one : Gives (explain 3 2 form-11100) v (2 ∷ 5 ∷ m) x → ⊥
  unfolding N every first_from ones zeros is_schedule shift found has01 moves_next rule.next differing_from
      explanation_of
  explain-from-one g = let z : ◌≡◌ {A = ℕ} 5 4 = cc g.0.1 in omega arith

  pub explain-step-before : Gives (explain 3 2 form-10110) v (3 ∷ 2 ∷ 3 ∷ differing form-11100 form-10110) x → ⊥
  unfolding N every first_from ones zeros is_schedule shift found has01 moves_next rule.next differing_from
      explanation_of
  explain-step-before g = let z : ◌≡◌ {A = ℕ} 3 2 = cc g.0.1 in omega arith

  pub explain-rightmost : Gives (explain 3 2 form-10101) v (4 ∷ 4 ∷ m) x → ⊥
  unfolding N every first_from ones zeros is_schedule shift found has01 moves_next rule.next differing_from
      explanation_of
  explain-rightmost g = let z : ◌≡◌ {A = ℕ} 4 2 = cc g.0.1 in omega arith

  pub explain-one-form-moves : Gives (explain 1 1 form-10) v (2 ∷ m) x → ⊥
  unfolding N every first_from ones zeros is_schedule shift found has01 moves_next rule.next differing_from
      explanation_of
  explain-one-form-moves g = let z : ◌≡◌ {A = ℕ} 2 1 = cc g.0.1 in omega arith
