-- The definitions of specs/ on small inputs, by computing them: for each predicate one that fits and one refused for
-- each part. Assumes nothing.
use mathlib.Core.List.{List, [], ◌∷◌}
use mathlib.Core.Path.{◌≡◌, refl, ap}
use Prim.Native.Nat.{ℕ}
use native.Mathlib.Omega.{arith}
use lib.ListN.{get_or}
use Rattle.std.proofs.Common.{Ok, Err}
use Rattle.bounded.specs.Bounded.{every, first_from}
use Rattle.refusal.specs.declared.Refusal.TheVariants.{EmptyHand, RunTooLong}
use Rattle.schedule.specs.Schedule.{ones, zeros, is_schedule}
use Rattle.circle.specs.declared.Move.{Move}
use Rattle.circle.specs.Step.{found, has01}
use Rattle.circle.specs.Walk.{changed}
use Rattle.circle.specs.Back.{unshift, after_found, before_found, fits, previous, steps_back, worked_back}
use Rattle.circle_back.specs.Undo.{unmade, Undoes}
use Rattle.circle_back.specs.Answers.{previous_answer, previous_left, run_back_answer, run_back_left}

-- the moves that led to 10110 and to 10101
unmade-swap : unmade (Move.Swaps 3 1) (1 ∷ 0 ∷ 1 ∷ 1 ∷ 0 ∷ []) ≡ 1 ∷ 1 ∷ 1 ∷ 0 ∷ 0 ∷ []
unmade-swap = refl

unmade-dip : unmade (Move.Dips 2 3) (1 ∷ 0 ∷ 1 ∷ 0 ∷ 1 ∷ []) ≡ 1 ∷ 1 ∷ 0 ∷ 1 ∷ 0 ∷ []
unmade-dip = refl

-- the move that led to 10101; one that makes 11110 of it; one to 10110 that leaves the previous form and miscounts; one
-- past the end
undoes-10101 : Undoes (1 ∷ 0 ∷ 1 ∷ 0 ∷ 1 ∷ []) (Move.Dips 2 3)
unfolding previous unshift after_found found has01 first_from zeros changed
undoes-10101 = record { inside = (omega arith, omega arith, omega arith); makes = refl; counts = refl }

makes-11110 : Undoes (1 ∷ 0 ∷ 1 ∷ 0 ∷ 1 ∷ []) (Move.Dips 4 3) → ⊥
unfolding previous unshift after_found found has01 first_from zeros
makes-11110 p = let clash : ◌≡◌ {A = ℕ} 1 0 = ap (λ (l : List ℕ). get_or l 2 0) p.makes in omega arith

counts-4 : Undoes (1 ∷ 0 ∷ 1 ∷ 1 ∷ 0 ∷ []) (Move.Dips 3 3) → ⊥
unfolding previous unshift after_found found has01 first_from zeros changed
counts-4 p = omega (arith, p.counts)

past_the_end : Undoes (1 ∷ 1 ∷ []) (Move.Swaps 2 1) → ⊥
past_the_end p = omega (arith, p.inside.0)

-- what the calls answer and leave: 10101, four beats back to 11010, and 1001, which has nothing in hand at place 2
previous-answers-4 : previous_answer 3 2 (1 ∷ 0 ∷ 1 ∷ 0 ∷ 1 ∷ []) ≡ Ok 4
unfolding previous unshift after_found found has01 first_from ones zeros changed
previous-answers-4 = refl

previous-refuses-5 : previous_answer 2 2 (1 ∷ 0 ∷ 0 ∷ 1 ∷ []) ≡ Err (EmptyHand 2)
unfolding first_from ones zeros
previous-refuses-5 = refl

previous-leaves-11010 : previous_left 3 2 (1 ∷ 0 ∷ 1 ∷ 0 ∷ 1 ∷ []) ≡ 1 ∷ 1 ∷ 0 ∷ 1 ∷ 0 ∷ []
unfolding previous unshift after_found found has01 first_from ones zeros
previous-leaves-11010 = refl

previous-leaves-1001 : previous_left 2 2 (1 ∷ 0 ∷ 0 ∷ 1 ∷ []) ≡ 1 ∷ 0 ∷ 0 ∷ 1 ∷ []
unfolding first_from ones zeros
previous-leaves-1001 = refl

-- one step back from 10101, two from 11100, and one step too many for a run
run-back-answers-4 : run_back_answer 3 2 (1 ∷ 0 ∷ 1 ∷ 0 ∷ 1 ∷ []) 1 ≡ Ok 4
unfolding previous unshift after_found found has01 first_from ones zeros steps_back changed worked_back
run-back-answers-4 = refl

run-back-refuses-13 : run_back_answer 1 0 (1 ∷ []) 65536 ≡ Err RunTooLong
unfolding first_from ones zeros
run-back-refuses-13 = refl

run-back-leaves-10101 : run_back_left 3 2 (1 ∷ 1 ∷ 1 ∷ 0 ∷ 0 ∷ []) 2 ≡ 1 ∷ 0 ∷ 1 ∷ 0 ∷ 1 ∷ []
unfolding previous unshift before_found fits found has01 first_from every ones zeros is_schedule steps_back
run-back-leaves-10101 = refl

run-back-leaves-1 : run_back_left 1 0 (1 ∷ []) 65536 ≡ 1 ∷ []
unfolding first_from ones zeros
run-back-leaves-1 = refl
