-- The definitions of specs/ on small inputs, by computing them: for each predicate and test one that fits and one
-- refused for each part, and for each other definition two values. The examples marked P are in the crate `demands`.
-- Assumes nothing.
use mathlib.Core.Bool.{true, false}
use mathlib.Core.List.{List, [], ◌∷◌}
use mathlib.Core.Path.{◌≡◌, refl, ap}
use Prim.Native.Nat.{ℕ}
use native.Mathlib.Omega.{arith}
use lib.ListN.{get_or}
use Rattle.std.proofs.Common.{Ok, Err}
use Rattle.bounded.specs.Bounded.{every, first_from}
use Rattle.refusal.specs.declared.Refusal.TheVariants.{EmptyHand}
use Rattle.triangle.specs.Count.{N}
use Rattle.schedule.specs.Schedule.{ones, zeros, Schedule, is_schedule, Lists}
use Rattle.schedule.proofs.Cases.{fits-11010, ahead-1001}
use Rattle.circle.specs.Step.{shift, found, has01, moves_next, next}
use Rattle.circle.specs.Walk.{steps, changed}
use Rattle.number.specs.Number.{same, Fewest, steps_to, start, number_of, form_of, number_from_top, form_from_top}
use Rattle.number.specs.Answers.{number_answer}
use Rattle.number.specs.Groups.{up_to, last_group, ending, S}
use Rattle.number.specs.Ranking.{is_sized, is_level, goes_on, Ranks}
use Rattle.number.proofs.Theorems.{number-fewest, S-lists}

-- the second of the four forms of 4, 1, and the fifth of the nine of 4, 2
number-11011 : number_of 4 1 (1 ∷ 1 ∷ 0 ∷ 1 ∷ 1 ∷ []) ≡ 1
unfolding N every first_from ones zeros is_schedule shift found has01 moves_next next steps changed
number-11011 = refl

number-110101 : number_of 4 2 (1 ∷ 1 ∷ 0 ∷ 1 ∷ 0 ∷ 1 ∷ []) ≡ 4
unfolding N every first_from ones zeros is_schedule shift found has01 moves_next next steps changed
number-110101 = refl

form-4-1-1 : form_of 4 1 1 ≡ 1 ∷ 1 ∷ 0 ∷ 1 ∷ 1 ∷ []
unfolding every first_from ones zeros is_schedule shift found has01 moves_next next steps
form-4-1-1 = refl

form-4-2-4 : form_of 4 2 4 ≡ 1 ∷ 1 ∷ 0 ∷ 1 ∷ 0 ∷ 1 ∷ []
unfolding every first_from ones zeros is_schedule shift found has01 moves_next next steps
form-4-2-4 = refl

-- all ones and then the zeros have the last number
number-1110 : number_of 3 1 (1 ∷ 1 ∷ 1 ∷ 0 ∷ []) ≡ 2
unfolding N every first_from ones zeros is_schedule shift found has01 moves_next next steps changed
number-1110 = refl

-- and from there they are number 0
from-top-1110 : number_from_top 3 1 (1 ∷ 1 ∷ 1 ∷ 0 ∷ []) ≡ 0
unfolding N first_from steps changed
from-top-1110 = refl

from-top-11011 : number_from_top 4 1 (1 ∷ 1 ∷ 0 ∷ 1 ∷ 1 ∷ []) ≡ 2
unfolding N every first_from ones zeros is_schedule shift found has01 moves_next next steps changed
from-top-11011 = refl

form-from-top-0 : form_from_top 3 1 0 ≡ 1 ∷ 1 ∷ 1 ∷ 0 ∷ []
unfolding steps
form-from-top-0 = refl

form-from-top-2 : form_from_top 4 1 2 ≡ 1 ∷ 1 ∷ 0 ∷ 1 ∷ 1 ∷ []
unfolding every first_from ones zeros is_schedule shift found has01 moves_next next steps
form-from-top-2 = refl

-- 11010 is one step from 10110, where counting starts; no step leads to another form, and six lead there again
fewest-1 : Fewest (start 3 2) (1 ∷ 1 ∷ 0 ∷ 1 ∷ 0 ∷ []) 1
unfolding N every first_from ones zeros is_schedule shift found has01 moves_next next steps changed
fewest-1 = number-fewest fits-11010

fewest-0 : Fewest (start 3 2) (1 ∷ 1 ∷ 0 ∷ 1 ∷ 0 ∷ []) 0 → ⊥
unfolding every first_from ones zeros is_schedule shift found has01 moves_next next steps
fewest-0 p = let clash : ◌≡◌ {A = ℕ} 0 1 = ap (λ (l : List ℕ). get_or l 1 0) p.leads in omega arith

fewest-6 : Fewest (start 3 2) (1 ∷ 1 ∷ 0 ∷ 1 ∷ 0 ∷ []) 6 → ⊥
unfolding every first_from ones zeros is_schedule shift found has01 moves_next next steps
fewest-6 p = p.none_before 1 (omega arith) refl

-- one step from 110 to 101; in two steps at most no way leads to a list that is no form
steps-to-101 : steps_to (1 ∷ 1 ∷ 0 ∷ []) 2 (1 ∷ 0 ∷ 1 ∷ []) ≡ 1
unfolding every first_from ones zeros is_schedule shift found has01 moves_next next steps changed
steps-to-101 = refl

steps-to-none : steps_to (1 ∷ 1 ∷ 0 ∷ []) 2 (0 ∷ 1 ∷ 1 ∷ []) ≡ 2
unfolding every first_from ones zeros is_schedule shift found has01 moves_next next steps changed
steps-to-none = refl

-- equal lists; another beat; one beat more
same-101 : same (1 ∷ 0 ∷ 1 ∷ []) (1 ∷ 0 ∷ 1 ∷ []) ≡ true
unfolding changed
same-101 = refl

other-110 : same (1 ∷ 0 ∷ 1 ∷ []) (1 ∷ 1 ∷ 0 ∷ []) ≡ false
unfolding changed
other-110 = refl

longer-1011 : same (1 ∷ 0 ∷ 1 ∷ []) (1 ∷ 0 ∷ 1 ∷ 1 ∷ []) ≡ false
unfolding changed
longer-1011 = refl

-- the groups: 1 and 2, none; up to s, or to s − 1 if t = s; the zeros after the 1 of an ending
up-to-2 : up_to (λ i. (i ∷ []) ∷ []) 2 ≡ (1 ∷ []) ∷ (2 ∷ []) ∷ []
unfolding up_to
up-to-2 = refl

up-to-0 : up_to (λ i. (i ∷ []) ∷ []) 0 ≡ []
unfolding up_to
up-to-0 = refl

last-3-2 : last_group 3 2 ≡ 2
last-3-2 = refl

last-2-2 : last_group 2 2 ≡ 1
last-2-2 = refl

ending-1 : ending 2 1 (1 ∷ 0 ∷ []) ≡ 1 ∷ 0 ∷ 1 ∷ 0 ∷ []
ending-1 = refl

ending-2 : ending 2 2 (1 ∷ 0 ∷ []) ≡ 1 ∷ 0 ∷ 1 ∷ []
ending-2 = refl

-- all ones and then the zeros close the list
S-2-1 : S 2 1 ≡ (1 ∷ 0 ∷ 1 ∷ []) ∷ (1 ∷ 1 ∷ 0 ∷ []) ∷ []
unfolding S up_to
S-2-1 = refl

S-2-2 : S 2 2 ≡ (1 ∷ 0 ∷ 1 ∷ 0 ∷ []) ∷ (1 ∷ 1 ∷ 0 ∷ 0 ∷ []) ∷ []
unfolding S up_to
S-2-2 = refl

-- and so these two are all schedules of 2, 1
lists-two : Lists (Schedule 2 1) ((1 ∷ 0 ∷ 1 ∷ []) ∷ (1 ∷ 1 ∷ 0 ∷ []) ∷ [])
unfolding S up_to
lists-two = S-lists (omega arith)

-- the sizes: those of 11010; a task too many; a set-down too many; a beat too few
sized-5 : is_sized 3 2 (1 ∷ 1 ∷ 0 ∷ 1 ∷ 0 ∷ []) ≡ true
sized-5 = refl

unsized-200 : is_sized 200 0 [] ≡ false
unsized-200 = refl

unsized-1-2 : is_sized 1 2 (1 ∷ 0 ∷ 0 ∷ []) ≡ false
unsized-1-2 = refl

unsized-4 : is_sized 3 2 (1 ∷ 1 ∷ 0 ∷ 1 ∷ []) ≡ false
unsized-4 = refl

-- 11 and then 0 may begin a schedule of 3 ones; 1111 may not, nor 1 and then 00
level-3 : is_level 3 2 1 ≡ true
level-3 = refl

steep-4 : is_level 3 4 0 ≡ false
steep-4 = refl

deep-2 : is_level 3 1 2 ≡ false
deep-2 = refl

-- after 110, of a schedule of 3 ones: a 0 may stand; a 2 may not; after 1 0 no 0 may; after 1110 no 1 may
goes_on_lem : goes_on 3 2 1 0 ≡ true
goes_on_lem = refl

no-beat : goes_on 3 2 1 2 ≡ false
no-beat = refl

nothing-in-hand : goes_on 3 1 1 0 ≡ false
nothing-in-hand = refl

one-too-many : goes_on 3 3 1 1 ≡ false
one-too-many = refl

-- 11010 is whole and has the number 1, and no other; 1001 is not whole
ranks-1 : Ranks 3 2 (1 ∷ 1 ∷ 0 ∷ 1 ∷ 0 ∷ []) true 1
unfolding N every first_from ones zeros is_schedule shift found has01 moves_next next steps changed
ranks-1 = ((omega arith, omega arith), fits-11010, refl)

ranks-not-2 : Ranks 3 2 (1 ∷ 1 ∷ 0 ∷ 1 ∷ 0 ∷ []) true 2 → ⊥
unfolding N every first_from ones zeros is_schedule shift found has01 moves_next next steps changed
ranks-not-2 p = let clash : ◌≡◌ {A = ℕ} 2 1 = p.2 in omega arith

ranks-whole : Ranks 3 2 (1 ∷ 1 ∷ 0 ∷ 1 ∷ 0 ∷ []) false 1 → ⊥
ranks-whole f = f (omega arith, omega arith) fits-11010

ranks-1001 : Ranks 2 2 (1 ∷ 0 ∷ 0 ∷ 1 ∷ []) false 0
ranks-1001 a p = ahead-1001 p

ranks-not-1001 : (n : ℕ) → Ranks 2 2 (1 ∷ 0 ∷ 0 ∷ 1 ∷ []) true n → ⊥
ranks-not-1001 n p = ahead-1001 p.1

-- counting starts at the form after all ones and then the zeros
start-3-2 : start 3 2 ≡ 1 ∷ 0 ∷ 1 ∷ 1 ∷ 0 ∷ []
unfolding next has01 found first_from zeros shift
start-3-2 = refl

start-1-1 : start 1 1 ≡ 1 ∷ 0 ∷ []
unfolding next has01 found first_from zeros shift
start-1-1 = refl

-- what the call answers: the number of 11010, and 1001, which has nothing in hand at place 2
answers-1 : number_answer 3 2 (1 ∷ 1 ∷ 0 ∷ 1 ∷ 0 ∷ []) ≡ Ok 1
unfolding N every first_from ones zeros is_schedule shift found has01 moves_next next steps changed
answers-1 = refl

answers-5 : number_answer 2 2 (1 ∷ 0 ∷ 0 ∷ 1 ∷ []) ≡ Err (EmptyHand 2)
unfolding first_from ones zeros
answers-5 = refl
