-- The definitions of specs/ on small inputs, by computing them: the explanations of the manual's forms [X3], schedules
-- of which they do not hold, and what applying them gives. Assumes nothing.
use mathlib.Core.List.{List, [], ◌∷◌}
use mathlib.Core.Logic.{inl, inr}
use mathlib.Core.Path.{◌≡◌, refl, ap}
use Prim.Native.Nat.{ℕ, zero, suc, ◌<◌}
use native.Mathlib.Omega.{arith}
use lib.ListN.{length, get_or}
use Rattle.std.proofs.Common.{Ok, Err}
use Rattle.bounded.specs.Bounded.{every, first_from}
use Rattle.refusal.specs.declared.Refusal.TheVariants.{WrongLength}
use Rattle.triangle.specs.Count.{N}
use Rattle.schedule.specs.Meaning.{First}
use Rattle.schedule.specs.Schedule.{ones, zeros, Schedule, is_schedule}
use Rattle.schedule.proofs.Theorems.{true-is_schedule}
use Rattle.circle.specs.Plan.{Form}
use Rattle.circle.specs.Step.{shift, found, has01, moves_next, next}
use Rattle.reason.specs.declared.Places.{Places}
use Rattle.reason.specs.declared.Reason.{Reason}
use Rattle.reason.specs.Explanation.{
  Explanation,
  says,
  differing_from,
  differing,
  explanation_of,
  places_of,
  values_of,
}
use Rattle.reason.specs.Answers.{verdict, values, unless-refused, explained, numbers}
use Rattle.reason.specs.Meaning.{
  OneForm,
  Rises,
  MayMove,
  Holds,
  only-form,
  found-one,
  Among,
  Ascending,
  Changes,
  Explains,
  moving,
  changing,
  Reasons,
}
use Rattle.reason.proofs.Theorems.{explains, explains-one, reasons}

-- the forms of (3,2) in their order, and that of (1,1)
abbrev b11100 : List ℕ
b11100 = 1 ∷ 1 ∷ 1 ∷ 0 ∷ 0 ∷ []

abbrev b10110 : List ℕ
b10110 = 1 ∷ 0 ∷ 1 ∷ 1 ∷ 0 ∷ []

abbrev b11010 : List ℕ
b11010 = 1 ∷ 1 ∷ 0 ∷ 1 ∷ 0 ∷ []

abbrev b10101 : List ℕ
b10101 = 1 ∷ 0 ∷ 1 ∷ 0 ∷ 1 ∷ []

abbrev b11001 : List ℕ
b11001 = 1 ∷ 1 ∷ 0 ∷ 0 ∷ 1 ∷ []

abbrev b10 : List ℕ
b10 = 1 ∷ 0 ∷ []

-- 11100: 2 - 4 1 3
last-moves : explanation_of b11100 ≡ says 2 [] (4 ∷ []) (1 ∷ 3 ∷ [])
unfolding explanation_of N ones zeros has01 moves_next found next shift every first_from is_schedule differing_from
last-moves = refl

-- 10110, where both shifts give the same form: 3 2 3 1 2
next-moves-1 : explanation_of b10110 ≡ says 3 (2 ∷ []) (3 ∷ []) (1 ∷ 2 ∷ [])
unfolding explanation_of N ones zeros has01 moves_next found next shift every first_from is_schedule differing_from
next-moves-1 = refl

-- 11010: 3 3 4 1 2 3 4
next-moves-0 : explanation_of b11010 ≡ says 3 (3 ∷ []) (4 ∷ []) (1 ∷ 2 ∷ 3 ∷ 4 ∷ [])
unfolding explanation_of N ones zeros has01 moves_next found next shift every first_from is_schedule differing_from
next-moves-0 = refl

-- 10101, where the next beat may not move: 4 2 2 1 2
found-moves : explanation_of b10101 ≡ says 4 (2 ∷ []) (2 ∷ []) (1 ∷ 2 ∷ [])
unfolding explanation_of N ones zeros has01 moves_next found next shift every first_from is_schedule differing_from
found-moves = refl

-- 11001, where there is none: 4 4 4 2 4
found-closes : explanation_of b11001 ≡ says 4 (4 ∷ []) (4 ∷ []) (2 ∷ 4 ∷ [])
unfolding explanation_of N ones zeros has01 moves_next found next shift every first_from is_schedule differing_from
found-closes = refl

-- 10, 111 and the empty schedule: 1 - - -
alone-10 : explanation_of b10 ≡ says 1 [] [] []
unfolding explanation_of N ones zeros
alone-10 = refl

alone-111 : explanation_of (1 ∷ 1 ∷ 1 ∷ []) ≡ says 1 [] [] []
unfolding explanation_of N ones zeros
alone-111 = refl

alone-none : explanation_of [] ≡ says 1 [] [] []
unfolding explanation_of N ones zeros
alone-none = refl

-- the parts of an explanation
said-case : (says 1 [] [] []).case ≡ 1
said-case = refl

said-moved : (says 2 [] (4 ∷ []) (1 ∷ 3 ∷ [])).moved ≡ 4 ∷ []
said-moved = refl

-- where 11100 and 10110 differ, and 10 from itself
differing-two : differing b11100 b10110 ≡ 1 ∷ 3 ∷ []
unfolding differing_from
differing-two = refl

differing-none : differing b10 b10 ≡ []
unfolding differing_from
differing-none = refl

from-7 : differing_from 7 b11100 b10110 ≡ 8 ∷ 10 ∷ []
unfolding differing_from
from-7 = refl

from-0 : differing_from 0 b10 b10 ≡ []
unfolding differing_from
from-0 = refl

-- what the cases of the enums say
two-places : places_of (Places.Two 1 3) ≡ 1 ∷ 3 ∷ []
two-places = refl

four-places : places_of (Places.Four 1 2 3 4) ≡ 1 ∷ 2 ∷ 3 ∷ 4 ∷ []
four-places = refl

one-said : values_of Reason.OneForm ≡ says 1 [] [] []
one-said = refl

last-said : values_of (Reason.LastMoves 4 (Places.Two 1 3)) ≡ says 2 [] (4 ∷ []) (1 ∷ 3 ∷ [])
last-said = refl

next-said : values_of (Reason.NextMoves 3 4 (Places.Four 1 2 3 4)) ≡ says 3 (3 ∷ []) (4 ∷ []) (1 ∷ 2 ∷ 3 ∷ 4 ∷ [])
next-said = refl

found-said : values_of (Reason.FoundMoves 2 (Places.Two 1 2)) ≡ says 4 (2 ∷ []) (2 ∷ []) (1 ∷ 2 ∷ [])
found-said = refl

-- what a call answers: 10 is explained, and lent for (2,1) it is refused
told-verdict : verdict (Ok Reason.OneForm) ≡ Ok tt
told-verdict = refl

refused-verdict : verdict (Err WrongLength) ≡ Err WrongLength
refused-verdict = refl

told-values : values (Ok Reason.OneForm) ≡ says 1 [] [] []
told-values = refl

refused-values : values (Err WrongLength) ≡ says 0 [] [] []
refused-values = refl

unless-accepted : unless-refused (Ok tt) (says 1 [] [] []) ≡ says 1 [] [] []
unless-accepted = refl

unless-wrong : unless-refused (Err WrongLength) (says 1 [] [] []) ≡ says 0 [] [] []
unless-wrong = refl

explained-10 : explained 1 1 b10 ≡ says 1 [] [] []
unfolding explanation_of N ones zeros first_from
explained-10 = refl

explained-short : explained 2 1 b10 ≡ says 0 [] [] []
explained-short = refl

numbers-1 : numbers (says 1 [] [] []) ≡ 1 ∷ []
numbers-1 = refl

numbers-3 : numbers (says 3 (2 ∷ []) (3 ∷ []) (1 ∷ 2 ∷ [])) ≡ 3 ∷ 2 ∷ 3 ∷ 1 ∷ 2 ∷ []
numbers-3 = refl

-- 10 is the only form of (1,1); 101 is another of (2,1) than 110
form-10 : Form b10
unfolding is_schedule every ones zeros
form-10 = true-is_schedule 1 1 b10 refl

schedule-110 : Schedule 2 1 (1 ∷ 1 ∷ 0 ∷ [])
unfolding is_schedule every ones zeros
schedule-110 = true-is_schedule 2 1 (1 ∷ 1 ∷ 0 ∷ []) refl

other-form : OneForm (1 ∷ 0 ∷ 1 ∷ []) → ⊥
unfolding ones zeros
other-form one = omega (arith, ap (λ (l : List ℕ). get_or l 1 0) (one (1 ∷ 1 ∷ 0 ∷ []) schedule-110))

only-10 : OneForm b10
unfolding explanation_of N ones zeros
only-10 = (reasons form-10 (explains form-10)).one.0 refl

-- in 101 a 0 is followed by 1 at place 1 and nowhere else
rises-1 : Rises (1 ∷ 0 ∷ 1 ∷ []) 1
rises-1 = (refl, refl)

rises-0 : Rises (1 ∷ 0 ∷ 1 ∷ []) 0 → ⊥
rises-0 p = omega (arith, p.0)

rises-2 : Rises (1 ∷ 0 ∷ 1 ∷ []) 2 → ⊥
rises-2 p = omega (arith, p.0)

-- the last beat of 11010 may move to the second place, and place 5 is past the end; the beat of 10101 at place 3 may
-- not: 10011 is no schedule
may-move-4 : MayMove b11010 4
unfolding is_schedule every ones zeros shift
may-move-4 = (omega arith, true-is_schedule 3 2 (1 ∷ 0 ∷ 1 ∷ 0 ∷ 1 ∷ []) refl)

may-move-5 : MayMove b11010 5 → ⊥
may-move-5 p = omega (arith, p.0)

may-move-3 : MayMove b10101 3 → ⊥
unfolding ones zeros shift
may-move-3 p = omega (arith, p.1.ahead 3 (omega arith))

-- the reason of 10 and of no other form; the found 1 of 101 moves because there is no beat after it
holds-10 : Holds b10 1 [] []
holds-10 = only-form only-10

first-101 : First (Rises (1 ∷ 0 ∷ 1 ∷ [])) 3 1
first-101 = record { inside = omega arith; holds = rises-1; before = none }
  where
    none : (j : ℕ) → j < 1 → Rises (1 ∷ 0 ∷ 1 ∷ []) j → ⊥
    none zero h p = rises-0 p
    none (suc j) h p = omega arith

holds-101 : Holds (1 ∷ 0 ∷ 1 ∷ []) 4 (2 ∷ []) (2 ∷ [])
holds-101 = found-one other-form first-101 (λ p. omega (arith, p.0))

holds-101-not : Holds (1 ∷ 0 ∷ 1 ∷ []) 1 [] [] → ⊥
holds-101-not (only-form one) = other-form one

-- places: 3 is one of 1 and 3, 2 is not; they ascend, and 3, 1 do not
among-3 : Among (1 ∷ 3 ∷ []) 3
among-3 = inr (inl refl)

among-2 : Among (1 ∷ 3 ∷ []) 2 → ⊥
among-2 (inl e) = omega arith
among-2 (inr (inl e)) = omega arith
among-2 (inr (inr e)) = e

ascending-1-3 : Ascending 0 (1 ∷ 3 ∷ [])
ascending-1-3 = (omega arith, (omega arith, tt))

ascending-3-1 : Ascending 0 (3 ∷ 1 ∷ []) → ⊥
ascending-3-1 p = omega (arith, p.1.0)

-- 10 does not change, and no place of it does
changes-none : Changes b10 b10 []
unfolding next explanation_of has01 N found zeros first_from ones shift
changes-none = (explains form-10).changes

changes-0 : Changes b10 b10 (0 ∷ []) → ⊥
changes-0 p = ((p.just 0).0 (inl refl)).1 refl

changes-down : Changes b11100 b10110 (3 ∷ 1 ∷ []) → ⊥
changes-down p = ascending-3-1 p.ascending

-- 10 has the one explanation; it does not say that the last beat moves, nor that a place changes
explains-10 : Explains b10 (says 1 [] [] [])
unfolding explanation_of N ones zeros
explains-10 = explains form-10

explains-last : Explains b10 (says 2 [] (1 ∷ []) []) → ⊥
unfolding explanation_of N ones zeros
explains-last p = omega (arith, ap (λ (e : Explanation). e.case) (explains-one form-10 p))

explains-place : Explains b10 (says 1 [] [] (0 ∷ [])) → ⊥
unfolding explanation_of N ones zeros
explains-place p = omega (arith, ap (λ (e : Explanation). length e.changed) (explains-one form-10 p))

-- what applying gives: 11010 goes to 10101, and 10 stays
moving-4 : moving (4 ∷ []) b11010 ≡ b10101
unfolding shift
moving-4 = refl

moving-none : moving [] b10 ≡ b10
moving-none = refl

changing-four : changing (1 ∷ 2 ∷ 3 ∷ 4 ∷ []) b11010 ≡ b10101
unfolding changing
changing-four = refl

changing-none : changing [] b10 ≡ b10
unfolding changing
changing-none = refl

-- the case of 10 is 1, and not 2
reasons-10 : Reasons b10 1
unfolding explanation_of N ones zeros
reasons-10 = reasons form-10 (explains form-10)

reasons-10-2 : Reasons b10 2 → ⊥
reasons-10-2 p = (p.two.0 refl).0 only-10
