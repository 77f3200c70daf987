-- The definitions of specs/ on small inputs, by computing them: the manual, "Easy to get wrong" and "Examples on
-- both sides" [E5]; for each predicate and test one that fits and one refused for each part. The examples marked P are
-- in the crate `demands`. Assumes nothing.
use mathlib.Core.Bool.{true, false}
use mathlib.Core.List.{List, [], ◌∷◌}
use mathlib.Core.Path.{◌≡◌, refl, ap, sym, ◌∙◌}
use Prim.Native.Nat.{ℕ, zero, suc}
use native.Mathlib.Omega.{arith}
use lib.ListN.{get_or}
use Rattle.std.proofs.Common.{Ok, Err}
use Rattle.bounded.specs.Bounded.{every, first_from}
use Rattle.refusal.specs.declared.Refusal.TheVariants.{RunTooLong, EmptyHand}
use Rattle.refusal.specs.Rows.{judge}
use Rattle.triangle.specs.Count.{N}
use Rattle.schedule.specs.Schedule.{ones, zeros, Schedule, is_schedule}
use Rattle.schedule.proofs.Hand.{plays, plays-schedule}
use Rattle.circle.specs.declared.Move.{Move}
use Rattle.circle.specs.Step.{shift, is01, found, has01, moves_next, next, top}
use Rattle.circle.specs.Walk.{steps, changed, worked, is_dip, dips, OneWay}
use Rattle.circle.specs.Back.{unshift, others, after_found, before_found, fits, previous}
use Rattle.circle.specs.Back.{Precedes, steps_back, worked_back}
use Rattle.circle.specs.Found.{ups, downs, Found, flat, rising}
use Rattle.circle.specs.Plan.{Form, stored, applied, changes, Inside, Leads, Plans}
use Rattle.circle.specs.Way.{Goes, goes_on}
use Rattle.circle.specs.Answers.{run_rows, next_answer, next_left, run_answer, run_left}
use Rattle.circle.proofs.Stores.{found_one}
use Rattle.circle.proofs.Circle.{steps-schedule}
use Rattle.circle.proofs.Theorems.{circle}
use Rattle.circle.proofs.Backwards.{previous-precedes}

-- the third and the fourth prefix shift of 11010: the symbol goes to position 2 [S1]
shift-3 : shift 3 (1 ∷ 1 ∷ 0 ∷ 1 ∷ 0 ∷ []) ≡ 1 ∷ 0 ∷ 1 ∷ 1 ∷ 0 ∷ []
unfolding shift
shift-3 = refl

shift-4 : shift 4 (1 ∷ 1 ∷ 0 ∷ 1 ∷ 0 ∷ []) ≡ 1 ∷ 1 ∷ 1 ∷ 0 ∷ 0 ∷ []
unfolding shift
shift-4 = refl

-- 11001 has no sixth beat: the found 1, at position 5, moves [E5]
last-position : next (1 ∷ 1 ∷ 0 ∷ 0 ∷ 1 ∷ []) ≡ 1 ∷ 1 ∷ 1 ∷ 0 ∷ 0 ∷ []
unfolding shift found has01 moves_next next first_from every ones zeros is_schedule
last-position = refl

-- in 10101 the 0 after the found 1 may not move: 10011 is no schedule
not-10011 : moves_next (1 ∷ 0 ∷ 1 ∷ 0 ∷ 1 ∷ []) ≡ false
unfolding shift found has01 moves_next next first_from every ones zeros is_schedule
not-10011 = refl

-- [E5]
next-10101 : next (1 ∷ 0 ∷ 1 ∷ 0 ∷ 1 ∷ []) ≡ 1 ∷ 1 ∷ 0 ∷ 0 ∷ 1 ∷ []
unfolding shift found has01 moves_next next first_from every ones zeros is_schedule
next-10101 = refl

-- in 10110 the 1 after it may: 11010 is one
moves-10110 : moves_next (1 ∷ 0 ∷ 1 ∷ 1 ∷ 0 ∷ []) ≡ true
unfolding shift found has01 moves_next next first_from every ones zeros is_schedule
moves-10110 = refl

no-01 : has01 (1 ∷ 1 ∷ 0 ∷ 0 ∷ []) ≡ false
unfolding found has01 first_from
no-01 = refl

some-01 : has01 (1 ∷ 0 ∷ 1 ∷ 1 ∷ 0 ∷ []) ≡ true
unfolding found has01 first_from
some-01 = refl

-- its place is 1, and the position of its 1 is 3; in 1100 that would be past the end
is-01 : is01 (1 ∷ 0 ∷ 1 ∷ 1 ∷ 0 ∷ []) 1 ≡ true
is-01 = refl

is-10 : is01 (1 ∷ 0 ∷ 1 ∷ 1 ∷ 0 ∷ []) 0 ≡ false
is-10 = refl

is-11 : is01 (1 ∷ 0 ∷ 1 ∷ 1 ∷ 0 ∷ []) 2 ≡ false
is-11 = refl

found-3 : found (1 ∷ 0 ∷ 1 ∷ 1 ∷ 0 ∷ []) ≡ 3
unfolding found first_from
found-3 = refl

found-past : found (1 ∷ 1 ∷ 0 ∷ 0 ∷ []) ≡ 6
unfolding found first_from
found-past = refl

top-3-2 : top 3 2 ≡ 1 ∷ 1 ∷ 1 ∷ 0 ∷ 0 ∷ []
top-3-2 = refl

top-0-1 : top 0 1 ≡ 0 ∷ []
top-0-1 = refl

-- 10110 sets down at its second beat, but is the form after 11100; 10101 is not
not-dip : is_dip 3 2 (1 ∷ 0 ∷ 1 ∷ 1 ∷ 0 ∷ []) ≡ false
unfolding shift found has01 moves_next next first_from every ones zeros is_schedule changed is_dip
not-dip = refl

dip-10101 : is_dip 3 2 (1 ∷ 0 ∷ 1 ∷ 0 ∷ 1 ∷ []) ≡ true
unfolding shift found has01 moves_next next first_from every ones zeros is_schedule changed is_dip
dip-10101 = refl

-- a run that makes its first step and only counts the rest leaves another form after two steps [P6b]
first-step-only : steps 2 (1 ∷ 1 ∷ 1 ∷ 0 ∷ 0 ∷ []) ≡ steps 1 (1 ∷ 1 ∷ 1 ∷ 0 ∷ 0 ∷ []) → ⊥
unfolding shift found has01 moves_next next first_from every ones zeros is_schedule steps
first-step-only e = let clash : ◌≡◌ {A = ℕ} 1 0 = ap (λ (l : List ℕ). get_or l 1 0) e in omega arith

-- and one that reports twice its length misses the third step's two beats more [P6c]
twice-its-length : worked 3 (1 ∷ 1 ∷ 1 ∷ 0 ∷ 0 ∷ []) ≡ 8
unfolding shift found has01 moves_next next first_from every ones zeros is_schedule steps changed worked
twice-its-length = refl

-- the third step from 11100 changes four beats, and arrives at the first dip
no_steps : steps 0 (1 ∷ 1 ∷ 1 ∷ 0 ∷ 0 ∷ []) ≡ 1 ∷ 1 ∷ 1 ∷ 0 ∷ 0 ∷ []
unfolding steps
no_steps = refl

two_steps : steps 2 (1 ∷ 1 ∷ 1 ∷ 0 ∷ 0 ∷ []) ≡ 1 ∷ 1 ∷ 0 ∷ 1 ∷ 0 ∷ []
unfolding shift found has01 moves_next next first_from every ones zeros is_schedule steps
two_steps = refl

changed-4 : changed (1 ∷ 1 ∷ 0 ∷ 1 ∷ 0 ∷ []) (1 ∷ 0 ∷ 1 ∷ 0 ∷ 1 ∷ []) ≡ 4
unfolding changed
changed-4 = refl

changed-0 : changed (1 ∷ 0 ∷ []) (1 ∷ 0 ∷ []) ≡ 0
unfolding changed
changed-0 = refl

worked-2 : worked 2 (1 ∷ 1 ∷ 1 ∷ 0 ∷ 0 ∷ []) ≡ 4
unfolding shift found has01 moves_next next first_from every ones zeros is_schedule steps changed worked
worked-2 = refl

no-dips : dips 3 2 2 (1 ∷ 1 ∷ 1 ∷ 0 ∷ 0 ∷ []) ≡ 0
unfolding shift found has01 moves_next next first_from every ones zeros is_schedule steps changed is_dip dips
no-dips = refl

one-dip : dips 3 2 3 (1 ∷ 1 ∷ 1 ∷ 0 ∷ 0 ∷ []) ≡ 1
unfolding shift found has01 moves_next next first_from every ones zeros is_schedule steps changed is_dip dips
one-dip = refl

-- the longest run, and one step more
run-65535 : judge (run_rows 1 1 (1 ∷ 0 ∷ []) 65535) ≡ Ok tt
unfolding first_from ones zeros
run-65535 = refl

run-65536 : judge (run_rows 1 1 (1 ∷ 0 ∷ []) 65536) ≡ Err RunTooLong
unfolding first_from ones zeros
run-65536 = refl

-- 11010 is a schedule of its counts, and 1001 is not
form-11010 : Form (1 ∷ 1 ∷ 0 ∷ 1 ∷ 0 ∷ [])
unfolding plays
form-11010 = plays-schedule refl refl refl

not-form-1001 : Form (1 ∷ 0 ∷ 0 ∷ 1 ∷ []) → ⊥
unfolding ones zeros
not-form-1001 p = omega (arith, p.ahead 3 (omega arith))

-- the moves from 11100 and from 11010
applied-swap : applied (Move.Swaps 3 1) (1 ∷ 1 ∷ 1 ∷ 0 ∷ 0 ∷ []) ≡ 1 ∷ 0 ∷ 1 ∷ 1 ∷ 0 ∷ []
applied-swap = refl

applied-dip : applied (Move.Dips 2 3) (1 ∷ 1 ∷ 0 ∷ 1 ∷ 0 ∷ []) ≡ 1 ∷ 0 ∷ 1 ∷ 0 ∷ 1 ∷ []
applied-dip = refl

changes-2 : changes (Move.Swaps 3 1) ≡ 2
changes-2 = refl

changes-4 : changes (Move.Dips 2 3) ≡ 4
changes-4 = refl

-- each place of a swap and of a dip has to be inside; to stay asks for none
inside-swap : Inside (Move.Swaps 3 4) 5
inside-swap = (omega arith, omega arith)

swap-outside : Inside (Move.Swaps 5 1) 5 → ⊥
swap-outside p = omega (arith, p.0)

swap-from-outside : Inside (Move.Swaps 3 5) 5 → ⊥
swap-from-outside p = omega (arith, p.1)

inside-dip : Inside (Move.Dips 2 3) 5
inside-dip = (omega arith, omega arith, omega arith)

dip-outside : Inside (Move.Dips 5 3) 5 → ⊥
dip-outside p = omega (arith, p.0)

dip-no-second : Inside (Move.Dips 0 0) 1 → ⊥
dip-no-second p = omega (arith, p.1)

dip-behind-last : Inside (Move.Dips 2 4) 5 → ⊥
dip-behind-last p = omega (arith, p.2)

-- the move from 11010; one that makes 10001; one from 11100 that makes the next form and miscounts; one past the end
plans-11010 : Plans (1 ∷ 1 ∷ 0 ∷ 1 ∷ 0 ∷ []) (Move.Dips 2 3)
unfolding shift found has01 moves_next next first_from every ones zeros is_schedule changed
plans-11010 = record { inside = inside-dip; makes = refl; counts = refl }

makes-10001 : Plans (1 ∷ 1 ∷ 0 ∷ 1 ∷ 0 ∷ []) (Move.Dips 3 3) → ⊥
unfolding shift found has01 moves_next next first_from every ones zeros is_schedule
makes-10001 p = let clash : ◌≡◌ {A = ℕ} 0 1 = ap (λ (l : List ℕ). get_or l 2 0) p.makes in omega arith

counts-4 : Plans (1 ∷ 1 ∷ 1 ∷ 0 ∷ 0 ∷ []) (Move.Dips 3 1) → ⊥
unfolding shift found has01 moves_next next first_from every ones zeros is_schedule changed
counts-4 p = omega (arith, p.counts)

past_the_end : Plans (1 ∷ 1 ∷ []) (Move.Swaps 2 1) → ⊥
past_the_end p = omega (arith, p.inside.0)

-- one way from 110 to 101 and none to 111; and a form that follows itself has five ways to
-- itself in five steps, not one
schedule-110 : Schedule 2 1 (1 ∷ 1 ∷ 0 ∷ [])
unfolding ones zeros plays
schedule-110 = plays-schedule refl refl refl

schedule-101 : Schedule 2 1 (1 ∷ 0 ∷ 1 ∷ [])
unfolding ones zeros plays
schedule-101 = plays-schedule refl refl refl

way-to-101 : OneWay steps 2 1 (1 ∷ 1 ∷ 0 ∷ []) (1 ∷ 0 ∷ 1 ∷ [])
way-to-101 = circle schedule-110 schedule-101

no-way-to-111 : OneWay steps 2 1 (1 ∷ 1 ∷ 0 ∷ []) (1 ∷ 1 ∷ 1 ∷ []) → ⊥
unfolding ones
no-way-to-111 p = omega (arith, (steps-schedule p.count schedule-110).taken, ap ones p.leads)

five-ways : OneWay steps 3 2 (1 ∷ 0 ∷ []) (1 ∷ 0 ∷ []) → ⊥
unfolding N shift found has01 moves_next next first_from every ones zeros is_schedule steps
five-ways p = omega (arith, p.only 1 (omega arith) (omega arith) refl, p.only 2 (omega arith) (omega arith) refl)

-- what the calls answer and leave: 11100, two beats on its way to 10110, and 1001, which has nothing in hand at place 2
next-answers-2 : next_answer 3 2 (1 ∷ 1 ∷ 1 ∷ 0 ∷ 0 ∷ []) ≡ Ok 2
unfolding changed every first_from ones zeros is_schedule shift found has01 moves_next next
next-answers-2 = refl

next-refuses-5 : next_answer 2 2 (1 ∷ 0 ∷ 0 ∷ 1 ∷ []) ≡ Err (EmptyHand 2)
unfolding first_from ones zeros
next-refuses-5 = refl

next-leaves-10110 : next_left 3 2 (1 ∷ 1 ∷ 1 ∷ 0 ∷ 0 ∷ []) ≡ 1 ∷ 0 ∷ 1 ∷ 1 ∷ 0 ∷ []
unfolding every first_from ones zeros is_schedule shift found has01 moves_next next
next-leaves-10110 = refl

next-leaves-1001 : next_left 2 2 (1 ∷ 0 ∷ 0 ∷ 1 ∷ []) ≡ 1 ∷ 0 ∷ 0 ∷ 1 ∷ []
unfolding first_from ones zeros
next-leaves-1001 = refl

-- two steps from 11100, and one step too many for a run
run-answers-4 : run_answer 3 2 (1 ∷ 1 ∷ 1 ∷ 0 ∷ 0 ∷ []) 2 ≡ Ok 4
unfolding worked steps changed every first_from ones zeros is_schedule shift found has01 moves_next next
run-answers-4 = refl

run-refuses-13 : run_answer 1 0 (1 ∷ []) 65536 ≡ Err RunTooLong
unfolding first_from ones zeros
run-refuses-13 = refl

run-leaves-11010 : run_left 3 2 (1 ∷ 1 ∷ 1 ∷ 0 ∷ 0 ∷ []) 2 ≡ 1 ∷ 1 ∷ 0 ∷ 1 ∷ 0 ∷ []
unfolding steps every first_from ones zeros is_schedule shift found has01 moves_next next
run-leaves-11010 = refl

run-leaves-1 : run_left 1 0 (1 ∷ []) 65536 ≡ 1 ∷ []
unfolding first_from ones zeros
run-leaves-1 = refl

-- the fourth prefix shift of 11010 undone, and the symbol left where it is
unshift-4 : unshift 4 (1 ∷ 1 ∷ 1 ∷ 0 ∷ 0 ∷ []) ≡ 1 ∷ 1 ∷ 0 ∷ 1 ∷ 0 ∷ []
unfolding unshift
unshift-4 = refl

unshift-2 : unshift 2 (1 ∷ 0 ∷ 1 ∷ []) ≡ 1 ∷ 0 ∷ 1 ∷ []
unfolding unshift
unshift-2 = refl

-- without its second symbol 10101 is 1101, whose found 1 is at 4; 11100 is 1100, which has none
others-1101 : others (1 ∷ 0 ∷ 1 ∷ 0 ∷ 1 ∷ []) ≡ 1 ∷ 1 ∷ 0 ∷ 1 ∷ []
others-1101 = refl

others-1100 : others (1 ∷ 1 ∷ 1 ∷ 0 ∷ 0 ∷ []) ≡ 1 ∷ 1 ∷ 0 ∷ 0 ∷ []
others-1100 = refl

after-5 : after_found (1 ∷ 0 ∷ 1 ∷ 0 ∷ 1 ∷ []) ≡ 5
unfolding after_found found has01 first_from
after-5 = refl

after_last : after_found (1 ∷ 0 ∷ 1 ∷ []) ≡ 3
unfolding after_found found has01 first_from
after_last = refl

before-4 : before_found (1 ∷ 1 ∷ 0 ∷ 0 ∷ 1 ∷ []) ≡ 4
unfolding before_found found has01 first_from
before-4 = refl

before_last : before_found (1 ∷ 1 ∷ 1 ∷ 0 ∷ 0 ∷ []) ≡ 5
unfolding before_found found has01 first_from
before_last = refl

-- 11100 may come of 11001, but 1100 not of 1001
fits-11001 : fits (1 ∷ 1 ∷ 1 ∷ 0 ∷ 0 ∷ []) ≡ true
unfolding unshift before_found fits found has01 first_from every ones zeros is_schedule
fits-11001 = refl

not-fits-1001 : fits (1 ∷ 1 ∷ 0 ∷ 0 ∷ []) ≡ false
unfolding unshift before_found fits found has01 first_from every ones zeros is_schedule
not-fits-1001 = refl

-- each rule of the step back: a 0 goes back to the end, or after the found 1; a 1 to the end, before the found 1, or to
-- one position earlier; and the three that come before themselves
previous-10110 : previous (1 ∷ 0 ∷ 1 ∷ 1 ∷ 0 ∷ []) ≡ 1 ∷ 1 ∷ 1 ∷ 0 ∷ 0 ∷ []
unfolding previous unshift after_found before_found fits found has01 first_from every ones zeros is_schedule
previous-10110 = refl

previous-10101 : previous (1 ∷ 0 ∷ 1 ∷ 0 ∷ 1 ∷ []) ≡ 1 ∷ 1 ∷ 0 ∷ 1 ∷ 0 ∷ []
unfolding previous unshift after_found before_found fits found has01 first_from every ones zeros is_schedule
previous-10101 = refl

previous-11100 : previous (1 ∷ 1 ∷ 1 ∷ 0 ∷ 0 ∷ []) ≡ 1 ∷ 1 ∷ 0 ∷ 0 ∷ 1 ∷ []
unfolding previous unshift after_found before_found fits found has01 first_from every ones zeros is_schedule
previous-11100 = refl

previous-11010 : previous (1 ∷ 1 ∷ 0 ∷ 1 ∷ 0 ∷ []) ≡ 1 ∷ 0 ∷ 1 ∷ 1 ∷ 0 ∷ []
unfolding previous unshift after_found before_found fits found has01 first_from every ones zeros is_schedule
previous-11010 = refl

previous-11001 : previous (1 ∷ 1 ∷ 0 ∷ 0 ∷ 1 ∷ []) ≡ 1 ∷ 0 ∷ 1 ∷ 0 ∷ 1 ∷ []
unfolding previous unshift after_found before_found fits found has01 first_from every ones zeros is_schedule
previous-11001 = refl

previous-1100 : previous (1 ∷ 1 ∷ 0 ∷ 0 ∷ []) ≡ 1 ∷ 0 ∷ 1 ∷ 0 ∷ []
unfolding previous unshift after_found before_found fits found has01 first_from every ones zeros is_schedule
previous-1100 = refl

previous-10 : previous (1 ∷ 0 ∷ []) ≡ 1 ∷ 0 ∷ []
unfolding previous unshift after_found before_found fits found has01 first_from every ones zeros is_schedule
previous-10 = refl

previous-1111 : previous (1 ∷ 1 ∷ 1 ∷ 1 ∷ []) ≡ 1 ∷ 1 ∷ 1 ∷ 1 ∷ []
unfolding previous zeros
previous-1111 = refl

previous-empty : previous [] ≡ []
unfolding previous zeros
previous-empty = refl

-- 101 comes before 110; 111 is no schedule of (2,1), and 110 leads to 101
precedes-110 : Precedes 2 1 (1 ∷ 0 ∷ 1 ∷ []) (1 ∷ 1 ∷ 0 ∷ [])
unfolding previous unshift after_found before_found fits found has01 first_from every ones zeros is_schedule
precedes-110 = previous-precedes schedule-110

not-precedes-111 : Precedes 2 1 (1 ∷ 1 ∷ 1 ∷ []) (1 ∷ 1 ∷ 0 ∷ []) → ⊥
unfolding ones
not-precedes-111 p = omega (arith, p.form.taken)

not-precedes-itself : Precedes 2 1 (1 ∷ 1 ∷ 0 ∷ []) (1 ∷ 1 ∷ 0 ∷ []) → ⊥
unfolding shift found has01 moves_next next first_from every ones zeros is_schedule
not-precedes-itself p = let clash : ◌≡◌ {A = ℕ} 0 1 = ap (λ (l : List ℕ). get_or l 1 0) p.leads in omega arith

-- three steps back from 11100, to 11001, 10101 and 11010; the steps back from 10110 and 10101 change two and four beats
no-steps-back : steps_back 0 (1 ∷ 1 ∷ 1 ∷ 0 ∷ 0 ∷ []) ≡ 1 ∷ 1 ∷ 1 ∷ 0 ∷ 0 ∷ []
unfolding steps_back
no-steps-back = refl

three-steps-back : steps_back 3 (1 ∷ 1 ∷ 1 ∷ 0 ∷ 0 ∷ []) ≡ 1 ∷ 1 ∷ 0 ∷ 1 ∷ 0 ∷ []
unfolding previous unshift after_found before_found fits found has01 first_from every ones zeros is_schedule steps_back
three-steps-back = refl

two-worked-back : worked_back 1 (1 ∷ 0 ∷ 1 ∷ 1 ∷ 0 ∷ []) ≡ 2
unfolding previous unshift after_found found has01 first_from zeros steps_back changed worked_back
two-worked-back = refl

four-worked-back : worked_back 1 (1 ∷ 0 ∷ 1 ∷ 0 ∷ 1 ∷ []) ≡ 4
unfolding previous unshift after_found found has01 first_from zeros steps_back changed worked_back
four-worked-back = refl

none-worked-back : worked_back 0 (1 ∷ 0 ∷ 1 ∷ 0 ∷ 1 ∷ []) ≡ 0
unfolding worked_back
none-worked-back = refl

-- ones and zeros in front, and none
ups-two : ups 2 (0 ∷ []) ≡ 1 ∷ 1 ∷ 0 ∷ []
ups-two = refl

ups-none : ups 0 (0 ∷ []) ≡ 0 ∷ []
ups-none = refl

downs-two : downs 2 (1 ∷ []) ≡ 0 ∷ 0 ∷ 1 ∷ []
downs-two = refl

downs-none : downs 0 (1 ∷ []) ≡ 1 ∷ []
downs-none = refl

-- 11010 has its leftmost 0 at place 2, and at no other
found-2 : Found (1 ∷ 1 ∷ 0 ∷ 1 ∷ 0 ∷ []) 2 3
found-2 = rising 1 0 (0 ∷ []) refl refl refl

found-not-1 : Found (1 ∷ 1 ∷ 0 ∷ 1 ∷ 0 ∷ []) 1 3 → ⊥
found-not-1 (flat zero q e f g) = omega arith
found-not-1 (flat (suc zero) zero e f g) = omega arith
found-not-1 (flat (suc zero) (suc q) e f g) = omega (arith, ap (λ (l : List ℕ). get_or l 1 0) e)
found-not-1 (flat (suc (suc p)) q e f g) = omega arith
found-not-1 (rising zero q z e f g) = omega (arith, ap (λ (l : List ℕ). get_or l 1 0) e)
found-not-1 (rising (suc p) q z e f g) = omega arith

found-not-4 : Found (1 ∷ 1 ∷ 0 ∷ 1 ∷ 0 ∷ []) 2 4 → ⊥
found-not-4 f = omega (arith, (found_one found-2 f).1)

-- what is stored on, and back
stored-on : stored 1 0 (Move.Swaps 3 1) (1 ∷ 1 ∷ 1 ∷ 0 ∷ 0 ∷ []) ≡ 1 ∷ 0 ∷ 1 ∷ 1 ∷ 0 ∷ []
stored-on = refl

stored-back : stored 0 1 (Move.Swaps 3 1) (1 ∷ 0 ∷ 1 ∷ 1 ∷ 0 ∷ []) ≡ 1 ∷ 1 ∷ 1 ∷ 0 ∷ 0 ∷ []
stored-back = refl

leads-11010 : Leads next applied (1 ∷ 1 ∷ 0 ∷ 1 ∷ 0 ∷ []) (Move.Dips 2 3)
leads-11010 = plans-11010

leads-elsewhere : Leads next applied (1 ∷ 1 ∷ 0 ∷ 1 ∷ 0 ∷ []) (Move.Dips 3 3) → ⊥
leads-elsewhere = makes-10001

leads-miscounted : Leads next applied (1 ∷ 1 ∷ 1 ∷ 0 ∷ 0 ∷ []) (Move.Dips 3 1) → ⊥
leads-miscounted = counts-4

leads-past-the-end : Leads next applied (1 ∷ 1 ∷ []) (Move.Swaps 2 1) → ⊥
leads-past-the-end = past_the_end

-- the walk on goes by steps; not so one that begins a step late, work that begins with a beat, standing still, and work
-- that adds nothing
goes-on : Goes next steps worked
goes-on = goes_on

a-step-late : Goes next (λ k b. steps (suc k) b) worked → ⊥
unfolding steps
a-step-late g =
    omega
    (arith, ap (λ (l : List ℕ). get_or l 1 0) (sym next-10101 ∙ (g.starts (1 ∷ 0 ∷ 1 ∷ 0 ∷ 1 ∷ [])).0))

a-beat-before : Goes next steps (λ k b. suc (worked k b)) → ⊥
a-beat-before g = omega (arith, (g.starts []).1)

standing-still : Goes next (λ k b. b) (λ k b. 0) → ⊥
standing-still g =
    omega (arith, ap (λ (l : List ℕ). get_or l 1 0) (g.goes 0 (1 ∷ 0 ∷ 1 ∷ 0 ∷ 1 ∷ []) ∙ next-10101))

nothing-added : Goes next steps (λ k b. 0) → ⊥
unfolding shift found has01 moves_next next first_from every ones zeros is_schedule steps changed
nothing-added g = omega (arith, g.adds 0 (1 ∷ 1 ∷ 1 ∷ 0 ∷ 0 ∷ []))
