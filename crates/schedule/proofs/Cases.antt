-- The definitions of specs/ on small inputs: one that fits, and one refused for each part, so that no part is empty
-- words [A2] [A7] [E2]. Assumes nothing.
use mathlib.Core.Bool.{true, false}
use mathlib.Core.List.{List, [], ◌∷◌}
use mathlib.Core.Path.{◌≡◌, refl, ◌∙◌, ap, sym}
use Prim.Native.Nat.{ℕ, zero, suc, ◌<◌}
use native.Mathlib.Omega.{arith}
use lib.IntN.{pos, negsuc, nat_abs}
use lib.ListN.{get_or}
use Rattle.std.proofs.Common.{Ok, Err}
use Rattle.bounded.specs.Bounded.{every, first_from}
use Rattle.refusal.specs.declared.Refusal.{Refusal}
use Rattle.refusal.specs.declared.Refusal.TheVariants.{
  TooManyTasks,
  MoreDownThanUp,
  WrongLength,
  BadBeat,
  EmptyHand,
  WrongTakeUps,
}
use Rattle.refusal.specs.Answer.{refusal, place}
use Rattle.refusal.specs.Rows.{judge}
use Rattle.refusal.proofs.Theorems.{refused-number}
use Rattle.triangle.specs.Count.{N}
use Rattle.schedule.specs.Schedule.{ones, zeros, Schedule, is_schedule, Lists}
use Rattle.schedule.specs.Check.{
  is_bad,
  is_bare,
  bad_beat,
  empty_hand,
  surplus_of,
  hand_rows,
  play_rows,
  beat_rows,
  check_rows,
  checked,
}
use Rattle.schedule.specs.Skip.{is_other, skipped}
use Rattle.schedule.specs.Meaning.{First, Nowhere, Bad, Bare, Off, Near, Refuses, Right}
use Rattle.schedule.proofs.Hand.{plays, plays-schedule}
use Rattle.schedule.proofs.Theorems.{refused-refuses, refuses-refused, six-off, lists-N}

-- a beat of 2 is neither a one nor a zero
ones-1102 : ones (1 ∷ 1 ∷ 0 ∷ 2 ∷ []) ≡ 2
unfolding ones
ones-1102 = refl

no_ones : ones (0 ∷ 2 ∷ []) ≡ 0
unfolding ones
no_ones = refl

zeros-1102 : zeros (1 ∷ 1 ∷ 0 ∷ 2 ∷ []) ≡ 1
unfolding zeros
zeros-1102 = refl

no-zeros : zeros (1 ∷ 2 ∷ []) ≡ 0
unfolding zeros
no-zeros = refl

-- [A2]
pub fits-11010 : Schedule 3 2 (1 ∷ 1 ∷ 0 ∷ 1 ∷ 0 ∷ [])
unfolding ones zeros plays
fits-11010 = plays-schedule refl refl refl

-- [A7]
fits-empty : Schedule 0 0 []
unfolding ones zeros plays
fits-empty = plays-schedule refl refl refl

-- [A2]
beats-120 : Schedule 1 2 (1 ∷ 2 ∷ 0 ∷ []) → ⊥
beats-120 p = omega (arith, p.beats 1 (omega arith))

-- [A2]
size-10 : Schedule 1 0 (1 ∷ 0 ∷ []) → ⊥
size-10 p = omega (arith, p.size)

-- [A2]
taken-111 : Schedule 2 1 (1 ∷ 1 ∷ 1 ∷ []) → ⊥
unfolding ones
taken-111 p = omega (arith, p.taken)

-- [A2]
pub ahead-1001 : Schedule 2 2 (1 ∷ 0 ∷ 0 ∷ 1 ∷ []) → ⊥
unfolding ones zeros
ahead-1001 p = omega (arith, p.ahead 3 (omega arith))

-- the same by the test
test-11010 : is_schedule 3 2 (1 ∷ 1 ∷ 0 ∷ 1 ∷ 0 ∷ []) ≡ true
unfolding is_schedule every ones zeros
test-11010 = refl

test-1001 : is_schedule 2 2 (1 ∷ 0 ∷ 0 ∷ 1 ∷ []) ≡ false
unfolding is_schedule every ones zeros
test-1001 = refl

-- the empty schedule is the only one of 0, 0
lists-empty : Lists (Schedule 0 0) ([] ∷ [])
lists-empty = record { sound = sound; complete = complete; once = λ i j h k e. omega arith }
  where
    sound : (i : ℕ) → i < 1 → Schedule 0 0 (get_or ([] ∷ []) i [])
    sound zero h = fits-empty
    sound (suc i) h = absurd (omega arith)

    complete : (b : List ℕ) → Schedule 0 0 b → (i : ℕ) × (i < 1) × (get_or ([] ∷ []) i [] ≡ b)
    complete [] p = (0, omega arith, refl)
    complete (x ∷ b) p = absurd (omega (arith, p.size))

-- 111 may not stand in a list of the schedules of 2, 1, nor 110 twice
lists-other : Lists (Schedule 2 1) ((1 ∷ 0 ∷ 1 ∷ []) ∷ (1 ∷ 1 ∷ 0 ∷ []) ∷ (1 ∷ 1 ∷ 1 ∷ []) ∷ []) → ⊥
lists-other p = taken-111 (p.sound 2 (omega arith))

lists-twice : Lists (Schedule 2 1) ((1 ∷ 0 ∷ 1 ∷ []) ∷ (1 ∷ 1 ∷ 0 ∷ []) ∷ (1 ∷ 1 ∷ 0 ∷ []) ∷ []) → ⊥
lists-twice p = omega (arith, p.once 1 2 (omega arith) (omega arith) refl)

-- the schedules of 2, 1 are two, so a list of one of them is not a list of all
lists-one : Lists (Schedule 2 1) ((1 ∷ 1 ∷ 0 ∷ []) ∷ []) → ⊥
unfolding N
lists-one p = omega (arith, lists-N 2 1 ((1 ∷ 1 ∷ 0 ∷ []) ∷ []) p)

first-bad-2 : First (Bad (1 ∷ 2 ∷ 3 ∷ [])) 3 1
first-bad-2 =
    record {
      inside = omega arith;
      holds = omega arith;
      before = λ j h p. let e : j ≡ 0 = omega arith in omega (arith, rw e at p);
    }

-- the first such beat, not the second; a beat that is such; and one below the bound
first-bad-3 : First (Bad (1 ∷ 2 ∷ 3 ∷ [])) 3 2 → ⊥
first-bad-3 p = p.before 1 (omega arith) (omega arith)

first-bad-1 : First (Bad (1 ∷ 2 ∷ 3 ∷ [])) 3 0 → ⊥
first-bad-1 p = omega (arith, p.holds)

first-below-1 : First (Bad (1 ∷ 2 ∷ 3 ∷ [])) 1 1 → ⊥
first-below-1 p = omega (arith, p.inside)

nowhere-below-1 : Nowhere (Bad (1 ∷ 2 ∷ 3 ∷ [])) 1
nowhere-below-1 k h p = let e : k ≡ 0 = omega arith in omega (arith, rw e at p)

somewhere-below-2 : Nowhere (Bad (1 ∷ 2 ∷ 3 ∷ [])) 2 → ⊥
somewhere-below-2 f = f 1 (omega arith) (omega arith)

bad-2 : Bad (1 ∷ 2 ∷ 3 ∷ []) 1
bad-2 = omega arith

bad-1 : Bad (1 ∷ 2 ∷ 3 ∷ []) 0 → ⊥
bad-1 p = omega (arith, p)

bare-1001 : Bare (1 ∷ 0 ∷ 0 ∷ 1 ∷ []) 2
unfolding ones zeros
bare-1001 = (refl, omega arith)

bare-1100 : Bare (1 ∷ 1 ∷ 0 ∷ 0 ∷ []) 3 → ⊥
unfolding ones zeros
bare-1100 p = omega (arith, p.1)

-- taking up with an empty hand is no fault
bare-1 : Bare (1 ∷ []) 0 → ⊥
bare-1 p = omega (arith, p.0)

-- the same by the tests
test-bad-2 : is_bad (1 ∷ 2 ∷ 3 ∷ []) 1 ≡ true
test-bad-2 = refl

test-bad-1 : is_bad (1 ∷ 2 ∷ 3 ∷ []) 0 ≡ false
test-bad-1 = refl

test-bare-1001 : is_bare (1 ∷ 0 ∷ 0 ∷ 1 ∷ []) 2 ≡ true
unfolding ones zeros
test-bare-1001 = refl

test-bare-1100 : is_bare (1 ∷ 1 ∷ 0 ∷ 0 ∷ []) 3 ≡ false
unfolding ones zeros
test-bare-1100 = refl

-- the places, and the length where there is none
bad-beat-1 : bad_beat (1 ∷ 2 ∷ 3 ∷ []) ≡ 1
unfolding first_from
bad-beat-1 = refl

no-bad-beat : bad_beat (1 ∷ 0 ∷ 1 ∷ []) ≡ 3
unfolding first_from
no-bad-beat = refl

empty-hand-2 : empty_hand (1 ∷ 0 ∷ 0 ∷ 1 ∷ []) ≡ 2
unfolding first_from ones zeros
empty-hand-2 = refl

no-empty-hand : empty_hand (1 ∷ 1 ∷ 0 ∷ 0 ∷ []) ≡ 4
unfolding first_from ones zeros
no-empty-hand = refl

-- another beat than 1 at the end of 110, and from there on none other than 0
other-than-1 : is_other (1 ∷ 1 ∷ 0 ∷ []) 1 2 ≡ true
other-than-1 = refl

not-other : is_other (1 ∷ 1 ∷ 0 ∷ []) 1 1 ≡ false
not-other = refl

skips-ones : skipped (1 ∷ 1 ∷ 0 ∷ []) 0 1 ≡ 2
unfolding first_from
skips-ones = refl

skips-to-end : skipped (1 ∷ 1 ∷ 0 ∷ []) 2 0 ≡ 3
unfolding first_from
skips-to-end = refl

-- the manual's examples of the check, and 4 before 5 before 6
checked-accepts : checked 3 2 (1 ∷ 1 ∷ 0 ∷ 1 ∷ 0 ∷ []) ≡ Ok tt
unfolding ones zeros first_from
checked-accepts = refl

-- [E2]
checked-200 : checked 200 0 [] ≡ Err TooManyTasks
checked-200 = refl

-- [E2]
checked-2-3 : checked 2 3 [] ≡ Err MoreDownThanUp
checked-2-3 = refl

-- [E2]
checked-short : checked 2 1 (1 ∷ 1 ∷ []) ≡ Err WrongLength
checked-short = refl

checked-02 : checked 1 1 (0 ∷ 2 ∷ []) ≡ Err (BadBeat 1)
unfolding first_from
checked-02 = refl

-- [A4] [E2]
checked-1001 : checked 2 2 (1 ∷ 0 ∷ 0 ∷ 1 ∷ []) ≡ Err (EmptyHand 2)
unfolding ones zeros first_from
checked-1001 = refl

-- [E2]
checked-111 : checked 2 1 (1 ∷ 1 ∷ 1 ∷ []) ≡ Err (WrongTakeUps (pos 1))
unfolding ones zeros first_from
checked-111 = refl

-- a one is missing: ℤ has -1 as negsuc 0 [Q7]
pub checked-1010 : checked 3 1 (1 ∷ 0 ∷ 1 ∷ 0 ∷ []) ≡ Err (WrongTakeUps (negsuc 0))
unfolding ones zeros first_from
checked-1010 = refl

checked-10 : checked 2 0 (1 ∷ 0 ∷ []) ≡ Err (WrongTakeUps (negsuc 0))
unfolding ones zeros first_from
checked-10 = refl

-- the ones beyond t: two missing, two too many
surplus-down : surplus_of 3 (1 ∷ 0 ∷ []) ≡ negsuc 1
unfolding ones
surplus-down = refl

surplus-up : surplus_of 1 (1 ∷ 1 ∷ 1 ∷ []) ≡ pos 2
unfolding ones
surplus-up = refl

-- 1010 is off by -1 for t = 3, and not by 1; 110 is not off for t = 2, by 0 or anything
off-1010 : Off 3 (1 ∷ 0 ∷ 1 ∷ 0 ∷ []) (negsuc 0)
unfolding ones zeros first_from
off-1010 = six-off 3 1 (1 ∷ 0 ∷ 1 ∷ 0 ∷ []) refl

not-off-by-1 : Off 3 (1 ∷ 0 ∷ 1 ∷ 0 ∷ []) (pos 1) → ⊥
unfolding ones
not-off-by-1 p = omega (arith, ap nat_abs p.sum)

not-off : Off 2 (1 ∷ 1 ∷ 0 ∷ []) (pos 0) → ⊥
not-off p = p.some refl

-- of (5,2): a 6 can say −1, ⌊3/2⌋ being 1, and not −2; and no more than 2
near_down : Near 5 2 (negsuc 0)
near_down = (record { le = tt }, record { le = tt })

not-near-down : Near 5 2 (negsuc 1) → ⊥
not-near-down p = p.0.le

not-near-up : Near 5 2 (pos 3) → ⊥
not-near-up p = p.1.le

-- the meaning of each refusal
refuses-200 : Refuses 200 0 [] TooManyTasks
refuses-200 = refused-refuses 200 0 [] TooManyTasks checked-200

refuses-2-3 : Refuses 2 3 [] MoreDownThanUp
refuses-2-3 = refused-refuses 2 3 [] MoreDownThanUp checked-2-3

refuses-short : Refuses 2 1 (1 ∷ 1 ∷ []) WrongLength
refuses-short = refused-refuses 2 1 (1 ∷ 1 ∷ []) WrongLength checked-short

refuses-02 : Refuses 1 1 (0 ∷ 2 ∷ []) (BadBeat 1)
refuses-02 = refused-refuses 1 1 (0 ∷ 2 ∷ []) (BadBeat 1) checked-02

refuses-1001 : Refuses 2 2 (1 ∷ 0 ∷ 0 ∷ 1 ∷ []) (EmptyHand 2)
refuses-1001 = refused-refuses 2 2 (1 ∷ 0 ∷ 0 ∷ 1 ∷ []) (EmptyHand 2) checked-1001

refuses-111 : Refuses 2 1 (1 ∷ 1 ∷ 1 ∷ []) (WrongTakeUps (pos 1))
refuses-111 = refused-refuses 2 1 (1 ∷ 1 ∷ 1 ∷ []) (WrongTakeUps (pos 1)) checked-111

refuses-1010 : Refuses 3 1 (1 ∷ 0 ∷ 1 ∷ 0 ∷ []) (WrongTakeUps (negsuc 0))
refuses-1010 = refused-refuses 3 1 (1 ∷ 0 ∷ 1 ∷ 0 ∷ []) (WrongTakeUps (negsuc 0)) checked-1010

-- 11010 is refused for nothing, 1001 at no other place, and 02 not for its empty hand
refuses-nothing : (why : Refusal) → Refuses 3 2 (1 ∷ 1 ∷ 0 ∷ 1 ∷ 0 ∷ []) why → ⊥
refuses-nothing why r =
    let accepted = sym checked-accepts ∙ refuses-refused 3 2 (1 ∷ 1 ∷ 0 ∷ 1 ∷ 0 ∷ []) why r in
    omega (arith, ap refusal accepted, (refused-number why).0)

refuses-elsewhere : Refuses 2 2 (1 ∷ 0 ∷ 0 ∷ 1 ∷ []) (EmptyHand 1) → ⊥
refuses-elsewhere r =
    omega (arith, ap place (sym checked-1001 ∙ refuses-refused 2 2 (1 ∷ 0 ∷ 0 ∷ 1 ∷ []) (EmptyHand 1) r))

refuses-no-later-row : Refuses 1 1 (0 ∷ 2 ∷ []) (EmptyHand 0) → ⊥
refuses-no-later-row r = omega (arith, ap refusal (sym checked-02 ∙ refuses-refused 1 1 (0 ∷ 2 ∷ []) (EmptyHand 0) r))

right-11010 : Right 3 2 (1 ∷ 1 ∷ 0 ∷ 1 ∷ 0 ∷ []) (Ok tt)
right-11010 = ((omega arith, omega arith), fits-11010)

right-1001 : Right 2 2 (1 ∷ 0 ∷ 0 ∷ 1 ∷ []) (Err (EmptyHand 2))
right-1001 = refuses-1001

not-right-1001 : Right 2 2 (1 ∷ 0 ∷ 0 ∷ 1 ∷ []) (Ok tt) → ⊥
not-right-1001 r = ahead-1001 r.1

not-right-11010 : (why : Refusal) → Right 3 2 (1 ∷ 1 ∷ 0 ∷ 1 ∷ 0 ∷ []) (Err why) → ⊥
not-right-11010 = refuses-nothing

-- the ends of the check's order, each by its first row and by its last
hand-1001 : judge (hand_rows 2 (1 ∷ 0 ∷ 0 ∷ 1 ∷ [])) ≡ Err (EmptyHand 2)
unfolding ones zeros first_from
hand-1001 = refl

hand-111 : judge (hand_rows 2 (1 ∷ 1 ∷ 1 ∷ [])) ≡ Err (WrongTakeUps (pos 1))
unfolding ones zeros first_from
hand-111 = refl

play-02 : judge (play_rows 1 (0 ∷ 2 ∷ [])) ≡ Err (BadBeat 1)
unfolding first_from
play-02 = refl

play-111 : judge (play_rows 2 (1 ∷ 1 ∷ 1 ∷ [])) ≡ Err (WrongTakeUps (pos 1))
unfolding ones zeros first_from
play-111 = refl

beats-11 : judge (beat_rows 2 1 (1 ∷ 1 ∷ [])) ≡ Err WrongLength
beats-11 = refl

beats-111 : judge (beat_rows 2 1 (1 ∷ 1 ∷ 1 ∷ [])) ≡ Err (WrongTakeUps (pos 1))
unfolding ones zeros first_from
beats-111 = refl

rows-200 : judge (check_rows 200 0 []) ≡ Err TooManyTasks
rows-200 = refl

rows-111 : judge (check_rows 2 1 (1 ∷ 1 ∷ 1 ∷ [])) ≡ Err (WrongTakeUps (pos 1))
unfolding ones zeros first_from
rows-111 = refl
