-- The definitions of specs/ on examples that do not hold, beside small ones that do, so that the list of examples says
-- something; of each kind of example one that is wrong. In each of the three relations the empty list says nothing.
-- Assumes nothing.
use mathlib.Core.List.{List, [], ◌∷◌}
use mathlib.Core.Logic.{⊎_elim}
use mathlib.Core.Path.{◌≡◌, refl, ap}
use Prim.Native.Nat.{ℕ}
use native.Mathlib.Omega.{arith}
use lib.ListN.{get_or, replicate}
use Rattle.std.proofs.Common.{Ok}
use Rattle.bounded.specs.Bounded.{every, first_from}
use Rattle.triangle.specs.Count.{N}
use Rattle.schedule.specs.Schedule.{ones, zeros, is_schedule}
use Rattle.circle.specs.Step.{shift, found, has01, moves_next, next}
use Rattle.circle.specs.Walk.{steps, changed, worked}
use Rattle.tree.proofs.Theorems.{has-closed}
use Rattle.circle.specs.Step.{top}
use Rattle.circle.proofs.Circle.{top-schedule}
use Rattle.record.specs.Bytes.{low_first, value_of}
use Rattle.tree.specs.Parse.{grow, parse, foremost, tree_of}
use Rattle.text.specs.Decimal.{digits, decimal}
use Rattle.outline.specs.Outline.{planted}
use Rattle.outline.specs.Text.{stem, lines, lines_of, text}
use Rattle.demands.specs.Calls as call
use Rattle.demands.specs.Calls.{
  move_answer,
  move_left,
  count,
  check,
  form-on-sheet,
  outline,
  read,
  write,
  lent,
  Says,
  Gives,
  silenced,
  CountsOf,
  of-count,
  of-check,
  of-move,
  of-explain,
  BeatsOf,
  in-check,
  Owed,
  beats,
}
use Rattle.demands.specs.Demands.{
  Wrong,
  counts-above,
  sheet-short,
  places-few,
  room-short,
  text-short,
  size-numbered,
  Demand2,
  Demand3,
  Demand3All,
}
use Rattle.demands.proofs.Accepted.{accepted-counts, accepted-beats, accepted-owed, call-refused}
use Rattle.demands.proofs.Demands.{demands}
use Rattle.demands.specs.Backwards.{Backwards}
use Rattle.demands.proofs.Backwards.{backwards}
use Rattle.demands.specs.Surplus.{About, lent-to}
use Rattle.demands.specs.Explaining.{Explaining}
use Rattle.demands.proofs.Explaining.{explaining}
use Rattle.demands.specs.Outlines.{Writes}
use Rattle.demands.proofs.Outlines.{outlines}
use Rattle.demands.proofs.ShamsOutline.{taken-1}
use Rattle.demands.specs.Examples.{
  InOrder,
  Changing,
  Numbering,
  Holds,
  counts,
  follows,
  changes,
  rounds,
  numbers,
  links,
}

-- 110, then 101; not 110 again
in_order : InOrder (1 ∷ 1 ∷ 0 ∷ []) ((1 ∷ 1 ∷ 0 ∷ []) ∷ (1 ∷ 0 ∷ 1 ∷ []) ∷ [])
unfolding every first_from ones zeros is_schedule shift found has01 moves_next next
in_order = (refl, (refl, tt))

not-in-order : InOrder (1 ∷ 1 ∷ 0 ∷ []) ((1 ∷ 1 ∷ 0 ∷ []) ∷ (1 ∷ 1 ∷ 0 ∷ []) ∷ []) → ⊥
unfolding every first_from ones zeros is_schedule shift found has01 moves_next next
not-in-order p = let clash : ◌≡◌ {A = ℕ} 0 1 = ap (λ (l : List ℕ). get_or l 1 0) p.1.0 in omega arith

-- two beats, not three
changing-2 : Changing (1 ∷ 1 ∷ 0 ∷ []) (2 ∷ [])
unfolding every first_from ones zeros is_schedule shift found has01 moves_next next changed
changing-2 = (refl, tt)

changing-3 : Changing (1 ∷ 1 ∷ 0 ∷ []) (3 ∷ []) → ⊥
unfolding every first_from ones zeros is_schedule shift found has01 moves_next next changed
changing-3 p = omega (arith, p.0)

-- 101 has the number 0 and 110 the number 1; the numbers do not begin at 110
numbering-0 : Numbering 2 1 0 ((1 ∷ 0 ∷ 1 ∷ []) ∷ (1 ∷ 1 ∷ 0 ∷ []) ∷ [])
unfolding N every first_from ones zeros is_schedule shift found has01 moves_next next steps changed
numbering-0 = ((refl, refl), ((refl, refl), tt))

numbering-110 : Numbering 2 1 0 ((1 ∷ 1 ∷ 0 ∷ []) ∷ []) → ⊥
unfolding N every first_from ones zeros is_schedule shift found has01 moves_next next steps changed
numbering-110 p = omega (arith, p.0.0)

-- of each kind an example that does not hold
not-counts : Holds (counts 5 3 27) → ⊥
unfolding N
not-counts p = omega (arith, p)

not-follows : Holds (follows 2 1 ((1 ∷ 1 ∷ 0 ∷ []) ∷ [])) → ⊥
unfolding first_from zeros shift found has01 next
not-follows p = let clash : ◌≡◌ {A = ℕ} 0 1 = ap (λ (l : List ℕ). get_or l 1 0) p.0 in omega arith

not-changes : Holds (changes 1 1 (2 ∷ [])) → ⊥
unfolding every first_from ones zeros is_schedule shift found has01 moves_next next changed
not-changes p = omega (arith, p.0)

not-rounds : Holds (rounds 3 2 10) → ⊥
unfolding N every first_from ones zeros is_schedule shift found has01 moves_next next steps changed worked
not-rounds p = omega (arith, p)

not-numbers : Holds (numbers 2 1 ((1 ∷ 1 ∷ 0 ∷ []) ∷ [])) → ⊥
not-numbers = numbering-110

not-links : Holds (links (1 ∷ 0 ∷ 0 ∷ []) (0 ∷ []) (0 ∷ []) (0 ∷ [])) → ⊥
not-links p = omega (arith, (has-closed p).size)

-- a step from 110 changes two beats and leaves 101; a run of no step changes none
moves-2 : move_answer call.next 2 1 (1 ∷ 1 ∷ 0 ∷ []) ≡ Ok 2
unfolding every first_from ones zeros is_schedule shift found has01 moves_next next changed
moves-2 = refl

moves-0 : move_answer (call.run 0) 2 1 (1 ∷ 1 ∷ 0 ∷ []) ≡ Ok 0
unfolding first_from ones zeros worked
moves-0 = refl

leaves-101 : move_left call.next 2 1 (1 ∷ 1 ∷ 0 ∷ []) ≡ 1 ∷ 0 ∷ 1 ∷ []
unfolding every first_from ones zeros is_schedule shift found has01 moves_next next
leaves-101 = refl

leaves-110 : move_left (call.run 0) 2 1 (1 ∷ 1 ∷ 0 ∷ []) ≡ 1 ∷ 1 ∷ 0 ∷ []
unfolding first_from ones zeros steps
leaves-110 = refl

-- what is lent to a check and to a count; what is 0 after a refused count and after a refused read
lent-beats : lent (check 1 0 (1 ∷ [])) ≡ (1 ∷ []) ∷ []
lent-beats = refl

lent_nothing : lent (count 1 0) ≡ []
lent_nothing = refl

silenced-count : silenced (count 1 0) (1 ∷ []) ≡ 1 ∷ []
silenced-count = refl

silenced-read : silenced (read [] []) (1 ∷ 2 ∷ 3 ∷ 4 ∷ []) ≡ 1 ∷ 2 ∷ 3 ∷ []
silenced-read = refl

-- an answer of 3 says 3 and no refusal
says-3 : Says (Ok 3) (Ok tt) (3 ∷ [])
says-3 = (refl, refl)

says-4 : Says (Ok 3) (Ok tt) (4 ∷ []) → ⊥
says-4 p = let clash : ◌≡◌ {A = ℕ} 4 3 = ap (λ (l : List ℕ). get_or l 0 0) p.1 in omega arith

-- a count of (2,1) gives 2, and one of (2,3) is not accepted
gives-2 : Gives (count 2 1) (Ok tt) (2 ∷ []) []
unfolding N
gives-2 = ((refl, refl), refl)

gives_none : Gives (count 2 3) (Ok tt) (0 ∷ []) [] → ⊥
gives_none p = omega (arith, (accepted-counts {t = 2} {s = 3} (0 ∷ []) [] of-count p).1)

-- the counts and the beats of a call are its own, and a form has to be as long as its counts say
counts-2-1 : CountsOf (count 2 1) 2 1
counts-2-1 = of-count

counts-1-2 : CountsOf (count 2 1) 1 2 → ⊥
counts-1-2 p = omega (arith, (accepted-counts {t = 1} {s = 2} (2 ∷ []) [] p gives-2).1)

checks-1 : Gives (check 1 0 (1 ∷ [])) (Ok tt) [] ((1 ∷ []) ∷ [])
unfolding first_from ones zeros
checks-1 = ((refl, refl), refl)

beats-1 : BeatsOf (check 1 0 (1 ∷ [])) (1 ∷ [])
beats-1 = in-check

beats-0 : BeatsOf (check 1 0 (1 ∷ [])) (0 ∷ []) → ⊥
unfolding ones
beats-0 p = omega (arith, (accepted-beats [] ((1 ∷ []) ∷ []) of-check p checks-1).taken)

-- a check is about the beats that are lent to it, and a count about none
about-lent : About (check 2 1 (1 ∷ 1 ∷ 1 ∷ [])) 2 (1 ∷ 1 ∷ 1 ∷ [])
about-lent = lent-to of-check in-check

about-nothing : About (count 2 1) 2 [] → ⊥
unfolding ones
about-nothing (lent-to k i) = omega (arith, (accepted-beats (2 ∷ []) [] k i gives-2).taken)

owed-1 : Owed (check 1 0 (1 ∷ [])) (1 ∷ []) 1
owed-1 = beats of-check in-check

owed-2 : Owed (check 1 0 (1 ∷ [])) (1 ∷ []) 2 → ⊥
owed-2 p = omega (arith, accepted-owed [] ((1 ∷ []) ∷ []) p checks-1)

-- a count of (200,0) is wrong, and one of (2,1) is not
wrong-200 : Wrong (count 200 0)
wrong-200 = counts-above {t = 200} {s = 0} of-count (omega arith)

-- lengths that are wrong: a sheet of four bytes for five beats, 63 places to read into, 13 bytes for a record of 14, a
-- byte for a text of two, and a record with L = 13 that is of kind 1
wrong-sheet : Wrong (form-on-sheet 3 2 0 (0 ∷ 0 ∷ 0 ∷ 0 ∷ []) 0)
wrong-sheet = sheet-short {t = 3} {s = 2} {sheet = 0 ∷ 0 ∷ 0 ∷ 0 ∷ []} {column = 0} (omega arith)

wrong-places : Wrong (read [] (replicate 63 0))
wrong-places = places-few {out = replicate 63 0} (omega arith)

wrong-room : Wrong (write 3 1 0 (1 ∷ []) (replicate 13 0))
unfolding low_first
wrong-room = room-short {kind = 3} {t = 1} {s = 0} {b = 1 ∷ []} {out = replicate 13 0} (omega arith)

wrong-text : Wrong (outline 1 1 (1 ∷ 0 ∷ []) (7 ∷ []))
unfolding grow parse foremost tree_of planted lines lines_of text stem decimal digits
wrong-text = text-short {t = 1} {s = 1} {b = 1 ∷ 0 ∷ []} {text = 7 ∷ []} (omega arith)

wrong_size : Wrong (read (13 ∷ 0 ∷ 1 ∷ 0 ∷ []) [])
unfolding value_of
wrong_size = size-numbered {src = 13 ∷ 0 ∷ 1 ∷ 0 ∷ []} refl (λ e. omega (arith, e))

wrong-2-1 : Wrong (count 2 1) → ⊥
wrong-2-1 p = call-refused (count 2 1) (2 ∷ []) [] p gives-2

-- the demands are met by allowed counts, and not by 200 tasks
demand-2-3 : Demand2 3 2
demand-2-3 = demands.second 3 2 (omega arith, omega arith)

demand-2-200 : Demand2 200 0 → ⊥
demand-2-200 p = omega (
  arith,
  (accepted-counts {t = 200} {s = 0} _ _ (of-move {way = call.next})
      (p.next-form (top 200 0) (top-schedule 200 0 (omega arith)))).0,
)

demand-3-all-3 : Demand3All 3 2
demand-3-all-3 = demands.third-all 3 2 (omega arith, omega arith)

demand-3-all-200 : Demand3All 200 0 → ⊥
demand-3-all-200 p = omega (
  arith,
  (accepted-counts {t = 200} {s = 0} _ _ (of-move {way = call.run 0})
      (p.run-given (top 200 0) 0 (top-schedule 200 0 (omega arith)) (omega arith))).0,
)

-- the round is met by (3,2); (1,1) has one form, whose step changes nothing
demand-3-3 : Demand3 3 2
demand-3-3 = demands.third 3 2 (omega arith, omega arith) (omega arith) (omega arith)

demand-3-1 : Demand3 1 1 → ⊥
unfolding every first_from ones zeros is_schedule shift found has01 moves_next next changed
demand-3-1 p =
    ⊎_elim (λ two. omega (arith, two)) (λ four. omega (arith, four))
    (p.step-changes (top 1 1) (top-schedule 1 1 (omega arith)))

-- the press runs backwards over (3,2), and not over 200 tasks
backwards-3 : Backwards 3 2
backwards-3 = backwards 3 2 (omega arith, omega arith)

backwards-200 : Backwards 200 0 → ⊥
backwards-200 p = omega (
  arith,
  (accepted-counts {t = 200} {s = 0} _ _ (of-move {way = call.run-back 0})
      (p.run-back-given (top 200 0) 0 (top-schedule 200 0 (omega arith)) (omega arith))).0,
)

-- beats are explained for (3,2), and not for 200 tasks
explaining-3 : Explaining 3 2
explaining-3 = explaining 3 2 (omega arith, omega arith)

explaining-200 : Explaining 200 0 → ⊥
explaining-200 p = omega (
  arith,
  (accepted-counts {t = 200} {s = 0} _ _ of-explain (p.told (top 200 0) (top-schedule 200 0 (omega arith))).2).0,
)

-- the line 1 is written of 10, and the line 2 is not
writes-1 : Writes 1 (1 ∷ 0 ∷ []) (49 ∷ 10 ∷ [])
unfolding first_from ones zeros grow parse foremost tree_of planted lines lines_of text stem decimal digits
writes-1 = record { text = 7 ∷ 7 ∷ []; rest = []; given = ((refl, refl), refl) }

writes-2 : Writes 1 (1 ∷ 0 ∷ []) (50 ∷ 10 ∷ []) → ⊥
writes-2 w =
    let read = taken-1 _ refl (outlines.writes-read 1 _ (7 ∷ 7 ∷ []) _ w refl).1 in
    let clash : ◌≡◌ {A = ℕ} 50 49 = ap (λ (l : List ℕ). get_or l 0 0) read in
    omega arith
