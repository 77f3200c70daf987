-- The definitions of specs/ on small inputs, by computing them: the second record of the manual, read and refused;
-- records of each kind, and what version 1 read of them; for the predicate one that fits and one refused for each part.
-- Assumes nothing.
use mathlib.Core.Bool.{true≢false}
use mathlib.Core.List.{List, [], ◌∷◌}
use mathlib.Core.Path.{◌≡◌, refl, ◌∙◌, sym}
use Prim.Native.Nat.{ℕ, ◌-◌}
use native.Mathlib.Omega.{arith}
use lib.ListN.{replicate}
use Rattle.std.proofs.Common.{Ok, Err}
use Rattle.bounded.specs.Bounded.{every, first_from}
use Rattle.refusal.specs.declared.Refusal.TheVariants.{NoRoom, CutShort, UnknownKind, NoSuchNumber}
use Rattle.refusal.specs.Rows.{judge}
use Rattle.schedule.specs.Schedule.{ones, zeros, is_schedule}
use Rattle.circle.specs.Step.{shift, found, has01, moves_next, next}
use Rattle.circle.specs.Walk.{steps, changed}
use Rattle.record.specs.Bytes.{value_of, tabulate}
use Rattle.triangle.specs.Count.{N, most_beats}
use Rattle.record.specs.declared.layout.Layout.{Layout}
use Rattle.record.specs.declared.layout.Numbering.{Numbering}
use Rattle.record.specs.Layout.{layout_of}
use Rattle.record.proofs.Cases.{long-5, cut-in-body}
use Rattle.record.specs.Parts.{unread}
use Rattle.reader.specs.Answers.{told, answer_by, left_by, read_answer_by, read_left_by, read_answer, read_left}
use Rattle.reader.specs.Answers.{catalogued, Whole, first_rows, ordered, order_by, read_order}
use Rattle.reader.specs.Earlier.{earlier_layout, earlier_answer, earlier_left, renumbered}

-- the schedule goes into the first places of what is lent, and nothing where reading is refused
leaves-form : left_by (layout_of 2) (5 ∷ 0 ∷ 2 ∷ 0 ∷ 3 ∷ 2 ∷ 168 ∷ []) (Ok tt) (7 ∷ 7 ∷ 7 ∷ 7 ∷ 7 ∷ 7 ∷ [])
    ≡ 1 ∷ 0 ∷ 1 ∷ 0 ∷ 1 ∷ 7 ∷ []
unfolding value_of tabulate
leaves-form = refl

leaves-lent : left_by (layout_of 2) (5 ∷ 0 ∷ 2 ∷ 0 ∷ 3 ∷ 2 ∷ 168 ∷ []) (Err NoRoom) (7 ∷ 7 ∷ []) ≡ 7 ∷ 7 ∷
    []
leaves-lent = refl

read-leaves-form : read_left (5 ∷ 0 ∷ 2 ∷ 0 ∷ 3 ∷ 2 ∷ 168 ∷ []) (replicate most_beats 7)
    ≡ 1 ∷ 0 ∷ 1 ∷ 0 ∷ 1 ∷ replicate (most_beats - 5) 7
unfolding value_of tabulate first_from ones zeros
read-leaves-form = refl

read-leaves-lent : read_left (5 ∷ 0 ∷ 2 ∷ 0 ∷ 3 ∷ 2 ∷ 168 ∷ []) (7 ∷ 7 ∷ []) ≡ 7 ∷ 7 ∷ []
read-leaves-lent = refl

-- what is known before the kind is looked at, and an input refused for each part
whole : Whole (5 ∷ 0 ∷ 2 ∷ 0 ∷ 3 ∷ 2 ∷ 168 ∷ []) 5 (replicate most_beats 7)
unfolding value_of
whole = record { said = refl; here = refl; kind = omega arith; room = omega arith }

not-said : Whole (5 ∷ 0 ∷ 2 ∷ 0 ∷ 3 ∷ 2 ∷ 168 ∷ []) 4 (replicate most_beats 7) → ⊥
not-said p = omega (arith, p.said, long-5)

not-here : Whole (5 ∷ 0 ∷ 2 ∷ 0 ∷ 3 ∷ 2 ∷ []) 5 (replicate most_beats 7) → ⊥
not-here p = true≢false (sym cut-in-body ∙ p.here)

no_kind : Whole (0 ∷ 0 ∷ []) 0 (replicate most_beats 7) → ⊥
no_kind p = omega (arith, p.kind)

too-little-room : Whole (5 ∷ 0 ∷ 2 ∷ 0 ∷ 3 ∷ 2 ∷ 168 ∷ []) 5 (replicate (most_beats - 1) 7) → ⊥
too-little-room p = omega (arith, p.room)

-- what reading answers: 10 as a record of kind 2, and refused; 101 by both numberings
told-accepts : told 1 1 0 5 (Ok tt) ≡ Ok (record { t = 1; s = 1; number = 0; consumed = 7 })
told-accepts = refl

told-refuses : told 1 1 0 5 (Err CutShort) ≡ unread CutShort 0
told-refuses = refl

answer-accepts : answer_by Numbering.Catalogue (layout_of 2) (5 ∷ 0 ∷ 2 ∷ 0 ∷ 2 ∷ 1 ∷ 160 ∷ []) (Ok tt)
    ≡ Ok (record { t = 2; s = 1; number = 0; consumed = 7 })
unfolding value_of tabulate N every first_from ones zeros is_schedule shift found has01 moves_next next steps changed
answer-accepts = refl

answer-from-top : answer_by Numbering.FromTop (layout_of 2) (5 ∷ 0 ∷ 2 ∷ 0 ∷ 2 ∷ 1 ∷ 160 ∷ []) (Ok tt)
    ≡ Ok (record { t = 2; s = 1; number = 1; consumed = 7 })
unfolding value_of tabulate N every first_from ones zeros is_schedule shift found has01 moves_next next steps changed
answer-from-top = refl

answer-refuses : answer_by Numbering.Catalogue (layout_of 2) (5 ∷ 0 ∷ 2 ∷ 0 ∷ 1 ∷ 1 ∷ 128 ∷ []) (Err NoRoom)
    ≡ unread NoRoom 0
answer-refuses = refl

read-accepts : read_answer (5 ∷ 0 ∷ 2 ∷ 0 ∷ 1 ∷ 1 ∷ 128 ∷ []) (replicate most_beats 7)
    ≡ Ok (record { t = 1; s = 1; number = 0; consumed = 7 })
unfolding value_of tabulate N every first_from ones zeros is_schedule shift found has01 moves_next next steps changed
read-accepts = refl

read-refuses : read_answer (5 ∷ 0 ∷ 2 ∷ 0 ∷ 1 ∷ 1 ∷ 128 ∷ []) [] ≡ unread NoRoom 0
read-refuses = refl

-- the same with no bytes to pass over, and the refusals before L is looked at
ordered-accepts : ordered 1 1 0 5 (Ok tt) ≡ Ok (record { t = 1; s = 1; number = 0; consumed = 7 })
ordered-accepts = refl

ordered-refuses : ordered 1 1 0 5 (Err CutShort) ≡ Err CutShort
ordered-refuses = refl

order-accepts : order_by (layout_of 2) (5 ∷ 0 ∷ 2 ∷ 0 ∷ 2 ∷ 1 ∷ 160 ∷ []) (Ok tt)
    ≡ Ok (record { t = 2; s = 1; number = 0; consumed = 7 })
unfolding value_of tabulate N every first_from ones zeros is_schedule shift found has01 moves_next next steps changed
order-accepts = refl

order-refuses : order_by (layout_of 2) (5 ∷ 0 ∷ 2 ∷ 0 ∷ 1 ∷ 1 ∷ 128 ∷ []) (Err UnknownKind) ≡ Err UnknownKind
order-refuses = refl

read-order-accepts : read_order (5 ∷ 0 ∷ 2 ∷ 0 ∷ 1 ∷ 1 ∷ 128 ∷ []) (replicate most_beats 7)
    ≡ Ok (record { t = 1; s = 1; number = 0; consumed = 7 })
unfolding value_of tabulate N every first_from ones zeros is_schedule shift found has01 moves_next next steps changed
read-order-accepts = refl

read-order-refuses : read_order (5 ∷ 0 ∷ 2 ∷ 0 ∷ 1 ∷ 1 ∷ 128 ∷ []) [] ≡ Err NoRoom
read-order-refuses = refl

first-accepts : judge (first_rows most_beats (5 ∷ 0 ∷ 2 ∷ 0 ∷ 1 ∷ 1 ∷ 128 ∷ [])) ≡ Ok tt
unfolding value_of
first-accepts = refl

first-room : judge (first_rows (most_beats - 1) []) ≡ Err NoRoom
first-room = refl

first-cut : judge (first_rows most_beats (5 ∷ 0 ∷ 2 ∷ 0 ∷ 1 ∷ 1 ∷ [])) ≡ Err CutShort
unfolding value_of
first-cut = refl

-- a record of (2,1) of a kind, with a number: 101 is number 0 in the catalogue and number 1 from 110 on
abbrev numbered : ℕ → ℕ → List ℕ
numbered kind n = 12 ∷ 0 ∷ kind ∷ 0 ∷ 2 ∷ 1 ∷ n ∷ 0 ∷ 0 ∷ 0 ∷ 0 ∷ 0 ∷ 0 ∷ 0 ∷ []

-- kind 1 with its first number, with its last, and with one more; kind 3 [K4]
read_first : read_answer (numbered 1 0) (replicate most_beats 7)
    ≡ Ok (record { t = 2; s = 1; number = 1; consumed = 14 })
unfolding value_of N every first_from ones zeros is_schedule shift found has01 moves_next next steps changed
read_first = refl

read-last : read_answer (numbered 1 1) (replicate most_beats 7)
    ≡ Ok (record { t = 2; s = 1; number = 0; consumed = 14 })
unfolding value_of N every first_from ones zeros is_schedule shift found has01 moves_next next steps changed
read-last = refl

read-beyond : read_answer (numbered 1 2) (replicate most_beats 7) ≡ unread NoSuchNumber 14
unfolding value_of N every first_from ones zeros is_schedule shift found has01 moves_next next steps changed
read-beyond = refl

read-leaves-110 : read_left (numbered 1 0) (replicate most_beats 7) ≡ 1 ∷ 1 ∷ 0 ∷ replicate (most_beats - 3) 7
unfolding value_of N every first_from ones zeros is_schedule shift found has01 moves_next next steps changed
read-leaves-110 = refl

read-3 : read_answer (numbered 3 1) (replicate most_beats 7)
    ≡ Ok (record { t = 2; s = 1; number = 1; consumed = 14 })
unfolding value_of N every first_from ones zeros is_schedule shift found has01 moves_next next steps changed
read-3 = refl

read-leaves-101 : read_left (numbered 3 0) (replicate most_beats 7) ≡ 1 ∷ 0 ∷ 1 ∷ replicate (most_beats - 3) 7
unfolding value_of N every first_from ones zeros is_schedule shift found has01 moves_next next steps changed
read-leaves-101 = refl

-- by a layout, whatever the kind says
by_layout : read_answer_by Numbering.Catalogue (layout_of 1) (numbered 3 0) (replicate most_beats 7)
    ≡ Ok (record { t = 2; s = 1; number = 1; consumed = 14 })
unfolding value_of N every first_from ones zeros is_schedule shift found has01 moves_next next steps changed
by_layout = refl

by-no-layout : read_answer_by Numbering.Catalogue Layout.Unknown (numbered 3 0) (replicate most_beats 7)
    ≡ unread UnknownKind 14
unfolding value_of
by-no-layout = refl

left-by-layout : read_left_by (layout_of 1) (numbered 3 0) (replicate most_beats 7)
    ≡ 1 ∷ 1 ∷ 0 ∷ replicate (most_beats - 3) 7
unfolding value_of N every first_from ones zeros is_schedule shift found has01 moves_next next steps changed
left-by-layout = refl

left-by-no-layout : read_left_by Layout.Unknown (numbered 3 0) (replicate most_beats 7) ≡ replicate most_beats 7
unfolding value_of
left-by-no-layout = refl

-- number 2 of five in the catalogue stays; of the others 2 becomes 1, 0 the last, and 5, which no form has, stays
catalogued-2 : catalogued Numbering.Catalogue 5 2 ≡ 2
catalogued-2 = refl

catalogued-before : catalogued Numbering.FromTop 5 2 ≡ 1
catalogued-before = refl

catalogued-last : catalogued Numbering.FromTop 5 0 ≡ 4
catalogued-last = refl

catalogued-none : catalogued Numbering.FromTop 5 5 ≡ 5
catalogued-none = refl

-- what version 1 read: kind 1 with the number that it holds, and no kind 3 [K5] [K6]
earlier-kind-1 : earlier_layout 1 ≡ Layout.Numbered 4 Numbering.FromTop
earlier-kind-1 = refl

earlier-kind-2 : earlier_layout 2 ≡ Layout.Beaten 4
earlier-kind-2 = refl

earlier-kind-3 : earlier_layout 3 ≡ Layout.Unknown
earlier-kind-3 = refl

earlier-accepts : earlier_answer (numbered 1 0) (replicate most_beats 7)
    ≡ Ok (record { t = 2; s = 1; number = 0; consumed = 14 })
unfolding value_of N every first_from ones zeros is_schedule shift found has01 moves_next next steps changed
earlier-accepts = refl

earlier-packed : earlier_answer (5 ∷ 0 ∷ 2 ∷ 0 ∷ 2 ∷ 1 ∷ 160 ∷ []) (replicate most_beats 7)
    ≡ Ok (record { t = 2; s = 1; number = 1; consumed = 7 })
unfolding value_of tabulate N every first_from ones zeros is_schedule shift found has01 moves_next next steps changed
earlier-packed = refl

earlier-refuses : earlier_answer (numbered 3 0) (replicate most_beats 7) ≡ unread UnknownKind 14
unfolding value_of
earlier-refuses = refl

earlier-leaves-form : earlier_left (numbered 1 0) (replicate most_beats 7) ≡ 1 ∷ 1 ∷ 0 ∷ replicate (most_beats - 3) 7
unfolding value_of N every first_from ones zeros is_schedule shift found has01 moves_next next steps changed
earlier-leaves-form = refl

earlier-leaves-lent : earlier_left (numbered 3 0) (replicate most_beats 7) ≡ replicate most_beats 7
unfolding value_of
earlier-leaves-lent = refl

renumbered-2 : renumbered (record { t = 3; s = 2; number = 2; consumed = 14 })
    ≡ record { t = 3; s = 2; number = 1; consumed = 14 }
unfolding N
renumbered-2 = refl

renumbered-0 : renumbered (record { t = 3; s = 2; number = 0; consumed = 14 })
    ≡ record { t = 3; s = 2; number = 4; consumed = 14 }
unfolding N
renumbered-0 = refl
