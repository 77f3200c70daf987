-- The definitions of specs/ on small inputs, by computing them: the records of the manual and their neighbours; for
-- each test one that fits and one refused for each part. Assumes nothing.
use mathlib.Core.Bool.{true, false}
use mathlib.Core.List.{List, [], ◌∷◌}
use mathlib.Core.Path.{◌≡◌, refl}
use Prim.Native.Nat.{ℕ, ◌+◌}
use lib.IntN.{pos}
use lib.ListN.{replicate}
use Rattle.std.proofs.Common.{Ok, Err}
use Rattle.bounded.specs.Bounded.{every, first_from}
use Rattle.refusal.specs.declared.Refusal.TheVariants.{
  WrongSize,
  UnknownKind,
  CutShort,
  NoRoom,
  EmptyHand,
  WrongTakeUps,
  NoSuchNumber,
}
use Rattle.refusal.specs.Rows.{judge}
use Rattle.triangle.specs.Count.{N, most_beats}
use Rattle.schedule.specs.Schedule.{ones, zeros, is_schedule}
use Rattle.circle.specs.Step.{shift, found, has01, moves_next, next}
use Rattle.circle.specs.Walk.{steps, changed}
use Rattle.record.specs.Bytes.{
  low_first,
  value_of,
  spell,
  tabulate,
  bytes_for,
  packed,
  beat_at,
  unpacked,
  unused,
  turned,
}
use Rattle.record.specs.declared.layout.Layout.{Layout}
use Rattle.record.specs.declared.layout.Numbering.{Numbering}
use Rattle.record.specs.Layout.{layout_of, counts_at, is_unknown, is_unwritten}
use Rattle.record.specs.Record.{
  number_by,
  form_by,
  payload,
  record_of,
  long,
  kind_in,
  layout_in,
  ups,
  downs,
  body,
  ups_at,
  downs_at,
  body_at,
  cut,
  misfit,
  spoiled,
}
use Rattle.record.specs.Record.{meant, meant_number, packed_rows, body_rows, kind_rows, eaten}
use Rattle.record.specs.Record.{head_rows_by, read_rows_by, head_rows, read_rows}
use Rattle.record.specs.Record.{record_in, room_row, known_rows, written, known_answer, known_left}
use Rattle.record.specs.Record.{write_rows, write_answer, write_left}
use Rattle.record.specs.Parts.{Reading, unread}
use Rattle.record.specs.Parts as said

-- 12 and 1,020 as two bytes, and back
low-12 : low_first 2 12 ≡ 12 ∷ 0 ∷ []
unfolding low_first
low-12 = refl

low-1020 : low_first 2 1020 ≡ 252 ∷ 3 ∷ []
unfolding low_first
low-1020 = refl

value-1020 : value_of (252 ∷ 3 ∷ []) ≡ 1020
unfolding value_of
value-1020 = refl

value-12 : value_of (12 ∷ 0 ∷ []) ≡ 12
unfolding value_of
value-12 = refl

-- 101 spells 5, and 10 with a beat that is not there 4
spell-101 : spell 3 (1 ∷ 0 ∷ 1 ∷ []) ≡ 5
unfolding spell
spell-101 = refl

spell-10 : spell 3 (1 ∷ 0 ∷ []) ≡ 4
unfolding spell
spell-10 = refl

tabulate-3 : tabulate 3 (λ k. k + k) ≡ 0 ∷ 2 ∷ 4 ∷ []
unfolding tabulate
tabulate-3 = refl

tabulate-0 : tabulate 0 (λ k. k + k) ≡ []
unfolding tabulate
tabulate-0 = refl

-- 10101 is A8: the first beat is the highest bit, and three bits are unused
packed-10101 : packed (1 ∷ 0 ∷ 1 ∷ 0 ∷ 1 ∷ []) ≡ 168 ∷ []
unfolding tabulate spell
packed-10101 = refl

-- 100000001 needs a second byte
packed-two-bytes : packed (1 ∷ 0 ∷ 0 ∷ 0 ∷ 0 ∷ 0 ∷ 0 ∷ 0 ∷ 1 ∷ []) ≡ 128 ∷ 128 ∷ []
unfolding tabulate spell
packed-two-bytes = refl

beat-0 : beat_at (168 ∷ []) 0 ≡ 1
beat-0 = refl

beat-1 : beat_at (168 ∷ []) 1 ≡ 0
beat-1 = refl

unpacked-A8 : unpacked 5 (168 ∷ []) ≡ 1 ∷ 0 ∷ 1 ∷ 0 ∷ 1 ∷ []
unfolding tabulate
unpacked-A8 = refl

unpacked-two : unpacked 2 (128 ∷ []) ≡ 1 ∷ 0 ∷ []
unfolding tabulate
unpacked-two = refl

clean-A8 : unused 5 (168 ∷ []) ≡ 0
clean-A8 = refl

spoiled-A9 : unused 5 (169 ∷ []) ≡ 1
spoiled-A9 = refl

-- at beat 8 the second byte, at beat 9 what is left of it
turned-8 : turned (168 ∷ 7 ∷ []) 8 3 ≡ 7
turned-8 = refl

turned-9 : turned (168 ∷ 7 ∷ []) 9 14 ≡ 14
turned-9 = refl

-- nine beats need two bytes, eight need one, none needs none
nine : bytes_for 9 ≡ 2
nine = refl

eight : bytes_for 8 ≡ 1
eight = refl

none : bytes_for 0 ≡ 0
none = refl

-- the kinds
kind_1 : layout_of 1 ≡ Layout.Numbered 4 Numbering.FromTop
kind_1 = refl

kind_2 : layout_of 2 ≡ Layout.Beaten 4
kind_2 = refl

kind_3 : layout_of 3 ≡ Layout.Numbered 4 Numbering.Catalogue
kind_3 = refl

kind_0 : layout_of 0 ≡ Layout.Unknown
kind_0 = refl

kind-4 : layout_of 4 ≡ Layout.Unknown
kind-4 = refl

counts-at-4 : counts_at (layout_of 2) ≡ 4
counts-at-4 = refl

counts-at-8 : counts_at (Layout.Numbered 8 Numbering.Catalogue) ≡ 8
counts-at-8 = refl

known-2 : is_unknown (layout_of 2) ≡ false
known-2 = refl

known-3 : is_unknown (layout_of 3) ≡ false
known-3 = refl

unknown-4 : is_unknown (layout_of 4) ≡ true
unknown-4 = refl

-- kinds 2 and 3 are written, and kind 1 is only read [K3]
unwritten-1 : is_unwritten (layout_of 1) ≡ true
unwritten-1 = refl

written_2 : is_unwritten (layout_of 2) ≡ false
written_2 = refl

written-3 : is_unwritten (layout_of 3) ≡ false
written-3 = refl

unwritten-4 : is_unwritten (layout_of 4) ≡ true
unwritten-4 = refl

-- 101 is the first form of (2,1) in the catalogue, and the second from 110 on
number-in-catalogue : number_by Numbering.Catalogue 2 1 (1 ∷ 0 ∷ 1 ∷ []) ≡ 0
unfolding N every first_from ones zeros is_schedule shift found has01 moves_next next steps changed
number-in-catalogue = refl

number-in-from-top : number_by Numbering.FromTop 2 1 (1 ∷ 0 ∷ 1 ∷ []) ≡ 1
unfolding N every first_from ones zeros is_schedule shift found has01 moves_next next steps changed
number-in-from-top = refl

form-in-catalogue : form_by Numbering.Catalogue 2 1 0 ≡ 1 ∷ 0 ∷ 1 ∷ []
unfolding every first_from ones zeros is_schedule shift found has01 moves_next next steps
form-in-catalogue = refl

form-in-from-top : form_by Numbering.FromTop 2 1 0 ≡ 1 ∷ 1 ∷ 0 ∷ []
unfolding steps
form-in-from-top = refl

-- 10 of 1, 1, by its number 0 and by its beats; 110 of 2, 1, by its number in the catalogue, 1
payload-1 : payload (layout_of 1) 1 1 (1 ∷ 0 ∷ []) ≡ 0 ∷ 0 ∷ 0 ∷ 0 ∷ 0 ∷ 0 ∷ 0 ∷ 0 ∷ []
unfolding low_first N first_from steps changed
payload-1 = refl

payload-2 : payload (layout_of 2) 1 1 (1 ∷ 0 ∷ []) ≡ 128 ∷ []
unfolding tabulate spell
payload-2 = refl

payload-3 : payload (layout_of 3) 2 1 (1 ∷ 1 ∷ 0 ∷ []) ≡ 1 ∷ 0 ∷ 0 ∷ 0 ∷ 0 ∷ 0 ∷ 0 ∷ 0 ∷ []
unfolding low_first N every first_from ones zeros is_schedule shift found has01 moves_next next steps changed
payload-3 = refl

record-1 : record_of 1 1 1 (1 ∷ 0 ∷ []) ≡ 12 ∷ 0 ∷ 1 ∷ 0 ∷ 1 ∷ 1 ∷ 0 ∷ 0 ∷ 0 ∷ 0 ∷ 0 ∷ 0 ∷ 0 ∷ 0 ∷ []
unfolding low_first N first_from steps changed
record-1 = refl

record-2 : record_of 2 1 1 (1 ∷ 0 ∷ []) ≡ 5 ∷ 0 ∷ 2 ∷ 0 ∷ 1 ∷ 1 ∷ 128 ∷ []
unfolding low_first tabulate spell
record-2 = refl

record-3 : record_of 3 2 1 (1 ∷ 1 ∷ 0 ∷ []) ≡ 12 ∷ 0 ∷ 3 ∷ 0 ∷ 2 ∷ 1 ∷ 1 ∷ 0 ∷ 0 ∷ 0 ∷ 0 ∷ 0 ∷ 0 ∷ 0 ∷ []
unfolding low_first N every first_from ones zeros is_schedule shift found has01 moves_next next steps changed
record-3 = refl

-- the parts of the first two records of the manual
long-12 : long (12 ∷ 0 ∷ 1 ∷ 0 ∷ 3 ∷ 2 ∷ 2 ∷ 0 ∷ 0 ∷ 0 ∷ 0 ∷ 0 ∷ 0 ∷ 0 ∷ []) ≡ 12
unfolding value_of
long-12 = refl

pub long-5 : long (5 ∷ 0 ∷ 2 ∷ 0 ∷ 3 ∷ 2 ∷ 168 ∷ []) ≡ 5
unfolding value_of
long-5 = refl

number-of-kind-1 : kind_in (12 ∷ 0 ∷ 1 ∷ 0 ∷ 3 ∷ 2 ∷ 2 ∷ 0 ∷ 0 ∷ 0 ∷ 0 ∷ 0 ∷ 0 ∷ 0 ∷ []) ≡ 1
unfolding value_of
number-of-kind-1 = refl

number-of-kind-258 : kind_in (5 ∷ 0 ∷ 2 ∷ 1 ∷ 3 ∷ 2 ∷ 168 ∷ []) ≡ 258
unfolding value_of
number-of-kind-258 = refl

kind-in-1 : layout_in (12 ∷ 0 ∷ 1 ∷ 0 ∷ 3 ∷ 2 ∷ 2 ∷ 0 ∷ 0 ∷ 0 ∷ 0 ∷ 0 ∷ 0 ∷ 0 ∷ [])
    ≡ Layout.Numbered 4 Numbering.FromTop
unfolding value_of
kind-in-1 = refl

kind-in-2 : layout_in (5 ∷ 0 ∷ 2 ∷ 0 ∷ 3 ∷ 2 ∷ 168 ∷ []) ≡ Layout.Beaten 4
unfolding value_of
kind-in-2 = refl

ups-3 : ups (5 ∷ 0 ∷ 2 ∷ 0 ∷ 3 ∷ 2 ∷ 168 ∷ []) ≡ 3
unfolding value_of
ups-3 = refl

ups-1 : ups (5 ∷ 0 ∷ 2 ∷ 0 ∷ 1 ∷ 0 ∷ 128 ∷ []) ≡ 1
unfolding value_of
ups-1 = refl

downs-2 : downs (5 ∷ 0 ∷ 2 ∷ 0 ∷ 3 ∷ 2 ∷ 168 ∷ []) ≡ 2
unfolding value_of
downs-2 = refl

downs-0 : downs (5 ∷ 0 ∷ 2 ∷ 0 ∷ 1 ∷ 0 ∷ 128 ∷ []) ≡ 0
unfolding value_of
downs-0 = refl

body-1 : body (12 ∷ 0 ∷ 1 ∷ 0 ∷ 3 ∷ 2 ∷ 2 ∷ 0 ∷ 0 ∷ 0 ∷ 0 ∷ 0 ∷ 0 ∷ 0 ∷ []) ≡ 2 ∷ 0 ∷ 0 ∷ 0 ∷ 0 ∷ 0 ∷ 0 ∷ 0 ∷ []
unfolding value_of
body-1 = refl

body-2 : body (5 ∷ 0 ∷ 2 ∷ 0 ∷ 3 ∷ 2 ∷ 168 ∷ []) ≡ 168 ∷ []
unfolding value_of
body-2 = refl

-- with four bytes more before the counts
abbrev later : List ℕ
later = 9 ∷ 0 ∷ 6 ∷ 0 ∷ 7 ∷ 7 ∷ 7 ∷ 7 ∷ 1 ∷ 0 ∷ 128 ∷ []

ups-at-8 : ups_at 8 later ≡ 1
ups-at-8 = refl

downs-at-8 : downs_at 8 later ≡ 0
downs-at-8 = refl

body-at-8 : body_at 8 later ≡ 128 ∷ []
unfolding value_of
body-at-8 = refl

-- a whole record; no length; a byte too few; the longest, and a byte more
not-cut : cut (5 ∷ 0 ∷ 2 ∷ 0 ∷ 3 ∷ 2 ∷ 168 ∷ []) ≡ false
unfolding value_of
not-cut = refl

cut-in-length : cut (0 ∷ []) ≡ true
unfolding value_of
cut-in-length = refl

pub cut-in-body : cut (5 ∷ 0 ∷ 2 ∷ 0 ∷ 3 ∷ 2 ∷ []) ≡ true
unfolding value_of
cut-in-body = refl

not-cut-1020 : cut (252 ∷ 3 ∷ replicate 1020 0) ≡ false
unfolding value_of
not-cut-1020 = refl

-- [R13]
cut-1021 : cut (253 ∷ 3 ∷ replicate 1021 0) ≡ true
unfolding value_of
cut-1021 = refl

-- L for each kind
fits-12 : misfit (layout_of 1) 12 ≡ false
fits-12 = refl

misfit-13 : misfit (layout_of 1) 13 ≡ true
misfit-13 = refl

fits-12-of-3 : misfit (layout_of 3) 12 ≡ false
fits-12-of-3 = refl

misfit-5-of-3 : misfit (layout_of 3) 5 ≡ true
misfit-5-of-3 = refl

fits-4 : misfit (layout_of 2) 4 ≡ false
fits-4 = refl

misfit-3 : misfit (layout_of 2) 3 ≡ true
misfit-3 = refl

-- five beats in a byte; a byte too many; an unused bit set
unspoiled : spoiled 5 (168 ∷ []) ≡ false
unspoiled = refl

spoiled-length : spoiled 5 (168 ∷ 0 ∷ []) ≡ true
spoiled-length = refl

spoiled-bit : spoiled 5 (169 ∷ []) ≡ true
spoiled-bit = refl

-- kind 1 with number 2 of 3, 2 means 11010, and kind 3 with it 10101
meant-1 : meant (layout_of 1) 3 2 (2 ∷ 0 ∷ 0 ∷ 0 ∷ 0 ∷ 0 ∷ 0 ∷ 0 ∷ []) ≡ 1 ∷ 1 ∷ 0 ∷ 1 ∷ 0 ∷ []
unfolding value_of every first_from ones zeros is_schedule shift found has01 moves_next next steps
meant-1 = refl

meant-2 : meant (layout_of 2) 3 2 (168 ∷ []) ≡ 1 ∷ 0 ∷ 1 ∷ 0 ∷ 1 ∷ []
unfolding tabulate
meant-2 = refl

meant-3 : meant (layout_of 3) 3 2 (2 ∷ 0 ∷ 0 ∷ 0 ∷ 0 ∷ 0 ∷ 0 ∷ 0 ∷ []) ≡ 1 ∷ 0 ∷ 1 ∷ 0 ∷ 1 ∷ []
unfolding value_of every first_from ones zeros is_schedule shift found has01 moves_next next steps
meant-3 = refl

-- their numbers in the catalogue: kind 1 holds another, the first and the last of them too [K4]
meant-number-1 : meant_number (layout_of 1) 3 2 (2 ∷ 0 ∷ 0 ∷ 0 ∷ 0 ∷ 0 ∷ 0 ∷ 0 ∷ []) ≡ 1
unfolding value_of N every first_from ones zeros is_schedule shift found has01 moves_next next steps changed
meant-number-1 = refl

meant-number-1-first : meant_number (layout_of 1) 3 2 (0 ∷ 0 ∷ 0 ∷ 0 ∷ 0 ∷ 0 ∷ 0 ∷ 0 ∷ []) ≡ 4
unfolding value_of N every first_from ones zeros is_schedule shift found has01 moves_next next steps changed
meant-number-1-first = refl

meant-number-1-last : meant_number (layout_of 1) 3 2 (4 ∷ 0 ∷ 0 ∷ 0 ∷ 0 ∷ 0 ∷ 0 ∷ 0 ∷ []) ≡ 3
unfolding value_of N every first_from ones zeros is_schedule shift found has01 moves_next next steps changed
meant-number-1-last = refl

meant-number-3 : meant_number (layout_of 3) 3 2 (2 ∷ 0 ∷ 0 ∷ 0 ∷ 0 ∷ 0 ∷ 0 ∷ 0 ∷ []) ≡ 2
unfolding value_of N every first_from ones zeros is_schedule shift found has01 moves_next next steps changed
meant-number-3 = refl

meant-number-2 : meant_number (layout_of 2) 3 2 (168 ∷ []) ≡ 2
unfolding tabulate N every first_from ones zeros is_schedule shift found has01 moves_next next steps changed
meant-number-2 = refl

-- the second record of the manual, and the same cut by a byte, with L = 0, of kind 4, and of kind 3
taken : judge (read_rows most_beats (5 ∷ 0 ∷ 2 ∷ 0 ∷ 3 ∷ 2 ∷ 168 ∷ [])) ≡ Ok tt
unfolding value_of tabulate first_from ones zeros
taken = refl

-- [D1c]
cut_short : judge (read_rows most_beats (5 ∷ 0 ∷ 2 ∷ 0 ∷ 3 ∷ 2 ∷ [])) ≡ Err CutShort
unfolding value_of
cut_short = refl

nothing : judge (read_rows most_beats []) ≡ Err CutShort
unfolding value_of
nothing = refl

tiny : judge (read_rows most_beats (0 ∷ 0 ∷ [])) ≡ Err WrongSize
unfolding value_of
tiny = refl

-- [R13]
other-kind : judge (read_rows most_beats (5 ∷ 0 ∷ 4 ∷ 0 ∷ 3 ∷ 2 ∷ 168 ∷ [])) ≡ Err UnknownKind
unfolding value_of
other-kind = refl

short-for-3 : judge (read_rows most_beats (5 ∷ 0 ∷ 3 ∷ 0 ∷ 3 ∷ 2 ∷ 168 ∷ [])) ≡ Err WrongSize
unfolding value_of
short-for-3 = refl

-- an unused bit set; a beat with nothing in hand, 10100; one 1 too many, 11101
bit-set : judge (read_rows most_beats (5 ∷ 0 ∷ 2 ∷ 0 ∷ 3 ∷ 2 ∷ 169 ∷ [])) ≡ Err WrongSize
unfolding value_of tabulate first_from ones zeros
bit-set = refl

bare : judge (read_rows most_beats (5 ∷ 0 ∷ 2 ∷ 0 ∷ 3 ∷ 2 ∷ 160 ∷ [])) ≡ Err (EmptyHand 4)
unfolding value_of tabulate first_from ones zeros
bare = refl

one_more : judge (read_rows most_beats (5 ∷ 0 ∷ 2 ∷ 0 ∷ 3 ∷ 2 ∷ 232 ∷ [])) ≡ Err (WrongTakeUps (pos 1))
unfolding value_of tabulate first_from ones zeros
one_more = refl

-- its third record: number 5 of (3,2)
no_number : judge (read_rows most_beats (12 ∷ 0 ∷ 1 ∷ 0 ∷ 3 ∷ 2 ∷ 5 ∷ 0 ∷ 0 ∷ 0 ∷ 0 ∷ 0 ∷ 0 ∷ 0 ∷ []))
    ≡ Err NoSuchNumber
unfolding value_of N
no_number = refl

no-number-3 : judge (read_rows most_beats (12 ∷ 0 ∷ 3 ∷ 0 ∷ 3 ∷ 2 ∷ 5 ∷ 0 ∷ 0 ∷ 0 ∷ 0 ∷ 0 ∷ 0 ∷ 0 ∷ []))
    ≡ Err NoSuchNumber
unfolding value_of N
no-number-3 = refl

-- 63 places are too few, whatever is there
no_room : judge (read_rows 63 []) ≡ Err NoRoom
no_room = refl

-- what is consumed: nothing after 9 and after 12, else the record [R21]
eaten-9 : eaten CutShort 5 ≡ 0
eaten-9 = refl

-- [R21]
eaten-12 : eaten NoRoom 5 ≡ 0
eaten-12 = refl

eaten-11 : eaten WrongSize 5 ≡ 7
eaten-11 = refl

-- the parts of a record, where t stands at byte 4
ups-at-4 : ups_at 4 (5 ∷ 0 ∷ 2 ∷ 0 ∷ 3 ∷ 2 ∷ 168 ∷ []) ≡ 3
ups-at-4 = refl

downs-at-4 : downs_at 4 (5 ∷ 0 ∷ 2 ∷ 0 ∷ 3 ∷ 2 ∷ 168 ∷ []) ≡ 2
downs-at-4 = refl

body-at-4 : body_at 4 (5 ∷ 0 ∷ 2 ∷ 0 ∷ 3 ∷ 2 ∷ 168 ∷ []) ≡ 168 ∷ []
unfolding value_of
body-at-4 = refl

-- 10 in each layout
in-numbered : record_in (Layout.Numbered 4 Numbering.Catalogue) 3 1 1 (1 ∷ 0 ∷ [])
    ≡ 12 ∷ 0 ∷ 3 ∷ 0 ∷ 1 ∷ 1 ∷ 0 ∷ 0 ∷ 0 ∷ 0 ∷ 0 ∷ 0 ∷ 0 ∷ 0 ∷ []
unfolding low_first N every first_from ones zeros is_schedule shift found has01 moves_next next steps changed
in-numbered = refl

in-beaten : record_in (Layout.Beaten 4) 2 1 1 (1 ∷ 0 ∷ []) ≡ 5 ∷ 0 ∷ 2 ∷ 0 ∷ 1 ∷ 1 ∷ 128 ∷ []
unfolding low_first tabulate spell
in-beaten = refl

-- two bytes to write, into two and into one
room-enough : judge (room_row (1 ∷ 2 ∷ []) (7 ∷ 7 ∷ []) ∷ []) ≡ Ok tt
room-enough = refl

room-short : judge (room_row (1 ∷ 2 ∷ []) (7 ∷ []) ∷ []) ≡ Err NoRoom
room-short = refl

known-taken : judge (known_rows 1 1 (1 ∷ 0 ∷ []) (1 ∷ 2 ∷ []) (7 ∷ 7 ∷ [])) ≡ Ok tt
unfolding ones zeros first_from
known-taken = refl

known-short : judge (known_rows 1 1 (1 ∷ 0 ∷ []) (1 ∷ 2 ∷ []) (7 ∷ [])) ≡ Err NoRoom
unfolding ones zeros first_from
known-short = refl

written-taken : written (Ok tt) (1 ∷ 2 ∷ []) (7 ∷ 7 ∷ 7 ∷ []) ≡ 1 ∷ 2 ∷ 7 ∷ []
written-taken = refl

written-refused : written (Err NoRoom) (1 ∷ 2 ∷ []) (7 ∷ []) ≡ 7 ∷ []
written-refused = refl

known-answers-2 : known_answer 1 1 (1 ∷ 0 ∷ []) (1 ∷ 2 ∷ []) (7 ∷ 7 ∷ []) ≡ Ok 2
unfolding ones zeros first_from
known-answers-2 = refl

known-answers-12 : known_answer 1 1 (1 ∷ 0 ∷ []) (1 ∷ 2 ∷ []) (7 ∷ []) ≡ Err NoRoom
unfolding ones zeros first_from
known-answers-12 = refl

known-leaves-work : known_left 1 1 (1 ∷ 0 ∷ []) (1 ∷ 2 ∷ []) (7 ∷ 7 ∷ 7 ∷ []) ≡ 1 ∷ 2 ∷ 7 ∷ []
unfolding ones zeros first_from
known-leaves-work = refl

known-leaves-lent : known_left 1 1 (1 ∷ 0 ∷ []) (1 ∷ 2 ∷ []) (7 ∷ []) ≡ 7 ∷ []
unfolding ones zeros first_from
known-leaves-lent = refl

-- 10 as a record of kind 2, which has 7 bytes, and of kind 3, which has 14; of kind 1 and of no kind it is refused 10
write-taken : judge (write_rows 2 1 1 (1 ∷ 0 ∷ []) (replicate 8 7)) ≡ Ok tt
unfolding low_first tabulate spell ones zeros first_from
write-taken = refl

write-taken-3 : judge (write_rows 3 1 1 (1 ∷ 0 ∷ []) (replicate 14 7)) ≡ Ok tt
unfolding low_first N every first_from ones zeros is_schedule shift found has01 moves_next next steps changed
write-taken-3 = refl

-- [K3]
write-1 : judge (write_rows 1 1 1 (1 ∷ 0 ∷ []) (replicate 14 7)) ≡ Err UnknownKind
write-1 = refl

write-other : judge (write_rows 4 1 1 (1 ∷ 0 ∷ []) (replicate 8 7)) ≡ Err UnknownKind
write-other = refl

write-answers-7 : write_answer 2 1 1 (1 ∷ 0 ∷ []) (replicate 8 7) ≡ Ok 7
unfolding low_first tabulate spell ones zeros first_from
write-answers-7 = refl

write-answers-12 : write_answer 2 1 1 (1 ∷ 0 ∷ []) (replicate 6 7) ≡ Err NoRoom
unfolding low_first tabulate spell ones zeros first_from
write-answers-12 = refl

write-leaves-record : write_left 2 1 1 (1 ∷ 0 ∷ []) (replicate 8 7) ≡ 5 ∷ 0 ∷ 2 ∷ 0 ∷ 1 ∷ 1 ∷ 128 ∷ 7 ∷ []
unfolding low_first tabulate spell ones zeros first_from
write-leaves-record = refl

write-leaves-lent : write_left 1 1 1 (1 ∷ 0 ∷ []) (7 ∷ []) ≡ 7 ∷ []
write-leaves-lent = refl

-- the ends of the order of reading: 10101 packed, and with an unused bit; number 4 of (3,2), and 5, by both numberings
packed-taken : judge (packed_rows 3 2 (168 ∷ [])) ≡ Ok tt
unfolding tabulate ones zeros first_from
packed-taken = refl

packed-spoiled : judge (packed_rows 3 2 (169 ∷ [])) ≡ Err WrongSize
packed-spoiled = refl

body-taken : judge (body_rows (layout_of 1) 3 2 (4 ∷ [])) ≡ Ok tt
unfolding value_of N
body-taken = refl

body-beyond : judge (body_rows (layout_of 1) 3 2 (5 ∷ [])) ≡ Err NoSuchNumber
unfolding value_of N
body-beyond = refl

body-taken-3 : judge (body_rows (layout_of 3) 3 2 (4 ∷ [])) ≡ Ok tt
unfolding value_of N
body-taken-3 = refl

body-beyond-3 : judge (body_rows (layout_of 3) 3 2 (5 ∷ [])) ≡ Err NoSuchNumber
unfolding value_of N
body-beyond-3 = refl

-- by a layout, whatever the kind says: kind 2, taken for one of no layout
head-by-taken : judge (head_rows_by (layout_of 2) most_beats (5 ∷ 0 ∷ 2 ∷ 0 ∷ 3 ∷ 2 ∷ 168 ∷ [])) ≡ Ok tt
unfolding value_of
head-by-taken = refl

head-by-unknown : judge (head_rows_by Layout.Unknown most_beats (5 ∷ 0 ∷ 2 ∷ 0 ∷ 3 ∷ 2 ∷ 168 ∷ []))
    ≡ Err UnknownKind
unfolding value_of
head-by-unknown = refl

by-taken : judge (read_rows_by (layout_of 2) most_beats (5 ∷ 0 ∷ 2 ∷ 0 ∷ 3 ∷ 2 ∷ 168 ∷ [])) ≡ Ok tt
unfolding value_of tabulate first_from ones zeros
by-taken = refl

by-unknown : judge (read_rows_by Layout.Unknown most_beats (5 ∷ 0 ∷ 2 ∷ 0 ∷ 3 ∷ 2 ∷ 168 ∷ []))
    ≡ Err UnknownKind
unfolding value_of
by-unknown = refl

head-taken : judge (head_rows most_beats (5 ∷ 0 ∷ 2 ∷ 0 ∷ 3 ∷ 2 ∷ 168 ∷ [])) ≡ Ok tt
unfolding value_of
head-taken = refl

head-cut : judge (head_rows most_beats (5 ∷ 0 ∷ 2 ∷ [])) ≡ Err CutShort
unfolding value_of
head-cut = refl

kind-taken : judge (kind_rows (layout_of 2) (5 ∷ 0 ∷ 2 ∷ 0 ∷ 3 ∷ 2 ∷ 168 ∷ [])) ≡ Ok tt
unfolding value_of tabulate ones zeros first_from
kind-taken = refl

kind-misfit : judge (kind_rows (layout_of 2) (3 ∷ 0 ∷ 2 ∷ 0 ∷ 3 ∷ [])) ≡ Err WrongSize
unfolding value_of
kind-misfit = refl

-- the parts of an answer: of the manual's first record, and of one that is refused 7
abbrev accepts : Reading
accepts = Ok (record { t = 3; s = 2; number = 1; consumed = 14 })

abbrev refuses : Reading
refuses = unread NoSuchNumber 13

verdict-accepts : said.verdict accepts ≡ Ok tt
verdict-accepts = refl

verdict-refuses : said.verdict refuses ≡ Err NoSuchNumber
verdict-refuses = refl

t-accepts : said.t accepts ≡ 3
t-accepts = refl

t-refuses : said.t refuses ≡ 0
t-refuses = refl

s-accepts : said.s accepts ≡ 2
s-accepts = refl

s-refuses : said.s refuses ≡ 0
s-refuses = refl

number-accepts : said.number accepts ≡ 1
number-accepts = refl

number-refuses : said.number refuses ≡ 0
number-refuses = refl

consumed-accepts : said.consumed accepts ≡ 14
consumed-accepts = refl

consumed-refuses : said.consumed refuses ≡ 13
consumed-refuses = refl
