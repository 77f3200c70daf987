-- The definitions of specs/ on small inputs, by computing them: the lines of the manual's four records [E4] and their
-- neighbours, the whole lists of the four, and what the program's buffers and turns may be. Assumes nothing.
use mathlib.Core.Bool.{true}
use mathlib.Core.List.{List, [], ◌∷◌, ◌++◌}
use mathlib.Core.Path.{◌≡◌, refl}
use Prim.Native.Nat.{ℕ, ◌<◌}
use native.Mathlib.Omega.{arith}
use lib.IntN.{negsuc}
use lib.ListN.{replicate}
use Rattle.stream.specs.declared.Failure.{Failure}
use Rattle.std.proofs.Common.{Ok, Err, Some, None}
use Rattle.refusal.specs.declared.Refusal.TheVariants.{WrongTakeUps, NoSuchNumber, NotClosed}
use Rattle.text.specs.Decimal.{digits, decimal}
use Rattle.bounded.specs.Bounded.{every, first_from}
use Rattle.triangle.specs.Count.{N, most_beats}
use Rattle.schedule.specs.Schedule.{ones, zeros, is_schedule}
use Rattle.circle.specs.Step.{shift, found, has01, moves_next, next}
use Rattle.circle.specs.Walk.{steps, changed}
use Rattle.record.specs.Bytes.{value_of, tabulate}
use Rattle.reason.specs.Explanation.{differing_from, explanation_of}
use Rattle.tree.specs.Parse.{grow, parse, foremost, tree_of}
use Rattle.outline.specs.Outline.{planted}
use Rattle.outline.specs.Text.{stem, lines_of}
use Rattle.outline.specs.Text as outline
use Rattle.line.specs.Line.{beat_text}
use Rattle.reason_line.specs.Line.{places_text}
use Rattle.stream.specs.declared.Front.{Front}
use Rattle.stream.specs.declared.Stream.{Stream}
use Rattle.stream.specs.Stream.{list_from}
use Rattle.stream.specs.Exchange.{begun, fed, finished}
use Rattle.stream.specs.Pass.{rests}
use Rattle.lists.specs.declared.Which.{Which}
use Rattle.lists.specs.Listed.{
  form_in,
  ones_in,
  apart,
  outlined_text,
  accepted_text,
  refused_in,
  text,
  line_of,
  packing_list,
  explanations,
  outlines,
  widest,
  Buffers,
  Turned,
  ended_by,
  status_of,
}

-- 3 2 1 11010, of a record of kind 1 that holds 2 [E4]
first : line_of Which.Packing (12 ∷ 0 ∷ 1 ∷ 0 ∷ 3 ∷ 2 ∷ 2 ∷ 0 ∷ 0 ∷ 0 ∷ 0 ∷ 0 ∷ 0 ∷ 0 ∷ [])
    ≡ 51 ∷ 32 ∷ 50 ∷ 32 ∷ 49 ∷ 32 ∷ 49 ∷ 49 ∷ 48 ∷ 49 ∷ 48 ∷ 10 ∷ []
unfolding value_of N digits decimal beat_text every first_from ones zeros is_schedule shift found has01 moves_next next
    steps
    changed
first = refl

-- the same line, of the record of kind 3 that holds 1 [K4]
first-listed : line_of Which.Packing (12 ∷ 0 ∷ 3 ∷ 0 ∷ 3 ∷ 2 ∷ 1 ∷ 0 ∷ 0 ∷ 0 ∷ 0 ∷ 0 ∷ 0 ∷ 0 ∷ [])
    ≡ 51 ∷ 32 ∷ 50 ∷ 32 ∷ 49 ∷ 32 ∷ 49 ∷ 49 ∷ 48 ∷ 49 ∷ 48 ∷ 10 ∷ []
unfolding value_of N digits decimal beat_text every first_from ones zeros is_schedule shift found has01 moves_next next
    steps
    changed
first-listed = refl

-- 3 2 2 10101 [E4]
second : line_of Which.Packing (5 ∷ 0 ∷ 2 ∷ 0 ∷ 3 ∷ 2 ∷ 168 ∷ [])
    ≡ 51 ∷ 32 ∷ 50 ∷ 32 ∷ 50 ∷ 32 ∷ 49 ∷ 48 ∷ 49 ∷ 48 ∷ 49 ∷ 10 ∷ []
unfolding value_of tabulate N digits decimal beat_text every first_from ones zeros is_schedule shift found has01
    moves_next
    next steps changed
second = refl

-- refused 7 0 0 [E4]
third : line_of Which.Packing (12 ∷ 0 ∷ 1 ∷ 0 ∷ 3 ∷ 2 ∷ 5 ∷ 0 ∷ 0 ∷ 0 ∷ 0 ∷ 0 ∷ 0 ∷ 0 ∷ [])
    ≡ 114 ∷ 101 ∷ 102 ∷ 117 ∷ 115 ∷ 101 ∷ 100 ∷ 32 ∷ 55 ∷ 32 ∷ 48 ∷ 32 ∷ 48 ∷ 10 ∷ []
unfolding value_of N digits decimal
third = refl

-- refused 6 0 -1: kind 2, with 1010 for (3,1) [Q6]
one-missing : line_of Which.Packing (5 ∷ 0 ∷ 2 ∷ 0 ∷ 3 ∷ 1 ∷ 160 ∷ [])
    ≡ 114 ∷ 101 ∷ 102 ∷ 117 ∷ 115 ∷ 101 ∷ 100 ∷ 32 ∷ 54 ∷ 32 ∷ 48 ∷ 32 ∷ 45 ∷ 49 ∷ 10 ∷ []
unfolding value_of tabulate N digits decimal every first_from ones zeros
one-missing = refl

-- 1 1 0 10 [E4]
fourth : line_of Which.Packing (12 ∷ 0 ∷ 1 ∷ 0 ∷ 1 ∷ 1 ∷ 0 ∷ 0 ∷ 0 ∷ 0 ∷ 0 ∷ 0 ∷ 0 ∷ 0 ∷ [])
    ≡ 49 ∷ 32 ∷ 49 ∷ 32 ∷ 48 ∷ 32 ∷ 49 ∷ 48 ∷ 10 ∷ []
unfolding value_of N digits decimal beat_text every first_from ones zeros is_schedule shift found has01 moves_next next
    steps
    changed
fourth = refl

-- the empty schedule prints as -: 0 0 0 - [E4]
empty : line_of Which.Packing (4 ∷ 0 ∷ 2 ∷ 0 ∷ 0 ∷ 0 ∷ []) ≡ 48 ∷ 32 ∷ 48 ∷ 32 ∷ 48 ∷ 32 ∷ 45 ∷ 10 ∷ []
unfolding value_of tabulate N digits decimal beat_text every first_from ones zeros is_schedule shift found has01
    moves_next
    next steps changed
empty = refl

-- the manual's four records, one after the other, and the four lines that it gives
abbrev orders : List ℕ
orders =
    12 ∷ 0 ∷ 1 ∷ 0 ∷ 3 ∷ 2 ∷ 2 ∷ 0 ∷ 0 ∷ 0 ∷ 0 ∷ 0 ∷ 0 ∷ 0 ∷
    5 ∷ 0 ∷ 2 ∷ 0 ∷ 3 ∷ 2 ∷ 168 ∷
    12 ∷ 0 ∷ 1 ∷ 0 ∷ 3 ∷ 2 ∷ 5 ∷ 0 ∷ 0 ∷ 0 ∷ 0 ∷ 0 ∷ 0 ∷ 0 ∷
    12 ∷ 0 ∷ 1 ∷ 0 ∷ 1 ∷ 1 ∷ 0 ∷ 0 ∷ 0 ∷ 0 ∷ 0 ∷ 0 ∷ 0 ∷ 0 ∷ []

abbrev lines : List ℕ
lines =
    51 ∷ 32 ∷ 50 ∷ 32 ∷ 49 ∷ 32 ∷ 49 ∷ 49 ∷ 48 ∷ 49 ∷ 48 ∷ 10 ∷
    51 ∷ 32 ∷ 50 ∷ 32 ∷ 50 ∷ 32 ∷ 49 ∷ 48 ∷ 49 ∷ 48 ∷ 49 ∷ 10 ∷
    114 ∷ 101 ∷ 102 ∷ 117 ∷ 115 ∷ 101 ∷ 100 ∷ 32 ∷ 55 ∷ 32 ∷ 48 ∷ 32 ∷ 48 ∷ 10 ∷
    49 ∷ 32 ∷ 49 ∷ 32 ∷ 48 ∷ 32 ∷ 49 ∷ 48 ∷ 10 ∷ []

-- [E4] [E14]
whole-list : packing_list orders ≡ lines
unfolding list_from value_of tabulate N digits decimal beat_text every first_from ones zeros is_schedule shift found
    has01
    moves_next next steps changed
whole-list = refl

-- with a byte after them that is no record: refused 9 0 0, and the list ends [E14]
cut_list : packing_list (orders ++ 12 ∷ [])
    ≡ lines ++ 114 ∷ 101 ∷ 102 ∷ 117 ∷ 115 ∷ 101 ∷ 100 ∷ 32 ∷ 57 ∷ 32 ∷ 48 ∷ 32 ∷ 48 ∷ 10 ∷ []
unfolding list_from value_of tabulate N digits decimal beat_text every first_from ones zeros is_schedule shift found
    has01
    moves_next next steps changed
cut_list = refl

-- the explanation of 11010, number 1 of (3,2): 3 3 4 1 2 3 4 [X9]
explained-first : line_of Which.Explaining (12 ∷ 0 ∷ 1 ∷ 0 ∷ 3 ∷ 2 ∷ 2 ∷ 0 ∷ 0 ∷ 0 ∷ 0 ∷ 0 ∷ 0 ∷ 0 ∷ [])
    ≡ 51 ∷ 32 ∷ 51 ∷ 32 ∷ 52 ∷ 32 ∷ 49 ∷ 32 ∷ 50 ∷ 32 ∷ 51 ∷ 32 ∷ 52 ∷ 10 ∷ []
unfolding value_of tabulate N digits decimal every first_from ones zeros is_schedule shift found has01 moves_next next
    steps
    changed differing_from explanation_of places_text
explained-first = refl

-- that of 10101: 4 2 2 1 2
explained-second : line_of Which.Explaining (5 ∷ 0 ∷ 2 ∷ 0 ∷ 3 ∷ 2 ∷ 168 ∷ [])
    ≡ 52 ∷ 32 ∷ 50 ∷ 32 ∷ 50 ∷ 32 ∷ 49 ∷ 32 ∷ 50 ∷ 10 ∷ []
unfolding value_of tabulate N digits decimal every first_from ones zeros is_schedule shift found has01 moves_next next
    steps
    changed differing_from explanation_of places_text
explained-second = refl

-- a number that no form has is refused as in the packing list
explained-third : line_of Which.Explaining (12 ∷ 0 ∷ 1 ∷ 0 ∷ 3 ∷ 2 ∷ 5 ∷ 0 ∷ 0 ∷ 0 ∷ 0 ∷ 0 ∷ 0 ∷ 0 ∷ [])
    ≡ 114 ∷ 101 ∷ 102 ∷ 117 ∷ 115 ∷ 101 ∷ 100 ∷ 32 ∷ 55 ∷ 32 ∷ 48 ∷ 32 ∷ 48 ∷ 10 ∷ []
unfolding value_of tabulate N digits decimal every first_from ones zeros is_schedule shift found has01 moves_next next
    steps
    changed differing_from explanation_of places_text
explained-third = refl

-- 1010 for (3,1): three ones were asked for, and two are there [X11]
explained-missing : line_of Which.Explaining (5 ∷ 0 ∷ 2 ∷ 0 ∷ 3 ∷ 1 ∷ 160 ∷ [])
    ≡ 114 ∷ 101 ∷ 102 ∷ 117 ∷ 115 ∷ 101 ∷ 100 ∷ 32 ∷ 54 ∷ 32 ∷ 48 ∷ 32 ∷ 45 ∷ 49 ∷ 32 ∷ 51 ∷ 32 ∷ 50 ∷ 10 ∷ []
unfolding value_of tabulate N digits decimal every first_from ones zeros is_schedule shift found has01 moves_next next
    steps
    changed differing_from explanation_of places_text
explained-missing = refl

-- 111 for (2,1): two were asked for, and three are there [X11]
explained-over : line_of Which.Explaining (5 ∷ 0 ∷ 2 ∷ 0 ∷ 2 ∷ 1 ∷ 224 ∷ [])
    ≡ 114 ∷ 101 ∷ 102 ∷ 117 ∷ 115 ∷ 101 ∷ 100 ∷ 32 ∷ 54 ∷ 32 ∷ 48 ∷ 32 ∷ 49 ∷ 32 ∷ 50 ∷ 32 ∷ 51 ∷ 10 ∷ []
unfolding value_of tabulate N digits decimal every first_from ones zeros is_schedule shift found has01 moves_next next
    steps
    changed differing_from explanation_of places_text
explained-over = refl

-- the empty schedule is the only form of (0,0)
explained-empty : line_of Which.Explaining (4 ∷ 0 ∷ 2 ∷ 0 ∷ 0 ∷ 0 ∷ [])
    ≡ 49 ∷ 32 ∷ 45 ∷ 32 ∷ 45 ∷ 32 ∷ 45 ∷ 10 ∷ []
unfolding value_of tabulate N digits decimal every first_from ones zeros is_schedule shift found has01 moves_next next
    steps
    changed differing_from explanation_of places_text
explained-empty = refl

-- the lines of the manual's four records, explained
abbrev explained-lines : List ℕ
explained-lines =
    51 ∷ 32 ∷ 51 ∷ 32 ∷ 52 ∷ 32 ∷ 49 ∷ 32 ∷ 50 ∷ 32 ∷ 51 ∷ 32 ∷ 52 ∷ 10 ∷
    52 ∷ 32 ∷ 50 ∷ 32 ∷ 50 ∷ 32 ∷ 49 ∷ 32 ∷ 50 ∷ 10 ∷
    114 ∷ 101 ∷ 102 ∷ 117 ∷ 115 ∷ 101 ∷ 100 ∷ 32 ∷ 55 ∷ 32 ∷ 48 ∷ 32 ∷ 48 ∷ 10 ∷
    49 ∷ 32 ∷ 45 ∷ 32 ∷ 45 ∷ 32 ∷ 45 ∷ 10 ∷ []

-- the whole list of the manual's four records [X10]
whole-explained : explanations orders ≡ explained-lines
unfolding list_from value_of tabulate N digits decimal every first_from ones zeros is_schedule shift found has01
    moves_next
    next steps changed differing_from explanation_of places_text
whole-explained = refl

-- a refusal where outlines are listed: its line and an empty line; 7 and 14
apart-7 : apart NoSuchNumber
    ≡ 114 ∷ 101 ∷ 102 ∷ 117 ∷ 115 ∷ 101 ∷ 100 ∷ 32 ∷ 55 ∷ 32 ∷ 48 ∷ 32 ∷ 48 ∷ 10 ∷ 10 ∷ []
unfolding digits decimal
apart-7 = refl

apart-14 : apart NotClosed
    ≡ 114 ∷ 101 ∷ 102 ∷ 117 ∷ 115 ∷ 101 ∷ 100 ∷ 32 ∷ 49 ∷ 52 ∷ 32 ∷ 48 ∷ 32 ∷ 48 ∷ 10 ∷ 10 ∷ []
unfolding digits decimal
apart-14 = refl

-- 1100 is 1, 1.1 and an empty line; 110 is not closed [I6]
outlined-1100 : outlined_text 2 2 (1 ∷ 1 ∷ 0 ∷ 0 ∷ []) ≡ 49 ∷ 10 ∷ 49 ∷ 46 ∷ 49 ∷ 10 ∷ 10 ∷ []
unfolding digits decimal grow parse foremost tree_of planted stem outline.lines lines_of outline.text
outlined-1100 = refl

outlined-110 : outlined_text 2 1 (1 ∷ 1 ∷ 0 ∷ [])
    ≡ 114 ∷ 101 ∷ 102 ∷ 117 ∷ 115 ∷ 101 ∷ 100 ∷ 32 ∷ 49 ∷ 52 ∷ 32 ∷ 48 ∷ 32 ∷ 48 ∷ 10 ∷ 10 ∷ []
unfolding digits decimal
outlined-110 = refl

-- 10 and the empty schedule: 1, an empty line, and another empty line; no record gives nothing [I6]
whole-outlined : outlines (5 ∷ 0 ∷ 2 ∷ 0 ∷ 1 ∷ 1 ∷ 128 ∷ 4 ∷ 0 ∷ 2 ∷ 0 ∷ 0 ∷ 0 ∷ []) ≡ 49 ∷ 10 ∷ 10 ∷ 10 ∷ []
unfolding list_from value_of tabulate N digits decimal every first_from ones zeros is_schedule shift found has01
    moves_next
    next steps changed grow parse foremost tree_of planted stem outline.lines lines_of outline.text
whole-outlined = refl

none-outlined : outlines [] ≡ []
unfolding list_from
none-outlined = refl

-- the form of a record, and the ones of the beats that it packs, 10101
form_in_lem : form_in (5 ∷ 0 ∷ 2 ∷ 0 ∷ 3 ∷ 2 ∷ 168 ∷ []) ≡ 1 ∷ 0 ∷ 1 ∷ 0 ∷ 1 ∷ []
unfolding value_of tabulate
form_in_lem = refl

form-in-10 : form_in (5 ∷ 0 ∷ 2 ∷ 0 ∷ 1 ∷ 1 ∷ 128 ∷ []) ≡ 1 ∷ 0 ∷ []
unfolding value_of tabulate
form-in-10 = refl

ones-in : ones_in (5 ∷ 0 ∷ 2 ∷ 0 ∷ 3 ∷ 2 ∷ 168 ∷ []) ≡ 3
unfolding value_of tabulate ones
ones-in = refl

ones-in-10 : ones_in (5 ∷ 0 ∷ 2 ∷ 0 ∷ 1 ∷ 1 ∷ 128 ∷ []) ≡ 1
unfolding value_of tabulate ones
ones-in-10 = refl

-- the line of 10 in the packing list and in the explanations
taken-packing : accepted_text Which.Packing 1 1 0 (1 ∷ 0 ∷ []) ≡ 49 ∷ 32 ∷ 49 ∷ 32 ∷ 48 ∷ 32 ∷ 49 ∷ 48 ∷ 10 ∷ []
unfolding digits decimal beat_text
taken-packing = refl

taken-explaining : accepted_text Which.Explaining 1 1 0 (1 ∷ 0 ∷ []) ≡ 49 ∷ 32 ∷ 45 ∷ 32 ∷ 45 ∷ 32 ∷ 45 ∷ 10 ∷ []
unfolding N digits decimal ones zeros explanation_of places_text
taken-explaining = refl

-- a refusal that is no 6 has one line in the packing list and in the explanations; after a 6 an explanation has the
-- ones of the record, of 1010 for (3,1)
refused-packing : refused_in Which.Packing [] NoSuchNumber
    ≡ 114 ∷ 101 ∷ 102 ∷ 117 ∷ 115 ∷ 101 ∷ 100 ∷ 32 ∷ 55 ∷ 32 ∷ 48 ∷ 32 ∷ 48 ∷ 10 ∷ []
unfolding digits decimal
refused-packing = refl

refused-explaining : refused_in Which.Explaining [] NoSuchNumber
    ≡ 114 ∷ 101 ∷ 102 ∷ 117 ∷ 115 ∷ 101 ∷ 100 ∷ 32 ∷ 55 ∷ 32 ∷ 48 ∷ 32 ∷ 48 ∷ 10 ∷ []
unfolding digits decimal
refused-explaining = refl

refused-counted : refused_in Which.Explaining (5 ∷ 0 ∷ 2 ∷ 0 ∷ 3 ∷ 1 ∷ 160 ∷ []) (WrongTakeUps (negsuc 0))
    ≡ 114 ∷ 101 ∷ 102 ∷ 117 ∷ 115 ∷ 101 ∷ 100 ∷ 32 ∷ 54 ∷ 32 ∷ 48 ∷ 32 ∷ 45 ∷ 49 ∷ 32 ∷ 51 ∷ 32 ∷ 50 ∷ 10 ∷ []
unfolding value_of tabulate digits decimal ones
refused-counted = refl

-- no record, no line
none-explained : explanations [] ≡ []
unfolding list_from
none-explained = refl

-- buffers that every record and every schedule fit into; one byte less is too little
large-enough : Buffers (replicate 1022 0) (replicate most_beats 0)
large-enough = record { any-record = omega arith; any-beats = refl }

input-too-small : Buffers (replicate 1021 0) (replicate most_beats 0) → ⊥
input-too-small p = omega (arith, p.any-record)

room-too-small : Buffers (replicate 1022 0) (replicate 63 0) → ⊥
room-too-small p = omega (arith, p.any-beats)

-- the first turn of an empty input finds its end; no turn leaves the program outside of its buffer
waits : {room : ℕ} → Front.Short ≡ Front.Record → room < widest
waits e = let z : ◌≡◌ {A = ℕ} 0 1 = cc in absurd (omega arith)

abbrev after-the-end : ℕ → Stream
after-the-end have = record { at = 0; have = have; ended = true; end = None }

turned-at-the-end : Turned Which.Packing [] [] begun [] (after-the-end 0)
unfolding value_of
turned-at-the-end = record {
  inside = record { unread = omega arith; held = omega arith };
  turns = record {
    text = [];
    pass = record { consumed = 0; bytes = 0; front = Front.Short };
    lines = rests refl waits;
    onward = fed refl finished;
  };
}

turned-out-of-the-buffer : Turned Which.Packing [] [] begun [] (after-the-end 1) → ⊥
turned-out-of-the-buffer p = omega (arith, p.inside.held)

-- the line after a verdict: "1 1 0 10", and "refused 7 0 0"
text-taken : text Which.Packing (5 ∷ 0 ∷ 2 ∷ 0 ∷ 1 ∷ 1 ∷ 128 ∷ []) (Ok tt)
    ≡ 49 ∷ 32 ∷ 49 ∷ 32 ∷ 48 ∷ 32 ∷ 49 ∷ 48 ∷ 10 ∷ []
unfolding value_of tabulate N digits decimal beat_text every first_from ones zeros is_schedule shift found has01
    moves_next
    next steps changed
text-taken = refl

text-refused : text Which.Packing [] (Err NoSuchNumber)
    ≡ 114 ∷ 101 ∷ 102 ∷ 117 ∷ 115 ∷ 101 ∷ 100 ∷ 32 ∷ 55 ∷ 32 ∷ 48 ∷ 32 ∷ 48 ∷ 10 ∷ []
unfolding digits decimal
text-refused = refl

-- what a run answers: the end that its list came to; with none, reading failed
ended-listed : ended_by (Some (Ok tt)) ≡ Ok tt
ended-listed = refl

ended-unwritten : ended_by (Some (Err Failure.Unwritten)) ≡ Err Failure.Unwritten
ended-unwritten = refl

ended-never : ended_by None ≡ Err Failure.Unread
ended-never = refl

-- what listing answered, as a number
status-listed : status_of (Ok tt) ≡ 0
status-listed = refl

status-unread : status_of (Err Failure.Unread) ≡ 1
status-unread = refl
