-- Order records, the manual, "Order record" and "Refusal numbers" (Order: reading, writing), by the layout of their
-- kind. Definitions only.
--     A record, written:
--     number_by        the number of a form by a numbering: the catalogue's, or the one from t ones then s zeros
--     payload          what a record of a kind has after its counts: the number, by the kind's numbering (kinds 1 and
--                      3), or the packed beats (kind 2) [O5] [K3]
--     record_in, record_of       the bytes of a record, of a layout and of a kind: its length, its kind, its
--                                counts, its payload [O5] [B2]
--     write_rows       the refusals of writing, in their order: 10, 1, 2, 3, 4, 5, 6, 12; kind 1 is refused 10, as a
--                      kind that has no layout [R19] [K3]
--     write_answer, write_left   what writing answers, 2 + L, and leaves: the record, and after it what was there;
--                                known_answer and known_left where the kind is written [B2]
--     A record, read:
--     long, kind_in, layout_in, ups, downs, body   the parts of the record that a slice starts with; ups_at, downs_at
--                                                  and body_at by the byte at which t stands
--     cut              the slice has no whole record, or L is above 1,020 [D1c]
--     misfit           L is wrong for the kind
--     spoiled          kind 2: what L leaves for the beats is not exactly what the counts need,
--                      or an unused bit is not 0
--     form_by          the form of a number by a numbering
--     meant            the schedule that a record means: the form of the number that it holds, by the kind's
--                      numbering, or the beats that are packed [B7] [K4]
--     meant_number     its number, in the catalogue for every kind [B7] [K4]
--     body_rows        the refusals of what a kind holds: 7 exactly if the number, as it is held, is not below N(t, s);
--                      or 11, 5, 6 [K4]
--     head_rows_by, head_rows    the refusals of reading before the kind is known, in their order: 12, 9, 11 (L below
--                                2), 10, by a layout and by that of the kind in the slice [R13] [B2]
--     kind_rows        and those of a kind: 11 (L wrong for it), 1, 2, then 7, or 11, 5, 6 [R13]
--     read_rows_by, read_rows       both, by a layout and by that of the kind in the slice [R20]
--     eaten            the bytes consumed: 2 + L, but 0 after 9 and after 12 [R21]
--     What reading answers and leaves is in specs/Answers of the crate `reader`.
use Rattle.std.specs.Prelude.{Bool, false, not, cond, ◌||◌, List, [], ◌∷◌, ◌++◌, ℕ, ◌+◌, ◌-◌, eqb, ltb, length, get_or}
use Rattle.std.specs.Prelude.{take, drop}
use Rattle.refusal.specs.declared.Refusal.{Refusal}
use Rattle.refusal.specs.declared.Refusal.TheVariants.{NoSuchNumber, CutShort, UnknownKind, WrongSize, NoRoom}
use Rattle.refusal.specs.Answer.{Verdict, Answer, answer, left}
use Rattle.refusal.specs.Refusal.{refusal_number}
use Rattle.refusal.specs.Rows.{Row, ◌⇒◌, judge}
use Rattle.triangle.specs.Count.{N, most_beats}
use Rattle.counts.specs.Counts.{count_rows}
use Rattle.schedule.specs.Check.{hand_rows, check_rows}
use Rattle.number.specs.Number.{number_of, form_of, number_from_top, form_from_top}
use Rattle.record.specs.declared.layout.Layout.{Layout}
use Rattle.record.specs.declared.layout.Numbering.{Numbering}
use Rattle.record.specs.Bytes.{low_first, value_of, packed, unpacked, unused, bytes_for}
use Rattle.record.specs.Layout.{layout_of, counts_at, number_bytes, is_unknown, is_unwritten}

abbrev pub number_by : Numbering → ℕ → ℕ → List ℕ → ℕ
number_by Numbering.Catalogue t s b = number_of t s b
number_by Numbering.FromTop t s b = number_from_top t s b

abbrev pub payload : Layout → ℕ → ℕ → List ℕ → List ℕ
payload (Layout.Numbered at by) t s b = low_first number_bytes (number_by by t s b)
payload (Layout.Beaten at) t s b = packed b
payload Layout.Unknown t s b = []

-- L counts what comes after its own two bytes: as many bytes as stand before t, and the payload
abbrev pub record_in : Layout → ℕ → ℕ → ℕ → List ℕ → List ℕ
record_in k kind t s b =
    low_first 2 (counts_at k + length (payload k t s b)) ++ (low_first 2 kind ++ (t ∷ (s ∷ payload k t s b)))

abbrev pub record_of : ℕ → ℕ → ℕ → List ℕ → List ℕ
record_of kind t s b = record_in (layout_of kind) kind t s b

-- [R13]
abbrev pub room_row : List ℕ → List ℕ → Row
room_row bytes out = ltb (length out) (length bytes) ⇒ NoRoom

-- for a kind that is written, by the bytes of its record
abbrev pub known_rows : ℕ → ℕ → List ℕ → List ℕ → List ℕ → List Row
known_rows t s b bytes out = check_rows t s b ++ room_row bytes out ∷ []

abbrev pub written : Verdict → List ℕ → List ℕ → List ℕ
written v bytes out = left v (bytes ++ drop (length bytes) out) out

abbrev pub known_answer : ℕ → ℕ → List ℕ → List ℕ → List ℕ → Answer
known_answer t s b bytes out = answer (judge (known_rows t s b bytes out)) (length bytes)

abbrev pub known_left : ℕ → ℕ → List ℕ → List ℕ → List ℕ → List ℕ
known_left t s b bytes out = written (judge (known_rows t s b bytes out)) bytes out

-- for any kind
abbrev pub write_rows : ℕ → ℕ → ℕ → List ℕ → List ℕ → List Row
write_rows kind t s b out = (is_unwritten (layout_of kind) ⇒ UnknownKind) ∷ known_rows t s b (record_of kind t s b) out

abbrev pub write_answer : ℕ → ℕ → ℕ → List ℕ → List ℕ → Answer
write_answer kind t s b out = answer (judge (write_rows kind t s b out)) (length (record_of kind t s b))

abbrev pub write_left : ℕ → ℕ → ℕ → List ℕ → List ℕ → List ℕ
write_left kind t s b out = written (judge (write_rows kind t s b out)) (record_of kind t s b) out

-- the parts of the record that a slice starts with
abbrev pub long : List ℕ → ℕ
long src = value_of (take 2 src)

abbrev pub kind_in : List ℕ → ℕ
kind_in src = value_of (take 2 (drop 2 src))

abbrev pub layout_in : List ℕ → Layout
layout_in src = layout_of (kind_in src)

-- by the byte at which t stands
abbrev pub ups_at : ℕ → List ℕ → ℕ
ups_at at src = get_or src at 0

abbrev pub downs_at : ℕ → List ℕ → ℕ
downs_at at src = get_or src (at + 1) 0

abbrev pub body_at : ℕ → List ℕ → List ℕ
body_at at src = take (long src - at) (drop (at + 2) src)

abbrev pub ups : List ℕ → ℕ
ups src = ups_at (counts_at (layout_in src)) src

abbrev pub downs : List ℕ → ℕ
downs src = downs_at (counts_at (layout_in src)) src

abbrev pub body : List ℕ → List ℕ
body src = body_at (counts_at (layout_in src)) src

abbrev pub longest : ℕ
longest = 1020

abbrev pub cut : List ℕ → Bool
cut src = ltb (length src) 2 || ltb longest (long src) || ltb (length src) (2 + long src)

abbrev pub misfit : Layout → ℕ → Bool
misfit (Layout.Numbered at by) l = not (eqb l (at + number_bytes))
misfit (Layout.Beaten at) l = ltb l at
misfit Layout.Unknown l = false

abbrev pub spoiled : ℕ → List ℕ → Bool
spoiled n p = not (eqb (length p) (bytes_for n)) || not (eqb (unused n p) 0)

abbrev pub form_by : Numbering → ℕ → ℕ → ℕ → List ℕ
form_by Numbering.Catalogue t s n = form_of t s n
form_by Numbering.FromTop t s n = form_from_top t s n

abbrev pub meant : Layout → ℕ → ℕ → List ℕ → List ℕ
meant (Layout.Numbered at by) t s p = form_by by t s (value_of p)
meant (Layout.Beaten at) t s p = unpacked (t + s) p
meant Layout.Unknown t s p = []

abbrev pub meant_number : Layout → ℕ → ℕ → List ℕ → ℕ
meant_number k t s p = number_of t s (meant k t s p)

abbrev pub packed_rows : ℕ → ℕ → List ℕ → List Row
packed_rows t s p = (spoiled (t + s) p ⇒ WrongSize) ∷ hand_rows t (unpacked (t + s) p)

-- by both numberings the number is tested as it is held [D1e] [K4]
abbrev pub body_rows : Layout → ℕ → ℕ → List ℕ → List Row
body_rows (Layout.Numbered at by) t s p = (not (ltb (value_of p) (N t s)) ⇒ NoSuchNumber) ∷ []
body_rows (Layout.Beaten at) t s p = packed_rows t s p
body_rows Layout.Unknown t s p = []

-- the refusals before the kind is known, and those of a kind
abbrev pub head_rows_by : Layout → ℕ → List ℕ → List Row
head_rows_by k room src =
    (ltb room most_beats ⇒ NoRoom) ∷
    (cut src ⇒ CutShort) ∷
    (ltb (long src) 2 ⇒ WrongSize) ∷
    (is_unknown k ⇒ UnknownKind) ∷ []

abbrev pub kind_rows : Layout → List ℕ → List Row
kind_rows k src =
    let at = counts_at k in
    (misfit k (long src) ⇒ WrongSize) ∷
    (count_rows (ups_at at src) (downs_at at src) ++ body_rows k (ups_at at src) (downs_at at src) (body_at at src))

abbrev pub read_rows_by : Layout → ℕ → List ℕ → List Row
read_rows_by k room src = head_rows_by k room src ++ kind_rows k src

abbrev pub head_rows : ℕ → List ℕ → List Row
head_rows room src = head_rows_by (layout_in src) room src

abbrev pub read_rows : ℕ → List ℕ → List Row
read_rows room src = read_rows_by (layout_in src) room src

abbrev pub eaten : Refusal → ℕ → ℕ
eaten why l = cond (eqb (refusal_number why) 9 || eqb (refusal_number why) 12) 0 (2 + l)
