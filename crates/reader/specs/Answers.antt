-- What reading a record answers and leaves, the manual, "Order record" and "Refusal numbers", by the definitions of
-- `record`. Definitions only.
--     told             an answer by the verdict: counts, number and 2 + L; or the refusal, and the bytes consumed [R21]
--     answer_by        the answer to a record of a layout, by a numbering: the number of the form that it means [K4]
--     left_by          what the lent slice holds afterwards: the schedule, and after it what was there; refused, what
--                      was there [B2]
--     read_answer_by, read_left_by     the same of a slice that starts at a record, of a layout and by a numbering
--     read_answer, read_left         of the layout of its kind, and by the numbering of the catalogue [B2] [K4]
--     catalogued       the number in the catalogue of the form that has a number by a numbering, where so many forms
--                      are; a number that no form has stays
--     first_rows       the refusals before L is looked at, in their order: 12, 9
--     ordered, order_by, read_order     told, and the answer to a record of a layout and of that of its kind, with no
--                      bytes to pass over: the order, or the refusal alone
--     Whole            what is known before the kind is looked at
--     The parts of an answer are in specs/Parts of `record`.
use Rattle.std.specs.Prelude.{false, cond, List, [], ◌∷◌, ◌++◌, ◌≡◌, ℕ, ◌+◌, ◌-◌, ◌%◌, ◌≤◌, ltb, length, drop}
use Rattle.std.specs.Prelude.{Result, Ok, Err}
use Rattle.refusal.specs.declared.Refusal.{Refusal}
use Rattle.refusal.specs.declared.Refusal.TheVariants.{NoRoom, CutShort}
use Rattle.refusal.specs.Answer.{Verdict, left}
use Rattle.refusal.specs.Rows.{Row, ◌⇒◌, judge}
use Rattle.triangle.specs.Count.{most_beats}
use Rattle.record.specs.declared.layout.Layout.{Layout}
use Rattle.record.specs.declared.layout.Numbering.{Numbering}
use Rattle.record.specs.declared.reading.Order.{Order}
use Rattle.record.specs.Parts.{Reading, unread}
use Rattle.record.specs.Layout.{counts_at}
use Rattle.record.specs.Record.{long, layout_in, ups_at, downs_at, body_at, cut, number_by, meant, meant_number}
use Rattle.record.specs.Record.{read_rows_by, eaten}

abbrev pub told : ℕ → ℕ → ℕ → ℕ → Verdict → Reading
told t s n l (Ok unit) = Ok (record { t = t; s = s; number = n; consumed = 2 + l })
told t s n l (Err why) = unread why (eaten why l)

abbrev pub answer_by : Numbering → Layout → List ℕ → Verdict → Reading
answer_by by k src v =
    let at = counts_at k in
    let t = ups_at at src in
    let s = downs_at at src in
    told t s (number_by by t s (meant k t s (body_at at src))) (long src) v

abbrev pub left_by : Layout → List ℕ → Verdict → List ℕ → List ℕ
left_by k src v out =
    let at = counts_at k in
    left v (meant k (ups_at at src) (downs_at at src) (body_at at src) ++ drop (ups_at at src + downs_at at src) out)
    out

abbrev pub read_answer_by : Numbering → Layout → List ℕ → List ℕ → Reading
read_answer_by by k src out = answer_by by k src (judge (read_rows_by k (length out) src))

abbrev pub read_left_by : Layout → List ℕ → List ℕ → List ℕ
read_left_by k src out = left_by k src (judge (read_rows_by k (length out) src)) out

abbrev pub read_answer : List ℕ → List ℕ → Reading
read_answer src out = read_answer_by Numbering.Catalogue (layout_in src) src out

abbrev pub read_left : List ℕ → List ℕ → List ℕ
read_left src out = read_left_by (layout_in src) src out

abbrev pub catalogued : Numbering → ℕ → ℕ → ℕ
catalogued Numbering.Catalogue all n = n
catalogued Numbering.FromTop all n = cond (ltb n all) ((n + (all - 1)) % all) n

abbrev pub first_rows : ℕ → List ℕ → List Row
first_rows room src = (ltb room most_beats ⇒ NoRoom) ∷ (cut src ⇒ CutShort) ∷ []

-- the same as `told`, `answer_by` and `read_answer`, with no bytes to pass over
abbrev pub ordered : ℕ → ℕ → ℕ → ℕ → Verdict → Result Order Refusal
ordered t s n l (Ok unit) = Ok (record { t = t; s = s; number = n; consumed = 2 + l })
ordered t s n l (Err why) = Err why

abbrev pub order_by : Layout → List ℕ → Verdict → Result Order Refusal
order_by k src v =
    let at = counts_at k in
    let t = ups_at at src in
    let s = downs_at at src in
    ordered t s (meant_number k t s (body_at at src)) (long src) v

abbrev pub read_order : List ℕ → List ℕ → Result Order Refusal
read_order src out = order_by (layout_in src) src (judge (read_rows_by (layout_in src) (length out) src))

-- what the reader knows when it comes to the kind: L, that the record is whole, and that there is room
pub record Whole (src : List ℕ) (l : ℕ) (out : List ℕ) : Type 0 where
  pub said : l ≡ long src
  pub here : cut src ≡ false
  pub kind : 2 ≤ l
  pub room : most_beats ≤ length out
