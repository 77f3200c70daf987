-- What version 1 of the library read: records of kinds 1 and 2 alone, and what it answered: numbers that count from t
-- ones then s zeros, the manual, "Order record". Definitions only.
--     earlier_layout   the layout of a kind: every other number was no kind
--     earlier_answer, earlier_left   what reading a slice that starts at a record answered and left: by that layout,
--                                    and by the numbering from t ones then s zeros [K5] [K6]
--     renumbered       an order with its number in the catalogue: one less, and N(t, s) − 1 for 0 [K5]
use Rattle.std.specs.Prelude.{List, ℕ, zero, suc, ◌+◌, ◌-◌, ◌%◌}
use Rattle.triangle.specs.Count.{N}
use Rattle.record.specs.declared.layout.Layout.{Layout}
use Rattle.record.specs.declared.layout.Numbering.{Numbering}
use Rattle.record.specs.declared.reading.Order.{Order}
use Rattle.record.specs.Parts.{Reading}
use Rattle.record.specs.Record.{kind_in}
use Rattle.reader.specs.Answers.{read_answer_by, read_left_by}

abbrev pub earlier_layout : ℕ → Layout
earlier_layout zero = Layout.Unknown
earlier_layout (suc zero) = Layout.Numbered 4 Numbering.FromTop
earlier_layout (suc (suc zero)) = Layout.Beaten 4
earlier_layout (suc (suc (suc k))) = Layout.Unknown

abbrev pub earlier_answer : List ℕ → List ℕ → Reading
earlier_answer src out = read_answer_by Numbering.FromTop (earlier_layout (kind_in src)) src out

abbrev pub earlier_left : List ℕ → List ℕ → List ℕ
earlier_left src out = read_left_by (earlier_layout (kind_in src)) src out

abbrev pub renumbered : Order → Order
renumbered o = record {
  t = o.t;
  s = o.s;
  number = (o.number + (N o.t o.s - 1)) % N o.t o.s;
  consumed = o.consumed;
}
