-- How each kind of record is laid out, the manual, "Order record": L in two bytes, the kind in two, t and s in a byte
-- each, and what the kind holds. Definitions only.
--     layout_of        the layout of a kind: whether a record of it holds the number of the form, and by which
--                      numbering, or its packed beats, and the byte at which t stands; s is the next byte, and what is
--                      held begins after it [O5]
--     counts_at        the byte at which t stands
--     number_bytes     how many bytes the number has
--     is_unknown       a kind that has no layout
--     is_unwritten     a kind that is not written: one that has no layout, or holds numbers from t ones then s zeros
--                      [K3]
use Rattle.std.specs.Prelude.{Bool, true, false, ℕ, zero, suc}
use Rattle.record.specs.declared.layout.Layout.{Layout}
use Rattle.record.specs.declared.layout.Numbering.{Numbering}

abbrev pub layout_of : ℕ → Layout
layout_of zero = Layout.Unknown
layout_of (suc zero) = Layout.Numbered 4 Numbering.FromTop
layout_of (suc (suc zero)) = Layout.Beaten 4
layout_of (suc (suc (suc zero))) = Layout.Numbered 4 Numbering.Catalogue
layout_of (suc (suc (suc (suc k)))) = Layout.Unknown

abbrev pub counts_at : Layout → ℕ
counts_at (Layout.Numbered at by) = at
counts_at (Layout.Beaten at) = at
counts_at Layout.Unknown = 0

abbrev pub number_bytes : ℕ
number_bytes = 8

abbrev pub is_unknown : Layout → Bool
is_unknown (Layout.Numbered at by) = false
is_unknown (Layout.Beaten at) = false
is_unknown Layout.Unknown = true

abbrev pub is_unwritten : Layout → Bool
is_unwritten (Layout.Numbered at Numbering.Catalogue) = false
is_unwritten (Layout.Numbered at Numbering.FromTop) = true
is_unwritten (Layout.Beaten at) = false
is_unwritten Layout.Unknown = true
