-- The layouts of the kinds.
--     layout-other         a number that is no kind's has no layout
--     counts-at-four       the counts of every kind stand at byte 4: nothing stands between them and the kind
--     known_small          the number of a kind fits in its two bytes
--     written_known        a kind that is written has a layout [K3]
--     record-places        t, s and the payload of a written record stand where its layout says
-- Assumes nothing.
use mathlib.Core.Bool.{false, true≢false}
use mathlib.Core.List.{List}
use mathlib.Core.Path.{◌≡◌, refl}
use Prim.Native.Nat.{ℕ, zero, suc, ◌+◌, ◌<◌}
use native.Mathlib.Omega.{arith}
use lib.ListN.{drop}
use Rattle.record.specs.declared.layout.Layout.{Layout}
use Rattle.record.specs.Bytes.{low_first}
use Rattle.record.specs.Layout.{layout_of, counts_at, is_unknown, is_unwritten}
use Rattle.record.specs.Record.{payload, record_of, ups_at, downs_at}

pub layout-other : (k : ℕ) → ((k ≡ 1) → ⊥) → ((k ≡ 2) → ⊥) → ((k ≡ 3) → ⊥) → layout_of k ≡ Layout.Unknown
layout-other zero a b c = refl
layout-other (suc zero) a b c = absurd (a refl)
layout-other (suc (suc zero)) a b c = absurd (b refl)
layout-other (suc (suc (suc zero))) a b c = absurd (c refl)
layout-other (suc (suc (suc (suc k)))) a b c = refl

pub counts-at-four : (k : ℕ) → is_unknown (layout_of k) ≡ false → counts_at (layout_of k) ≡ 4
counts-at-four zero u = absurd (true≢false u)
counts-at-four (suc zero) u = refl
counts-at-four (suc (suc zero)) u = refl
counts-at-four (suc (suc (suc zero))) u = refl
counts-at-four (suc (suc (suc (suc k)))) u = absurd (true≢false u)

pub known_small : (k : ℕ) → is_unknown (layout_of k) ≡ false → k < 65536
known_small zero u = omega arith
known_small (suc zero) u = omega arith
known_small (suc (suc zero)) u = omega arith
known_small (suc (suc (suc zero))) u = omega arith
known_small (suc (suc (suc (suc k)))) u = absurd (true≢false u)

pub written_known : (k : Layout) → is_unwritten k ≡ false → is_unknown k ≡ false
written_known (Layout.Numbered at by) w = refl
written_known (Layout.Beaten at) w = refl
written_known Layout.Unknown w = absurd (true≢false w)

pub record-places : (k t s : ℕ) (b : List ℕ) → is_unknown (layout_of k) ≡ false
    → (ups_at (counts_at (layout_of k)) (record_of k t s b) ≡ t)
    × (downs_at (counts_at (layout_of k)) (record_of k t s b) ≡ s)
    × (drop (counts_at (layout_of k) + 2) (record_of k t s b) ≡ payload (layout_of k) t s b)
unfolding low_first
record-places zero t s b u = absurd (true≢false u)
record-places (suc zero) t s b u = (refl, refl, refl)
record-places (suc (suc zero)) t s b u = (refl, refl, refl)
record-places (suc (suc (suc zero))) t s b u = (refl, refl, refl)
record-places (suc (suc (suc (suc k)))) t s b u = absurd (true≢false u)
