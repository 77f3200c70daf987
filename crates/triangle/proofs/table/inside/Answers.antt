-- `triangle::table::inside` meets its contract: the part that has row t has the entry at the place
-- of t, s. Assumes nothing.
use mathlib.Core.Path.{◌∙◌, sym}
use Prim.Native.Nat.{◌≤◌, ◌<◌}
use native.Mathlib.Omega.{arith}
use Rattle.triangle.specs.Table.{middle_row, high_row}
use Rattle.triangle.proofs.Parts.{place-below, place-from, low-at, middle-at, high-at}
use Rattle.triangle.proofs.table.inside.Goals as goal

pub in_low-requires : goal.in_low-requires
in_low-requires c =
    let in-first : c.args.t < middle_row = place-below c.args.t c.args.s middle_row c.if-i-lt190.true in
    low-at c.args.t c.args.s (in-first) c.requires.1

pub returns-then-i-lt190 : goal.returns-then-i-lt190
returns-then-i-lt190 c =
    let in-first : c.args.t < middle_row = place-below c.args.t c.args.s middle_row c.if-i-lt190.true in
    c.in_low.ensures ∙ sym (low-at c.args.t c.args.s (in-first) c.requires.1)

pub in_middle-requires : goal.in_middle-requires
in_middle-requires c =
    let from_second : middle_row ≤ c.args.t =
    place-from c.args.t c.args.s middle_row c.requires.1 (omega (arith, c.if-i-lt190.false)) in
    let in-second : c.args.t < high_row = place-below c.args.t c.args.s high_row c.if-i-lt378.true in
    middle-at c.args.t c.args.s (from_second) (in-second) c.requires.1

pub returns-then-i-lt378 : goal.returns-then-i-lt378
returns-then-i-lt378 c =
    let from_second : middle_row ≤ c.args.t =
    place-from c.args.t c.args.s middle_row c.requires.1 (omega (arith, c.if-i-lt190.false)) in
    let in-second : c.args.t < high_row = place-below c.args.t c.args.s high_row c.if-i-lt378.true in
    c.in_middle.ensures
    ∙ sym (middle-at c.args.t c.args.s (from_second) (in-second)
    c.requires.1)

pub in_high-requires : goal.in_high-requires
in_high-requires c =
    let from-third : high_row ≤ c.args.t =
    place-from c.args.t c.args.s high_row c.requires.1 (omega (arith, c.if-i-lt378.false)) in
    high-at c.args.t c.args.s (from-third) c.requires.0 c.requires.1

pub returns : goal.returns
returns c =
    let from-third : high_row ≤ c.args.t =
    place-from c.args.t c.args.s high_row c.requires.1 (omega (arith, c.if-i-lt378.false)) in
    c.in_high.ensures
    ∙ sym (high-at c.args.t c.args.s (from-third) c.requires.0
    c.requires.1)
