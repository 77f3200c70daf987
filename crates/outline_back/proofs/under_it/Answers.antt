-- `outline_back::under_it` meets its contract: the parent's number stands there, and the dot after it. Assumes nothing.
use mathlib.Core.Bool.{Bool}
use mathlib.Core.Path.{◌≡◌, subst}
use Prim.Native.Nat.{ℕ, ◌+◌, ◌-◌}
use native.Mathlib.Omega.{arith}
use lib.ListN.{take, drop}
use mathlib.Core.List.{List}
use Rattle.outline.specs.Writing.{part}
use Rattle.outline.proofs.Numbers.{part_length}
use Rattle.outline_back.specs.Reading.{Stood}
use Rattle.outline_back.proofs.Standing.{stood-within}
use Rattle.outline_back.proofs.Line.{stem-none, stem-other, stem-then}
use Rattle.outline_back.proofs.under_it.Goals as goal

-- the slice of the parent's number is its part of the text
sliced : {x : List ℕ} (at long : ℕ) {from : ℕ} {r : Bool} → Stood x from (take (at + long - at) (drop at x)) r
    → Stood x from (part x at long) r
sliced {x} at long {from} {r} s =
    let same : at + long - at ≡ long = omega arith in
    subst (λ (n : ℕ). Stood x from (take n (drop at x)) r) same s

pub returns-then-parent-eq0 : goal.returns-then-parent-eq0
returns-then-parent-eq0 c =
    let args = c.args in
    stem-none args.text.now args.parent.at args.parent.long args.from c.requires.0 c.if-parent-eq0.true

pub returns-then-not-stands : goal.returns-then-not-stands
returns-then-not-stands c =
    let args = c.args in
    stem-other args.text.now args.parent.at args.parent.long args.from c.requires.0 c.if-parent-eq0.false
    (sliced args.parent.at args.parent.long c.if-not-stands.ensures)

pub stands-requires-2 : goal.stands-requires-2
stands-requires-2 c =
    let args = c.args in
    let there = sliced args.parent.at args.parent.long c.if-not-stands.ensures in
    omega (
      arith,
      stood-within there c.requires.1,
      part_length args.text.now args.parent.at args.parent.long c.requires.0,
    )

pub returns : goal.returns
returns c =
    let args = c.args in
    stem-then args.text.now args.parent.at args.parent.long args.from c.requires.0 c.if-parent-eq0.false
    (sliced args.parent.at args.parent.long c.if-not-stands.ensures) c.stands-2.ensures
