-- `outline_back::line_end` meets its contract: the beginning of the number, its digits and the line feed are looked for
-- one after the other. Assumes nothing.
use mathlib.Core.Bool.{Bool, true}
use mathlib.Core.List.{List, [], ◌∷◌}
use mathlib.Core.Path.{◌≡◌, subst, ap}
use Prim.Native.Nat.{ℕ, ◌+◌, ◌≤◌}
use native.Mathlib.Omega.{arith}
use lib.ListN.{length, take, length-append}
use Rattle.text.specs.Decimal.{decimal}
use Rattle.outline.specs.Text.{stem, under}
use Rattle.outline.specs.Writing.{part}
use Rattle.outline.proofs.Numbers.{part_length}
use Rattle.outline_back.specs.Reading.{Stood}
use Rattle.outline_back.proofs.Standing.{stood-within, stood-then, stood-never}
use Rattle.outline_back.proofs.Line.{written-front, line-there, line_other}
use Rattle.outline_back.proofs.line_end.Goals as goal
use Rattle.outline_back.proofs.line_end.Goals.{After-stem_length, After-stands, Else-not-stands}

-- the beginning of the number stands there, and so many bytes are inside
begins-long : (c : After-stem_length)
    → c.stem_length.result ≡ length (stem (part c.args.text.now c.args.parent.at c.args.parent.long))
begins-long c =
    let args = c.args in
    let p = part args.text.now args.parent.at args.parent.long in
    c.stem_length.ensures p (part_length args.text.now args.parent.at args.parent.long c.requires.0)

begins-within : (c : After-stem_length) → c.args.from + c.stem_length.result ≤ length c.args.text.now
begins-within c = omega (arith, begins-long c, stood-within c.if-not-under_it.ensures c.requires.1)

-- the number stands there, or does not, as its digits do
stood : (c : After-stands) {r : Bool}
    → Stood c.args.text.now (c.args.from + c.stem_length.result) (take c.decimal-wide.result c.decimal-wide.new.out) r
    → let args = c.args in
    Stood args.text.now args.from (under (part args.text.now args.parent.at args.parent.long) args.place) r
stood c {r} s =
    let args = c.args in
    stood-then c.if-not-under_it.ensures
    (ap (λ (k : ℕ). args.from + k) (begins-long (goal.at.After-stands c).After-stem_length))
    (subst (λ (l : List ℕ). Stood args.text.now (args.from + c.stem_length.result) l r)
    (written-front c.decimal-wide.ensures.written) s)

pub returns-then-not-under_it : goal.returns-then-not-under_it
returns-then-not-under_it c =
    line_other (stood-never (10 ∷ []) (stood-never _ c.if-not-under_it.ensures))

pub overflow_add-number : goal.overflow_add-number
overflow_add-number c = omega (arith, begins-within (goal.at.overflow_add-number c).After-stem_length)

pub stands-requires : goal.stands-requires
stands-requires c = begins-within (goal.at.stands-requires c).After-stem_length

pub returns-then-not-stands : goal.returns-then-not-stands
returns-then-not-stands c =
    line_other (stood-never (10 ∷ []) (stood (goal.at.returns-then-not-stands c).After-stands c.if-not-stands.ensures))

-- where its line feed is looked for
feed-at : (c : Else-not-stands)
    → let args = c.args in
    let line = under (part args.text.now args.parent.at args.parent.long) args.place in
    Stood args.text.now args.from line true
    × (c.args.from + c.stem_length.result + c.decimal-wide.result ≡ args.from + length line)
    × (args.from + length line ≤ length args.text.now)
feed-at c =
    let args = c.args in
    let p = part args.text.now args.parent.at args.parent.long in
    let there : Stood args.text.now args.from (under p args.place) true =
    stood (goal.at.Else-not-stands c).After-stands c.if-not-stands.ensures in (
      there,
      omega (
        arith,
        begins-long (goal.at.Else-not-stands c).After-stem_length,
        c.decimal-wide.ensures.written.end,
        length-append (stem p) (decimal args.place),
      ),
      stood-within there c.requires.1,
    )

pub overflow_add-feed : goal.overflow_add-feed
overflow_add-feed c = omega (arith, feed-at (goal.at.overflow_add-feed c).Else-not-stands)

pub stands-requires-2 : goal.stands-requires-2
stands-requires-2 c = omega (arith, feed-at (goal.at.stands-requires-2 c).Else-not-stands)

pub returns-then-not-stands-2 : goal.returns-then-not-stands-2
returns-then-not-stands-2 c =
    let at = feed-at (goal.at.returns-then-not-stands-2 c).Else-not-stands in
    line_other (stood-then at.0 at.1 c.if-not-stands-2.ensures)

pub overflow_add-result : goal.overflow_add-result
overflow_add-result c =
    let at = feed-at (goal.at.overflow_add-result c).Else-not-stands in
    omega (arith, at, stood-within c.if-not-stands-2.ensures (omega (arith, at)))

pub returns : goal.returns
returns c =
    let at = feed-at (goal.at.returns c).Else-not-stands in
    line-there (stood-then at.0 at.1 c.if-not-stands-2.ensures) (omega (arith, at))
