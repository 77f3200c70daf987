-- The cycle of calls {heading, list} meets its contracts: see Invariants.antt. Assumes nothing.
use mathlib.Core.Path.{◌≡◌, refl, ◌∙◌}
use Prim.Native.Nat.{◌+◌, ◌≤◌, ◌<◌}
use native.Mathlib.Omega.{arith}
use lib.ListN.{length, length-set}
use Rattle.outline.specs.Writing.{part}
use Rattle.outline_back.proofs.Headings.{list-beats, heading-left, heading-read}
use Rattle.outline_back.proofs.Line.{line-within}
use Rattle.outline_back.proofs.Headings.{going-none, going_more, going-full, going-stop}
use Rattle.outline_back.proofs.+heading_list.Goals as goal

-- the list of a heading is read, and the 0 that closes it has room
pub heading-bounds-beats-end : goal.heading-bounds-beats-end
heading-bounds-beats-end t c =
    let same : length c.list.new.beats ≡ length c.args.beats.now =
    c.list.auto.beats ∙ length-set c.args.beats.now c.args.reached.now.beat 1 in
    omega (arith, same, list-beats c.list.ensures, c.requires.2)

pub heading-returns : goal.heading-returns
heading-returns t c =
    let same : length c.list.new.beats ≡ length c.args.beats.now =
    c.list.auto.beats ∙ length-set c.args.beats.now c.args.reached.now.beat 1 in
    let closes : c.list.new.reached.beat < length c.list.new.beats =
    omega (arith, same, list-beats c.list.ensures, c.requires.2) in
    heading-read (omega (arith, c.requires.2)) closes c.list.ensures

pub list-loop-reached-init : goal.list-loop-reached-init
list-loop-reached-init t c =
    let args = c.args in
    let from = args.reached.now in (
      refl,
      going-none (part args.text.now args.parent.at args.parent.long) args.text.now from.byte from.left from.beat
          args.beats.now c.requires.1,
    )

-- a turn: the line of the next heading was found
pub list-overflow_sub-number : goal.list-overflow_sub-number
list-overflow_sub-number t c = omega (arith, line-within c.in-Some.ensures)

pub list-overflow_sub-number-in-loop-reached : goal.list-overflow_sub-number-in-loop-reached
list-overflow_sub-number-in-loop-reached t c = omega (arith, line-within c.in-Some.ensures)

pub list-heading-requires : goal.list-heading-requires
list-heading-requires t c =
    let left = c.loop-reached.reached.left in
    let some : 1 ≤ left = omega (arith, c.loop-reached-test.true) in
    let counted = c.loop-reached.invariant.1.counted in
    let room : c.loop-reached.reached.beat + (left + left) ≤ length c.loop-reached.beats =
    omega (arith, c.requires.2, c.loop-reached.invariant.0, counted) in
    let fewer : left ≤ c.args.reached.now.left = omega (arith, counted, c.loop-reached.invariant.1.written.end) in
    let ends = line-within c.in-Some.ensures in (
      omega (arith, c.decreases, fewer, some),
      (omega (arith, ends), ends.1, omega (arith, room, some)),
    )

pub list-loop-reached-smaller : goal.list-loop-reached-smaller
list-loop-reached-smaller t c = omega (arith, heading-left c.heading.ensures, c.loop-reached-test.true)

pub list-loop-reached-preserved : goal.list-loop-reached-preserved
list-loop-reached-preserved t c = (
  c.heading.auto.beats ∙ c.loop-reached.invariant.0,
  going_more (omega (arith, c.requires.2)) c.loop-reached.invariant.1 (omega (arith, c.loop-reached-test.true))
      c.in-Some.ensures c.heading.ensures,
)

pub list-returns-after-loop-reached : goal.list-returns-after-loop-reached
list-returns-after-loop-reached t c = going-full c.loop-reached.invariant.1 c.loop-reached-test.false

pub list-returns-in_default : goal.list-returns-in_default
list-returns-in_default t c = going-stop c.loop-reached.invariant.1 c.in_default.ensures
