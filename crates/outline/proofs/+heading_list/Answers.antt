-- The cycle of calls {heading, list} meets its contracts: see Invariants.antt. Assumes nothing.
use mathlib.Core.Path.{◌≡◌, refl}
use native.Mathlib.Omega.{arith}
use Prim.Native.Nat.{◌-◌}
use lib.ListN.{length}
use Rattle.outline.proofs.Listing as listing
use Rattle.outline.proofs.+heading_list.Goals as goal

pub heading-line-end-requires : goal.heading-line-end-requires
heading-line-end-requires t c = (c.requires.before, listing.own_room c.requires)

pub heading-overflow_add-first : goal.heading-overflow_add-first
heading-overflow_add-first t c =
    let inside = listing.heading-inside c.requires.one c.requires.begins in
    omega (arith, inside, listing.two-beats c.requires.one, c.well_formed)

-- the line of the heading is written, and its number ends before the line feed
pub heading-list-inner-requires : goal.heading-list-inner-requires
heading-list-inner-requires t c =
    let a = c.requires in
    let inside = listing.heading-inside a.one a.begins in
    let ends = listing.end_after a c.line-end.ensures in
    let number-long : c.line-end.result - 1 - c.args.start ≡ length (listing.number a) = omega (arith, ends) in (
      omega (arith, c.decreases, inside, listing.two-beats a.one),
      listing.carried a c.line-end.ensures (c.line-end.result - 1 - c.args.start) number-long,
    )

pub heading-overflow_add-result : goal.heading-overflow_add-result
heading-overflow_add-result t c =
    let a = c.requires in
    let ends = listing.end_after a c.line-end.ensures in
    let long = c.line-end.result - 1 - c.args.start in
    let number-long : long ≡ length (listing.number a) = omega (arith, ends) in
    let written = listing.heading-written a c.line-end.ensures long number-long c.list-inner.ensures refl refl in
    omega (arith, written.played a.one a.begins, listing.heading-inside a.one a.begins, c.well_formed)

pub heading-returns : goal.heading-returns
heading-returns t c =
    let a = c.requires in
    let ends = listing.end_after a c.line-end.ensures in
    let long = c.line-end.result - 1 - c.args.start in
    let number-long : long ≡ length (listing.number a) = omega (arith, ends) in
    listing.heading-written a c.line-end.ensures long number-long c.list-inner.ensures refl refl

pub list-loop-beat-init : goal.list-loop-beat-init
list-loop-beat-init t c = listing.looping-none

pub list-heading-past-requires : goal.list-heading-past-requires
list-heading-past-requires t c =
    let more = c.if-beats-beat.false in (
      omega (arith, c.decreases, c.loop-beat.invariant.onwards, more),
      listing.looping-heading c.loop-beat.invariant c.requires (omega (arith, more)) c.if-beats-beat-eq0.false,
    )

pub list-loop-beat-smaller : goal.list-loop-beat-smaller
list-loop-beat-smaller t c =
    omega (
      arith,
      listing.past-heading c.loop-beat.invariant c.requires (omega (arith, c.if-beats-beat.false))
          c.if-beats-beat-eq0.false c.heading-past.ensures,
    )

pub list-loop-beat-preserved : goal.list-loop-beat-preserved
list-loop-beat-preserved t c =
    listing.looping-more c.loop-beat.invariant c.requires (omega (arith, c.if-beats-beat.false))
    c.if-beats-beat-eq0.false c.heading-past.ensures c.heading-past.auto.text

pub list-returns-then-beats-beat : goal.list-returns-then-beats-beat
list-returns-then-beats-beat t c =
    listing.looping-all c.loop-beat.invariant (λ l. absurd (omega (arith, c.if-beats-beat.true)))

pub list-returns-then-beats-beat-eq0 : goal.list-returns-then-beats-beat-eq0
list-returns-then-beats-beat-eq0 t c = listing.looping-all c.loop-beat.invariant (λ l. c.if-beats-beat-eq0.true)
