-- `number::rank` meets its contract: the leading ones and zeros close their own list, and each turn of the loop counts
-- one beat more, which was tested. Where a test fails, the beats are no schedule of these counts. Assumes nothing.
use mathlib.Core.Path.{◌∙◌, sym}
use native.Mathlib.Omega.{arith}
use Rattle.triangle.proofs.Count.{N-pos}
use Rattle.number.proofs.Counting.{level-parts, sized-parts, lead-within, lead-fails, counted-front}
use Rattle.number.proofs.Counting.{turn-fails, turn-counted, turn-within, end-ranks, end-short}
use Rattle.number.proofs.rank.Goals as goal

pub overflow_sub-downs : goal.overflow_sub-downs
overflow_sub-downs c = (lead-within c.args.beats.now c.skip-up.ensures c.skip-rise.ensures).0

pub returns-then-not-level-clause-none : goal.returns-then-not-level-clause-none
returns-then-not-level-clause-none c =
    let steep = sym c.level.ensures ∙ c.if-not-level.true in
    λ a p. lead-fails c.args.beats.now c.skip-up.ensures c.skip-rise.ensures steep p

pub overflow_sub-number : goal.overflow_sub-number
overflow_sub-number c =
    let lead = level-parts c.args.t _ _ (sym c.level.ensures ∙ c.if-not-level.false) in
    omega (arith, c.look-number.ensures, N-pos _ _ lead.1)

pub slice_bounds-next-items-count : goal.slice_bounds-next-items-count
slice_bounds-next-items-count c = (lead-within c.args.beats.now c.skip-up.ensures c.skip-rise.ensures).1

pub slice_bounds-next-items-start : goal.slice_bounds-next-items-start
slice_bounds-next-items-start c = (lead-within c.args.beats.now c.skip-up.ensures c.skip-rise.ensures).1

pub loop-next-init : goal.loop-next-init
loop-next-init c =
    let level = sym c.level.ensures ∙ c.if-not-level.false in
    counted-front c.args.beats.now c.skip-up.ensures c.skip-rise.ensures level c.look-number.ensures

pub returns-then-not-fits-clause-none : goal.returns-then-not-fits-clause-none
returns-then-not-fits-clause-none c =
    let l = c.loop-next in
    let wrong = sym c.fits.ensures ∙ c.if-not-fits.true in
    λ a p. turn-fails c.skip-rise.result l.next-index l.invariant c.loop-next-test.true c.wide-beat.ensures wrong p

pub overflow_add-number : goal.overflow_add-number
overflow_add-number c =
    let l = c.loop-next in
    let sizes = sized-parts _ _ _ (sym c.sized.ensures ∙ c.if-not-sized.false) in
    let within = turn-within c.skip-rise.result l.next-index l.invariant c.loop-next-test.true c.wide-beat.ensures
    (sym c.fits.ensures ∙ c.if-not-fits.false) c.growth-number.ensures sizes.0.0 in
    omega arith

pub loop-next-preserved : goal.loop-next-preserved
loop-next-preserved c =
    let l = c.loop-next in
    turn-counted c.skip-rise.result l.next-index l.invariant c.loop-next-test.true c.wide-beat.ensures
    (sym c.fits.ensures ∙ c.if-not-fits.false) c.growth-number.ensures

pub returns-then-ups-t-clause-some : goal.returns-then-ups-t-clause-some
returns-then-ups-t-clause-some c =
    let l = c.loop-next in
    let sized = sym c.sized.ensures ∙ c.if-not-sized.false in
    end-ranks c.skip-rise.result l.next-index l.invariant c.loop-next-test.false sized c.if-ups-t.true

pub returns-else-ups-t-clause-none : goal.returns-else-ups-t-clause-none
returns-else-ups-t-clause-none c =
    let l = c.loop-next in
    λ a p. end-short c.skip-rise.result l.next-index l.invariant c.loop-next-test.false c.if-ups-t.false p
