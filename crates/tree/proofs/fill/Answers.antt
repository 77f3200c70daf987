-- `tree::fill` meets its contract. The loop's invariant: the beats behind those that are left are words of trees,
-- whose roots are on the stack and whose links stand in the tables from `row` on. Assumes nothing.
use mathlib.Core.Path.{refl, ap}
use Prim.Native.Nat.{ℕ, ◌-◌}
use native.Mathlib.Omega.{arith}
use lib.ListN.{length, length-append}
use Rattle.tree.proofs.Planted.{
  popped,
  popped-two,
  planted-start,
  planted-down,
  down-room,
  planted-up,
  up_room,
  planted-roots,
  planted-all,
}
use Rattle.tree.proofs.fill.Goals as goal

pub loop-beat-init : goal.loop-beat-init
loop-beat-init c =
    rw (c.push.ensures, c.over-stack.ensures)
    (planted-start c.args.beats.now _ _ c.args.left.now c.args.right.now c.args.parent.now (cc) refl c.requires.1
    c.requires.2)

pub push-requires-then-beat-eq0 : goal.push-requires-then-beat-eq0
push-requires-then-beat-eq0 c =
    let room = down-room c.requires.3 c.loop-beat.invariant _ _ c.in-Some.ensures.steps c.if-beat-eq0.true in
    omega (arith, room, c.requires.0)

pub loop-beat-preserved-then-beat-eq0 : goal.loop-beat-preserved-then-beat-eq0
loop-beat-preserved-then-beat-eq0 c =
    rw c.push-then-beat-eq0.ensures
    (planted-down c.requires.3 c.loop-beat.invariant _ _ c.in-Some.ensures.steps c.if-beat-eq0.true)

pub overflow_sub-row : goal.overflow_sub-row
overflow_sub-row c = (up_room c.requires.3 c.loop-beat.invariant _ _ c.in-Some.ensures.steps c.if-beat-eq0.false).0

pub unwrap-first-requires : goal.unwrap-first-requires
unwrap-first-requires c =
    let room = up_room c.requires.3 c.loop-beat.invariant _ _ c.in-Some.ensures.steps c.if-beat-eq0.false in
    c.pop.ensures.variant.1 (omega (arith, room))

pub unwrap-second-requires : goal.unwrap-second-requires
unwrap-second-requires c =
    let room = up_room c.requires.3 c.loop-beat.invariant _ _ c.in-Some.ensures.steps c.if-beat-eq0.false in
    let first = popped _ c.pop.ensures.items c.unwrap-first.ensures in
    c.pop-else-beat-eq0.ensures.variant.1 (omega (arith, room, ap length first, length-append {A = ℕ}))

pub plant-requires : goal.plant-requires
plant-requires c =
    let u = c.loop-beat.invariant in
    let room = up_room c.requires.3 u _ _ c.in-Some.ensures.steps c.if-beat-eq0.false in
    let roots =
    planted-roots u _ _ _
    (popped-two _ _ c.pop.ensures.items c.unwrap-first.ensures c.pop-else-beat-eq0.ensures.items
    c.unwrap-second.ensures) in (
      omega (arith, room, u.nodes, u.long-l),
      omega (arith, room, u.nodes, u.long-r),
      omega (arith, room, u.nodes, u.long-p),
      omega (arith, room, u.nodes, c.requires.0),
      omega (arith, roots, u.long-p),
      omega (arith, roots, u.long-p),
    )

pub push-requires-else-beat-eq0 : goal.push-requires-else-beat-eq0
push-requires-else-beat-eq0 c =
    let room = up_room c.requires.3 c.loop-beat.invariant _ _ c.in-Some.ensures.steps c.if-beat-eq0.false in
    let first = popped _ c.pop.ensures.items c.unwrap-first.ensures in
    let second = popped _ c.pop-else-beat-eq0.ensures.items c.unwrap-second.ensures in
    omega (arith, room, c.requires.0, ap length first, ap length second, length-append {A = ℕ})

pub loop-beat-preserved : goal.loop-beat-preserved
loop-beat-preserved c =
    let u = c.loop-beat.invariant in
    let room = up_room c.requires.3 u _ _ c.in-Some.ensures.steps c.if-beat-eq0.false in
    rw (c.push-else-beat-eq0.ensures, c.plant.ensures.0, c.plant.ensures.1, c.plant.ensures.2)
    (planted-up c.requires.3 u _ _ c.in-Some.ensures.steps c.if-beat-eq0.false (c.loop-beat.row - 1)
    (omega (arith, room)) _ _ _
    (popped-two _ _ c.pop.ensures.items c.unwrap-first.ensures c.pop-else-beat-eq0.ensures.items
    c.unwrap-second.ensures))

pub returns : goal.returns
returns c = planted-all c.requires.3 c.loop-beat.invariant c.in-None.ensures.steps.0
