-- `tree_back::trace` meets its contract. The loop's invariant: the beats so far begin the word of every tree that the
-- tables have, and with what is still to be read they make one. The stack's last item is the node that waits last.
-- Assumes nothing.
use mathlib.Core.Bool.{true≢false}
use mathlib.Core.List.{reverse}
use mathlib.Core.Path.{refl, ◌∙◌, sym, ap}
use Prim.Native.Nat.{◌+◌, ◌<◌}
use native.Mathlib.Omega.{arith}
use Rattle.std.proofs.lemmas.List.{nil_from_length}
use lib.ListN.{length}
use Rattle.tree.proofs.Planted.{top}
use Rattle.tree_back.specs.Tracing.{broken}
use Rattle.tree_back.proofs.Tracing.{trace-start, trace-leaf, trace-node, trace-stuck, trace-other, trace-end, next-so}
use Rattle.tree_back.proofs.Tracing.{next-not}
use Rattle.tree_back.proofs.trace.Goals.{then-child-eq0+in-Some, else-child-eq0+else-not-next}
use Rattle.tree_back.proofs.trace.Goals as goal

pub loop-beat-init : goal.loop-beat-init
loop-beat-init c =
    rw (c.over-stack.ensures, c.root-child.ensures)
    (trace-start (length c.args.left.now) c.args.left.now c.args.right.now c.args.parent.now c.args.beats.now
    c.requires.3)

pub returns-in_default : goal.returns-in_default
returns-in_default c =
    let here = c.loop-beat in
    let some : 0 < length here.stack → ⊥ = λ h. true≢false (sym (c.in_default.ensures.variant.1 h)) in
    let waits = ap reverse (nil_from_length here.stack (omega (arith, some))) in
    broken
    (trace-stuck here.invariant c.if-child-eq0.true waits (omega (arith, here.invariant.long, c.loop-beat-test.true)))

pub returns-then-not-next : goal.returns-then-not-next
returns-then-not-next c =
    let here = c.loop-beat in
    let other = next-not (length c.args.left.now) c.args.parent.now here.row here.child here.own c.requires.2
    (sym c.next.ensures ∙ c.if-not-next.true) in
    broken (trace-other here.invariant c.if-child-eq0.false other)

pub loop-beat-preserved : goal.loop-beat-preserved
loop-beat-preserved c =
    let here = c.loop-beat in
    let unfinished : here.beat-index < length c.args.left.now + length c.args.left.now =
    omega (arith, here.invariant.long, c.loop-beat-test.true) in
    elim c.if-child-eq0.branch [
      | then-child-eq0+in-Some w ↦
          rw (w.stack-is, w.row-is, w.own-is, w.child-is, w.beats-is)
          (trace-leaf here.invariant unfinished w.if-child-eq0.true w.in-Some.node (reverse w.pop.new.self)
          (ap reverse w.in-Some.ensures.items ∙ top w.pop.new.self w.in-Some.node))
      | else-child-eq0+else-not-next w ↦
          let inner = next-so (length c.args.left.now) c.args.parent.now here.row here.child here.own c.requires.2
          (sym w.next.ensures ∙ w.if-not-next.false) in
          rw (
            w.stack-is,
            w.row-is,
            w.own-is,
            w.child-is,
            w.beats-is,
            w.push.ensures,
            top here.stack here.child,
          )
          (trace-node here.invariant unfinished inner)
    ]

pub returns : goal.returns
returns c =
    trace-end c.loop-beat.invariant (omega (arith, c.loop-beat-test.false, c.loop-beat.invariant.long)) refl
    c.requires.1 c.requires.2
