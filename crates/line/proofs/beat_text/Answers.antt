-- `line::beat_text` meets its contract: the first i beats are written. Assumes nothing.
use mathlib.Core.List.{List}
use mathlib.Core.Path.{◌≡◌, ◌∙◌, ap}
use Prim.Native.Nat.{ℕ, ◌+◌}
use native.Mathlib.Omega.{arith}
use lib.ListN.{length, get_or, set}
use Rattle.std.proofs.lemmas.Bool.Decides.{nat_tests}
use Rattle.line.proofs.Writing.{beats-more, written_none, written-beats}
use Rattle.line.proofs.beat_text.Goals as goal

pub returns-then-is_empty : goal.returns-then-is_empty
returns-then-is_empty c =
    written_none _ (grind (arith, nat_tests, c.is_empty.ensures, c.if-is_empty.true)) c.put.ensures

pub loop-i-preserved : goal.loop-i-preserved
loop-i-preserved c =
    let here = c.loop-i in
    let beats = c.args.beats.now in
    let at = c.args.at in
    ap (λ (l : List ℕ). set l (at + here.i) (48 + get_or beats here.i 0)) here.invariant
    ∙ beats-more beats c.args.out.now at here.i (omega (arith, c.requires.0)) c.loop-i-test.true

pub returns : goal.returns
returns c =
    let here = c.loop-i in
    let some : length c.args.beats.now ≡ 0 → ⊥ =
    λ e. grind (arith, nat_tests, c.is_empty.ensures, c.if-is_empty.false, e) in
    written-beats c.args.beats.now c.args.out.now here.out c.args.at here.i some (omega arith) here.invariant
