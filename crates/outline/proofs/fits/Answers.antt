-- `outline::fits` meets its contract: n(n + 1) bytes are enough for n tasks; where there are fewer, the text is written
-- to see how long it is. Assumes nothing.
use mathlib.Core.Path.{◌≡◌, sym, ap}
use Prim.Native.Nat.{ℕ, ◌+◌, ◌*◌, ◌/◌, ◌≤◌}
use native.Mathlib.Omega.{arith}
use borrow.Author.Tests.{le-leb}
use lib.ListN.{length}
use Rattle.triangle.specs.Count.{largest}
use Rattle.outline.specs.Text.{printed}
use Rattle.outline.proofs.Bound.{bound-largest, printed-bound}
use Rattle.outline.proofs.fits.Goals as goal

pub returns-then-n-room : goal.returns-then-n-room
returns-then-n-room c =
    let half : length (c.args.beats.now) / 2 ≡ (c.requires.0) = omega (arith, c.requires.2.size) in
    let enough : length (printed (c.args.beats.now)) ≤ (c.requires.0) * ((c.requires.0) + 1) =
    printed-bound c.requires.2 in
    let room = ap (λ (k : ℕ). k * (k + 1)) (half) in
    sym (le-leb (length (printed (c.args.beats.now))) c.args.room (omega (arith, c.if-n-room.true, enough, room)))

pub print-requires : goal.print-requires
print-requires c =
    let enough : length (printed (c.args.beats.now)) ≤ (c.requires.0) * ((c.requires.0) + 1) =
    printed-bound c.requires.2 in
    let few : (c.requires.0) * ((c.requires.0) + 1) ≤ largest * (largest + 1) = bound-largest c.requires.1 in
    ((c.requires.0, c.requires.2), omega (arith, enough, few))
