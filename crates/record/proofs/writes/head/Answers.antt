-- `writes::head` meets its contract: six stores. Assumes nothing.
use mathlib.Core.Path.{◌∙◌, ap}
use Prim.Native.Nat.{ℕ, ◌+◌, ◌/◌, ◌%◌}
use lib.ListN.{set}
use Rattle.record.specs.Bytes.{low_first}
use Rattle.record.proofs.Writing.{headed}
use Rattle.record.proofs.writes.head.Goals as goal

pub returns : goal.returns
unfolding low_first
returns c =
    let bytes =
    set (set (set (set (c.args.out.now) 0 ((c.args.long % 256))) 1 ((c.args.long / 256 % 256))) 2
    ((c.args.kind % 256))) 3 ((c.args.kind / 256 % 256)) in
    ap (λ (j : ℕ). set (set bytes j c.args.t) (j + 1) c.args.s) c.requires.0
    ∙ headed (c.args.out.now) ((c.args.long % 256)) ((c.args.long / 256 % 256)) ((c.args.kind % 256))
    ((c.args.kind / 256 % 256)) c.args.t c.args.s c.requires.1
