-- `read_by` meets its contract: what is answered of a whole record, with the bytes to pass over. Assumes nothing.
use mathlib.Core.Bool.{false}
use mathlib.Core.Path.{◌≡◌}
use Prim.Native.Nat.{◌≤◌}
use lib.ListN.{length}
use Rattle.std.proofs.Common.{rules}
use Rattle.triangle.specs.Count.{most_beats}
use Rattle.record.specs.Record.{cut}
use Rattle.reader.proofs.Answering.{read-passing}
use Rattle.reader.proofs.read_by.Goals as goal

pub returns-clause-value : goal.returns-clause-value
returns-clause-value c =
    let src = c.args.src.now in
    let out = c.args.out.now in
    let room : most_beats ≤ length out = search rules in
    let here : cut src ≡ false = search rules in
    read-passing src out room here c.read_whole.result c.read_whole.ensures.value (λ why u q. search rules)
    c.map_err-2.ensures.cases
