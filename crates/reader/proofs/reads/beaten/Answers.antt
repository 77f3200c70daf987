-- `reads::beaten` meets its contract: L is wrong for the kind, or the packed beats decide. Assumes nothing.
use Prim.Native.Nat.{◌≤◌}
use native.Mathlib.Omega.{arith}
use Rattle.std.proofs.lemmas.Result.{err_from_is_err_and}
use Rattle.record.specs.Record.{long}
use Rattle.reader.proofs.Answering.{beaten-answer, beaten-left, body_taken}
use Rattle.reader.proofs.Verdicts.{ordered-given, ordered-refused}
use Rattle.reader.proofs.reads.beaten.Goals as goal

pub returns : goal.returns
returns c =
    let args = c.args in
    let src = args.src.now in
    let whole = c.requires.1 in
    let reaches : args.at ≤ long src = omega (arith, whole.said, c.if-long-at.false) in
    let held = body_taken args.at src whole.said reaches in
    let ups = c.sizes-t.ensures.ups in
    let downs = c.sizes-t.ensures.downs in
    record {
      value = beaten-answer args.at src ups downs held whole.said reaches
          (ordered-given _ _ _ args.long _ c.in_ok-number.ensures.value);
      out_after = beaten-left args.at src ups downs held whole.said reaches args.out.now c.unpacked.ensures.out_after;
    }

pub returns-in_err-number : goal.returns-in_err-number
returns-in_err-number c =
    let args = c.args in
    let src = args.src.now in
    let whole = c.requires.1 in
    let reaches : args.at ≤ long src = omega (arith, whole.said, c.if-long-at.false) in
    let held = body_taken args.at src whole.said reaches in
    let ups = c.sizes-t.ensures.ups in
    let downs = c.sizes-t.ensures.downs in
    let p = err_from_is_err_and c.from_residual.result c.from_residual.ensures.1 in
    rw (p.1, p.2)
    (record {
      value = beaten-answer args.at src ups downs held whole.said reaches
          (ordered-refused _ _ _ args.long _ c.in_err-number.ensures.value);
      out_after = beaten-left args.at src ups downs held whole.said reaches args.out.now c.unpacked.ensures.out_after;
    })
