-- `reads::spread` meets its contract: a refusal of the check is that of the beats. Assumes nothing.
use mathlib.Core.Path.{refl, ◌∙◌, ap, sym}
use Prim.Native.Nat.{ℕ, ◌+◌}
use lib.Dec.{eqb}
use Rattle.std.proofs.lemmas.Result.{err_from_is_err_and}
use Rattle.refusal.proofs.Left.{left-refused}
use Rattle.refusal.proofs.Theorems.{answer-refused}
use Rattle.refusal.specs.Answer.{Verdict, answer}
use Rattle.schedule.specs.Check.{checked}
use Rattle.number.specs.Number.{number_of}
use Rattle.number.specs.Answers.{number_answer}
use Rattle.record.specs.Bytes.{unpacked, unused}
use Rattle.record.proofs.Packing.{length-tabulate}
use Rattle.reader.proofs.Verdicts.{hand-checked, spoiled-not, unpacked-beats}
use Rattle.reader.proofs.reads.spread.Goals as goal

pub returns-in_err-number : goal.returns-in_err-number
returns-in_err-number c =
    let args = c.args in
    let n = args.t + args.s in
    let packed = args.packed.now in
    let beats = unpacked n packed in
    let written = c.unpack.ensures.out_after ∙ ap (λ (m : ℕ). unpacked m packed) c.requires.2 in
    let why =
    answer-refused (checked args.t args.s beats) (number_of args.t args.s beats)
    (sym (ap (number_answer args.t args.s) written) ∙ sym c.in_err-number.ensures) in
    let clean =
    ap (λ (m : ℕ). eqb (unused m packed) 0) (sym c.requires.2) ∙ sym c.unpack.ensures.value ∙ c.if-not-unpack.false in
    let refused =
    spoiled-not args.t args.s packed c.requires.1 clean beats refl
    ∙ sym (hand-checked args.t args.s beats c.requires.0 (length-tabulate n _) (unpacked-beats n packed))
    ∙ why in
    let p = err_from_is_err_and c.from_residual.result c.from_residual.ensures.1 in
    rw (p.1, p.2)
    (record {
      value = ap (λ (v : Verdict). answer v (number_of args.t args.s beats)) (sym refused);
      out_after = left-refused refused beats args.out.now;
    })
