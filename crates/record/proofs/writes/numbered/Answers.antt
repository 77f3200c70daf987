-- `writes::numbered` meets its contract: a refusal is the check's, or 12, and leaves what was lent; else head and
-- number make the record. Assumes nothing.
use mathlib.Core.List.{◌++◌}
use mathlib.Core.Path.{◌≡◌, ◌∙◌, ap, sym}
use Prim.Native.Nat.{ℕ, ◌+◌, ◌-◌}
use native.Mathlib.Omega.{arith}
use lib.ListN.{length, take, drop, length-drop}
use lib.Seq.{length-take-le}
use Rattle.std.proofs.Common.{Ok, Err}
use Rattle.refusal.proofs.Theorems.{answer-value}
use Rattle.schedule.specs.Check.{checked}
use Rattle.circle.proofs.Forms.{refused-so}
use Rattle.number.specs.Number.{number_of}
use Rattle.record.specs.declared.layout.Layout.{Layout}
use Rattle.record.specs.declared.layout.Numbering.{Numbering}
use Rattle.record.specs.Bytes.{low_first}
use Rattle.record.specs.Record.{record_in, known_answer, known_left, written}
use Rattle.refusal.specs.Answer.{Verdict, answer}
use Rattle.refusal.specs.declared.Refusal.TheVariants.{NoRoom}
use Rattle.record.proofs.Numerals.{length-low}
use Rattle.record.proofs.Writing.{record-made, numbered-size, write-short, write-taken}
use Rattle.record.proofs.writes.numbered.Goals as goal

pub returns-then-out-end : goal.returns-then-out-end
returns-then-out-end c =
    let answered : (checked (c.args.t) (c.args.s) (c.args.beats.now) ≡ Ok tt)
    × (c.in_ok-number.number ≡ number_of (c.args.t) (c.args.s) (c.args.beats.now)) =
    answer-value (checked (c.args.t) (c.args.s) (c.args.beats.now))
    (number_of (c.args.t) (c.args.s) (c.args.beats.now))
    (sym c.in_ok-number.ensures) in
    let size : length ((record_in ((Layout.Numbered c.args.at Numbering.Catalogue)) c.args.kind c.args.t c.args.s
    c.args.beats.now)) ≡ 14 =
    numbered-size (c.args.at) c.args.kind (c.args.t) (c.args.s) (c.args.beats.now) Numbering.Catalogue in
    let refused =
    write-short (c.args.t) (c.args.s) (c.args.beats.now)
    ((record_in ((Layout.Numbered c.args.at Numbering.Catalogue)) c.args.kind c.args.t c.args.s c.args.beats.now))
    (c.args.out.now) answered.0
    (omega (arith, size, c.requires, c.if-out-end.true)) in
    let made =
    record_in (Layout.Numbered c.args.at Numbering.Catalogue) c.args.kind c.args.t c.args.s c.args.beats.now in
    let both : (Err NoRoom ≡ known_answer c.args.t c.args.s c.args.beats.now made c.args.out.now)
    × (c.args.out.now ≡ known_left c.args.t c.args.s c.args.beats.now made c.args.out.now) =
    refused-so refused _ _ (c.args.out.now) in
    record { value = both.0; out_after = both.1 }

pub returns : goal.returns
returns c =
    let answered : (checked (c.args.t) (c.args.s) (c.args.beats.now) ≡ Ok tt)
    × (c.in_ok-number.number ≡ number_of (c.args.t) (c.args.s) (c.args.beats.now)) =
    answer-value (checked (c.args.t) (c.args.s) (c.args.beats.now))
    (number_of (c.args.t) (c.args.s) (c.args.beats.now))
    (sym c.in_ok-number.ensures) in
    let size : length ((record_in ((Layout.Numbered c.args.at Numbering.Catalogue)) c.args.kind c.args.t c.args.s
    c.args.beats.now)) ≡ 14 =
    numbered-size (c.args.at) c.args.kind (c.args.t) (c.args.s) (c.args.beats.now) Numbering.Catalogue in
    let x = c.head.new.out in
    let from = c.args.at + 2 in
    let n = from + 8 - from in
    let accepted =
    write-taken (c.args.t) (c.args.s) (c.args.beats.now)
    ((record_in ((Layout.Numbered c.args.at Numbering.Catalogue)) c.args.kind c.args.t c.args.s c.args.beats.now))
    (c.args.out.now) answered.0
    (omega (arith, size, c.requires, c.if-out-end.false)) in
    let long = length-low 8 (number_of (c.args.t) (c.args.s) (c.args.beats.now)) in
    let kept = c.head.auto.out in
    let eight : length (take n (drop from x)) ≡ 8 =
    length-take-le n (drop from x) (omega (arith, length-drop from x, kept, c.if-out-end.false)) ∙ omega arith in
    let body =
    c.spell.ensures
    ∙ ap (λ (j : ℕ). low_first j c.in_ok-number.number) eight
    ∙ ap (low_first 8) answered.1 in
    let made =
    record_in (Layout.Numbered c.args.at Numbering.Catalogue) c.args.kind c.args.t c.args.s c.args.beats.now in
    let long-made : from + 8 ≡ length made = omega (arith, size, c.requires) in
    let bytes-made : take from x ++ (c.spell.new.out ++ drop n (drop from x)) ≡ made ++ drop (length made)
    c.args.out.now =
    record-made ((Layout.Numbered c.args.at Numbering.Catalogue)) c.args.kind (c.args.t) (c.args.s) (c.args.beats.now)
    (from + 8 - 2) from
    n (c.args.out.now) x
    c.spell.new.out c.head.ensures body (omega (arith, long)) (omega (arith, c.requires))
    (omega (arith, long)) in
    record {
      value = ap Ok long-made ∙ ap (λ (v : Verdict). answer v (length made)) (sym accepted);
      out_after = bytes-made ∙ ap (λ (v : Verdict). written v made c.args.out.now) (sym accepted);
    }
