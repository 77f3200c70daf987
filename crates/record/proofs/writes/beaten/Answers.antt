-- `writes::beaten` meets its contract: a refusal is the check's, or 12, and leaves what was lent; else head and packed
-- beats make the record. Assumes nothing.
use mathlib.Core.List.{◌++◌}
use mathlib.Core.Path.{◌≡◌, ◌∙◌, ap, sym}
use Prim.Native.Nat.{◌+◌, ◌-◌, ◌≤◌, ◌<◌}
use native.Mathlib.Omega.{arith}
use lib.ListN.{length, take, drop, length-drop}
use lib.Seq.{length-take-le}
use Rattle.std.proofs.Common.{Ok, Err}
use Rattle.schedule.specs.Schedule.{Schedule}
use Rattle.schedule.specs.Check.{checked}
use Rattle.schedule.proofs.Theorems.{accepted-schedule}
use Rattle.triangle.specs.Count.{most_beats}
use Rattle.counts.specs.Counts.{Allowed}
use Rattle.circle.proofs.Forms.{refused-so}
use Rattle.record.specs.declared.layout.Layout.{Layout}
use Rattle.record.specs.Bytes.{bytes_for, packed}
use Rattle.record.specs.Record.{record_in, known_answer, known_left, written}
use Rattle.refusal.specs.Answer.{Verdict, answer}
use Rattle.refusal.specs.declared.Refusal.TheVariants.{NoRoom}
use Rattle.record.proofs.Packing.{all-beats}
use Rattle.record.proofs.Writing.{packed-size, record-made, beaten-size, write-short, write-taken}
use Rattle.record.proofs.writes.beaten.Goals as goal

pub returns-then-out-past : goal.returns-then-out-past
returns-then-out-past c =
    let taken : checked (c.args.t) (c.args.s) (c.args.beats.now) ≡ Ok tt =
    sym c.in_ok-check.ensures in
    let size : length ((record_in (Layout.Beaten c.args.at) c.args.kind c.args.t c.args.s c.args.beats.now)) ≡ 6 +
    bytes_for (length (c.args.beats.now)) =
    beaten-size (c.args.at) c.args.kind (c.args.t) (c.args.s) (c.args.beats.now) in
    let refused =
    write-short (c.args.t) (c.args.s) (c.args.beats.now)
    ((record_in (Layout.Beaten c.args.at) c.args.kind c.args.t c.args.s c.args.beats.now)) (c.args.out.now) (taken)
    (omega (arith, size, c.bytes_for.ensures, c.requires, c.if-out-past.true)) in
    let made = record_in (Layout.Beaten c.args.at) c.args.kind c.args.t c.args.s c.args.beats.now in
    let both : (Err NoRoom ≡ known_answer c.args.t c.args.s c.args.beats.now made c.args.out.now)
    × (c.args.out.now ≡ known_left c.args.t c.args.s c.args.beats.now made c.args.out.now) =
    refused-so refused _ _ (c.args.out.now) in
    record { value = both.0; out_after = both.1 }

pub pack-requires : goal.pack-requires
pack-requires c =
    let taken : checked (c.args.t) (c.args.s) (c.args.beats.now) ≡ Ok tt =
    sym c.in_ok-check.ensures in
    let form : Allowed (c.args.t) (c.args.s) × Schedule (c.args.t) (c.args.s) (c.args.beats.now) =
    accepted-schedule (c.args.t) (c.args.s) (c.args.beats.now) (taken) in
    let few : ((c.args.t) < 256) × ((c.args.s) < 256) × (length (c.args.beats.now) ≤ most_beats) = (
      omega (arith, form.0.0),
      omega (arith, form.0.0, form.0.1),
      omega (arith, form.0.0, form.0.1, form.1.size),
    ) in
    let x = c.head.new.out in
    let from = c.args.at + 2 in
    let n = from + c.bytes_for.result - from in
    let kept = c.head.auto.out in
    let room : length (take n (drop from x)) ≡ n =
    length-take-le n (drop from x) (omega (arith, length-drop from x, kept, c.if-out-past.false)) in (
      omega (arith, few),
      all-beats (c.args.beats.now) form.1.beats,
      omega (arith, room, c.bytes_for.ensures),
    )

pub returns : goal.returns
returns c =
    let taken : checked (c.args.t) (c.args.s) (c.args.beats.now) ≡ Ok tt =
    sym c.in_ok-check.ensures in
    let size : length ((record_in (Layout.Beaten c.args.at) c.args.kind c.args.t c.args.s c.args.beats.now)) ≡ 6 +
    bytes_for (length (c.args.beats.now)) =
    beaten-size (c.args.at) c.args.kind (c.args.t) (c.args.s) (c.args.beats.now) in
    let x = c.head.new.out in
    let from = c.args.at + 2 in
    let bytes = c.bytes_for.result in
    let accepted =
    write-taken (c.args.t) (c.args.s) (c.args.beats.now)
    ((record_in (Layout.Beaten c.args.at) c.args.kind c.args.t c.args.s c.args.beats.now)) (c.args.out.now) (taken)
    (omega (arith, size, c.bytes_for.ensures, c.requires, c.if-out-past.false)) in
    let exact : bytes ≡ length (packed (c.args.beats.now)) =
    c.bytes_for.ensures ∙ sym (packed-size (c.args.beats.now)) in
    let made = record_in (Layout.Beaten c.args.at) c.args.kind c.args.t c.args.s c.args.beats.now in
    let long-made : from + bytes ≡ length made = omega (arith, size, c.bytes_for.ensures, c.requires) in
    let bytes-made : take from x ++ (c.pack.new.out ++ drop (from + bytes - from) (drop from x)) ≡ made ++ drop
    (length made) c.args.out.now =
    record-made (Layout.Beaten (c.args.at)) c.args.kind (c.args.t) (c.args.s) (c.args.beats.now) (from + bytes - 2)
    from (from + bytes - from)
    (c.args.out.now) x c.pack.new.out c.head.ensures c.pack.ensures (omega (arith, exact))
    (omega (arith, c.requires)) (omega (arith, exact)) in
    record {
      value = ap Ok long-made ∙ ap (λ (v : Verdict). answer v (length made)) (sym accepted);
      out_after = bytes-made ∙ ap (λ (v : Verdict). written v made c.args.out.now) (sym accepted);
    }
