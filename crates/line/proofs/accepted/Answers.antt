-- `line::accepted` meets its contract: each part of the line is written after the one before. Assumes nothing.
use mathlib.Core.Logic.{⊎_elim}
use mathlib.Core.Path.{◌≡◌, ◌∙◌}
use Prim.Native.Nat.{◌≤◌, ◌<◌}
use native.Mathlib.Omega.{arith}
use lib.ListN.{length}
use Rattle.line.proofs.Writing.{text-fits, written-accepted}
use Rattle.line.proofs.accepted.Goals as goal

pub put-requires : goal.put-requires
put-requires c =
    let past-t : (c.field-past_t.result ≤ 21) × (length c.field-past_t.new.out ≡ length c.args.out.now) =
    (omega (arith, c.field-past_t.ensures.upper_bound), c.field-past_t.auto.out) in
    let past-s : (c.field-past_s.result ≤ 42) × (length c.field-past_s.new.out ≡ length c.args.out.now) = (
      omega (arith, c.field-past_s.ensures.upper_bound, past-t),
      c.field-past_s.auto.out ∙ past-t.1,
    ) in
    let number = c.field-past_number in
    let past-number : (number.result ≤ 63) × (length number.new.out ≡ length c.args.out.now) = (
      omega (arith, c.field-past_number.ensures.upper_bound, past-s),
      c.field-past_number.auto.out ∙ past-s.1,
    ) in
    let past-beats : c.beat_text-past_beats.result < length c.args.out.now =
    ⊎_elim (λ one. omega (arith, c.beat_text-past_beats.ensures.end, past-number, c.requires.0))
    (λ each. omega (arith, c.beat_text-past_beats.ensures.end, past-number, c.requires.1))
    (text-fits c.args.beats.now) in
    omega (arith, past-beats, c.beat_text-past_beats.auto.out, past-number)

pub returns : goal.returns
returns c =
    let args = c.args in
    written-accepted args.t args.s args.number args.beats.now
    c.field-past_t.ensures.written c.field-past_s.ensures.written c.field-past_number.ensures.written
    c.beat_text-past_beats.ensures c.put.ensures
