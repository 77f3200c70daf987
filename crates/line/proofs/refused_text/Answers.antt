-- `line::refused_text` meets its contract: each part is written after the one before. Assumes nothing.
use mathlib.Core.Path.{◌≡◌, ◌∙◌, subst, sym}
use Prim.Native.Nat.{◌≤◌}
use native.Mathlib.Omega.{arith}
use lib.IntN.{ℤ}
use lib.ListN.{length}
use mir.Syntax.{w32}
use mir.Val.{to_z, of_z}
use mir.ValLaws.{to_z-of_z}
use Rattle.text.specs.Decimal.{signed}
use Rattle.text.proofs.Integers.{signed-fits}
use Rattle.line.proofs.Writing.{written-refused}
use Rattle.line.proofs.refused_text.Goals as goal

pub returns : goal.returns
returns c =
    let read : to_z w32 (of_z w32 c.surplus.result) ≡ c.surplus.result =
    to_z-of_z w32 c.surplus.result (record { sfits = c.surplus.type_inv }) in
    let number = c.field-past_number in
    let past-number : (number.result ≤ 29) × (length number.new.out ≡ length c.args.out.now) = (
      omega (arith, c.field-past_number.ensures.upper_bound, c.copy-past_word.ensures.size),
      c.field-past_number.auto.out ∙ c.copy-past_word.auto.to,
    ) in
    let past-place : (c.field-past_place.result ≤ 50) × (length c.field-past_place.new.out ≡ length c.args.out.now) = (
      omega (arith, c.field-past_place.ensures.upper_bound, past-number),
      c.field-past_place.auto.out ∙ past-number.1,
    ) in
    let few : length (signed (to_z w32 (of_z w32 c.surplus.result))) ≤ 21 =
    subst (λ (z : ℤ). length (signed z) ≤ 21) (sym (read)) (signed-fits c.surplus.result c.surplus.type_inv) in
    record {
      written = written-refused c.args.why c.number.ensures c.place.ensures
          (read ∙ c.surplus.ensures)
          (record { text = c.copy-past_word.ensures.text; end = c.copy-past_word.ensures.size })
          c.field-past_number.ensures.written c.field-past_place.ensures.written c.signed.ensures;
      upper_bound =
          omega (arith, c.signed.ensures.end, past-place, few);
    }
