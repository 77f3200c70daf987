-- `text::signed` meets its contract: below 0 the sign and then the number, else the number. Assumes nothing.
use mathlib.Core.List.{List, ◌∷◌}
use mathlib.Core.Path.{◌≡◌, ◌∙◌, ap, subst}
use Prim.Native.Nat.{ℕ}
use native.Mathlib.Omega.{arith}
use lib.IntN.{nat_abs}
use mir.Syntax.{w32}
use mir.Val.{to_z, of_z}
use mir.ValLaws.{to_z-of_z}
use Rattle.text.specs.Decimal.{decimal}
use Rattle.text.specs.Written.{Written}
use Rattle.text.proofs.Integers.{signed_below}
use Rattle.text.proofs.Writing.{written_then}
use Rattle.text.proofs.signed.Goals as goal

pub returns-then-n-lt0 : goal.returns-then-n-lt0
returns-then-n-lt0 c =
    let back : to_z w32 (of_z w32 c.args.n) ≡ c.args.n = to_z-of_z w32 c.args.n c.ranges.n in
    let args = c.args in
    let text =
    ap (λ (k : ℕ). 45 ∷ decimal k) (c.magnitude.ensures ∙ ap nat_abs (back))
    ∙ signed_below args.n (rw (back) at c.if-n-lt0.true) in
    let left = c.decimal.new.out in
    subst (λ (p : List ℕ). Written args.at p args.out.now left c.decimal.result) text
    (written_then (omega (arith, c.requires)) c.put-digits.ensures c.decimal.ensures.written)
