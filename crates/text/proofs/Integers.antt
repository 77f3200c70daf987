-- Integers and how far they are from 0, on plain values.
--     signed_below    the text of one that is below 0, by how far it is from 0
--     signed-fits     an integer of 32 bits takes at most 21 bytes
-- Assumes nothing.
use mathlib.Core.Bool.{true}
use mathlib.Core.List.{◌∷◌}
use mathlib.Core.Path.{◌≡◌, refl}
use Prim.Native.Nat.{suc, ◌^◌, ◌≤◌, ◌<◌}
use native.Mathlib.Omega.{arith}
use borrow.Author.Tests.{ltb-true}
use lib.IntN.{ℤ, pos, negsuc, nat_abs}
use lib.ListN.{length}
use lib.Signed.{lt_z, mag}
use Rattle.text.specs.Decimal.{decimal, signed}
use Rattle.text.proofs.Digits.{digits-fit}

pub signed_below : (z : ℤ) → lt_z z (pos 0) ≡ true → 45 ∷ decimal (nat_abs z) ≡ signed z
signed_below (pos n) e = absurd (omega (arith, ltb-true n 0 e))
signed_below (negsuc n) e = refl

pub signed-fits : (z : ℤ) → mag z < 2 ^ 31 → length (signed z) ≤ 21
signed-fits (pos n) h = omega (arith, digits-fit n (omega arith))
signed-fits (negsuc n) h = omega (arith, digits-fit (suc n) (omega arith))
