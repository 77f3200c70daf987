-- The definitions of specs/ on small inputs, by computing them; for each part of Spells and Written a text that is
-- refused for it. Assumes nothing.
use mathlib.Core.List.{List, [], ◌∷◌}
use mathlib.Core.Path.{◌≡◌, refl, ap}
use Prim.Native.Nat.{ℕ}
use native.Mathlib.Omega.{arith}
use lib.IntN.{pos, negsuc}
use lib.ListN.{get_or}
use Rattle.text.specs.Decimal.{digits, decimal, signed}
use Rattle.text.specs.Spells.{digits_value, Spells, Says}
use Rattle.text.specs.Written.{Written}
use Rattle.text.proofs.Theorems.{decimal-spells, signed-says}

digits-12 : digits 2 12 ≡ 49 ∷ 50 ∷ []
unfolding digits
digits-12 = refl

digits-0 : digits 2 0 ≡ []
unfolding digits
digits-0 = refl

-- 0 has a digit, though `digits` gives none
decimal-0 : decimal 0 ≡ 48 ∷ []
unfolding decimal digits
decimal-0 = refl

decimal-10 : decimal 10 ≡ 49 ∷ 48 ∷ []
unfolding decimal digits
decimal-10 = refl

-- 7, and -16: ℤ has -16 as one less than -15
signed-7 : signed (pos 7) ≡ 55 ∷ []
unfolding decimal digits
signed-7 = refl

signed-16 : signed (negsuc 15) ≡ 45 ∷ 49 ∷ 54 ∷ []
unfolding decimal digits
signed-16 = refl

value-12 : digits_value 0 (49 ∷ 50 ∷ []) ≡ 12
unfolding digits_value
value-12 = refl

value-21 : digits_value 0 (50 ∷ 49 ∷ []) ≡ 21
unfolding digits_value
value-21 = refl

spells-12 : Spells 12 (49 ∷ 50 ∷ [])
unfolding decimal digits
spells-12 = decimal-spells 12

-- 1a is no number
not-a-digit : Spells 59 (49 ∷ 97 ∷ []) → ⊥
not-a-digit q = omega (arith, (q.digits 1 (omega arith)).1)

-- 21 is not 12
not-reversed : Spells 12 (50 ∷ 49 ∷ []) → ⊥
unfolding digits_value
not-reversed q = omega (arith, q.value)

-- no digits at all are not 0
not-empty : Spells 0 [] → ⊥
not-empty q = omega (arith, q.some)

-- 07 is not how 7 is written
no-zero-first : Spells 7 (48 ∷ 55 ∷ []) → ⊥
no-zero-first q = omega (arith, q.first (omega arith))

-- -12 is said by a - and the digits of 12; those of 4294967284, its bits as a number, do not say it
says-12 : Says (negsuc 11) (45 ∷ 49 ∷ 50 ∷ [])
unfolding decimal digits
says-12 = signed-says (negsuc 11)

not-its-bits : Says (negsuc 11) (52 ∷ 50 ∷ 57 ∷ 52 ∷ 57 ∷ 54 ∷ 55 ∷ 50 ∷ 56 ∷ 52 ∷ []) → ⊥
not-its-bits q = let sign : ◌≡◌ {A = ℕ} 52 45 = ap (λ (l : List ℕ). get_or l 0 0) q.2 in omega arith

-- a piece of two bytes from 1 on; one that changes the byte after it; one that answers the index of its last byte
written-3 : Written 1 (49 ∷ 50 ∷ []) (7 ∷ 7 ∷ 7 ∷ 7 ∷ []) (7 ∷ 49 ∷ 50 ∷ 7 ∷ []) 3
written-3 = record { text = refl; end = refl }

written_behind : Written 1 (49 ∷ 50 ∷ []) (7 ∷ 7 ∷ 7 ∷ 7 ∷ []) (7 ∷ 49 ∷ 50 ∷ 0 ∷ []) 3 → ⊥
written_behind w = let clash : ◌≡◌ {A = ℕ} 0 7 = ap (λ (l : List ℕ). get_or l 3 0) w.text in omega arith

written_2 : Written 1 (49 ∷ 50 ∷ []) (7 ∷ 7 ∷ 7 ∷ 7 ∷ []) (7 ∷ 49 ∷ 50 ∷ 7 ∷ []) 2 → ⊥
written_2 w = omega (arith, w.end)
