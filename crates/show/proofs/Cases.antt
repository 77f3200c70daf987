-- The definition of specs/ on small inputs: pairs that come next, and two that do not. Assumes nothing.
use mathlib.Core.Path.{refl}
use native.Mathlib.Omega.{arith}
use Rattle.show.specs.Order.{Next}

-- after (3,0) comes (3,1), and after (3,3) comes (4,0)
next-30 : Next 3 0 3 1
next-30 = (λ h. (refl, refl), λ h. omega (arith, h))

next-33 : Next 3 3 4 0
next-33 = (λ h. omega (arith, h), λ h. (refl, refl))

-- after (3,0) the 3 has more pairs
not-next-30 : Next 3 0 4 0 → ⊥
not-next-30 n = omega (arith, n.0 (omega arith))

-- after (3,3) the 3 has none
not-next-33 : Next 3 3 3 4 → ⊥
not-next-33 n = omega (arith, n.1 (omega arith))
