-- The definitions of specs/ on small inputs: what fits, and what is refused. Assumes nothing.
use mathlib.Core.List.{[], ◌∷◌}
use mathlib.Core.Path.{refl}
use Prim.Native.Nat.{zero, suc}
use native.Mathlib.Omega.{arith}
use Rattle.triangle.specs.Count.{N, counted}
use Rattle.lookup.specs.Lent.{Counts}

-- row 0, with 0 past s = t, is right as far as it goes; a row that begins with 2 is not, nor one that ends too early
counts-one : Counts ((1 ∷ []) ∷ [])
unfolding counted N
counts-one zero zero h = refl
counts-one zero (suc s) h = refl
counts-one (suc t) s h = absurd (omega arith)

counts-2 : Counts ((2 ∷ []) ∷ []) → ⊥
unfolding counted N
counts-2 p = omega (arith, p 0 0 (omega arith))

counts-short : Counts ((1 ∷ []) ∷ (1 ∷ []) ∷ []) → ⊥
unfolding counted N
counts-short p = omega (arith, p 1 1 (omega arith))
