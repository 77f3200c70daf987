-- A list of beats that is copied over or stored into.
--     copied     a list copied over one of its length is that list
--     stored     a list from the place on where a beat is stored
-- Assumes nothing.
use mathlib.Core.List.{List, [], ◌∷◌, ◌++◌, append-nil}
use mathlib.Core.Path.{◌≡◌, refl, ◌∙◌, ap}
use Prim.Native.Nat.{ℕ, zero, suc, ◌<◌}
use native.Mathlib.Omega.{arith}
use lib.ListN.{length, set, take, drop}
use lib.Seq.{take-length, drop-length}

pub copied : (src dst : List ℕ) → length src ≡ length dst → take (length src) src ++ drop (length src) dst ≡ src
copied src dst e =
    rw (take-length src)
    (ap (λ (j : ℕ). src ++ drop j dst) e ∙ ap (λ (w : List ℕ). src ++ w) (drop-length dst) ∙ append-nil src)

pub stored : (b : List ℕ) (j x : ℕ) → j < length b → drop j (set b j x) ≡ x ∷ drop (suc j) b
stored [] j x h = absurd (omega arith)
stored (y ∷ b) zero x h = refl
stored (y ∷ b) (suc j) x h = stored b j x (omega arith)
