-- Steps one after the other, past the closing step as often as need be.
--     steps-add         m steps and then k steps are m + k steps
--     steps-around      k steps lead where k mod N(t, s) steps lead
-- Assumes nothing.
use mathlib.Core.List.{List}
use mathlib.Core.Path.{◌≡◌, ◌∙◌, ap, sym}
use Prim.Native.Nat.{ℕ, zero, suc, ◌+◌, ◌%◌}
use native.Mathlib.Decide.{dec_lt}
use native.Mathlib.Nat.{add-zero, add-suc, mod-eq_of_lt, mod-lt, mod_self, suc-mod}
use native.Mathlib.Omega.{arith}
use Rattle.triangle.specs.Count.{N}
use Rattle.triangle.proofs.Count.{N-pos}
use Rattle.schedule.specs.Schedule.{Schedule}
use Rattle.schedule.proofs.Hand.{schedule-le}
use Rattle.circle.specs.Step.{next}
use Rattle.circle.specs.Walk.{steps}
use Rattle.circle.proofs.Circle.{round}

pub steps-add : (k m : ℕ) (a : List ℕ) → steps k (steps m a) ≡ steps (m + k) a
unfolding steps
steps-add zero m a = ap (λ (n : ℕ). steps n a) (sym (add-zero m))
steps-add (suc k) m a = ap next (steps-add k m a) ∙ ap (λ (n : ℕ). steps n a) (sym (add-suc m k))

module _ {t s : ℕ} {a : List ℕ} (p : Schedule t s a) where
  pub steps-around : (k : ℕ) → steps k a ≡ steps (k % N t s) a
  unfolding steps
  steps-around zero = ap (λ (n : ℕ). steps n a) (sym (mod-eq_of_lt (N-pos t s (schedule-le p))))
  steps-around (suc k) =
      let m = k % N t s in
      let below = mod-lt k (N-pos t s (schedule-le p)) in
      ap next (steps-around k)
      ∙ elim (dec_lt (suc m) (N t s)) [
        | yes more ↦ ap (λ (n : ℕ). steps n a) (sym (suc-mod k (N t s) ∙ mod-eq_of_lt more))
        | no more ↦
            let all : suc m ≡ N t s = omega (arith, below) in
            let none : suc k % N t s ≡ 0 = suc-mod k (N t s) ∙ ap (λ (n : ℕ). n % N t s) all ∙ mod_self (N t s) in
            ap (λ (n : ℕ). steps n a) all ∙ round p ∙ ap (λ (n : ℕ). steps n a) (sym none)
      ]
