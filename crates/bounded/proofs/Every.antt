-- A test that holds at every number below a bound.
--     every-at         then it holds at each of them
--     every_true       and the other way about
--     every-T          the same for a test that was computed
-- Assumes nothing.
use mathlib.Core.Bool.{Bool, true, false, and-eq-true_iff}
use mathlib.Core.Path.{◌≡◌, refl, sym, ◌∙◌, ap, subst}
use Prim.Native.Nat.{ℕ, zero, suc, ◌<◌}
use native.Mathlib.Omega.{arith}
use native.Mathlib.Decide.{dec_lt}
use lib.Dec.{T}
use Rattle.bounded.specs.Bounded.{every}

pub every-at : (f : ℕ → Bool) (n : ℕ) → every f n ≡ true → (k : ℕ) → k < n → f k ≡ true
unfolding every
every-at f zero h k l = absurd (omega arith)
every-at f (suc n) h k l =
    let both = (and-eq-true_iff (f n) (every f n)).0 h in
    elim (dec_lt k n) [
      | yes below ↦ every-at f n both.1 k below
      | no last ↦ let here : k ≡ n = omega arith in ap f here ∙ both.0
    ]

pub every_true : (f : ℕ → Bool) (n : ℕ) → ((k : ℕ) → k < n → f k ≡ true) → every f n ≡ true
unfolding every
every_true f zero h = refl
every_true f (suc n) h =
    (and-eq-true_iff (f n) (every f n)).1 (h n (omega arith), every_true f n (λ k l. h k (omega arith)))

pub every-T : (f : ℕ → Bool) (n : ℕ) → T (every f n) → (k : ℕ) → k < n → T (f k)
every-T f n h k l = subst T (sym (every-at f n (holds (every f n) h) k l)) tt
  where
    holds : (q : Bool) → T q → q ≡ true
    holds true h = refl
    holds false h = absurd h
