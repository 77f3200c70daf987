-- What is asked of the walks of a way along the circle.
--     Goes        a walk goes step by step, and adds up the beats that each step changes
--     goes_on     the walk on does
use Rattle.std.specs.Prelude.{List, ◌≡◌, refl, ℕ, suc, ◌+◌}
use Rattle.circle.specs.Step.{next}
use Rattle.circle.specs.Walk.{steps, changed, worked}

pub record Goes (step : List ℕ → List ℕ) (walk : ℕ → List ℕ → List ℕ) (work : ℕ → List ℕ → ℕ) : Type 0 where
  pub starts : (b : List ℕ) → (walk 0 b ≡ b) × (work 0 b ≡ 0)
  pub goes : (k : ℕ) (b : List ℕ) → walk (suc k) b ≡ step (walk k b)
  pub adds : (k : ℕ) (b : List ℕ) → work (suc k) b ≡ work k b + changed (walk k b) (walk (suc k) b)

pub goes_on : Goes next steps worked
unfolding steps worked
goes_on = record { starts = λ b. (refl, refl); goes = λ k b. refl; adds = λ k b. refl }
