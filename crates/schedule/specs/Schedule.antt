-- What a schedule is, the manual, "A schedule"; the set B(t,s) of source 000, section 1. Definitions only.
--     ones, zeros     how many beats are 1, and how many are 0
--     Schedule        a list of t + s beats, each 0 or 1, with exactly t ones, in which every prefix has at least as
--                     many ones as zeros [A1]
--     is_schedule     the same as a test that can be computed, part by part; proofs/Theorems.antt shows that it says
--                     the same [A8]
--     Lists           a list l has everything of which P holds, each once, and nothing else; Lists (Schedule t s) l: l
--                     lists the schedules of t, s [N1]
use Rattle.std.specs.Prelude.{Bool, ◌&&◌, List, [], ◌∷◌, ◌≡◌, ℕ, zero, suc, ◌+◌, ◌≤◌, ◌<◌, leb, eqb, length, get_or}
use Rattle.std.specs.Prelude.{take}
use Rattle.bounded.specs.Bounded.{every}

unfoldable pub ones : List ℕ → ℕ
ones [] = 0
ones (zero ∷ b) = ones b
ones (suc zero ∷ b) = suc (ones b)
ones (suc (suc x) ∷ b) = ones b

unfoldable pub zeros : List ℕ → ℕ
zeros [] = 0
zeros (zero ∷ b) = suc (zeros b)
zeros (suc x ∷ b) = zeros b

pub record Schedule (t s : ℕ) (b : List ℕ) : Type 0 where
  pub beats : (k : ℕ) → k < length b → get_or b k 0 ≤ 1
  pub size : length b ≡ t + s
  pub taken : ones b ≡ t
  pub ahead : (k : ℕ) → k ≤ length b → zeros (take k b) ≤ ones (take k b)

unfoldable pub is_schedule : ℕ → ℕ → List ℕ → Bool
is_schedule t s b =
    every (λ k. leb (get_or b k 0) 1) (length b) &&
    eqb (length b) (t + s) &&
    eqb (ones b) t &&
    every (λ k. leb (zeros (take k b)) (ones (take k b))) (suc (length b))

pub record Lists (P : List ℕ → Type 0) (l : List (List ℕ)) : Type 0 where
  pub sound : (i : ℕ) → i < length l → P (get_or l i [])
  pub complete : (b : List ℕ) → P b → (i : ℕ) × (i < length l) × (get_or l i [] ≡ b)
  pub once : (i j : ℕ) → i < length l → j < length l → get_or l i [] ≡ get_or l j [] → i ≡ j
