-- The number of a form, the manual, "The number"; the letter, demand 2 [O2]. Definitions only.
--     same               whether two lists of beats are equal, as a test
--     Fewest a b n       n is the fewest steps that lead from a to b [M1]
--     steps_to a m b     the first n below m for which n steps from a lead to b
--     start t s          where counting starts: the form after t ones and s zeros [M0]
--     number_of t s b    the number of a form, its number in the catalogue: the steps from there [O2]
--     form_of t s n      the form of number n: n steps from there [O2]
-- The earlier numbering, which records of kind 1 hold, counts from t ones then s zeros itself:
--     number_from_top t s b     the steps from there [M9]
--     form_from_top t s n       n steps from there [M9]
use Rattle.std.specs.Prelude.{Bool, ◌&&◌, List, ◌≡◌, ℕ, ◌<◌, eqb, length}
use Rattle.bounded.specs.Bounded.{first}
use Rattle.triangle.specs.Count.{N}
use Rattle.circle.specs.Step.{next, top}
use Rattle.circle.specs.Walk.{steps, changed}

abbrev pub same : List ℕ → List ℕ → Bool
same b c = eqb (length b) (length c) && eqb (changed b c) 0

pub record Fewest (a b : List ℕ) (n : ℕ) : Type 0 where
  pub leads : steps n a ≡ b
  pub none_before : (k : ℕ) → k < n → steps k a ≡ b → ⊥

abbrev pub steps_to : List ℕ → ℕ → List ℕ → ℕ
steps_to a m b = first (λ n. same (steps n a) b) m

abbrev pub start : ℕ → ℕ → List ℕ
start t s = next (top t s)

abbrev pub number_of : ℕ → ℕ → List ℕ → ℕ
number_of t s b = steps_to (start t s) (N t s) b

abbrev pub form_of : ℕ → ℕ → ℕ → List ℕ
form_of t s n = steps n (start t s)

abbrev pub number_from_top : ℕ → ℕ → List ℕ → ℕ
number_from_top t s b = steps_to (top t s) (N t s) b

abbrev pub form_from_top : ℕ → ℕ → ℕ → List ℕ
form_from_top t s n = steps n (top t s)
