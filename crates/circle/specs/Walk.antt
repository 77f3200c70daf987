-- Walks along the circle, the manual, "The step". Definitions only.
--     steps k b       b after k steps
--     changed a b     at how many places a and b differ [S4]
--     worked k b      the changed beats of k steps from b, added up
--     is_dip t s c    c sets down at its second beat, and is not the form after t ones and s zeros [D3e]
--     dips t s k b    how many of k steps from b arrive at such a form
--     OneWay          exactly one number from 1 to N(t, s) of steps of a walk leads from a to b [D3b]
use Rattle.std.specs.Prelude.{Bool, cond, ◌&&◌, List, [], ◌∷◌, ◌≡◌, ℕ, zero, suc, ◌+◌, ◌≤◌, eqb, ltb, get_or}
use Rattle.triangle.specs.Count.{N}
use Rattle.circle.specs.Step.{next, top}

unfoldable pub steps : ℕ → List ℕ → List ℕ
steps zero b = b
steps (suc k) b = next (steps k b)

unfoldable pub changed : List ℕ → List ℕ → ℕ
changed [] c = 0
changed (x ∷ b) [] = 0
changed (x ∷ b) (y ∷ c) = cond (eqb x y) 0 1 + changed b c

unfoldable pub worked : ℕ → List ℕ → ℕ
worked zero b = 0
worked (suc k) b = worked k b + changed (steps k b) (steps (suc k) b)

unfoldable pub is_dip : ℕ → ℕ → List ℕ → Bool
is_dip t s c = eqb (get_or c 1 0) 0 && ltb 0 (changed c (next (top t s)))

unfoldable pub dips : ℕ → ℕ → ℕ → List ℕ → ℕ
dips t s zero b = 0
dips t s (suc k) b = dips t s k b + cond (is_dip t s (steps (suc k) b)) 1 0

pub record OneWay (walk : ℕ → List ℕ → List ℕ) (t s : ℕ) (a b : List ℕ) : Type 0 where
  pub count : ℕ
  pub from : 1 ≤ count
  pub to : count ≤ N t s
  pub leads : walk count a ≡ b
  pub only : (k : ℕ) → 1 ≤ k → k ≤ N t s → walk k a ≡ b → k ≡ count
