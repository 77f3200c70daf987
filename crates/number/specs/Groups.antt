-- The list S by its groups, the manual, "The number"; source 000, section 3, (7a) and (7b) [M7]. Definitions only.
--     up_to f m      the lists f 1, f 2, .., f m, one after the other
--     last_group     the groups go up to s, or up to s − 1 if t = s
--     ending         a front, then a 1 and then s − i zeros
--     S t s          for each i the fronts of S (t−1) i with that ending; t ones then s zeros closes the list [M7]
use Rattle.std.specs.Prelude.{cond, List, [], ◌∷◌, ◌++◌, map, ℕ, zero, suc, pred, ◌-◌, eqb, replicate}
use Rattle.circle.specs.Step.{top}

unfoldable pub up_to : (ℕ → List (List ℕ)) → ℕ → List (List ℕ)
up_to f zero = []
up_to f (suc m) = up_to f m ++ f (suc m)

abbrev pub last_group : ℕ → ℕ → ℕ
last_group t s = cond (eqb t s) (pred s) s

abbrev pub ending : ℕ → ℕ → List ℕ → List ℕ
ending s i front = front ++ 1 ∷ replicate (s - i) 0

unfoldable pub S : ℕ → ℕ → List (List ℕ)
S zero s = top zero s ∷ []
S (suc t) s = up_to (λ i. map (ending s i) (S t i)) (last_group (suc t) s) ++ top (suc t) s ∷ []
