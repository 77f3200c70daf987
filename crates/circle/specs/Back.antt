-- The CoolCat rule undone, and walks back along the circle: the manual, "The step back". Positions count from 1 here,
-- as in Step.antt. Definitions only.
--     unshift k b       the k-th prefix shift undone: the symbol at position 2 goes to k, and position 1 stays [V1]
--     others b          b without the symbol at position 2
--     after_found b     the position after the found 1 of the others; the last one where they have no 01
--     before_found b    the position before it; the last one where they have no 01
--     fits b            the symbol at position 2 may go back to the position before it: that is a schedule
--     previous b        the previous form: a 0 at position 2 goes back to the position after the found 1 of the others,
--                       a 1 to the position before it or, where that is no schedule, to one position earlier; with no
--                       zeros b stays [V1]
--     Precedes t s c b  c is the one schedule of t, s whose next form is b [V2]
--     steps_back k b    b after k steps back [V10]
--     worked_back k b   the changed beats of k steps back from b, added up [V10]
use Rattle.std.specs.Prelude.{Bool, cond, List, ◌∷◌, ◌++◌, ◌≡◌, ℕ, zero, suc, pred, ◌+◌, eqb, ltb, length, get_or, take}
use Rattle.std.specs.Prelude.{drop}
use Rattle.schedule.specs.Schedule.{ones, zeros, Schedule, is_schedule}
use Rattle.circle.specs.Step.{found, has01, next}
use Rattle.circle.specs.Walk.{changed}

unfoldable pub unshift : ℕ → List ℕ → List ℕ
unshift k b = take 1 b ++ drop 2 (take k b) ++ get_or b 1 0 ∷ drop k b

abbrev pub others : List ℕ → List ℕ
others b = take 1 b ++ drop 2 b

unfoldable pub after_found : List ℕ → ℕ
after_found b = cond (has01 (others b)) (suc (found (others b))) (length b)

unfoldable pub before_found : List ℕ → ℕ
before_found b = cond (has01 (others b)) (found (others b)) (length b)

unfoldable pub fits : List ℕ → Bool
fits b = is_schedule (ones b) (zeros b) (unshift (before_found b) b)

unfoldable pub previous : List ℕ → List ℕ
previous b =
    cond (ltb 0 (zeros b))
    (cond (eqb (get_or b 1 0) 0)
    (unshift (after_found b) b)
    (cond (fits b) (unshift (before_found b) b) (unshift (pred (before_found b)) b)))
    b

pub record Precedes (t s : ℕ) (c b : List ℕ) : Type 0 where
  pub form : Schedule t s c
  pub leads : next c ≡ b
  pub only : (d : List ℕ) → Schedule t s d → next d ≡ b → d ≡ c

unfoldable pub steps_back : ℕ → List ℕ → List ℕ
steps_back zero b = b
steps_back (suc k) b = previous (steps_back k b)

unfoldable pub worked_back : ℕ → List ℕ → ℕ
worked_back zero b = 0
worked_back (suc k) b = worked_back k b + changed (steps_back k b) (steps_back (suc k) b)
