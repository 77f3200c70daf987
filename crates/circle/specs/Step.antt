-- The CoolCat rule, the manual, "The step"; source 000, sections 1 and 3. Positions count from 1 here, as there.
-- Definitions only.
--     shift k b       the k-th prefix shift: the symbol at k goes to position 2, and position 1 stays [S1] [A4]
--     is01 b i        a 0 stands at place i (counted from 0) and a 1 after it
--     found b         the position of the 1 of the leftmost 0 followed by 1; past the end where there is none
--     has01 b         there is a 0 followed by 1
--     moves_next b    the position after the found 1 is inside, and the shift of it is a schedule
--     next b          the next form: that shift, or else the shift of the found 1; with no 01 the last symbol moves to
--                     position 2 if there is a 0, and else b stays [D2a] [S2] [S3]
--     top t s         t ones and then s zeros
use Rattle.std.specs.Prelude.{Bool, cond, ◌&&◌, List, ◌∷◌, ◌++◌, ℕ, suc, pred, eqb, leb, ltb, length, get_or, take}
use Rattle.std.specs.Prelude.{drop, replicate}
use Rattle.bounded.specs.Bounded.{first}
use Rattle.schedule.specs.Schedule.{ones, zeros, is_schedule}

unfoldable pub shift : ℕ → List ℕ → List ℕ
shift k b = take 1 b ++ get_or b (pred k) 0 ∷ drop 1 (take (pred k) b) ++ drop k b

abbrev pub is01 : List ℕ → ℕ → Bool
is01 b i = eqb (get_or b i 0) 0 && eqb (get_or b (suc i) 0) 1

unfoldable pub found : List ℕ → ℕ
found b = suc (suc (first (is01 b) (length b)))

unfoldable pub has01 : List ℕ → Bool
has01 b = leb (found b) (length b)

unfoldable pub moves_next : List ℕ → Bool
moves_next b = leb (suc (found b)) (length b) && is_schedule (ones b) (zeros b) (shift (suc (found b)) b)

unfoldable pub next : List ℕ → List ℕ
next b =
    cond (has01 b)
    (cond (moves_next b) (shift (suc (found b)) b) (shift (found b) b))
    (cond (ltb 0 (zeros b)) (shift (length b) b) b)

abbrev pub top : ℕ → ℕ → List ℕ
top t s = replicate t 1 ++ replicate s 0
