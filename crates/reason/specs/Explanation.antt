-- What the rule does to a schedule and why, the manual, "Why a beat moves". Places count from 0 here, and positions
-- from 1, as in specs/Step of the crate `circle`. Definitions only.
--     Explanation       the case of the rule, the place of the found 1, the place of the moved beat, and the changed
--                       places; none of a thing that the case lacks [X2]
--     says              the explanation of these four
--     differing b c     the places at which b and c differ, ascending; differing_from k counts the first place as k
--     explanation_of b  the explanation of a schedule: 1 where its counts have one form only; else 2 where no 0 is
--                       followed by 1, and the last beat moves; else 3 where the rule moves the beat after the found 1,
--                       and 4 where it moves the found 1 [X3]
--     no_place          what is answered where a place is asked for and there is none
--     places_of, values_of     what the cases of the enums say [F5]
use Rattle.std.specs.Prelude.{cond, List, [], ◌∷◌, ℕ, suc, pred, eqb, length}
use Rattle.triangle.specs.Count.{N}
use Rattle.schedule.specs.Schedule.{ones, zeros}
use Rattle.circle.specs.Step.{found, has01, moves_next, next}
use Rattle.reason.specs.declared.Places.{Places}
use Rattle.reason.specs.declared.Reason.{Reason}

pub record Explanation : Type 0 where
  pub case : ℕ
  pub found : List ℕ
  pub moved : List ℕ
  pub changed : List ℕ

abbrev pub says : ℕ → List ℕ → List ℕ → List ℕ → Explanation
says case found moved changed = record { case = case; found = found; moved = moved; changed = changed }

unfoldable pub differing_from : ℕ → List ℕ → List ℕ → List ℕ
differing_from k [] c = []
differing_from k (x ∷ b) [] = []
differing_from k (x ∷ b) (y ∷ c) =
    cond (eqb x y) (differing_from (suc k) b c) (k ∷ differing_from (suc k) b c)

abbrev pub differing : List ℕ → List ℕ → List ℕ
differing b c = differing_from 0 b c

unfoldable pub explanation_of : List ℕ → Explanation
explanation_of b =
    let at = pred (found b) in
    let changed = differing b (next b) in
    cond (eqb (N (ones b) (zeros b)) 1)
    (says 1 [] [] [])
    (cond (has01 b)
    (cond (moves_next b) (says 3 (at ∷ []) (suc at ∷ []) changed) (says 4 (at ∷ []) (at ∷ []) changed))
    (says 2 [] (pred (length b) ∷ []) changed))

abbrev pub no_place : ℕ
no_place = 18446744073709551615

abbrev pub places_of : Places → List ℕ
places_of (Places.Two a b) = a ∷ b ∷ []
places_of (Places.Four a b c d) = a ∷ b ∷ c ∷ d ∷ []

abbrev pub values_of : Reason → Explanation
values_of Reason.OneForm = says 1 [] [] []
values_of (Reason.LastMoves at places) = says 2 [] (at ∷ []) (places_of places)
values_of (Reason.NextMoves at next places) = says 3 (at ∷ []) (next ∷ []) (places_of places)
values_of (Reason.FoundMoves at places) = says 4 (at ∷ []) (at ∷ []) (places_of places)
