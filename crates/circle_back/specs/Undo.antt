-- What a step back stores, for the contracts of the way back. proofs/Undoing.antt shows that it leaves the previous
-- form, so nothing here has to be believed.
--     unmade          the schedule before the stores of a move: a swap had put a 1 at y and a 0 at x; a dip had also
--                     moved a 0 from the place after x to the second place
--     Undoes b m      m led from the previous form of b to b
--     goes_back       the walk back goes step by step, and adds up the beats that each step changes
use Rattle.std.specs.Prelude.{List, refl, ℕ}
use Rattle.circle.specs.declared.Move.{Move}
use Rattle.circle.specs.Back.{previous, steps_back, worked_back}
use Rattle.circle.specs.Plan.{Leads, stored}
use Rattle.circle.specs.Way.{Goes}

abbrev pub unmade : Move → List ℕ → List ℕ
unmade = stored 0 1

abbrev pub Undoes : List ℕ → Move → Type 0
Undoes = Leads previous unmade

pub goes_back : Goes previous steps_back worked_back
unfolding steps_back worked_back
goes_back = record { starts = λ b. (refl, refl); goes = λ k b. refl; adds = λ k b. refl }
