-- The definitions of specs/ on small inputs, by computing them: two values of each. Assumes nothing.
use mathlib.Core.List.{[], ◌∷◌}
use mathlib.Core.Path.{◌≡◌, refl}
use Rattle.std.proofs.Common.{Ok, Err}
use Rattle.bounded.specs.Bounded.{every, first_from}
use Rattle.refusal.specs.declared.Refusal.TheVariants.{NoSuchNumber, WrongLength, NoRoom}
use Rattle.refusal.specs.Rows.{judge}
use Rattle.triangle.specs.Count.{N}
use Rattle.schedule.specs.Schedule.{ones, zeros, is_schedule}
use Rattle.circle.specs.Step.{shift, found, has01, moves_next, next}
use Rattle.circle.specs.Walk.{steps}
use Rattle.form.specs.Answers.{
  number_rows,
  form_rows,
  form_verdict,
  form_left,
  sheet_rows,
  on_sheet,
  sheet_verdict,
  sheet_left,
}
use Rattle.form.specs.Place.{floor_of}

-- floors
floor-3-2 : floor_of 3 2 ≡ 3
unfolding floor_of N
floor-3-2 = refl

floor-3-0 : floor_of 3 0 ≡ 0
unfolding floor_of
floor-3-0 = refl

-- the last number of 3, 2, and one past it
taken-4 : judge (number_rows 3 2 4) ≡ Ok tt
unfolding N
taken-4 = refl

beyond-5 : judge (number_rows 3 2 5) ≡ Err NoSuchNumber
unfolding N
beyond-5 = refl

-- a form from column 1 on, and from column 0 on
sheet-1 : on_sheet 1 (1 ∷ 0 ∷ []) (7 ∷ 7 ∷ 7 ∷ 7 ∷ []) ≡ 7 ∷ 1 ∷ 0 ∷ 7 ∷ []
sheet-1 = refl

sheet-0 : on_sheet 0 (1 ∷ 0 ∷ []) (7 ∷ 7 ∷ 7 ∷ 7 ∷ []) ≡ 1 ∷ 0 ∷ 7 ∷ 7 ∷ []
sheet-0 = refl

-- number 1 of 2, 1 in its room and in a place too few; there is no number 2
form-taken : judge (form_rows 2 1 1 (7 ∷ 7 ∷ 7 ∷ [])) ≡ Ok tt
unfolding N
form-taken = refl

form-short : judge (form_rows 2 1 1 (7 ∷ 7 ∷ [])) ≡ Err WrongLength
unfolding N
form-short = refl

form-there : form_verdict 2 1 1 (7 ∷ 7 ∷ 7 ∷ []) ≡ Ok tt
unfolding N
form-there = refl

form-beyond : form_verdict 2 1 2 (7 ∷ 7 ∷ 7 ∷ []) ≡ Err NoSuchNumber
unfolding N
form-beyond = refl

form-leaves-110 : form_left 2 1 1 (7 ∷ 7 ∷ 7 ∷ []) ≡ 1 ∷ 1 ∷ 0 ∷ []
unfolding N every first_from ones zeros is_schedule shift found has01 moves_next next steps
form-leaves-110 = refl

form-leaves-lent : form_left 2 1 2 (7 ∷ 7 ∷ 7 ∷ []) ≡ 7 ∷ 7 ∷ 7 ∷ []
unfolding N
form-leaves-lent = refl

-- the same on a sheet of four places, from column 1 and from column 2 on
sheet-taken : judge (sheet_rows 2 1 1 (7 ∷ 7 ∷ 7 ∷ 7 ∷ []) 1) ≡ Ok tt
unfolding N
sheet-taken = refl

sheet-short : judge (sheet_rows 2 1 1 (7 ∷ 7 ∷ 7 ∷ 7 ∷ []) 2) ≡ Err NoRoom
unfolding N
sheet-short = refl

sheet-there : sheet_verdict 2 1 1 (7 ∷ 7 ∷ 7 ∷ 7 ∷ []) 1 ≡ Ok tt
unfolding N
sheet-there = refl

sheet-beyond : sheet_verdict 2 1 2 (7 ∷ 7 ∷ 7 ∷ 7 ∷ []) 1 ≡ Err NoSuchNumber
unfolding N
sheet-beyond = refl

sheet-leaves-101 : sheet_left 2 1 0 (7 ∷ 7 ∷ 7 ∷ 7 ∷ []) 1 ≡ 7 ∷ 1 ∷ 0 ∷ 1 ∷ []
unfolding N first_from zeros shift found has01 next steps
sheet-leaves-101 = refl

sheet-leaves-lent : sheet_left 2 1 1 (7 ∷ 7 ∷ 7 ∷ 7 ∷ []) 2 ≡ 7 ∷ 7 ∷ 7 ∷ 7 ∷ []
unfolding N
sheet-leaves-lent = refl
