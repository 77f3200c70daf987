-- What the form of a number, alone and on a sheet, answers and leaves, the manual, "The number", "Onto the sheet" and
-- "Refusal numbers" (Order: numbers). Definitions only.
--     number_rows       the refusals of a number: 1, 2, then 7 [R14]
--     form_rows         alone: then 3 [R16]
--     form_verdict, form_left       what writing the form alone answers and leaves [O3]
--     sheet_rows        onto a sheet: then 12, exactly if column + t + s is above the sheet's length [R15] [R16]
--     on_sheet          the sheet with a form from the column on: every byte before and after stays [O3]
--     sheet_verdict, sheet_left     what writing it onto a sheet answers and leaves [O3]
use Rattle.std.specs.Prelude.{not, List, [], ◌∷◌, ◌++◌, ℕ, ◌+◌, eqb, ltb, length, take, drop}
use Rattle.refusal.specs.declared.Refusal.TheVariants.{WrongLength, NoSuchNumber, NoRoom}
use Rattle.refusal.specs.Answer.{Verdict, left}
use Rattle.refusal.specs.Rows.{Row, ◌⇒◌, judge}
use Rattle.triangle.specs.Count.{N}
use Rattle.counts.specs.Counts.{count_rows}
use Rattle.number.specs.Number.{form_of}

abbrev pub number_rows : ℕ → ℕ → ℕ → List Row
number_rows t s n = count_rows t s ++ (not (ltb n (N t s)) ⇒ NoSuchNumber) ∷ []

abbrev pub form_rows : ℕ → ℕ → ℕ → List ℕ → List Row
form_rows t s n out = number_rows t s n ++ (not (eqb (length out) (t + s)) ⇒ WrongLength) ∷ []

abbrev pub form_verdict : ℕ → ℕ → ℕ → List ℕ → Verdict
form_verdict t s n out = judge (form_rows t s n out)

abbrev pub form_left : ℕ → ℕ → ℕ → List ℕ → List ℕ
form_left t s n out = left (form_verdict t s n out) (form_of t s n) out

abbrev pub sheet_rows : ℕ → ℕ → ℕ → List ℕ → ℕ → List Row
sheet_rows t s n sheet column = number_rows t s n ++ (ltb (length sheet) (column + t + s) ⇒ NoRoom) ∷ []

abbrev pub on_sheet : ℕ → List ℕ → List ℕ → List ℕ
on_sheet column form sheet = take column sheet ++ form ++ drop (column + length form) sheet

abbrev pub sheet_verdict : ℕ → ℕ → ℕ → List ℕ → ℕ → Verdict
sheet_verdict t s n sheet column = judge (sheet_rows t s n sheet column)

abbrev pub sheet_left : ℕ → ℕ → ℕ → List ℕ → ℕ → List ℕ
sheet_left t s n sheet column = left (sheet_verdict t s n sheet column) (on_sheet column (form_of t s n) sheet) sheet
