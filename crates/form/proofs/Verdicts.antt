-- The verdicts of the functions that take a number, row by row, the manual, "Refusal numbers" (Order: numbers).
--     number-refused, number-beyond, number-taken     of the number itself: 1, 2, then 7
--     number-allowed       what a taken number says of the counts
--     form-refused, form-long, form-taken             of the bytes for a form: then 3
--     form-allowed         what an accepted call for a form says of the number and the bytes
--     sheet-refused, sheet-short, sheet-taken         of the place on a sheet: then 12
--     on-part                                         a sheet whose part has become the form
-- Assumes nothing.
use mathlib.Core.Bool.{not, false, true≢false}
use mathlib.Core.List.Memᴰ
use mathlib.Core.List.{List, [], ◌∷◌, ◌++◌, append_assoc}
use mathlib.Core.Path.{◌≡◌, refl, ◌∙◌, ap, sym}
use Prim.Native.Nat.{ℕ, ◌+◌, ◌-◌, ◌≤◌, ◌<◌}
use native.Mathlib.Decide.{dec_lt, ℕ_discrete}
use native.Mathlib.Omega.{arith}
use borrow.Author.Tests.{lt-ltb, le-ltb, eq-eqb, ne_eqb}
use lib.Dec.{eqb, ltb}
use lib.ListN.{length, take, drop}
use lib.Seq.{drop-drop}
use Rattle.std.proofs.Common.{Ok, Err}
use Rattle.form.specs.Answers.{number_rows, form_rows, sheet_rows, on_sheet}
use Rattle.refusal.specs.declared.Refusal.{Refusal}
use Rattle.refusal.specs.declared.Refusal.TheVariants.{WrongLength, NoSuchNumber, NoRoom}
use Rattle.refusal.specs.Rows.{Row, ◌⇒◌, judge}
use Rattle.refusal.proofs.Theorems.{accepted-none}
use Rattle.refusal.proofs.Rows.{judge-refused, judge-accepted, judge-front, judge-back}
use Rattle.triangle.specs.Count.{N, largest}
use Rattle.counts.specs.Counts.{count_rows}
use Rattle.counts.proofs.Sizes.{counts-allowed}

module _ (t s n : ℕ) where
  abbrev seven : List Row
  seven = (not (ltb n (N t s)) ⇒ NoSuchNumber) ∷ []

  pub number-refused : {why : Refusal} → judge (count_rows t s) ≡ Err why
      → judge (number_rows t s n) ≡ Err why
  number-refused {why} e = judge-refused (count_rows t s) seven why e

  pub number-beyond : judge (count_rows t s) ≡ Ok tt → N t s ≤ n
      → judge (number_rows t s n) ≡ Err NoSuchNumber
  number-beyond e h = judge-accepted (count_rows t s) seven e ∙ simp (le-ltb n (N t s) h)

  pub number-taken : judge (count_rows t s) ≡ Ok tt → n < N t s
      → judge (number_rows t s n) ≡ Ok tt
  number-taken e h = judge-accepted (count_rows t s) seven e ∙ simp (lt-ltb n (N t s) h)

  pub number-allowed : judge (number_rows t s n) ≡ Ok tt → (t ≤ largest) × (s ≤ t) × (n < N t s)
  number-allowed e =
      let a = counts-allowed t s (judge-front (count_rows t s) seven e) in
      (a.0, a.1, elim (dec_lt n (N t s)) [ yes h ↦ h | no h ↦ absurd (beyond (omega arith)) ])
    where
      none : not (ltb n (N t s)) ≡ false
      none =
          accepted-none seven (judge-back (count_rows t s) seven e) (not (ltb n (N t s)) ⇒ NoSuchNumber)
          (Memᴰ.head refl)

      beyond : N t s ≤ n → ⊥
      beyond h = true≢false (sym (ap not (le-ltb n (N t s) h)) ∙ none)

  module _ (out : List ℕ) where
    abbrev three : List Row
    three = (not (eqb (length out) (t + s)) ⇒ WrongLength) ∷ []

    pub form-refused : {why : Refusal} → judge (number_rows t s n) ≡ Err why
        → judge (form_rows t s n out) ≡ Err why
    form-refused {why} e = judge-refused (number_rows t s n) three why e

    pub form-long : judge (number_rows t s n) ≡ Ok tt → ((length out ≡ t + s) → ⊥)
        → judge (form_rows t s n out) ≡ Err WrongLength
    form-long e h = judge-accepted (number_rows t s n) three e ∙ simp (ne_eqb (length out) (t + s) h)

    pub form-taken : judge (number_rows t s n) ≡ Ok tt → length out ≡ t + s
        → judge (form_rows t s n out) ≡ Ok tt
    form-taken e h = judge-accepted (number_rows t s n) three e ∙ simp (eq-eqb (length out) (t + s) h)

    pub form-allowed : judge (form_rows t s n out) ≡ Ok tt
        → (judge (number_rows t s n) ≡ Ok tt) × (length out ≡ t + s)
    form-allowed e = (
      judge-front (number_rows t s n) three e,
      elim (ℕ_discrete (length out) (t + s)) [ yes h ↦ h | no h ↦ absurd (other h) ],
    )
      where
        none : not (eqb (length out) (t + s)) ≡ false
        none =
            let row = not (eqb (length out) (t + s)) ⇒ WrongLength in
            accepted-none three (judge-back (number_rows t s n) three e) row (Memᴰ.head refl)

        other : ((length out ≡ t + s) → ⊥) → ⊥
        other h = true≢false (sym (ap not (ne_eqb (length out) (t + s) h)) ∙ none)

  module _ (sheet : List ℕ) (column : ℕ) where
    abbrev twelve : List Row
    twelve = (ltb (length sheet) (column + t + s) ⇒ NoRoom) ∷ []

    pub sheet-refused : {why : Refusal} → judge (number_rows t s n) ≡ Err why
        → judge (sheet_rows t s n sheet column) ≡ Err why
    sheet-refused {why} e = judge-refused (number_rows t s n) twelve why e

    pub sheet-short : judge (number_rows t s n) ≡ Ok tt → length sheet < column + t + s
        → judge (sheet_rows t s n sheet column) ≡ Err NoRoom
    sheet-short e h = judge-accepted (number_rows t s n) twelve e ∙ simp (lt-ltb (length sheet) (column + t + s) h)

    pub sheet-taken : judge (number_rows t s n) ≡ Ok tt → column + t + s ≤ length sheet
        → judge (sheet_rows t s n sheet column) ≡ Ok tt
    sheet-taken e h = judge-accepted (number_rows t s n) twelve e ∙ simp (le-ltb (length sheet) (column + t + s) h)

pub on-part : (column end : ℕ) (form sheet : List ℕ) → end ≡ column + length form
    → take column sheet ++ (form ++ drop (end - column) (drop column sheet)) ≡ on_sheet column form sheet
on-part column end form sheet e =
    let q : column + (end - column) ≡ column + length form = omega arith in
    rw (drop-drop (end - column) column sheet)
    (sym (append_assoc (take column sheet) form (drop (column + (end - column)) sheet)))
    ∙ ap (λ (j : ℕ). take column sheet ++ form ++ drop j sheet) q
