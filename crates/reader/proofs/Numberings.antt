-- The number that a record holds, by either numbering.
--     number-form-in       the form of a form's number is that form
--     form-number-in       the form of number n has number n
--     number-below-in      a form's number is below N(t, s)
--     form-schedule-in     the form of a number is a schedule of t, s
--     held_stays, held-last, held-before  how a number from t ones then s zeros is turned: one that no form has
--                                         stays, 0 becomes the last, any other one less
--     held_below           a number that is turned is below N(t, s) exactly if it was
--     held-form            and then it is the number in the catalogue of the form that had it
--     held_rows, held-answer, held-left     so it is judged as it is held, and answers and leaves the same
-- Assumes nothing.
use mathlib.Core.Bool.{Bool, cond, not}
use mathlib.Core.List.{List, [], ◌∷◌, ◌++◌}
use mathlib.Core.Path.{◌≡◌, refl, sym, ◌∙◌, ap}
use Prim.Native.Nat.{ℕ, ◌+◌, ◌-◌, ◌%◌, ◌≤◌, ◌<◌}
use native.Mathlib.Decide.{dec_lt}
use native.Mathlib.Nat.{mod-lt, mod-eq_of_lt, add-mod_right}
use native.Mathlib.Omega.{arith}
use borrow.Author.Tests.{lt-ltb, le-ltb}
use lib.Dec.{ltb}
use Rattle.std.proofs.Common.{Ok, Err}
use Rattle.form.specs.Answers.{number_rows}
use Rattle.form.proofs.Verdicts.{number-allowed}
use Rattle.refusal.specs.declared.Refusal.TheVariants.{NoSuchNumber}
use Rattle.refusal.specs.Answer.{Verdict, answer, left}
use Rattle.refusal.specs.Rows.{◌⇒◌, judge}
use Rattle.triangle.specs.Count.{N}
use Rattle.counts.specs.Counts.{count_rows}
use Rattle.schedule.specs.Schedule.{Schedule}
use Rattle.number.specs.Number.{number_of, form_of}
use Rattle.number.proofs.Numbers.{form-schedule, top-form-schedule}
use Rattle.number.proofs.Theorems.{number-form, form-number, number-below, top-form, form-top, top_below, form-before}
use Rattle.record.specs.declared.layout.Numbering.{Numbering}
use Rattle.record.specs.Record.{number_by, form_by}
use Rattle.reader.specs.Answers.{catalogued}

module _ {t s : ℕ} {b : List ℕ} (q : Schedule t s b) where
  pub number-form-in : (by : Numbering) → form_by by t s (number_by by t s b) ≡ b
  number-form-in Numbering.Catalogue = number-form q
  number-form-in Numbering.FromTop = top-form q

  pub number-below-in : (by : Numbering) → number_by by t s b < N t s
  number-below-in Numbering.Catalogue = number-below q
  number-below-in Numbering.FromTop = top_below q

module _ {t s : ℕ} (few : s ≤ t) where
  pub form-number-in : (by : Numbering) (n : ℕ) → n < N t s → number_by by t s (form_by by t s n) ≡ n
  form-number-in Numbering.Catalogue = form-number few
  form-number-in Numbering.FromTop = form-top few

  pub form-schedule-in : (by : Numbering) (n : ℕ) → Schedule t s (form_by by t s n)
  form-schedule-in Numbering.Catalogue = form-schedule few
  form-schedule-in Numbering.FromTop = top-form-schedule few

-- a number from t ones then s zeros, turned into one of the catalogue, where all forms are so many
module _ (all n : ℕ) where
  abbrev back : ℕ
  back = (n + (all - 1)) % all

  pub held_stays : all ≤ n → catalogued Numbering.FromTop all n ≡ n
  held_stays h = simp (le-ltb n all h)

  module _ (h : n < all) where
    turns : catalogued Numbering.FromTop all n ≡ back
    turns = ap (λ (b : Bool). cond b back n) (lt-ltb n all h)

    pub held-last : n ≡ 0 → catalogued Numbering.FromTop all n ≡ all - 1
    held-last z =
        let last : n + (all - 1) ≡ all - 1 = omega arith in
        turns ∙ ap (λ (m : ℕ). m % all) last ∙ mod-eq_of_lt (omega arith)

    pub held-before : ((n ≡ 0) → ⊥) → catalogued Numbering.FromTop all n ≡ n - 1
    held-before z =
        let past : n + (all - 1) ≡ n - 1 + all = omega (arith, z) in
        turns ∙ ap (λ (m : ℕ). m % all) past ∙ add-mod_right (n - 1) all ∙ mod-eq_of_lt (omega arith)

    below-back : catalogued Numbering.FromTop all n < all
    below-back = rw turns (mod-lt (n + (all - 1)) {m = all} (omega arith))

pub held_below : (by : Numbering) (all n : ℕ) → ltb (catalogued by all n) all ≡ ltb n all
held_below Numbering.Catalogue all n = refl
held_below Numbering.FromTop all n =
    elim (dec_lt n all) [
      | yes h ↦ lt-ltb (catalogued Numbering.FromTop all n) all (below-back all n h) ∙ sym (lt-ltb n all h)
      | no h ↦ ap (λ (m : ℕ). ltb m all) (held_stays all n (omega arith))
    ]

pub held-form : {t s : ℕ} → s ≤ t → (by : Numbering) (n : ℕ) → n < N t s
    → form_of t s (catalogued by (N t s) n) ≡ form_by by t s n
held-form few Numbering.Catalogue n h = refl
held-form {t} {s} few Numbering.FromTop n h =
    ap (form_of t s) (turns (N t s) n h) ∙ sym (form-before few n)

module _ (by : Numbering) (t s n : ℕ) where
  abbrev listed : ℕ
  listed = catalogued by (N t s) n

  pub held_rows : judge (number_rows t s listed) ≡ judge (number_rows t s n)
  held_rows =
      ap (λ (b : Bool). judge (count_rows t s ++ (not b ⇒ NoSuchNumber) ∷ [])) (held_below by (N t s) n)

  -- where the number is taken, it is that of the form
  module _ (e : judge (number_rows t s n) ≡ Ok tt) where
    held-is : form_of t s listed ≡ form_by by t s n
    held-is = let few = number-allowed t s n e in held-form few.1 by n few.2

    held_number : listed ≡ number_of t s (form_by by t s n)
    held_number =
        let few = number-allowed t s n e in
        let below = number-allowed t s listed (held_rows ∙ e) in
        sym (form-number few.1 listed below.2) ∙ ap (number_of t s) held-is

  pub held-answer : (v : Verdict) → judge (number_rows t s n) ≡ v
      → answer v listed ≡ answer v (number_of t s (form_by by t s n))
  held-answer (Ok unit) e = ap Ok (held_number e)
  held-answer (Err why) e = refl

  pub held-left : (rest out : List ℕ) (v : Verdict) → judge (number_rows t s n) ≡ v
      → left v (form_of t s listed ++ rest) out ≡ left v (form_by by t s n ++ rest) out
  held-left rest out (Ok unit) e = ap (λ (b : List ℕ). b ++ rest) (held-is e)
  held-left rest out (Err why) e = refl
