-- `reads::formed` meets its contract: the number is judged as it is held, and the form is in its place.
-- Assumes nothing.
use mathlib.Core.List.{List, ◌++◌}
use mathlib.Core.Path.{◌≡◌, refl, ◌∙◌, ap, sym}
use Prim.Native.Nat.{ℕ, ◌+◌}
use native.Mathlib.Omega.{arith}
use lib.ListN.{take, drop}
use lib.Seq.{length-take-le}
use Rattle.form.specs.Answers.{number_rows, form_rows}
use Rattle.refusal.proofs.Left.{left-part}
use Rattle.refusal.specs.Answer.{Verdict, answer, left}
use Rattle.refusal.specs.Rows.{judge}
use Rattle.counts.proofs.Sizes.{counts-allowed}
use Rattle.number.specs.Number.{form_of}
use Rattle.reader.proofs.Numberings.{held_rows, held-answer, held-left}
use Rattle.reader.proofs.Verdicts.{form-number}
use Rattle.reader.proofs.reads.formed.Goals as goal

pub returns : goal.returns
returns c =
    let args = c.args in
    let n = args.t + args.s in
    let lent = args.out.now in
    let listed = c.catalogued-listed.result in
    let is = c.catalogued-listed.ensures in
    let allowed = counts-allowed args.t args.s (sym c.in_ok-allowed.ensures) in
    let long = length-take-le n lent (omega (arith, allowed, c.requires)) in
    let v = judge (number_rows args.t args.s args.number) in
    let verdict : judge (form_rows args.t args.s listed (take n lent)) ≡ v =
    form-number args.t args.s listed (take n lent) long
    ∙ ap (λ (m : ℕ). judge (number_rows args.t args.s m)) is
    ∙ held_rows args.numbering args.t args.s args.number in
    let accepted = c.in_ok-form_by.ensures.value ∙ verdict in
    record {
      value = ap (λ (w : Verdict). answer w listed) accepted
          ∙ ap (answer v) is
          ∙ held-answer args.numbering args.t args.s args.number v refl;
      out_after =
          ap (λ (w : List ℕ). w ++ drop n lent)
          (c.in_ok-form_by.ensures.out_after
          ∙ ap (λ (w : Verdict). left w (form_of args.t args.s listed) (take n lent)) verdict)
          ∙ left-part v n (form_of args.t args.s listed) lent
          ∙ ap (λ (m : ℕ). left v (form_of args.t args.s m ++ drop n lent) lent) is
          ∙ held-left args.numbering args.t args.s args.number (drop n lent) lent v refl;
    }
