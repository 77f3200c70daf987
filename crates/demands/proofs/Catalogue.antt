-- The catalogue's numbers and the earlier ones, as specs/Catalogue.antt has them.
--     catalogue     all of it [K11]
-- Assumes nothing.
use mathlib.Core.List.{List, [], ◌∷◌}
use mathlib.Core.Path.{◌≡◌, refl, ap, sym, ◌∙◌, subst}
use Prim.Native.Nat.{ℕ}
use Rattle.std.proofs.Common.{Ok}
use Rattle.counts.specs.Counts.{Allowed}
use Rattle.schedule.specs.Schedule.{Schedule}
use Rattle.circle.specs.Step.{top}
use Rattle.circle.proofs.Circle.{top-schedule}
use Rattle.number.specs.Number.{start, number_of}
use Rattle.number.proofs.Numbers.{start-schedule}
use Rattle.number.proofs.Theorems.{fewest-number, catalogue-number, top-number, start-number}
use Rattle.record.specs.Parts.{Reading}
use Rattle.record.specs.Parts as said
use Rattle.reader.proofs.Earlier.{read-as-before}
use Rattle.demands.specs.Calls.{number, Gives}
use Rattle.demands.specs.Catalogue.{Catalogue}
use Rattle.demands.proofs.Demands.{demands}

-- the number that is given is that of the definitions, whichever way it is worked out
given : (t s : ℕ) (b : List ℕ) → Allowed t s → Schedule t s b → {n : ℕ} → number_of t s b ≡ n
    → Gives (number t s b) (Ok tt) (n ∷ []) (b ∷ [])
given t s b a p e =
    let second = demands.second t s a in
    let answered = second.number-given b p in
    subst (λ (m : ℕ). Gives (number t s b) (Ok tt) (m ∷ []) (b ∷ []))
    (fewest-number p answered.0 (second.number-fewest b answered.0 answered.1) ∙ e)
    answered.1

pub catalogue : Catalogue
catalogue = record {
  moved = λ t s b a p. given t s b a p (catalogue-number p);
  top-last = λ t s a. given t s (top t s) a (top-schedule t s a.1) (top-number a.1);
  start_first = λ t s a. given t s (start t s) a (start-schedule a.1) (start-number a.1);
  read-before = λ src out o e.
      let now = read-as-before src out o e in (
        (
          sym (ap said.verdict now.0),
          sym (ap (λ (r : Reading). said.t r ∷ said.s r ∷ said.number r ∷ said.consumed r ∷ []) now.0),
        ),
        ap (λ (l : List ℕ). src ∷ l ∷ []) (sym now.1),
      );
  write-1 = λ t s b out. ((refl, refl), refl);
}
