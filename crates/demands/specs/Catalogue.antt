-- The catalogue's numbers and the earlier ones, about what the calls answer and leave (Calls.antt): the manual, "The
-- catalogue". proofs/Catalogue.antt proves it. Definitions only.
--     Catalogue     the number of a form is the number from t ones then s zeros, less 1 round the circle, so that these
--                   have the last number and the form after them the first; what version 1 read is read to the same
--                   schedule, with the number moved so; and kind 1 is not written [K11]
use Rattle.std.specs.Prelude.{List, [], ◌∷◌, ◌≡◌, ℕ, ◌+◌, ◌-◌, ◌%◌, Ok, Err}
use Rattle.refusal.specs.declared.Refusal.TheVariants.{UnknownKind}
use Rattle.triangle.specs.Count.{N}
use Rattle.counts.specs.Counts.{Allowed}
use Rattle.schedule.specs.Schedule.{Schedule}
use Rattle.circle.specs.Step as rule
use Rattle.circle.specs.Step.{top}
use Rattle.number.specs.Number.{number_from_top}
use Rattle.record.specs.declared.reading.Order.{Order}
use Rattle.reader.specs.Earlier.{earlier_answer, earlier_left, renumbered}
use Rattle.demands.specs.Calls.{number, read, write, Gives}

pub record Catalogue : Type 0 where
  pub moved : (t s : ℕ) (b : List ℕ) → Allowed t s → Schedule t s b
      → Gives (number t s b) (Ok tt) (((number_from_top t s b + (N t s - 1)) % N t s) ∷ []) (b ∷ [])
  pub top-last : (t s : ℕ) → Allowed t s
      → Gives (number t s (top t s)) (Ok tt) ((N t s - 1) ∷ []) (top t s ∷ [])
  pub start_first : (t s : ℕ) → Allowed t s
      → Gives (number t s (rule.next (top t s))) (Ok tt) (0 ∷ []) (rule.next (top t s) ∷ [])
  pub read-before : (src out : List ℕ) (o : Order) → earlier_answer src out ≡ Ok o
      → let n = renumbered o in
      Gives (read src out) (Ok tt) (n.t ∷ n.s ∷ n.number ∷ n.consumed ∷ [])
      (src ∷ earlier_left src out ∷ [])
  pub write-1 : (t s : ℕ) (b out : List ℕ)
      → Gives (write 1 t s b out) (Err UnknownKind) (0 ∷ []) (b ∷ out ∷ [])
