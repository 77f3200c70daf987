-- The verdict on a schedule that is to be printed, row by row, on plain values.
--     closed-refused     what the check refuses is refused so
--     closed-open        a schedule that does not set all down is refused 14
--     closed-closed      another is accepted
--     closed-schedule    what is accepted is a closed schedule of allowed counts
--     room-refused, room-short, room-enough     the same with the room: 12 where the text is longer
--     room-closed        what is accepted with its room is accepted without
-- Assumes nothing.
use mathlib.Core.Bool.{Bool, true, false, not}
use mathlib.Core.List.{List, [], ◌∷◌}
use mathlib.Core.Logic.{◌≢◌}
use mathlib.Core.Path.{◌≡◌, refl, sym, ◌∙◌, ap, subst}
use Prim.Native.Nat.{ℕ, ◌≤◌, ◌<◌}
use borrow.Author.Tests.{eq-eqb, ne_eqb, lt-ltb, le-ltb, eqb-true, ltb-false}
use lib.Dec.{eqb, ltb}
use lib.ListN.{length}
use Rattle.std.proofs.Common.{Ok, Err}
use Rattle.refusal.specs.declared.Refusal.{Refusal}
use Rattle.refusal.specs.declared.Refusal.TheVariants.{NotClosed, NoRoom}
use Rattle.refusal.specs.Rows.{Row, ◌⇒◌, judge}
use Rattle.refusal.proofs.Rows.{judge-refused, judge-accepted, judge-front, judge-back, both}
use Rattle.triangle.specs.Count.{largest}
use Rattle.schedule.specs.Schedule.{Schedule}
use Rattle.schedule.specs.Check.{check_rows, checked}
use Rattle.schedule.proofs.Theorems.{accepted-schedule}
use Rattle.outline.specs.Text.{printed}
use Rattle.outline.specs.Answers.{closed_rows, outline_rows}

-- a single row
row-holds : {holds : Bool} (why : Refusal) → holds ≡ true → judge ((holds ⇒ why) ∷ []) ≡ Err why
row-holds why e = ap (λ (h : Bool). judge ((h ⇒ why) ∷ [])) e

row-fails : {holds : Bool} (why : Refusal) → holds ≡ false → judge ((holds ⇒ why) ∷ []) ≡ Ok tt
row-fails why e = ap (λ (h : Bool). judge ((h ⇒ why) ∷ [])) e

module _ (t s : ℕ) (b : List ℕ) where
  abbrev closing : List Row
  closing = (not (eqb t s) ⇒ NotClosed) ∷ []

  pub closed-refused : {why : Refusal} → checked t s b ≡ Err why
      → judge (closed_rows t s b) ≡ Err why
  closed-refused {why} e = judge-refused (check_rows t s b) closing why e

  pub closed-open : checked t s b ≡ Ok tt → t ≢ s → judge (closed_rows t s b) ≡ Err NotClosed
  closed-open e other = judge-accepted (check_rows t s b) closing e ∙ row-holds NotClosed (ap not (ne_eqb t s other))

  pub closed-closed : checked t s b ≡ Ok tt → t ≡ s → judge (closed_rows t s b) ≡ Ok tt
  closed-closed e same = judge-accepted (check_rows t s b) closing e ∙ row-fails NotClosed (ap not (eq-eqb t s same))

  pub closed-schedule : judge (closed_rows t s b) ≡ Ok tt → (t ≡ s) × (t ≤ largest) × Schedule t t b
  closed-schedule e =
      let a = accepted-schedule t s b (judge-front (check_rows t s b) closing e) in
      let same = by (eqb t s) refl (judge-back (check_rows t s b) closing e) in
      (same, a.0.0, subst (λ (k : ℕ). Schedule t k b) (sym same) a.1)
    where
      by : (q : Bool) → eqb t s ≡ q → judge closing ≡ Ok tt → t ≡ s
      by true f j = eqb-true t s f
      by false f j = both j (row-holds NotClosed (ap not f))

  module _ (room : ℕ) where
    abbrev fitting : List Row
    fitting = (ltb room (length (printed b)) ⇒ NoRoom) ∷ []

    pub room-refused : {why : Refusal} → judge (closed_rows t s b) ≡ Err why
        → judge (outline_rows t s b room) ≡ Err why
    room-refused {why} e = judge-refused (closed_rows t s b) fitting why e

    pub room-short : judge (closed_rows t s b) ≡ Ok tt → room < length (printed b)
        → judge (outline_rows t s b room) ≡ Err NoRoom
    room-short e h =
        judge-accepted (closed_rows t s b) fitting e ∙ row-holds NoRoom (lt-ltb room (length (printed b)) h)

    pub room-enough : judge (closed_rows t s b) ≡ Ok tt → length (printed b) ≤ room
        → judge (outline_rows t s b room) ≡ Ok tt
    room-enough e h =
        judge-accepted (closed_rows t s b) fitting e ∙ row-fails NoRoom (le-ltb room (length (printed b)) h)

    pub room-closed : judge (outline_rows t s b room) ≡ Ok tt
        → (judge (closed_rows t s b) ≡ Ok tt) × (length (printed b) ≤ room)
    room-closed e =
        let a = judge-front (closed_rows t s b) fitting e in
        (a, by (ltb room (length (printed b))) refl (judge-back (closed_rows t s b) fitting e))
      where
        by : (q : Bool) → ltb room (length (printed b)) ≡ q → judge fitting ≡ Ok tt
            → length (printed b) ≤ room
        by true f j = both j (row-holds NoRoom f)
        by false f j = ltb-false room (length (printed b)) f
