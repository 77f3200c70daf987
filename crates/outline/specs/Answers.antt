-- What the way from a schedule to its outline's text answers and leaves, the manual, "The outline" and "Refusal
-- numbers" (rows 1 to 6, 14, 12). Definitions only.
--     closed_rows     the refusals of a schedule that is to be printed, in their order: 1 to 6, 14 [H7] [R23]
--     outline_rows    the same, and then 12 where the text is longer than the room [H7]
--     outline_answer  the bytes written, or the refusal [H6]
--     outline_left    what is left in the lent text: the outline's at its start and the rest as it was; refused, what
--                     was there [H6]
use Rattle.std.specs.Prelude.{not, List, [], ◌∷◌, ◌++◌, ℕ, eqb, ltb, length, drop}
use Rattle.refusal.specs.declared.Refusal.TheVariants.{NotClosed, NoRoom}
use Rattle.refusal.specs.Answer.{Answer, answer, left}
use Rattle.refusal.specs.Rows.{Row, ◌⇒◌, judge}
use Rattle.schedule.specs.Check.{check_rows}
use Rattle.outline.specs.Text.{printed}

abbrev pub closed_rows : ℕ → ℕ → List ℕ → List Row
closed_rows t s b = check_rows t s b ++ (not (eqb t s) ⇒ NotClosed) ∷ []

abbrev pub outline_rows : ℕ → ℕ → List ℕ → ℕ → List Row
outline_rows t s b room = closed_rows t s b ++ (ltb room (length (printed b)) ⇒ NoRoom) ∷ []

abbrev pub outline_answer : ℕ → ℕ → List ℕ → List ℕ → Answer
outline_answer t s b x = answer (judge (outline_rows t s b (length x))) (length (printed b))

abbrev pub outline_left : ℕ → ℕ → List ℕ → List ℕ → List ℕ
outline_left t s b x = left (judge (outline_rows t s b (length x))) (printed b ++ drop (length (printed b)) x) x
