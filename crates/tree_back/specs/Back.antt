-- The way back from the tree tables of a closed schedule, the manual, "Tree table" and "Refusal numbers" (rows 1, 3 and
-- 8; Order: trees). Definitions only.
--     Untreed      what the way back answers and leaves: the schedule that has the tables; 8, and what was there,
--                  exactly if none has [R18] [T3] [R17]
use Rattle.std.specs.Prelude.{List, ◌≡◌, ℕ, Ok, Err}
use Rattle.refusal.specs.declared.Refusal.{Refusal}
use Rattle.refusal.specs.declared.Refusal.TheVariants.{NoSuchTables}
use Rattle.refusal.specs.Answer.{Verdict}
use Rattle.refusal.specs.Rows.{judge}
use Rattle.tree.specs.Table.{Has, lent_rows}

pub data Untreed (n : ℕ) (l r p b : List ℕ) : Verdict → List ℕ → Type 0 where
  found : {b' : List ℕ} → judge (lent_rows n b l r p) ≡ Ok tt → Has n b' l r p
      → Untreed n l r p b (Ok tt) b'
  none : judge (lent_rows n b l r p) ≡ Ok tt → ((c : List ℕ) → Has n c l r p → ⊥)
      → Untreed n l r p b (Err NoSuchTables) b
  unfit : {why : Refusal} → judge (lent_rows n b l r p) ≡ Err why
      → Untreed n l r p b (Err why) b
