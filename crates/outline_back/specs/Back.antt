-- The way back from the text of an outline, the manual, "The outline" and "Refusal numbers" (rows 1, 3 and 15).
-- Definitions only.
--     Leads n x k     the text x begins with k whole lines, each with its line feed, that are the leading lines of some
--                     outline of n lines [H11]
--     Wrong n x k     that many, and no more [H11]
--     back_rows       the refusals by size, in their order: 1, 3 [H10]
--     Back            what the way back answers and leaves: the schedule of the outline of n lines whose text it is;
--                     15, with the first wrong, missing or surplus line, exactly if no outline of n lines has this text
--                     [H9] [H10] [R23]
use Rattle.std.specs.Prelude.{not, List, [], ◌∷◌, ◌++◌, ◌≡◌, ℕ, ◌+◌, ◌≤◌, eqb, ltb, length, take, Ok, Err}
use Rattle.refusal.specs.declared.Refusal.{Refusal}
use Rattle.refusal.specs.declared.Refusal.TheVariants.{TooManyTasks, WrongLength, NoSuchOutline}
use Rattle.refusal.specs.Answer.{Verdict}
use Rattle.refusal.specs.Rows.{Row, ◌⇒◌, judge}
use Rattle.triangle.specs.Count.{largest}
use Rattle.outline.specs.Outline.{Outline, headings, schedule}
use Rattle.outline.specs.Text.{lines, text, outline_text}

pub record Leads (n : ℕ) (x : List ℕ) (k : ℕ) : Type 0 where
  pub outline : Outline
  pub size : headings outline ≡ n
  pub within : k ≤ n
  pub rest : List ℕ
  pub begins : x ≡ text (take k (lines outline [] 1)) ++ rest

pub record Wrong (n : ℕ) (x : List ℕ) (k : ℕ) : Type 0 where
  pub leads : Leads n x k
  pub most : (j : ℕ) → Leads n x j → j ≤ k

abbrev pub back_rows : ℕ → ℕ → List Row
back_rows n room = (ltb largest n ⇒ TooManyTasks) ∷ (not (eqb room (n + n)) ⇒ WrongLength) ∷ []

pub data Back (n : ℕ) (x out : List ℕ) : Verdict → List ℕ → Type 0 where
  found : (o : Outline) → judge (back_rows n (length out)) ≡ Ok tt → headings o ≡ n → x ≡ outline_text o
      → Back n x out (Ok tt) (schedule o)
  none : {k : ℕ} → judge (back_rows n (length out)) ≡ Ok tt
      → ((o : Outline) → headings o ≡ n → x ≡ outline_text o → ⊥) → Wrong n x k
      → Back n x out (Err (NoSuchOutline k)) out
  unfit : {why : Refusal} → judge (back_rows n (length out)) ≡ Err why
      → Back n x out (Err why) out
