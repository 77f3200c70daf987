-- Why a beat moves, about what the calls answer (Calls.antt): the manual, "Why a beat moves". proofs/Explaining.antt
-- proves it of all allowed counts. Definitions only.
--     Explaining t s     explaining a schedule gives the one explanation that fits it; whoever applies it to the
--                        schedule gets what the step leaves, and finds as many changed places as the step answers; and
--                        it refuses what the step refuses, by the same number [X12]
use Rattle.std.specs.Prelude.{List, [], ◌∷◌, ◌≡◌, ℕ, length, Ok, Err}
use Rattle.refusal.specs.declared.Refusal.{Refusal}
use Rattle.schedule.specs.Schedule.{Schedule}
use Rattle.reason.specs.Explanation.{Explanation}
use Rattle.reason.specs.Meaning.{Explains, moving, changing}
use Rattle.reason.specs.Answers.{numbers}
use Rattle.demands.specs.Calls.{move, next, explain, Gives}

pub record Explaining (t s : ℕ) : Type 0 where
  pub told : (b : List ℕ) → Schedule t s b
      → (e : Explanation) × Explains b e × Gives (explain t s b) (Ok tt) (numbers e) (b ∷ [])
  pub only : (b : List ℕ) (e d : Explanation) → Schedule t s b → Explains b e → Explains b d → e ≡ d
  -- what the step leaves and answers
  pub moving-gives : (b c : List ℕ) (e : Explanation) (m : List ℕ) → Explains b e
      → Gives (move next t s b) (Ok tt) m (c ∷ []) → moving e.moved b ≡ c
  pub changing-gives : (b c : List ℕ) (e : Explanation) (m : List ℕ) → Explains b e
      → Gives (move next t s b) (Ok tt) m (c ∷ []) → changing e.changed b ≡ c
  pub changed-counted : (b c : List ℕ) (e : Explanation) (n : ℕ) → Explains b e
      → Gives (move next t s b) (Ok tt) (n ∷ []) (c ∷ []) → length e.changed ≡ n
  pub refused-alike : (b : List ℕ) (why : Refusal) (m : List ℕ)
      → Gives (move next t s b) (Err why) m (b ∷ [])
      → Gives (explain t s b) (Err why) m (b ∷ [])
