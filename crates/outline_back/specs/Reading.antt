-- What the inner functions answer and leave. Definitions only.
--     Stood x at p        whether p stands in x from at on
--     Lined x from l      whether the line l stands there with its line feed, and where it ends; None where not
--     Reads p k n x o y m     reading a list of headings, the k-th under p first and at most n lines, finds o, and goes
--                         on while the next line is the next of this list or of one below; it stops before y with m
--                         lines left
--     Found               what reading a whole text has found: room has the schedule of the outline of n lines whose
--                         text it is; or no outline of n lines has this text, and that line is wrong
--     ListRead, HeadingRead     what a list of headings, and a heading after its own line, leave: the beats of what was
--                         read, and nothing else; how far this came
use Rattle.std.specs.Prelude.{Option, Some, None}
use Rattle.std.specs.Prelude.{Bool, true, false, List, ◌∷◌, ◌++◌, ◌≡◌, ℕ, suc, ◌+◌, ◌≤◌, length, drop, Ok, Err}
use Rattle.refusal.specs.declared.Refusal.TheVariants.{NoSuchOutline}
use Rattle.refusal.specs.Answer.{Verdict}
use Rattle.text.specs.Written.{Written}
use Rattle.outline.specs.Outline.{Outline, none, ◌then◌, heading, headings, schedule, beats}
use Rattle.outline.specs.Text.{under, outline_text}
use Rattle.outline.specs.Writing.{part}
use Rattle.outline_back.specs.declared.Reached.{Reached}
use Rattle.outline_back.specs.Back.{Wrong}

pub data Stood (x : List ℕ) (at : ℕ) (p : List ℕ) : Bool → Type 0 where
  there : (rest : List ℕ) → drop at x ≡ p ++ rest → Stood x at p true
  other : ((rest : List ℕ) → drop at x ≡ p ++ rest → ⊥) → Stood x at p false

pub data Lined (x : List ℕ) (from : ℕ) (l : List ℕ) : Option ℕ → Type 0 where
  line : {end : ℕ} → end ≡ from + length l + 1 → drop from x ≡ l ++ 10 ∷ drop end x → Lined x from l (Some end)
  other : ((rest : List ℕ) → drop from x ≡ l ++ 10 ∷ rest → ⊥) → Lined x from l None

pub data Reads : (p : List ℕ) (k n : ℕ) (x : List ℕ) → Outline → (y : List ℕ) (m : ℕ) → Type 0 where
  full : {p : List ℕ} {k : ℕ} {x : List ℕ} → Reads p k 0 x none x 0
  stop : {p : List ℕ} {k n : ℕ} {x : List ℕ} → ((rest : List ℕ) → x ≡ under p k ++ 10 ∷ rest → ⊥)
      → Reads p k n x none x n
  more : {p : List ℕ} {k n m l : ℕ} {x y z : List ℕ} {o r : Outline} (w : List ℕ) → x ≡ under p k ++ 10 ∷ w
      → Reads (under p k) 1 n w o y m → Reads p (suc k) m y r z l → Reads p k (suc n) x (heading o then r) z l

pub record ListRead (x : List ℕ) (parent long from left at : ℕ) (before after : List ℕ) (r : Reached) : Type 0 where
  pub list : Outline
  pub reads : Reads (part x parent long) 1 left (drop from x) list (drop r.byte x) r.left
  pub within : r.byte ≤ length x
  pub written : Written at (schedule list) before after r.beat

pub record HeadingRead (x : List ℕ) (number long from left at : ℕ) (before after : List ℕ) (r : Reached) : Type 0 where
  pub list : Outline
  pub reads : Reads (part x number long) 1 left (drop from x) list (drop r.byte x) r.left
  pub within : r.byte ≤ length x
  pub written : Written at (beats (heading list)) before after r.beat

pub data Found (n : ℕ) (x room : List ℕ) : Verdict → Type 0 where
  whole : (o : Outline) → headings o ≡ n → x ≡ outline_text o → room ≡ schedule o → Found n x room (Ok tt)
  broken : {k : ℕ} → ((o : Outline) → headings o ≡ n → x ≡ outline_text o → ⊥) → Wrong n x k
      → Found n x room (Err (NoSuchOutline k))
