-- Outlines, about what the calls answer and leave (Calls.antt): the manual, "The outline". proofs/Outlines.antt proves
-- it. Definitions only.
--     Writes n b x     the writer, asked for the outline of b in some lent text, has written x
--     Outlines         a closed schedule is written where its text has room, and the empty one has none; what the check
--                      refuses is refused alike, then a schedule that is not closed 14, and then too little room 12;
--                      each of the two calls undoes the other; a text is read exactly if the writer could have written
--                      it; the reader refuses 1, 3, and then another text 15, with its first wrong, missing or surplus
--                      line [H17]
use Rattle.std.specs.Prelude.{List, [], ◌∷◌, ◌++◌, ◌≢◌, ◌≡◌, ℕ, ◌+◌, ◌≤◌, ◌<◌, length, take, drop, Ok, Err}
use Rattle.refusal.specs.declared.Refusal.{Refusal}
use Rattle.refusal.specs.declared.Refusal.TheVariants.{TooManyTasks, WrongLength, NoRoom, NotClosed, NoSuchOutline}
use Rattle.triangle.specs.Count.{largest}
use Rattle.counts.specs.Counts.{Allowed}
use Rattle.schedule.specs.Schedule.{Schedule}
use Rattle.outline.specs.Text.{printed}
use Rattle.outline_back.specs.Back.{Wrong}
use Rattle.demands.specs.Calls.{check, outline, schedule-of-outline, Gives}

pub record Writes (n : ℕ) (b x : List ℕ) : Type 0 where
  pub text : List ℕ
  pub rest : List ℕ
  pub given : Gives (outline n n b text) (Ok tt) (length x ∷ []) (b ∷ (x ++ rest) ∷ [])

pub record Outlines : Type 0 where
  pub written : (n : ℕ) (b text : List ℕ) → n ≤ largest → Schedule n n b → length (printed b) ≤ length text
      → Gives (outline n n b text) (Ok tt) (length (printed b) ∷ [])
      (b ∷ (printed b ++ drop (length (printed b)) text) ∷ [])
  pub empty : (text : List ℕ) → Gives (outline 0 0 [] text) (Ok tt) (0 ∷ []) ([] ∷ text ∷ [])
  pub refused-alike : (t s : ℕ) (b text : List ℕ) (why : Refusal)
      → Gives (check t s b) (Err why) [] (b ∷ [])
      → Gives (outline t s b text) (Err why) (0 ∷ []) (b ∷ text ∷ [])
  pub not-closed : (t s : ℕ) (b text : List ℕ) → Allowed t s → Schedule t s b → t ≢ s
      → Gives (outline t s b text) (Err NotClosed) (0 ∷ []) (b ∷ text ∷ [])
  pub no_room : (n : ℕ) (b text : List ℕ) → n ≤ largest → Schedule n n b → length text < length (printed b)
      → Gives (outline n n b text) (Err NoRoom) (0 ∷ []) (b ∷ text ∷ [])
  -- the bytes that the writer wrote are read back, and the schedule that the reader gave is written back
  pub outline-undone : (t s n : ℕ) (b text after out : List ℕ)
      → Gives (outline t s b text) (Ok tt) (n ∷ []) (b ∷ after ∷ []) → length out ≡ t + s
      → Gives (schedule-of-outline t (take n after) out) (Ok tt) [] (take n after ∷ b ∷ [])
  pub schedule-undone : (n : ℕ) (x out b text : List ℕ)
      → Gives (schedule-of-outline n x out) (Ok tt) [] (x ∷ b ∷ []) → length x ≤ length text
      → Gives (outline n n b text) (Ok tt) (length x ∷ []) (b ∷ (x ++ drop (length x) text) ∷ [])
  -- a text is read exactly if the writer could have written it
  pub read-writes : (n : ℕ) (x out b : List ℕ)
      → Gives (schedule-of-outline n x out) (Ok tt) [] (x ∷ b ∷ []) → Writes n b x
  pub writes-read : (n : ℕ) (x out b : List ℕ) → Writes n b x → length out ≡ n + n
      → Gives (schedule-of-outline n x out) (Ok tt) [] (x ∷ b ∷ [])
  pub too_many : (n : ℕ) (x out : List ℕ) → largest < n
      → Gives (schedule-of-outline n x out) (Err TooManyTasks) [] (x ∷ out ∷ [])
  pub wrong-length : (n : ℕ) (x out : List ℕ) → n ≤ largest → length out ≢ n + n
      → Gives (schedule-of-outline n x out) (Err WrongLength) [] (x ∷ out ∷ [])
  pub not-read : (n : ℕ) (x out : List ℕ) (why : Refusal) → n ≤ largest → length out ≡ n + n
      → Gives (schedule-of-outline n x out) (Err why) [] (x ∷ out ∷ [])
      → (k : ℕ) × (why ≡ NoSuchOutline k) × Wrong n x k
