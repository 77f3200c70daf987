-- When a lent schedule is accepted and when it is refused, in the words of the manual's table. proofs/Theorems.antt
-- shows that the verdict of Check.antt is the right one, and the only right one. Definitions only.
--     First P n k     k is the first number below n of which P holds [A4] [R5]
--     Nowhere P n     P holds of no number below n
--     Bad b k         the beat at k is neither 0 nor 1
--     Bare b k        the beat at k sets down with nothing in hand: a 0 with no more ones than zeros before it
--     Off t b z       z is how many ones b has beyond t, and that is not none: z and t together are the ones [Q1]
--     Near t s z      z is one of the numbers that a 6 can say: from −⌊(t − s)/2⌋ to s [Q4]
--     Refuses         when each refusal is given: its row holds, and no row before it does [R4]
--     Right           the right verdict: accepted exactly if the beats are a schedule of allowed counts, else the
--                     refusal
use Rattle.std.specs.Prelude.{List, ◌≢◌, ◌≡◌, ℕ, ◌+◌, ◌-◌, ◌/◌, ◌≤◌, ◌<◌, ℤ, pos, neg_ℤ, ◌+ℤ◌, ◌≤ℤ◌, length, get_or}
use Rattle.std.specs.Prelude.{take, Ok, Err}
use Rattle.refusal.specs.declared.Refusal.{Refusal}
use Rattle.refusal.specs.declared.Refusal.TheVariants.{TooManyTasks, MoreDownThanUp, WrongLength}
use Rattle.refusal.specs.declared.Refusal.TheVariants.{BadBeat, EmptyHand, WrongTakeUps}
use Rattle.refusal.specs.Answer.{Verdict}
use Rattle.triangle.specs.Count.{largest}
use Rattle.counts.specs.Counts.{Allowed}
use Rattle.schedule.specs.Schedule.{ones, zeros, Schedule}

pub record First (P : ℕ → Type 0) (n k : ℕ) : Type 0 where
  pub inside : k < n
  pub holds : P k
  pub before : (j : ℕ) → j < k → P j → ⊥

abbrev pub Nowhere : (ℕ → Type 0) → ℕ → Type 0
Nowhere P n = (k : ℕ) → k < n → P k → ⊥

abbrev pub Bad : List ℕ → ℕ → Type 0
Bad b k = 1 < get_or b k 0

abbrev pub Bare : List ℕ → ℕ → Type 0
Bare b k = (get_or b k 0 ≡ 0) × (ones (take k b) ≤ zeros (take k b))

pub record Off (t : ℕ) (b : List ℕ) (z : ℤ) : Type 0 where
  pub sum : z +ℤ pos t ≡ pos (ones b)
  pub some : z ≢ pos 0

abbrev pub Near : ℕ → ℕ → ℤ → Type 0
Near t s z = (neg_ℤ (pos ((t - s) / 2)) ≤ℤ z) × (z ≤ℤ pos s)

pub data Refuses (t s : ℕ) (b : List ℕ) : Refusal → Type 0 where
  for-tasks : largest < t → Refuses t s b TooManyTasks
  for-downs : t ≤ largest → t < s → Refuses t s b MoreDownThanUp
  for-length : Allowed t s → length b ≢ t + s → Refuses t s b WrongLength
  for-beat : {at : ℕ} → Allowed t s → length b ≡ t + s → First (Bad b) (length b) at → Refuses t s b (BadBeat at)
  for-hand : {at : ℕ} → Allowed t s → length b ≡ t + s → Nowhere (Bad b) (length b) → First (Bare b) (length b) at
      → Refuses t s b (EmptyHand at)
  for-ups : {z : ℤ} → Allowed t s → length b ≡ t + s → Nowhere (Bad b) (length b) → Nowhere (Bare b) (length b)
      → ones b ≢ t → z +ℤ pos t ≡ pos (ones b) → Refuses t s b (WrongTakeUps z)

abbrev pub Right : ℕ → ℕ → List ℕ → Verdict → Type 0
Right t s b (Ok unit) = Allowed t s × Schedule t s b
Right t s b (Err why) = Refuses t s b why
