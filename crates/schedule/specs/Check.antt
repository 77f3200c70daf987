-- The check of a lent list of beats, the manual, "Refusal numbers" (rows 1 to 6, and Order: schedules). Definitions
-- only.
--     bad_beat      the first beat that is neither 0 nor 1; the length where there is none
--     empty_hand    the first beat that sets down with nothing in hand: a 0 with no more ones than zeros before it; the
--                   length where there is none
--     surplus_of    how many ones there are beyond t, as integers: below 0 where some are missing [Q1] [F7]
--     hand_rows     the refusals that zeros and ones of the right length can get, in their order: 5, 6
--     play_rows     the same of beats of any value: 4 over all beats first
--     beat_rows     the same of beats of any length: 3 first
--     check_rows    the refusals that a lent schedule can get, in their order: those of its counts first [R9]
--     checked       the verdict on it
use Rattle.std.specs.Prelude.{Bool, not, ◌&&◌, List, [], ◌∷◌, ◌++◌, ℕ, ◌+◌, eqb, leb, ltb, ℤ, pos, ◌-ℤ◌, length, get_or}
use Rattle.std.specs.Prelude.{take}
use Rattle.bounded.specs.Bounded.{first}
use Rattle.refusal.specs.declared.Refusal.TheVariants.{WrongLength, BadBeat, EmptyHand, WrongTakeUps}
use Rattle.refusal.specs.Answer.{Verdict}
use Rattle.refusal.specs.Rows.{Row, ◌⇒◌, judge}
use Rattle.counts.specs.Counts.{count_rows}
use Rattle.schedule.specs.Schedule.{ones, zeros}

abbrev pub is_bad : List ℕ → ℕ → Bool
is_bad b k = ltb 1 (get_or b k 0)

abbrev pub is_bare : List ℕ → ℕ → Bool
is_bare b k = eqb (get_or b k 0) 0 && leb (ones (take k b)) (zeros (take k b))

abbrev pub bad_beat : List ℕ → ℕ
bad_beat b = first (is_bad b) (length b)

abbrev pub empty_hand : List ℕ → ℕ
empty_hand b = first (is_bare b) (length b)

abbrev pub surplus_of : ℕ → List ℕ → ℤ
surplus_of t b = pos (ones b) -ℤ pos t

abbrev pub hand_rows : ℕ → List ℕ → List Row
hand_rows t b =
    (ltb (empty_hand b) (length b) ⇒ EmptyHand (empty_hand b)) ∷
    (not (eqb (ones b) t) ⇒ WrongTakeUps (surplus_of t b)) ∷ []

abbrev pub play_rows : ℕ → List ℕ → List Row
play_rows t b = (ltb (bad_beat b) (length b) ⇒ BadBeat (bad_beat b)) ∷ hand_rows t b

abbrev pub beat_rows : ℕ → ℕ → List ℕ → List Row
beat_rows t s b = (not (eqb (length b) (t + s)) ⇒ WrongLength) ∷ play_rows t b

abbrev pub check_rows : ℕ → ℕ → List ℕ → List Row
check_rows t s b = count_rows t s ++ beat_rows t s b

abbrev pub checked : ℕ → ℕ → List ℕ → Verdict
checked t s b = judge (check_rows t s b)
