-- The verdict on beats whose counts are allowed, row by row: each from what holds of the beats,
-- the rows before it passed.
--     wrong-length, bad-beat, empty-hand, wrong-take-ups, accepted
--     sound-beats     beats none of which is bad are 0 or 1
--     ones-by-hand    what is in hand at the end says whether the ones are t
--     hand-ones       and how many they are: with the beats, twice the ones
-- Assumes nothing.
use mathlib.Core.List.{List}
use mathlib.Core.Logic.{◌↔◌}
use mathlib.Core.Path.{◌≡◌}
use Prim.Native.Nat.{ℕ, ◌+◌, ◌/◌, ◌≤◌, ◌<◌}
use native.Mathlib.Omega.{arith}
use borrow.Author.Tests.{lt-ltb, le-ltb, eq-eqb, ne_eqb, ltb-false}
use lib.ListN.{length, get_or}
use Rattle.std.proofs.Common.{Ok, Err}
use Rattle.refusal.specs.declared.Refusal.TheVariants.{WrongLength, BadBeat, EmptyHand, WrongTakeUps}
use Rattle.refusal.specs.Rows.{judge}
use Rattle.schedule.specs.Schedule.{ones, zeros}
use Rattle.schedule.specs.Check.{bad_beat, empty_hand, is_bad, surplus_of, beat_rows}
use Rattle.bounded.proofs.First.{first-before}
use Rattle.schedule.proofs.Tally.{tally}

pub sound-beats : (b : List ℕ) → length b ≤ bad_beat b → (k : ℕ) → k < length b → get_or b k 0 ≤ 1
sound-beats b h k l = ltb-false 1 (get_or b k 0) (first-before (is_bad b) (length b) k (omega arith))

pub ones-by-hand : (b : List ℕ) (t s hand : ℕ) → length b ≡ t + s → length b ≤ bad_beat b → hand + zeros b ≡ ones b
    → (hand + s ≡ t) ↔ (ones b ≡ t)
ones-by-hand b t s hand n h e =
    (λ q. omega (arith, tally b (sound-beats b h)), λ q. omega (arith, tally b (sound-beats b h)))

pub hand-ones : (b : List ℕ) (hand : ℕ) → length b ≤ bad_beat b → hand + zeros b ≡ ones b
    → (length b + hand) / 2 ≡ ones b
hand-ones b hand h e = omega (arith, tally b (sound-beats b h))

module _ (t s : ℕ) (b : List ℕ) where
  pub wrong-length : ((length b ≡ t + s) → ⊥) → judge (beat_rows t s b) ≡ Err WrongLength
  wrong-length n = simp (ne_eqb (length b) (t + s) n)

  module _ (n : length b ≡ t + s) where
    pub bad-beat : bad_beat b < length b → judge (beat_rows t s b) ≡ Err (BadBeat (bad_beat b))
    bad-beat h = simp (eq-eqb (length b) (t + s) n, lt-ltb (bad_beat b) (length b) h)

    module _ (h : length b ≤ bad_beat b) where
      pub empty-hand : empty_hand b < length b → judge (beat_rows t s b) ≡ Err (EmptyHand (empty_hand b))
      empty-hand k =
          simp (eq-eqb (length b) (t + s) n, le-ltb (bad_beat b) (length b) h, lt-ltb (empty_hand b) (length b) k)

      module _ (k : length b ≤ empty_hand b) where
        pub wrong-take-ups : ((ones b ≡ t) → ⊥)
            → judge (beat_rows t s b) ≡ Err (WrongTakeUps (surplus_of t b))
        wrong-take-ups o = simp (
          eq-eqb (length b) (t + s) n,
          le-ltb (bad_beat b) (length b) h,
          le-ltb (empty_hand b) (length b) k,
          ne_eqb (ones b) t o,
        )

        pub accepted : ones b ≡ t → judge (beat_rows t s b) ≡ Ok tt
        accepted o = simp (
          eq-eqb (length b) (t + s) n,
          le-ltb (bad_beat b) (length b) h,
          le-ltb (empty_hand b) (length b) k,
          eq-eqb (ones b) t o,
        )
