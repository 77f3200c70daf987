-- The verdict of the check is the right one, and no other is.
--     checked-right     the verdict is right
--     right-checked     a right verdict is the one given
-- Assumes nothing.
use mathlib.Core.List.{List}
use mathlib.Core.Path.{◌≡◌, ◌∙◌, ap, sym, subst}
use Prim.Native.Nat.{ℕ, ◌+◌, ◌≤◌, ◌<◌}
use native.Mathlib.Omega.{arith}
use native.Mathlib.Decide.{dec_lt, dec_le, ℕ_discrete}
use lib.IntN.{ℤ}
use lib.ListN.{length}
use Rattle.std.proofs.Common.{Ok, Err}
use Rattle.refusal.specs.declared.Refusal.{Refusal}
use Rattle.refusal.specs.declared.Refusal.TheVariants.{BadBeat, EmptyHand, WrongTakeUps}
use Rattle.refusal.specs.Answer.{Verdict}
use Rattle.refusal.specs.Rows.{judge}
use Rattle.refusal.proofs.Rows.{judge-refused, judge-accepted}
use Rattle.triangle.specs.Count.{largest}
use Rattle.counts.specs.Counts.{Allowed, count_rows}
use Rattle.counts.proofs.Sizes.{too_many, more-down, allowed-counts}
use Rattle.schedule.specs.Schedule.{ones}
use Rattle.schedule.specs.Check.{bad_beat, empty_hand, surplus_of, beat_rows, checked}
use Rattle.schedule.specs.Meaning.{Refuses, for-tasks, for-downs, for-length, for-beat, for-hand, for-ups, Right}
use Rattle.schedule.proofs.Rows.{wrong-length, bad-beat, empty-hand, wrong-take-ups, accepted}
use Rattle.schedule.proofs.Surplus.{surplus-sum, sum-surplus}
use Rattle.schedule.proofs.Reflect.{
  bad-first,
  first-bad,
  bare-first,
  first-bare,
  passed-no-bad,
  no-bad-passed,
  passed-no-bare,
  no-bare-passed,
  passed-schedule,
  schedule-passed,
}

module _ (t s : ℕ) (b : List ℕ) where
  by-counts : (why : Refusal) → judge (count_rows t s) ≡ Err why → checked t s b ≡ Err why
  by-counts why e = judge-refused (count_rows t s) (beat_rows t s b) why e

  by-beats : Allowed t s → (v : Verdict) → judge (beat_rows t s b) ≡ v → checked t s b ≡ v
  by-beats a v e = judge-accepted (count_rows t s) (beat_rows t s b) (allowed-counts t s a) ∙ e

  refused : (why : Refusal) → Refuses t s b why → checked t s b ≡ Err why
  refused why (for-tasks h) = by-counts _ (too_many t s h)
  refused why (for-downs h k) = by-counts _ (more-down t s h k)
  refused why (for-length a n) = by-beats a _ (wrong-length t s b n)
  refused why (for-beat {at} a n p) =
      let e = first-bad b at p in
      by-beats a _ (bad-beat t s b n (omega (arith, p.inside))) ∙ ap (λ (k : ℕ). Err (BadBeat k)) e
  refused why (for-hand {at} a n f p) =
      let e = first-bare b at p in
      by-beats a _ (empty-hand t s b n (no-bad-passed b f) (omega (arith, p.inside)))
      ∙ ap (λ (k : ℕ). Err (EmptyHand k)) e
  refused why (for-ups a n f e o q) =
      by-beats a _ (wrong-take-ups t s b n (no-bad-passed b f) (no-bare-passed b e) o)
      ∙ ap (λ (z : ℤ). Err (WrongTakeUps z)) (sum-surplus t b q)

  pub right-checked : (v : Verdict) → Right t s b v → checked t s b ≡ v
  right-checked (Ok unit) r =
      let p = schedule-passed b t s r.1 in
      by-beats r.0 _ (accepted t s b r.1.size p.0 p.1 r.1.taken)
  right-checked (Err why) r = refused why r

  -- some verdict is right: the rows are tried in their order
  refuse : {why : Refusal} → Refuses t s b why → (v : Verdict) × Right t s b v
  refuse {why} r = (Err why, r)

  module _ (a : Allowed t s) (n : length b ≡ t + s) (f : length b ≤ bad_beat b) where
    right-ups : length b ≤ empty_hand b → Dec (ones b ≡ t) → (v : Verdict) × Right t s b v
    right-ups e (yes o) = (Ok tt, (a, passed-schedule b t s n f e o))
    right-ups e (no o) =
        refuse (for-ups {z = surplus_of t b} a n (passed-no-bad b f) (passed-no-bare b e) o (surplus-sum t b))

    right-hand : Dec (empty_hand b < length b) → (v : Verdict) × Right t s b v
    right-hand (yes e) = refuse (for-hand a n (passed-no-bad b f) (bare-first b e))
    right-hand (no e) = right-ups (omega arith) (ℕ_discrete (ones b) t)

  right-beat : Allowed t s → length b ≡ t + s → Dec (bad_beat b < length b) → (v : Verdict) × Right t s b v
  right-beat a n (yes f) = refuse (for-beat a n (bad-first b f))
  right-beat a n (no f) = right-hand a n (omega arith) (dec_lt (empty_hand b) (length b))

  right-length : Allowed t s → Dec (length b ≡ t + s) → (v : Verdict) × Right t s b v
  right-length a (yes n) = right-beat a n (dec_lt (bad_beat b) (length b))
  right-length a (no n) = refuse (for-length a n)

  right-counts : Dec (t ≤ largest) → Dec (s ≤ t) → (v : Verdict) × Right t s b v
  right-counts (yes h) (yes k) = right-length (h, k) (ℕ_discrete (length b) (t + s))
  right-counts (yes h) (no k) = refuse (for-downs h (omega arith))
  right-counts (no h) d = refuse (for-tasks (omega arith))

  pub checked-right : Right t s b (checked t s b)
  checked-right =
      let r = right-counts (dec_le t largest) (dec_le s t) in
      subst (Right t s b) (sym (right-checked r.0 r.1)) r.1
