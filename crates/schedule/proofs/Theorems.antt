-- What the check's answer means, and that N counts, the manual, "A schedule", "How many forms" and "Refusal numbers".
--     accepted-schedule, schedule-accepted     accepted exactly if the beats are a schedule of allowed counts [R4]
--     refused-refuses, refuses-refused         each refusal exactly when its row holds and none before it does; the
--                                              place is the first such beat [D1b] [R4] [R5]
--     six-off                                  a 6 says how many ones there are beyond t, and that is never 0; that the
--                                              surplus of every other answer is 0 is `surplus-else` of `refusal`
--                                              [Q1] [F7]
--     off-six                                  so a surplus that is not 0 is given with 6 alone [Q2]
--     six-near                                 it is from −⌊(t − s)/2⌋ to s, because 5 goes before 6 [Q4]
--     is_schedule-true, true-is_schedule       the test of specs/Schedule.antt holds exactly of the schedules [A8]
--     N-schedules, lists-N                     some list has every schedule of t, s exactly once and is N(t, s) long,
--                                              and so is every such list [D3a] [N1]
-- Assumes nothing.
use mathlib.Core.Bool.{Bool, true, ◌&&◌, and-eq-true_iff}
use mathlib.Core.List.{List}
use mathlib.Core.Logic.{◌↔◌}
use mathlib.Core.Path.{◌≡◌, refl, ◌∙◌, sym, subst}
use Prim.Native.Nat.{ℕ, suc, ◌+◌}
use native.Mathlib.Omega.{arith}
use native.Mathlib.Decide.{ℕ_discrete}
use borrow.Author.Tests.{leb-true, le-leb, eqb-true, eq-eqb}
use lib.Dec.{leb, eqb}
use lib.IntN.{pos}
use lib.ListN.{length, get_or, take}
use Rattle.std.proofs.Common.{Ok, Err}
use Rattle.bounded.specs.Bounded.{every}
use Rattle.bounded.proofs.Every.{every-at, every_true}
use Rattle.refusal.specs.declared.Refusal.{Refusal}
use Rattle.refusal.specs.Answer.{Verdict, refusal, surplus}
use Rattle.refusal.proofs.Theorems.{six-given, surplus-else}
use Rattle.triangle.specs.Count.{N}
use Rattle.counts.specs.Counts.{Allowed}
use Rattle.schedule.specs.Schedule.{ones, zeros, Schedule, is_schedule, Lists}
use Rattle.schedule.specs.Check.{check_rows, checked}
use Rattle.schedule.specs.Meaning.{
  Off,
  Near,
  Refuses,
  for-tasks,
  for-downs,
  for-length,
  for-beat,
  for-hand,
  for-ups,
  Right,
}
use Rattle.schedule.proofs.Pigeonhole.{lists_length}
use Rattle.schedule.proofs.Listing.{schedules, schedules-length, schedules-lists}
use Rattle.schedule.proofs.Tally.{tally}
use Rattle.schedule.proofs.Rows.{sound-beats}
use Rattle.schedule.proofs.Reflect.{no-bad-passed, no-bare-passed, passed-schedule}
use Rattle.schedule.proofs.Hand.{schedule-le}
use Rattle.schedule.proofs.Surplus.{check-sixes, near-sum}
use Rattle.schedule.proofs.Verdicts.{checked-right, right-checked}

module _ (t s : ℕ) (b : List ℕ) where
  pub accepted-schedule : checked t s b ≡ Ok tt → Allowed t s × Schedule t s b
  accepted-schedule e = subst (Right t s b) e (checked-right t s b)

  pub schedule-accepted : Allowed t s → Schedule t s b → checked t s b ≡ Ok tt
  schedule-accepted a p = right-checked t s b (Ok tt) (a, p)

  pub refused-refuses : (why : Refusal) → checked t s b ≡ Err why → Refuses t s b why
  refused-refuses why e = subst (Right t s b) e (checked-right t s b)

  pub refuses-refused : (why : Refusal) → Refuses t s b why → checked t s b ≡ Err why
  refuses-refused why r = right-checked t s b (Err why) r

  pub six-off : refusal (checked t s b) ≡ 6 → Off t b (surplus (checked t s b))
  six-off = six-given (Off t b) (check_rows t s b) (check-sixes t b s)

  pub off-six : (surplus (checked t s b) ≡ pos 0 → ⊥) → refusal (checked t s b) ≡ 6
  off-six off =
      elim (ℕ_discrete (refusal (checked t s b)) 6) [
        | yes six ↦ six
        | no other ↦ absurd (off (surplus-else (checked t s b) other))
      ]

  pub six-near : refusal (checked t s b) ≡ 6 → Near t s (surplus (checked t s b))
  six-near six = by (checked t s b) (checked-right t s b) six
    where
      by : (v : Verdict) → Right t s b v → refusal v ≡ 6 → Near t s (surplus v)
      by (Ok unit) r e = absurd (omega arith)
      by (Err why) (for-tasks h) e = absurd (omega arith)
      by (Err why) (for-downs h k) e = absurd (omega arith)
      by (Err why) (for-length a n) e = absurd (omega arith)
      by (Err why) (for-beat a n p) e = absurd (omega arith)
      by (Err why) (for-hand a n f p) e = absurd (omega arith)
      by (Err why) (for-ups {z} a n f p o q) e =
          let sound = tally b (sound-beats b (no-bad-passed b f)) in
          let own = passed-schedule b (ones b) (zeros b) (sym sound) (no-bad-passed b f) (no-bare-passed b p) refl in
          near-sum t s (ones b) z q a.1 (omega (arith, sound)) (omega (arith, sound, schedule-le own))

module _ (t s : ℕ) (b : List ℕ) where
  -- the four parts of the test
  parts : (is_schedule t s b ≡ true)
      ↔
      ((every (λ k. leb (get_or b k 0) 1) (length b) ≡ true) × (eqb (length b) (t + s) ≡ true) × (eqb (ones b) t ≡ true)
      × (every (λ k. leb (zeros (take k b)) (ones (take k b))) (suc (length b)) ≡ true))
  unfolding is_schedule
  parts = (
    λ e.
        let x = (and-eq-true_iff (beats && size && taken) ahead).0 e in
        let y = (and-eq-true_iff (beats && size) taken).0 x.0 in
        let z = (and-eq-true_iff beats size).0 y.0 in
        (z.0, z.1, y.1, x.1),
    λ p. (and-eq-true_iff (beats && size && taken) ahead).1
        ((and-eq-true_iff (beats && size) taken).1 ((and-eq-true_iff beats size).1 (p.0, p.1), p.2), p.3),
  )
    where
      beats : Bool
      beats = every (λ k. leb (get_or b k 0) 1) (length b)

      size : Bool
      size = eqb (length b) (t + s)

      taken : Bool
      taken = eqb (ones b) t

      ahead : Bool
      ahead = every (λ k. leb (zeros (take k b)) (ones (take k b))) (suc (length b))

  pub true-is_schedule : is_schedule t s b ≡ true → Schedule t s b
  true-is_schedule e =
      let p = parts.0 e in
      record {
        beats = λ k l. leb-true (get_or b k 0) 1 (every-at (λ k. leb (get_or b k 0) 1) (length b) p.0 k l);
        size = eqb-true (length b) (t + s) p.1;
        taken = eqb-true (ones b) t p.2;
        ahead = λ k l.
            leb-true (zeros (take k b)) (ones (take k b))
            (every-at (λ k. leb (zeros (take k b)) (ones (take k b))) (suc (length b)) p.3 k (omega arith));
      }

  pub is_schedule-true : Schedule t s b → is_schedule t s b ≡ true
  is_schedule-true p =
      parts.1 (
        every_true (λ k. leb (get_or b k 0) 1) (length b) (λ k l. le-leb (get_or b k 0) 1 (p.beats k l)),
        eq-eqb (length b) (t + s) p.size,
        eq-eqb (ones b) t p.taken,
        every_true (λ k. leb (zeros (take k b)) (ones (take k b))) (suc (length b))
            (λ k l. le-leb (zeros (take k b)) (ones (take k b)) (p.ahead k (omega arith))),
      )

module _ (t s : ℕ) where
  pub N-schedules : (l : List (List ℕ)) × Lists (Schedule t s) l × (length l ≡ N t s)
  N-schedules = (schedules t s, schedules-lists t s, schedules-length t s)

  pub lists-N : (l : List (List ℕ)) → Lists (Schedule t s) l → length l ≡ N t s
  lists-N l p = lists_length (Schedule t s) l (schedules t s) p (schedules-lists t s) ∙ schedules-length t s
