-- What a count of forms answers, the manual, "How many forms" and "Refusal numbers". One of the three
-- holds of every t and s [R3].
--     beats-at-most       allowed counts have no more beats than the longest schedule [A5]
--     count-forms         allowed counts: N(t, s) [R3]
--     count-too-many      refusal 1 for t above the largest count [D1b] [R3]
--     count-more-down     refusal 2 for an allowed t with s above it [R3]
-- Assumes nothing.
use mathlib.Core.Path.{◌≡◌, ap}
use Prim.Native.Nat.{ℕ, ◌+◌, ◌≤◌, ◌<◌}
use native.Mathlib.Omega.{arith}
use Rattle.std.proofs.Common.{Ok, Err}
use Rattle.refusal.specs.declared.Refusal.TheVariants.{TooManyTasks, MoreDownThanUp}
use Rattle.refusal.specs.Answer.{Verdict, answer}
use Rattle.triangle.specs.Count.{N, largest, most_beats}
use Rattle.counts.specs.Counts.{Allowed, counting}
use Rattle.counts.proofs.Sizes.{too_many, more-down, allowed-counts}

module _ (t s : ℕ) where
  pub beats-at-most : Allowed t s → t + s ≤ most_beats
  beats-at-most a = omega (arith, a)

  pub count-forms : Allowed t s → counting t s ≡ Ok (N t s)
  count-forms a = ap (λ (v : Verdict). answer v (N t s)) (allowed-counts t s a)

  pub count-too-many : largest < t → counting t s ≡ Err TooManyTasks
  count-too-many h = ap (λ (v : Verdict). answer v (N t s)) (too_many t s h)

  pub count-more-down : t ≤ largest → t < s → counting t s ≡ Err MoreDownThanUp
  count-more-down h k = ap (λ (v : Verdict). answer v (N t s)) (more-down t s h k)
