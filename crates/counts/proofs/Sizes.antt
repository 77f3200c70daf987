-- The verdict on a pair of counts, case by case.
--     too_many, more-down, allowed-counts     the three verdicts, each from what holds of the counts
--     counts-allowed                          an accepted pair has t up to the largest count and s up to t
-- Assumes nothing.
use mathlib.Core.Path.{◌≡◌, refl}
use Prim.Native.Nat.{ℕ, ◌≤◌, ◌<◌}
use borrow.Author.Tests.{lt-ltb, le-ltb, ltb-false}
use lib.Dec.{ltb}
use Rattle.std.proofs.Common.{Ok, Err}
use Rattle.refusal.specs.declared.Refusal.TheVariants.{TooManyTasks, MoreDownThanUp}
use Rattle.refusal.specs.Rows.{judge, ◌⇒◌}
use Rattle.refusal.proofs.Theorems.{accepted-none}
use Rattle.triangle.specs.Count.{largest}
use Rattle.counts.specs.Counts.{Allowed, count_rows}
use mathlib.Core.List.Memᴰ

pub too_many : (t s : ℕ) → largest < t → judge (count_rows t s) ≡ Err TooManyTasks
too_many t s h = simp (lt-ltb largest t h)

pub more-down : (t s : ℕ) → t ≤ largest → t < s → judge (count_rows t s) ≡ Err MoreDownThanUp
more-down t s h k = simp (le-ltb largest t h, lt-ltb t s k)

pub allowed-counts : (t s : ℕ) → Allowed t s → judge (count_rows t s) ≡ Ok tt
allowed-counts t s a = simp (le-ltb largest t a.0, le-ltb t s a.1)

pub counts-allowed : (t s : ℕ) → judge (count_rows t s) ≡ Ok tt → Allowed t s
counts-allowed t s e = (
  ltb-false largest t (accepted-none (count_rows t s) e (ltb largest t ⇒ TooManyTasks) (Memᴰ.head refl)),
  ltb-false t s (accepted-none (count_rows t s) e (ltb t s ⇒ MoreDownThanUp) (Memᴰ.tail (Memᴰ.head refl))),
)
