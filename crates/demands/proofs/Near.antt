-- Each number that a 6 can say by `six-near` of `schedule` is said by one: so many ones, and then the zeros.
--     near-met     of every number from −⌊(t − s)/2⌋ to s but 0 there are beats that the check refuses so [Q4]
-- Assumes nothing.
use mathlib.Core.List.{List}
use mathlib.Core.Path.{◌≡◌, refl, ◌∙◌, ap, sym}
use Prim.Native.Nat.{ℕ, zero, suc, ◌+◌, ◌-◌, ◌/◌, ◌≤◌}
use native.Mathlib.Omega.{arith}
use borrow.Author.Tests.{le-ltb}
use lib.Dec.{T, leb→le}
use lib.IntN.{ℤ, pos, negsuc, neg_ℤ, ◌+ℤ◌, ◌-ℤ◌, +ℤ_invr}
use lib.Signed.{le_z}
use Rattle.std.proofs.Common.{Err}
use Rattle.refusal.specs.declared.Refusal.TheVariants.{WrongTakeUps}
use Rattle.counts.specs.Counts.{Allowed}
use Rattle.schedule.specs.Schedule.{ones}
use Rattle.schedule.specs.Check.{checked}
use Rattle.schedule.specs.Meaning.{Near, for-ups}
use Rattle.schedule.proofs.Reflect.{schedule-passed, passed-no-bad, passed-no-bare}
use Rattle.schedule.proofs.Surplus.{sum-surplus}
use Rattle.schedule.proofs.Theorems.{refuses-refused}
use Rattle.circle.specs.Step.{top}
use Rattle.circle.proofs.Circle.{top-schedule}

-- o ones and then q zeros, as many beats as t and s
ones-met : (t s o q : ℕ) (z : ℤ) → Allowed t s → z +ℤ pos t ≡ pos o → (z ≡ pos 0 → ⊥) → q ≤ o → o + q ≡ t + s
    → checked t s (top o q) ≡ Err (WrongTakeUps z)
ones-met t s o q z a e some fits size =
    let b = top o q in
    let p = top-schedule o q fits in
    let passed = schedule-passed b o q p in
    let sum : z +ℤ pos t ≡ pos (ones b) = e ∙ ap pos (sym p.taken) in
    let wrong : ones b ≡ t → ⊥ =
    λ level. some (sym (sum-surplus t b sum) ∙ ap (λ (k : ℕ). pos k -ℤ pos t) level ∙ +ℤ_invr (pos t)) in
    refuses-refused t s b (WrongTakeUps z)
    (for-ups a (p.size ∙ size) (passed-no-bad b passed.0) (passed-no-bare b passed.1) wrong sum)

least-of : (m n : ℕ) → T (le_z (neg_ℤ (pos m)) (negsuc n)) → suc n ≤ m
least-of zero n h = absurd h
least-of (suc m) n h = omega (arith, leb→le n m h)

pub near-met : (t s : ℕ) (z : ℤ) → Allowed t s → Near t s z → (z ≡ pos 0 → ⊥)
    → (b : List ℕ) × (checked t s b ≡ Err (WrongTakeUps z))
near-met t s (pos n) a near some =
    let most = leb→le n s near.1.le in
    (top (n + t) (s - n), ones-met t s (n + t) (s - n) (pos n) a refl some (omega (arith, a)) (omega arith))
near-met t s (negsuc n) a near some =
    let least = least-of ((t - s) / 2) n near.0.le in
    let o = t - suc n in
    let sum : negsuc n +ℤ pos t ≡ pos o = rw (le-ltb t (suc n) (omega (arith, a))) refl in (
      top o (s + suc n),
      ones-met t s o (s + suc n) (negsuc n) a sum some (omega (arith, a)) (omega (arith, a)),
    )
