-- The first number below n at which a test holds.
--     Found, found, found-unique     what the search from a number on finds, and that it is one number
--     first_holds      where it is below n, the test holds there
--     first-before     the test holds at no number before it
--     first-is         so a number below n at which the test holds, and before which it holds nowhere, is the first
--     first-none       where the test holds at none, it is n
-- Assumes nothing.
use mathlib.Core.Bool.{Bool, true, false, true≢false, cond}
use mathlib.Core.Path.{◌≡◌, refl, ◌∙◌, ap, sym}
use Prim.Native.Nat.{ℕ, zero, suc, ◌+◌, ◌≤◌, ◌<◌}
use native.Mathlib.Omega.{arith}
use native.Mathlib.Decide.{dec_lt}
use Rattle.bounded.specs.Bounded.{first_from, first}

-- k is the first number from i on, of n numbers, at which the test holds, or past them all
pub record Found (f : ℕ → Bool) (i n k : ℕ) : Type 0 where
  pub low : i ≤ k
  pub high : k ≤ i + n
  pub holds : k < i + n → f k ≡ true
  pub before : (j : ℕ) → i ≤ j → j < k → f j ≡ false

pub found : (f : ℕ → Bool) (i n : ℕ) → Found f i n (first_from f i n)
unfolding first_from
found f i zero = record {
  low = omega arith;
  high = omega arith;
  holds = λ h. absurd (omega arith);
  before = λ j h k. absurd (omega arith);
}
found f i (suc n) = look (f i) refl (found f (suc i) n)
  where
    look : (q : Bool) → f i ≡ q → Found f (suc i) n (first_from f (suc i) n)
        → Found f i (suc n) (cond q i (first_from f (suc i) n))
    look true e later = record {
      low = omega arith;
      high = omega arith;
      holds = λ h. e;
      before = λ j h k. absurd (omega arith);
    }
    look false e later =
        record {
          low = omega (arith, later.low);
          high = omega (arith, later.high);
          holds = λ h. later.holds (omega arith);
          before = λ j h k. elim (dec_lt i j) [
            | yes l ↦ later.before j l k
            | no l ↦ let here : j ≡ i = omega arith in ap f here ∙ e
          ];
        }

pub found-unique : {f : ℕ → Bool} {i n k m : ℕ} → Found f i n k → Found f i n m → k ≡ m
found-unique {f} {i} {n} {k} {m} p q =
    elim (dec_lt k m) [
      | yes h ↦ absurd (true≢false (sym (p.holds (omega (arith, q.high))) ∙ q.before k p.low h))
      | no h ↦ elim (dec_lt m k) [
        | yes l ↦ absurd (true≢false (sym (q.holds (omega (arith, p.high))) ∙ p.before m q.low l))
        | no l ↦ omega arith
      ]
    ]

module _ (f : ℕ → Bool) (n : ℕ) where
  pub first_holds : first f n < n → f (first f n) ≡ true
  first_holds h = (found f 0 n).holds (omega arith)

  pub first-before : (j : ℕ) → j < first f n → f j ≡ false
  first-before j h = (found f 0 n).before j (omega arith) h

  pub first-is : (k : ℕ) → k < n → f k ≡ true → ((j : ℕ) → j < k → f j ≡ false) → first f n ≡ k
  first-is k h e none =
      found-unique (found f 0 n)
      (record { low = omega arith; high = omega arith; holds = λ _. e; before = λ j _ l. none j l })

  pub first-none : ((j : ℕ) → j < n → f j ≡ false) → first f n ≡ n
  first-none none =
      found-unique (found f 0 n)
      (record { low = omega arith; high = omega arith; holds = λ h. absurd (omega arith); before = λ j _ l. none j l })
