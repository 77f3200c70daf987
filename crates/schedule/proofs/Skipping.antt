-- The scan for another beat: one turn of it on plain values, and what it finds.
--     Skipping, skip-end, skip_stop     the beats from `from` up to `at` are v
--     Skips, skipped-skips     what is known of the place that is found, from a place inside on
--     skips-unique             it is one place
-- Assumes nothing.
use mathlib.Core.Bool.{true, false}
use mathlib.Core.List.{List}
use mathlib.Core.Logic.{◌≢◌}
use mathlib.Core.Path.{◌≡◌, ap, ◌∙◌}
use Prim.Native.Nat.{ℕ, ◌+◌, ◌-◌, ◌≤◌, ◌<◌}
use native.Mathlib.Omega.{arith}
use native.Mathlib.Decide.{dec_lt}
use borrow.Author.Tests.{eq-eqb, ne_eqb, eqb-true, eqb-false, not-true, not-false}
use lib.Dec.{eqb}
use lib.ListN.{length, get_or}
use Rattle.bounded.proofs.First.{found, found-unique}
use Rattle.schedule.specs.Skip.{is_other, skipped}

same_not : (b : List ℕ) (v k : ℕ) → get_or b k 0 ≡ v → is_other b v k ≡ false
same_not b v k e = simp (eq-eqb (get_or b k 0) v e)

other-is : (b : List ℕ) (v k : ℕ) → get_or b k 0 ≢ v → is_other b v k ≡ true
other-is b v k n = simp (ne_eqb (get_or b k 0) v n)

pub record Skipping (b : List ℕ) (from v at : ℕ) : Type 0 where
  pub low : from ≤ at
  pub high : at ≤ from + (length b - from)
  pub run : (k : ℕ) → from ≤ k → k < at → get_or b k 0 ≡ v

module _ (b : List ℕ) (from v at : ℕ) (s : Skipping b from v at) where
  pub skip-end : length b ≤ at → at ≡ skipped b from v
  skip-end h =
      found-unique
      (record {
        low = s.low;
        high = s.high;
        holds = λ l. absurd (omega (arith, s.low));
        before = λ j l m. same_not b v j (s.run j l m);
      })
      (found (is_other b v) from (length b - from))

  pub skip_stop : get_or b at 0 ≢ v → at ≡ skipped b from v
  skip_stop n =
      found-unique
      (record {
        low = s.low;
        high = s.high;
        holds = λ l. other-is b v at n;
        before = λ j l m. same_not b v j (s.run j l m);
      })
      (found (is_other b v) from (length b - from))

pub record Skips (b : List ℕ) (from v r : ℕ) : Type 0 where
  pub low : from ≤ r
  pub high : r ≤ length b
  pub run : (k : ℕ) → from ≤ k → k < r → get_or b k 0 ≡ v
  pub stop : r < length b → get_or b r 0 ≢ v

pub skipped-skips : {b : List ℕ} {from v r : ℕ} → from ≤ length b → r ≡ skipped b from v → Skips b from v r
skipped-skips {b} {from} {v} {r} h e =
    let f = found (is_other b v) from (length b - from) in
    record {
      low = omega (arith, f.low, e);
      high = omega (arith, f.high, e);
      run = λ k l m. eqb-true (get_or b k 0) v (not-false (eqb (get_or b k 0) v) (f.before k l (omega (arith, e))));
      stop = λ l same.
          eqb-false (get_or b r 0) v (not-true (eqb (get_or b r 0) v) (ap (is_other b v) e ∙ f.holds
          (omega (arith, e))))
          same;
    }

pub skips-unique : {b : List ℕ} {from v r m : ℕ} → Skips b from v r → Skips b from v m → r ≡ m
skips-unique {b} {from} {v} {r} {m} p q =
    elim (dec_lt r m) [
      | yes h ↦ absurd (p.stop (omega (arith, q.high)) (q.run r p.low h))
      | no h ↦ elim (dec_lt m r) [
        | yes k ↦ absurd (q.stop (omega (arith, p.high)) (p.run m q.low k))
        | no k ↦ omega arith
      ]
    ]
