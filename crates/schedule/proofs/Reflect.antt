-- The tests of specs/Check.antt and the facts of specs/Meaning.antt and specs/Schedule.antt that they decide.
--     computed-first, first-computed         the first number at which a test holds that decides a fact is the first
--                                            of which the fact holds
--     nowhere-computed, computed-nowhere     and there is none of which it holds exactly if there is none such
--     bad-first, bare-first             the place that is computed is the first such beat
--     first-bad, first-bare             and the first such beat is the place that is computed
--     passed-no-bad, passed-no-bare     where the length is computed there is no such beat
--     no-bad-passed, no-bare-passed     and where there is no such beat, the length is computed
--     passed-schedule                   beats that pass the rows are a schedule
--     schedule-passed                   and a schedule passes them
-- Assumes nothing.
use mathlib.Core.Bool.{Bool, true, false, true≢false, and-eq-true_iff}
use mathlib.Core.List.{List}
use mathlib.Core.Logic.{◌↔◌}
use mathlib.Core.Path.{◌≡◌, refl, ◌∙◌, sym}
use Prim.Native.Nat.{ℕ, zero, suc, ◌+◌, ◌≤◌, ◌<◌}
use native.Mathlib.Omega.{arith}
use native.Mathlib.Decide.{dec_le}
use borrow.Author.Tests.{ltb-true, lt-ltb, eqb-true, eq-eqb, leb-true, le-leb}
use lib.Dec.{eqb, leb}
use lib.ListN.{length, get_or, take}
use Rattle.schedule.specs.Schedule.{ones, zeros, Schedule}
use Rattle.schedule.specs.Check.{is_bad, is_bare, bad_beat, empty_hand}
use Rattle.schedule.specs.Meaning.{First, Nowhere, Bad, Bare}
use Rattle.bounded.specs.Bounded.{first}
use Rattle.bounded.proofs.First.{first_holds, first-before, first-is, first-none}
use Rattle.schedule.proofs.Tally.{prefix-up, prefix-down}
use Rattle.schedule.proofs.Rows.{sound-beats}

-- a test that decides P at every number
module _ (f : ℕ → Bool) (P : ℕ → Type 0) (decides : (k : ℕ) → P k ↔ (f k ≡ true)) (n : ℕ) where
  unholds : (k : ℕ) → (P k → ⊥) → f k ≡ false
  unholds k p = by (f k) refl
    where
      by : (q : Bool) → f k ≡ q → f k ≡ false
      by true e = absurd (p ((decides k).1 e))
      by false e = e

  pub computed-first : first f n < n → First P n (first f n)
  computed-first h =
      record {
        inside = h;
        holds = (decides (first f n)).1 (first_holds f n h);
        before = λ j l p. true≢false (sym ((decides j).0 p) ∙ first-before f n j l);
      }

  pub first-computed : (k : ℕ) → First P n k → first f n ≡ k
  first-computed k p = first-is f n k p.inside ((decides k).0 p.holds) (λ j l. unholds j (p.before j l))

  pub nowhere-computed : Nowhere P n → n ≤ first f n
  nowhere-computed p = omega (arith, first-none f n (λ j l. unholds j (p j l)))

  pub computed-nowhere : n ≤ first f n → Nowhere P n
  computed-nowhere h k l p = true≢false (sym ((decides k).0 p) ∙ first-before f n k (omega arith))

bad-decides : (b : List ℕ) (k : ℕ) → Bad b k ↔ (is_bad b k ≡ true)
bad-decides b k = (λ p. lt-ltb 1 (get_or b k 0) p, λ e. ltb-true 1 (get_or b k 0) e)

bare-decides : (b : List ℕ) (k : ℕ) → Bare b k ↔ (is_bare b k ≡ true)
bare-decides b k = (
  λ p. iff.1 (eq-eqb (get_or b k 0) 0 p.0, le-leb (ones (take k b)) (zeros (take k b)) p.1),
  λ e. (eqb-true (get_or b k 0) 0 (iff.0 e).0, leb-true (ones (take k b)) (zeros (take k b)) (iff.0 e).1),
)
  where
    iff : (is_bare b k ≡ true) ↔ ((eqb (get_or b k 0) 0 ≡ true) × (leb (ones (take k b)) (zeros (take k b)) ≡ true))
    iff = and-eq-true_iff (eqb (get_or b k 0) 0) (leb (ones (take k b)) (zeros (take k b)))

module _ (b : List ℕ) where
  pub bad-first : bad_beat b < length b → First (Bad b) (length b) (bad_beat b)
  bad-first h = computed-first (is_bad b) (Bad b) (bad-decides b) (length b) h

  pub first-bad : (at : ℕ) → First (Bad b) (length b) at → bad_beat b ≡ at
  first-bad at p = first-computed (is_bad b) (Bad b) (bad-decides b) (length b) at p

  pub bare-first : empty_hand b < length b → First (Bare b) (length b) (empty_hand b)
  bare-first h = computed-first (is_bare b) (Bare b) (bare-decides b) (length b) h

  pub first-bare : (at : ℕ) → First (Bare b) (length b) at → empty_hand b ≡ at
  first-bare at p = first-computed (is_bare b) (Bare b) (bare-decides b) (length b) at p

  pub passed-no-bad : length b ≤ bad_beat b → Nowhere (Bad b) (length b)
  passed-no-bad h = computed-nowhere (is_bad b) (Bad b) (bad-decides b) (length b) h

  pub no-bad-passed : Nowhere (Bad b) (length b) → length b ≤ bad_beat b
  no-bad-passed p = nowhere-computed (is_bad b) (Bad b) (bad-decides b) (length b) p

  pub passed-no-bare : length b ≤ empty_hand b → Nowhere (Bare b) (length b)
  passed-no-bare h = computed-nowhere (is_bare b) (Bare b) (bare-decides b) (length b) h

  pub no-bare-passed : Nowhere (Bare b) (length b) → length b ≤ empty_hand b
  no-bare-passed p = nowhere-computed (is_bare b) (Bare b) (bare-decides b) (length b) p

  -- with no bare beat, each prefix has at least as many ones as zeros
  ahead : Nowhere (Bad b) (length b) → Nowhere (Bare b) (length b) → (k : ℕ) → k ≤ length b
      → zeros (take k b) ≤ ones (take k b)
  unfolding ones zeros
  ahead bad bare zero l = omega arith
  ahead bad bare (suc k) l = by (get_or b k 0) refl (ahead bad bare k (omega arith))
    where
      by : (x : ℕ) → get_or b k 0 ≡ x → zeros (take k b) ≤ ones (take k b)
          → zeros (take (suc k) b) ≤ ones (take (suc k) b)
      by zero q before =
          elim (dec_le (ones (take k b)) (zeros (take k b))) [
            | yes level ↦ absurd (bare k l (q, level))
            | no behind ↦ omega (arith, (prefix-down b k l q).0, (prefix-down b k l q).1)
          ]
      by (suc zero) q before = omega (arith, (prefix-up b k l q).0, (prefix-up b k l q).1)
      by (suc (suc x)) q before = absurd (bad k l (omega arith))

  module _ (t s : ℕ) where
    pub passed-schedule : length b ≡ t + s → length b ≤ bad_beat b → length b ≤ empty_hand b → ones b ≡ t
        → Schedule t s b
    passed-schedule n f e o = record {
      beats = sound-beats b f;
      size = n;
      taken = o;
      ahead = ahead (passed-no-bad f) (passed-no-bare e);
    }

    pub schedule-passed : Schedule t s b → (length b ≤ bad_beat b) × (length b ≤ empty_hand b)
    schedule-passed p = (no-bad-passed (λ k l bad. omega (arith, p.beats k l)), no-bare-passed bare)
      where
        bare : Nowhere (Bare b) (length b)
        bare k l q = omega (arith, (prefix-down b k l q.0).0, (prefix-down b k l q.0).1, p.ahead (suc k) l, q.1)
