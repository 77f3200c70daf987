-- The surplus of ones over t, as an integer.
--     surplus-sum       the surplus and t together are the ones
--     sum-surplus       and what gives the ones with t is the surplus
--     off-surplus       where the ones are not t, the surplus says how far they are off
--     hand-sixes, play-sixes, check-sixes     so does every 6 of the check's rows
--     sub-fits          the difference of two numbers is below what both are below
--     sum-up, sum-down     a surplus of n, and n + 1 ones missing, as numbers
--     near-sum          where no fewer ones than zeros are among t + s beats, the surplus is near
-- Assumes nothing.
use mathlib.Core.Bool.{true, true≢false, not}
use mathlib.Core.List.{List}
use mathlib.Core.Path.{◌≡◌, refl, ◌∙◌, ap, sym}
use Prim.Native.Nat.{ℕ, zero, suc, ◌+◌, ◌-◌, ◌/◌, ◌≤◌, ◌<◌}
use native.Mathlib.Omega.{arith}
use native.Mathlib.Decide.{dec_lt}
use borrow.Author.Tests.{eq-eqb, lt-ltb, le-ltb}
use lib.Dec.{T, eqb, le→leb}
use lib.IntN.{ℤ, pos, negsuc, neg_ℤ, nat_abs, ◌+ℤ◌, ◌-ℤ◌, +ℤ_assoc, +ℤ_invr, +ℤ-neg_ℤ_cancel, -ℤ-+ℤ_cancel}
use lib.Signed.{le_z, mag}
use Rattle.refusal.proofs.Rows.{All, all_join}
use Rattle.refusal.proofs.Theorems.{Six, sixless-all}
use Rattle.counts.specs.Counts.{count_rows}
use Rattle.schedule.specs.Schedule.{ones}
use Rattle.schedule.specs.Check.{surplus_of, hand_rows, play_rows, beat_rows, check_rows}
use Rattle.schedule.specs.Meaning.{Off, Near}

module _ (t : ℕ) (b : List ℕ) where
  pub surplus-sum : surplus_of t b +ℤ pos t ≡ pos (ones b)
  surplus-sum = -ℤ-+ℤ_cancel (pos (ones b)) (pos t)

  pub sum-surplus : {z : ℤ} → z +ℤ pos t ≡ pos (ones b) → surplus_of t b ≡ z
  sum-surplus {z} e = ap (λ (y : ℤ). y -ℤ pos t) (sym e) ∙ +ℤ-neg_ℤ_cancel z (pos t)

  pub off-surplus : (ones b ≡ t → ⊥) → Off t b (surplus_of t b)
  off-surplus wrong =
      record {
        sum = surplus-sum;
        some = λ none.
            let level : pos (ones b) ≡ pos 0 +ℤ pos t = sym surplus-sum ∙ ap (λ (z : ℤ). z +ℤ pos t) none in
            wrong (omega (arith, ap nat_abs level));
      }

  pub hand-sixes : All (Six (Off t b)) (hand_rows t b)
  hand-sixes =
      let off : not (eqb (ones b) t) ≡ true → Off t b (surplus_of t b) =
      λ so. off-surplus (λ e. true≢false (sym so ∙ ap not (eq-eqb (ones b) t e))) in
      (λ so six. absurd (omega arith), (λ so six. off so, tt))

  pub play-sixes : All (Six (Off t b)) (play_rows t b)
  play-sixes = (λ so six. absurd (omega arith), hand-sixes)

  pub check-sixes : (s : ℕ) → All (Six (Off t b)) (check_rows t s b)
  check-sixes s =
      all_join (Six (Off t b)) (count_rows t s) (beat_rows t s b)
      (sixless-all (Off t b) (count_rows t s) refl)
      (λ so six. absurd (omega arith), play-sixes)

pub sub-fits : (a b bound : ℕ) → a < bound → b < bound → mag (pos a -ℤ pos b) < bound
sub-fits a zero bound h k = omega arith
sub-fits a (suc b) bound h k =
    elim (dec_lt a (suc b)) [
      | yes y ↦ rw (lt-ltb a (suc b) y) (omega arith)
      | no y ↦ rw (le-ltb a (suc b) (omega arith)) (omega arith)
    ]

pub sum-up : (n t o : ℕ) → pos n +ℤ pos t ≡ pos o → n + t ≡ o
sum-up n t o e = ap nat_abs e

pub sum-down : (n t o : ℕ) → negsuc n +ℤ pos t ≡ pos o → o + suc n ≡ t
sum-down n t o e =
    let back : pos (suc n) +ℤ pos o ≡ pos 0 +ℤ pos t =
    ap (λ (z : ℤ). pos (suc n) +ℤ z) (sym e)
    ∙ sym (+ℤ_assoc (pos (suc n)) (negsuc n) (pos t))
    ∙ ap (λ (z : ℤ). z +ℤ pos t) (+ℤ_invr (pos (suc n))) in
    omega (arith, ap nat_abs back)

-- a number that is missing, and one that is there, against a bound below 0
least-down : (m n : ℕ) → suc n ≤ m → T (le_z (neg_ℤ (pos m)) (negsuc n))
least-down zero n h = absurd (omega arith)
least-down (suc m) n h = le→leb n m (omega arith)

least-up : (m n : ℕ) → T (le_z (neg_ℤ (pos m)) (pos n))
least-up zero n = le→leb 0 n (omega arith)
least-up (suc m) n = tt

pub near-sum : (t s o : ℕ) (z : ℤ) → z +ℤ pos t ≡ pos o → s ≤ t → o ≤ t + s → t + s ≤ o + o → Near t s z
near-sum t s o (pos n) e h most least =
    (record { le = least-up ((t - s) / 2) n }, record { le = le→leb n s (omega (arith, sum-up n t o e)) })
near-sum t s o (negsuc n) e h most least =
    (record { le = least-down ((t - s) / 2) n (omega (arith, sum-down n t o e)) }, record { le = tt })
