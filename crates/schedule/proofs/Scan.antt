-- One turn of each of the check's two loops, on plain values.
--     Sound, sound-start, sound-turn, sound-end, sound-stop       all but the last `left` beats are 0 or 1
--     Playing, play-start, play-turn, play-end, play-stop         no beat before `at` sets down with nothing in hand,
--                                                                 and `hand` is in hand there
-- Assumes nothing.
use mathlib.Core.Bool.{Bool, true, false, ◌&&◌}
use mathlib.Core.List.{List}
use mathlib.Core.Path.{◌≡◌, refl, ◌∙◌, sym}
use Prim.Native.Nat.{ℕ, zero, suc, ◌+◌, ◌-◌, ◌*◌, ◌≤◌, ◌<◌}
use native.Mathlib.Numerals.{add-one}
use native.Mathlib.Omega.{arith}
use borrow.Author.Count.{below_more}
use borrow.Author.Tests.{lt-ltb, le-ltb, le-leb, lt-leb, eq-eqb, eqb-true}
use lib.Dec.{eqb, leb}
use lib.ListN.{length, get_or, take}
use Rattle.schedule.specs.Schedule.{ones, zeros}
use Rattle.schedule.specs.Check.{is_bad, is_bare, bad_beat, empty_hand}
use Rattle.bounded.proofs.First.{first-is, first-none}
use Rattle.schedule.proofs.Tally.{prefix-up, prefix-down}

pub record Sound (b : List ℕ) (left : ℕ) : Type 0 where
  pub inside : left ≤ length b
  pub before : (k : ℕ) → k < length b - left → is_bad b k ≡ false

pub sound-start : (b : List ℕ) → Sound b (length b)
sound-start b = record { inside = omega arith; before = λ k h. absurd (omega arith) }

module _ (b : List ℕ) (left : ℕ) (s : Sound b left) where
  pub sound-end : left ≡ 0 → length b ≡ bad_beat b
  sound-end e = sym (first-none (is_bad b) (length b) (λ k h. s.before k (omega arith)))

  module _ (some : (left ≡ 0) → ⊥) where
    pub sound-turn : get_or b (length b - left) 0 ≤ 1 → Sound b (left - 1)
    sound-turn e =
        record {
          inside = omega (arith, s.inside);
          before = λ k h.
              below_more (λ (k : ℕ). is_bad b k ≡ false) (length b - left) s.before
              (le-ltb 1 (get_or b (length b - left) 0) e) k (omega (arith, s.inside));
        }

    pub sound-stop : 1 < get_or b (length b - left) 0 → length b - left ≡ bad_beat b
    sound-stop e =
        sym (first-is (is_bad b) (length b) (length b - left) (omega (arith, s.inside))
        (lt-ltb 1 (get_or b (length b - left) 0) e) s.before)

pub record Playing (b : List ℕ) (at hand : ℕ) : Type 0 where
  pub inside : at ≤ length b
  pub small : hand ≤ at
  pub level : hand + zeros (take at b) ≡ ones (take at b)
  pub before : (k : ℕ) → k < at → is_bare b k ≡ false

pub play-start : (b : List ℕ) → Playing b 0 0
unfolding ones zeros
play-start b = record {
  inside = omega arith;
  small = omega arith;
  level = omega arith;
  before = λ k h. absurd (omega arith);
}

module _ (b : List ℕ) (at hand : ℕ) (p : Playing b at hand) where
  bare-not : ((get_or b at 0 ≡ 0) → zeros (take at b) < ones (take at b)) → is_bare b at ≡ false
  bare-not f = by (eqb (get_or b at 0) 0) refl
    where
      by : (q : Bool) → eqb (get_or b at 0) 0 ≡ q → q && leb (ones (take at b)) (zeros (take at b)) ≡ false
      by true e = lt-leb (ones (take at b)) (zeros (take at b)) (f (eqb-true (get_or b at 0) 0 e))
      by false e = refl

  -- the next beat, up, is not a set-down with nothing in hand
  pub play-turn : (up : ℕ) → up ≡ get_or b at 0 → at < length b → up ≤ 1 → ((hand + up ≡ 0) → ⊥)
      → Playing b (at + 1) (hand + 2 * up - 1)
  play-turn zero e h l n =
      let down = prefix-down b at h (sym e) in
      record {
        inside = omega arith;
        small = omega (arith, p.small);
        level = rw (add-one at) (omega (arith, down.0, down.1, p.level));
        before = below_more (λ (k : ℕ). is_bare b k ≡ false) at p.before (bare-not (λ _. omega (arith, p.level)));
      }
  play-turn (suc zero) e h l n =
      let up = prefix-up b at h (sym e) in
      record {
        inside = omega arith;
        small = omega (arith, p.small);
        level = rw (add-one at) (omega (arith, up.0, up.1, p.level));
        before = below_more (λ (k : ℕ). is_bare b k ≡ false) at p.before (bare-not (λ z. absurd (omega arith)));
      }
  play-turn (suc (suc up)) e h l n = absurd (omega arith)

  pub play-end : at ≡ length b → at ≡ empty_hand b
  play-end e = e ∙ sym (first-none (is_bare b) (length b) (λ k h. p.before k (omega arith)))

  pub play-stop : at < length b → hand + get_or b at 0 ≡ 0 → at ≡ empty_hand b
  play-stop h e = sym (first-is (is_bare b) (length b) at h bare p.before)
    where
      bare : is_bare b at ≡ true
      bare = simp (
        eq-eqb (get_or b at 0) 0 (omega arith),
        le-leb (ones (take at b)) (zeros (take at b)) (omega (arith, p.level)),
      )
