-- The ones and zeros of a list and of its prefixes.
--     ones-append, zeros-append     of two lists joined
--     tally                         of a list of beats that are 0 or 1: every beat is one or the other
--     prefix-up, prefix-down        of a prefix that is one beat longer, by that beat
-- Assumes nothing.
use mathlib.Core.List.{List, [], ◌∷◌, ◌++◌}
use mathlib.Core.Path.{◌≡◌}
use Prim.Native.Nat.{ℕ, zero, suc, ◌+◌, ◌≤◌, ◌<◌}
use native.Mathlib.Omega.{arith}
use lib.ListN.{length, get_or, take}
use lib.Seq.{take-suc}
use Rattle.schedule.specs.Schedule.{ones, zeros}

pub ones-append : (b c : List ℕ) → ones (b ++ c) ≡ ones b + ones c
unfolding ones
ones-append [] c = omega arith
ones-append (zero ∷ b) c = ones-append b c
ones-append (suc zero ∷ b) c = omega (arith, ones-append b c)
ones-append (suc (suc x) ∷ b) c = ones-append b c

pub zeros-append : (b c : List ℕ) → zeros (b ++ c) ≡ zeros b + zeros c
unfolding zeros
zeros-append [] c = omega arith
zeros-append (zero ∷ b) c = omega (arith, zeros-append b c)
zeros-append (suc x ∷ b) c = zeros-append b c

pub tally : (b : List ℕ) → ((k : ℕ) → k < length b → get_or b k 0 ≤ 1) → ones b + zeros b ≡ length b
unfolding ones zeros
tally [] f = omega arith
tally (zero ∷ b) f = omega (arith, tally b (λ k h. f (suc k) (omega arith)))
tally (suc zero ∷ b) f = omega (arith, tally b (λ k h. f (suc k) (omega arith)))
tally (suc (suc x) ∷ b) f = absurd (omega (arith, f 0 (omega arith)))

module _ (b : List ℕ) (k : ℕ) (h : k < length b) where
  pub prefix-up : get_or b k 0 ≡ 1
      → (ones (take (suc k) b) ≡ suc (ones (take k b))) × (zeros (take (suc k) b) ≡ zeros (take k b))
  unfolding ones zeros
  prefix-up e = (
    rw (take-suc b k 0 h, e) (omega (arith, ones-append (take k b) (1 ∷ []))),
    rw (take-suc b k 0 h, e) (omega (arith, zeros-append (take k b) (1 ∷ []))),
  )

  pub prefix-down : get_or b k 0 ≡ 0
      → (ones (take (suc k) b) ≡ ones (take k b)) × (zeros (take (suc k) b) ≡ suc (zeros (take k b)))
  unfolding ones zeros
  prefix-down e = (
    rw (take-suc b k 0 h, e) (omega (arith, ones-append (take k b) (0 ∷ []))),
    rw (take-suc b k 0 h, e) (omega (arith, zeros-append (take k b) (0 ∷ []))),
  )
