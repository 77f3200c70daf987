-- What the step looks for in a schedule. Definitions only.
--     ups p c, downs q c     p ones, or q zeros, in front of c
--     Found b y x            y is the leftmost 0 of b, and x the beat after the zeros there: past the end where these
--                            are the last beats, and else the 1 of the leftmost 0 followed by 1
use Rattle.std.specs.Prelude.{List, [], ◌∷◌, ◌≡◌, ℕ, zero, suc, ◌+◌}

abbrev pub ups : ℕ → List ℕ → List ℕ
ups zero c = c
ups (suc p) c = 1 ∷ ups p c

abbrev pub downs : ℕ → List ℕ → List ℕ
downs zero c = c
downs (suc q) c = 0 ∷ downs q c

pub data Found (b : List ℕ) (y x : ℕ) : Type 0 where
  flat : (p q : ℕ) → b ≡ ups p (downs q []) → y ≡ p → x ≡ p + q → Found b y x
  rising : (p q : ℕ) (z : List ℕ) → b ≡ ups (suc p) (downs (suc q) (1 ∷ z)) → y ≡ suc p → x ≡ suc p + suc q
      → Found b y x
