-- The number of a heading, by the part of a text that has its parent's.
--     number-top       the topmost headings have their place alone
--     number-below     the others have their parent's number, a dot and their place
--     length-number    and so many bytes
-- Assumes nothing.
use mathlib.Core.List.{List, [], ◌∷◌, ◌++◌}
use mathlib.Core.Path.{◌≡◌, refl, sym, ◌∙◌, ap}
use Prim.Native.Nat.{ℕ, ◌+◌, ◌≤◌}
use native.Mathlib.Omega.{arith}
use lib.ListN.{length, drop, length-append, length-drop}
use lib.Seq.{length-take-le}
use Rattle.text.specs.Decimal.{decimal}
use Rattle.outline.specs.Text.{stem, under}
use Rattle.outline.specs.Writing.{part}

pub part_length : (x : List ℕ) (at n : ℕ) → at + n ≤ length x → length (part x at n) ≡ n
part_length x at n h = length-take-le n (drop at x) (omega (arith, length-drop at x))

pub stem-some : (p : List ℕ) → (length p ≡ 0 → ⊥) → stem p ≡ p ++ 46 ∷ []
unfolding stem
stem-some [] h = absurd (h refl)
stem-some (x ∷ p) h = refl

module _ (x : List ℕ) (parent long place : ℕ) where
  pub number-top : long ≡ 0 → under (part x parent long) place ≡ decimal place
  unfolding stem
  number-top e = ap (λ (n : ℕ). under (part x parent n) place) e

  module _ (h : parent + long ≤ length x) (some : long ≡ 0 → ⊥) where
    pub number-below : under (part x parent long) place ≡ part x parent long ++ 46 ∷ [] ++ decimal place
    number-below =
        ap (λ (l : List ℕ). l ++ decimal place)
        (stem-some (part x parent long) (λ e. some (sym (part_length x parent long h) ∙ e)))

    pub length-number : length (under (part x parent long) place) ≡ long + 1 + length (decimal place)
    length-number =
        ap length number-below
        ∙ omega (
          arith,
          length-append (part x parent long ++ 46 ∷ []) (decimal place),
          length-append (part x parent long) (46 ∷ []),
          part_length x parent long h,
        )
