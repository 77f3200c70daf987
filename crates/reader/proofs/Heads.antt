-- The head of a record: what makes it cut, and what a whole one has.
--     cut_short, cut-above, cut-rest     the three tests of `cut`, in their order
--     whole_long           a slice that is not cut has its whole record, and L is not above the longest
--     body-size            how long the body of a whole record is
-- Assumes nothing.
use mathlib.Core.Bool.{Bool, true, false, ◌||◌, true≢false}
use mathlib.Core.List.{List}
use mathlib.Core.Path.{◌≡◌, sym, ◌∙◌, ap}
use Prim.Native.Nat.{ℕ, ◌+◌, ◌-◌, ◌≤◌, ◌<◌}
use native.Mathlib.Decide.{dec_lt}
use native.Mathlib.Omega.{arith}
use borrow.Author.Tests.{lt-ltb, le-ltb}
use lib.Dec.{ltb}
use lib.ListN.{length, drop, length-drop}
use lib.Seq.{length-take-le}
use Rattle.record.specs.Record.{long, longest, body_at, cut}

module _ (src : List ℕ) where
  abbrev above : Bool
  above = ltb longest (long src)

  abbrev short : Bool
  short = ltb (length src) (2 + long src)

  pub cut_short : length src < 2 → true ≡ cut src
  cut_short h = sym (ap (λ (b : Bool). b || above || short) (lt-ltb (length src) 2 h))

  module _ (h : 2 ≤ length src) where
    pub cut-above : longest < long src → true ≡ cut src
    cut-above k =
        sym (ap (λ (b : Bool). b || above || short) (le-ltb (length src) 2 h)
        ∙ ap (λ (b : Bool). b || short) (lt-ltb longest (long src) k))

    pub cut-rest : long src ≤ longest → ltb (length src) (2 + long src) ≡ cut src
    cut-rest k =
        sym (ap (λ (b : Bool). b || above || short) (le-ltb (length src) 2 h)
        ∙ ap (λ (b : Bool). b || short) (le-ltb longest (long src) k))

  pub whole_long : cut src ≡ false → (long src ≤ longest) × (2 + long src ≤ length src)
  whole_long e = (below, reaches)
    where
      two : 2 ≤ length src
      two = elim (dec_lt (length src) 2) [ yes h ↦ absurd (true≢false (cut_short h ∙ e)) | no h ↦ omega arith ]

      below : long src ≤ longest
      below =
          elim (dec_lt longest (long src)) [ yes h ↦ absurd (true≢false (cut-above two h ∙ e)) | no h ↦ omega arith ]

      reaches : 2 + long src ≤ length src
      reaches = elim (dec_lt (length src) (2 + long src)) [
        | yes h ↦ absurd (true≢false (sym (lt-ltb (length src) (2 + long src) h) ∙ cut-rest two below ∙ e))
        | no h ↦ omega arith
      ]

  pub body-size : (at : ℕ) → at ≤ long src → 2 + long src ≤ length src → length (body_at at src) ≡ long src - at
  body-size at h w = length-take-le (long src - at) (drop (at + 2) src) (omega (arith, length-drop (at + 2) src))
