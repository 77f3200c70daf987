-- The definitions of specs/ on small inputs, by computing them: lines of the manual, "The packing list", and that of
-- the empty schedule. Assumes nothing.
use mathlib.Core.List.{[], ◌∷◌}
use mathlib.Core.Path.{◌≡◌, refl}
use Prim.Native.Nat.{zero, suc}
use native.Mathlib.Omega.{arith}
use lib.IntN.{negsuc}
use Rattle.refusal.specs.declared.Refusal.TheVariants.{EmptyHand, WrongTakeUps, NoSuchNumber}
use Rattle.text.specs.Decimal.{digits, decimal}
use Rattle.line.specs.Line.{Beats, beat_text, accepted_line, refused_text, refused_line}

-- "3 2 1 11010" and a line feed
line-3-2-1 : accepted_line 3 2 1 (1 ∷ 1 ∷ 0 ∷ 1 ∷ 0 ∷ [])
    ≡ 51 ∷ 32 ∷ 50 ∷ 32 ∷ 49 ∷ 32 ∷ 49 ∷ 49 ∷ 48 ∷ 49 ∷ 48 ∷ 10 ∷ []
unfolding decimal digits beat_text
line-3-2-1 = refl

-- "1 1 0 10" and a line feed
line-1-1-0 : accepted_line 1 1 0 (1 ∷ 0 ∷ []) ≡ 49 ∷ 32 ∷ 49 ∷ 32 ∷ 48 ∷ 32 ∷ 49 ∷ 48 ∷ 10 ∷ []
unfolding decimal digits beat_text
line-1-1-0 = refl

-- "0 0 0 -" and a line feed
line-empty : accepted_line 0 0 0 [] ≡ 48 ∷ 32 ∷ 48 ∷ 32 ∷ 48 ∷ 32 ∷ 45 ∷ 10 ∷ []
unfolding decimal digits beat_text
line-empty = refl

-- "refused 7 0 0" and a line feed
line_refused : refused_line NoSuchNumber
    ≡ 114 ∷ 101 ∷ 102 ∷ 117 ∷ 115 ∷ 101 ∷ 100 ∷ 32 ∷ 55 ∷ 32 ∷ 48 ∷ 32 ∷ 48 ∷ 10 ∷ []
unfolding decimal digits
line_refused = refl

-- "refused 5 2 0" and a line feed
line-refused-at : refused_line (EmptyHand 2)
    ≡ 114 ∷ 101 ∷ 102 ∷ 117 ∷ 115 ∷ 101 ∷ 100 ∷ 32 ∷ 53 ∷ 32 ∷ 50 ∷ 32 ∷ 48 ∷ 10 ∷ []
unfolding decimal digits
line-refused-at = refl

-- "refused 6 0 -1" and a line feed [Q6]
line-refused-off : refused_line (WrongTakeUps (negsuc 0))
    ≡ 114 ∷ 101 ∷ 102 ∷ 117 ∷ 115 ∷ 101 ∷ 100 ∷ 32 ∷ 54 ∷ 32 ∷ 48 ∷ 32 ∷ 45 ∷ 49 ∷ 10 ∷ []
unfolding decimal digits
line-refused-off = refl

-- "refused 7 0 0" and "refused 6 0 -1", without the line feed
text-refused : refused_text NoSuchNumber ≡ 114 ∷ 101 ∷ 102 ∷ 117 ∷ 115 ∷ 101 ∷ 100 ∷ 32 ∷ 55 ∷ 32 ∷ 48 ∷ 32 ∷ 48 ∷ []
unfolding decimal digits
text-refused = refl

text-refused-off : refused_text (WrongTakeUps (negsuc 0))
    ≡ 114 ∷ 101 ∷ 102 ∷ 117 ∷ 115 ∷ 101 ∷ 100 ∷ 32 ∷ 54 ∷ 32 ∷ 48 ∷ 32 ∷ 45 ∷ 49 ∷ []
unfolding decimal digits
text-refused-off = refl

-- beats, and a list with another number in it
beats-10 : Beats (1 ∷ 0 ∷ [])
beats-10 zero h = omega arith
beats-10 (suc zero) h = omega arith
beats-10 (suc (suc k)) h = absurd (omega arith)

not-beats-12 : Beats (1 ∷ 2 ∷ []) → ⊥
not-beats-12 f = omega (arith, f 1 (omega arith))

-- "10", and "-" for no beat
text-10 : beat_text (1 ∷ 0 ∷ []) ≡ 49 ∷ 48 ∷ []
unfolding beat_text
text-10 = refl

text-none : beat_text [] ≡ 45 ∷ []
unfolding beat_text
text-none = refl
