-- The text of a line of the packing list, the manual, "The packing list": lists of ASCII codes. Definitions only.
--     Beats b          every beat is 0 or 1
--     beat_text b      the beats run together as digits; - for the empty schedule
--     accepted_line    t, s, the number and the beats, separated by one space; a line feed ends the line
--     refused_text     the word refused, the refusal's number, its place and its surplus, separated so [Q6]
--     refused_line     that, and a line feed that ends the line
use Rattle.std.specs.Prelude.{List, [], ◌∷◌, ◌++◌, map, ℕ, ◌+◌, ◌≤◌, ◌<◌, length, get_or}
use Rattle.refusal.specs.declared.Refusal.{Refusal}
use Rattle.refusal.specs.Refusal.{refusal_number, refusal_place, refusal_surplus}
use Rattle.text.specs.Decimal.{decimal, signed}

abbrev pub Beats : List ℕ → Type 0
Beats b = (k : ℕ) → k < length b → get_or b k 0 ≤ 1

unfoldable pub beat_text : List ℕ → List ℕ
beat_text [] = 45 ∷ []
beat_text (x ∷ b) = map (λ y. 48 + y) (x ∷ b)

abbrev pub accepted_line : ℕ → ℕ → ℕ → List ℕ → List ℕ
accepted_line t s n b = decimal t ++ 32 ∷ decimal s ++ 32 ∷ decimal n ++ 32 ∷ beat_text b ++ 10 ∷ []

-- 114, 101, 102, 117, 115, 101, 100 and 32 are the word refused and a space
abbrev pub refused_text : Refusal → List ℕ
refused_text why =
    114 ∷ 101 ∷ 102 ∷ 117 ∷ 115 ∷ 101 ∷ 100 ∷ 32 ∷
    decimal (refusal_number why) ++ 32 ∷ decimal (refusal_place why) ++ 32 ∷ signed (refusal_surplus why)

abbrev pub refused_line : Refusal → List ℕ
refused_line why = refused_text why ++ 10 ∷ []
