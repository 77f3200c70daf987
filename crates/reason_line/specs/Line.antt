-- The text of a line of the list of explanations, the manual, "Why a beat moves": lists of ASCII codes. Definitions
-- only.
--     places_text       places in decimal, separated by one space; - where there are none
--     explained_line    the case, the place of the found 1, that of the moved beat, and the changed places, separated
--                       so; a line feed ends the line [X9]
--     counted_line      what the packing list says of a refusal, and then the ones asked for and the ones found [X11]
use Rattle.std.specs.Prelude.{List, [], ◌∷◌, ◌++◌, ℕ}
use Rattle.refusal.specs.declared.Refusal.{Refusal}
use Rattle.reason.specs.Explanation.{Explanation}
use Rattle.text.specs.Decimal.{decimal}
use Rattle.line.specs.Line.{refused_text}

unfoldable pub places_text : List ℕ → List ℕ
places_text [] = 45 ∷ []
places_text (k ∷ []) = decimal k
places_text (k ∷ l ∷ rest) = decimal k ++ 32 ∷ places_text (l ∷ rest)

abbrev pub explained_line : Explanation → List ℕ
explained_line e =
    decimal e.case ++ 32 ∷ places_text e.found ++ 32 ∷ places_text e.moved
    ++ 32 ∷ places_text e.changed ++ 10 ∷ []

abbrev pub counted_line : Refusal → ℕ → ℕ → List ℕ
counted_line why asked found = refused_text why ++ 32 ∷ decimal asked ++ 32 ∷ decimal found ++ 10 ∷ []
