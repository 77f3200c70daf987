-- The definitions of specs/ on small inputs, by computing them: lines of the manual, "Why a beat moves", and what is
-- read back from them. Assumes nothing.
use mathlib.Core.List.{[], ◌∷◌}
use mathlib.Core.Path.{◌≡◌, refl}
use lib.IntN.{pos, negsuc}
use Rattle.refusal.specs.declared.Refusal.TheVariants.{WrongTakeUps}
use Rattle.reason.specs.Explanation.{says}
use Rattle.text.specs.Decimal.{digits, decimal}
use Rattle.text.specs.Spells.{digits_value}
use Rattle.reason_line.specs.Line.{places_text, explained_line, counted_line}
use Rattle.reason_line.specs.Back.{words_from, words_in, places_in, read_back}

-- "-" for no place, "4" for one, "1 12" for two
text-none : places_text [] ≡ 45 ∷ []
unfolding places_text
text-none = refl

text-one : places_text (4 ∷ []) ≡ 52 ∷ []
unfolding places_text decimal digits
text-one = refl

text-two : places_text (1 ∷ 12 ∷ []) ≡ 49 ∷ 32 ∷ 49 ∷ 50 ∷ []
unfolding places_text decimal digits
text-two = refl

-- "1 - - -" and a line feed
line-1 : explained_line (says 1 [] [] []) ≡ 49 ∷ 32 ∷ 45 ∷ 32 ∷ 45 ∷ 32 ∷ 45 ∷ 10 ∷ []
unfolding places_text decimal digits
line-1 = refl

-- "3 3 4 1 2 3 4" and a line feed
line-3 : explained_line (says 3 (3 ∷ []) (4 ∷ []) (1 ∷ 2 ∷ 3 ∷ 4 ∷ []))
    ≡ 51 ∷ 32 ∷ 51 ∷ 32 ∷ 52 ∷ 32 ∷ 49 ∷ 32 ∷ 50 ∷ 32 ∷ 51 ∷ 32 ∷ 52 ∷ 10 ∷ []
unfolding places_text decimal digits
line-3 = refl

-- "refused 6 0 -1 3 2" and a line feed
counted-2 : counted_line (WrongTakeUps (negsuc 0)) 3 2
    ≡ 114 ∷ 101 ∷ 102 ∷ 117 ∷ 115 ∷ 101 ∷ 100 ∷ 32 ∷ 54 ∷ 32 ∷ 48 ∷ 32 ∷ 45 ∷ 49 ∷ 32 ∷ 51 ∷ 32 ∷ 50 ∷ 10 ∷ []
unfolding decimal digits
counted-2 = refl

-- "refused 6 0 1 2 3" and a line feed
counted-3 : counted_line (WrongTakeUps (pos 1)) 2 3
    ≡ 114 ∷ 101 ∷ 102 ∷ 117 ∷ 115 ∷ 101 ∷ 100 ∷ 32 ∷ 54 ∷ 32 ∷ 48 ∷ 32 ∷ 49 ∷ 32 ∷ 50 ∷ 32 ∷ 51 ∷ 10 ∷ []
unfolding decimal digits
counted-3 = refl

-- the words of "1 -" and of "12", each with its line feed; of the second after "3"
words-two : words_in (49 ∷ 32 ∷ 45 ∷ 10 ∷ []) ≡ (49 ∷ []) ∷ (45 ∷ []) ∷ []
unfolding words_from
words-two = refl

words-one : words_in (49 ∷ 50 ∷ 10 ∷ []) ≡ (49 ∷ 50 ∷ []) ∷ []
unfolding words_from
words-one = refl

words-from : words_from (51 ∷ []) (49 ∷ 50 ∷ 10 ∷ []) ≡ (51 ∷ 49 ∷ 50 ∷ []) ∷ []
unfolding words_from
words-from = refl

words-from-none : words_from [] [] ≡ [] ∷ []
unfolding words_from
words-from-none = refl

-- the places of "1" and "12", and of "-"
places-two : places_in ((49 ∷ []) ∷ (49 ∷ 50 ∷ []) ∷ []) ≡ 1 ∷ 12 ∷ []
unfolding places_in digits_value
places-two = refl

places-none : places_in ((45 ∷ []) ∷ []) ≡ []
unfolding places_in
places-none = refl

-- what is read back from the two lines
back-1 : read_back (49 ∷ 32 ∷ 45 ∷ 32 ∷ 45 ∷ 32 ∷ 45 ∷ 10 ∷ []) ≡ says 1 [] [] []
unfolding words_from places_in digits_value
back-1 = refl

back-3 : read_back (51 ∷ 32 ∷ 51 ∷ 32 ∷ 52 ∷ 32 ∷ 49 ∷ 32 ∷ 50 ∷ 32 ∷ 51 ∷ 32 ∷ 52 ∷ 10 ∷ [])
    ≡ says 3 (3 ∷ []) (4 ∷ []) (1 ∷ 2 ∷ 3 ∷ 4 ∷ [])
unfolding words_from places_in digits_value
back-3 = refl
