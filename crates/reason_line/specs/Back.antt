-- How a line is read back. Definitions only.
--     words_from w l    the words of a line from l on, w being what the first of them has so far: a space ends a word,
--                       a line feed the last one
--     words_in l        the words of a line
--     places_in         the places that words say, each a number in decimal; none where the word is -
--     read_back         the explanation that a line gives: its first word is the case, the second the place of the
--                       found 1, the third that of the moved beat, the others are the changed places [X9]
use Rattle.std.specs.Prelude.{cond, List, [], ◌∷◌, ◌++◌, ℕ, eqb, get_or, take, drop}
use Rattle.reason.specs.Explanation.{Explanation, says}
use Rattle.text.specs.Spells.{digits_value}

unfoldable pub words_from : List ℕ → List ℕ → List (List ℕ)
words_from word [] = word ∷ []
words_from word (x ∷ line) =
    cond (eqb x 10) (word ∷ [])
    (cond (eqb x 32) (word ∷ words_from [] line) (words_from (word ++ x ∷ []) line))

abbrev pub words_in : List ℕ → List (List ℕ)
words_in line = words_from [] line

unfoldable pub places_in : List (List ℕ) → List ℕ
places_in [] = []
places_in (word ∷ words) = cond (eqb (get_or word 0 0) 45) [] (digits_value 0 word ∷ places_in words)

abbrev pub read_back : List ℕ → Explanation
read_back line =
    let words = words_in line in
    says (digits_value 0 (get_or words 0 [])) (places_in (take 1 (drop 1 words))) (places_in (take 1 (drop 2 words)))
    (places_in (drop 3 words))
