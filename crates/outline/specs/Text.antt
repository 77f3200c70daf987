-- The text of an outline, the manual, "The outline": lists of ASCII codes. Definitions only.
--     stem p               what a heading's number begins with: its parent's number p and a dot; nothing for the
--                          topmost, which have no parent
--     under p k            the number of the k-th heading under p: that, and its place among its sisters, from 1 [H4]
--     lines o p k          the numbers of an outline's headings, line by line, where its first is the k-th under p
--     lines_of h p         the number p of a heading, and those of all below it
--     text                 each line with its line feed [H4]
--     outline_text         the text of an outline [H4]
--     printed              the text of the outline of a closed schedule [H4]
use Rattle.std.specs.Prelude.{List, [], ◌∷◌, ◌++◌, ℕ, suc}
use Rattle.text.specs.Decimal.{decimal}
use Rattle.outline.specs.Outline.{Outline, none, ◌then◌, Heading, heading, outline_of}

-- 46 is the dot
unfoldable pub stem : List ℕ → List ℕ
stem [] = []
stem (x ∷ p) = (x ∷ p) ++ 46 ∷ []

abbrev pub under : List ℕ → ℕ → List ℕ
under p k = stem p ++ decimal k

unfoldable mutual
  pub lines : Outline → List ℕ → ℕ → List (List ℕ)
  lines none p k = []
  lines (h then o) p k = lines_of h (under p k) ++ lines o p (suc k)

  pub lines_of : Heading → List ℕ → List (List ℕ)
  lines_of (heading o) p = p ∷ lines o p 1

-- 10 is the line feed
unfoldable pub text : List (List ℕ) → List ℕ
text [] = []
text (l ∷ ls) = l ++ 10 ∷ text ls

abbrev pub outline_text : Outline → List ℕ
outline_text o = text (lines o [] 1)

abbrev pub printed : List ℕ → List ℕ
printed b = outline_text (outline_of b)
