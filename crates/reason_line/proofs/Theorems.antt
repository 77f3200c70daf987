-- What the line of an explanation says, and that it says nothing else.
--     read_back_lem    from the line the case, the places and the changed places are read back [X9]
--     line-one         so two schedules with one line have one explanation [X9]
--     line-moving, line-changing     whoever does to a schedule what its line says gets the next form [X7]
--     line-count       and the changed places are as many as the step answers [X8]
-- Assumes nothing.
use mathlib.Core.Bool.{false}
use mathlib.Core.List.{List, [], ◌∷◌, ◌++◌, map, append_assoc, append-nil}
use mathlib.Core.Logic.{◌≢◌}
use mathlib.Core.Path.{◌≡◌, refl, ◌∙◌, ap, ap₂, sym, subst}
use Prim.Native.Nat.{ℕ, zero, suc, ◌≤◌, ◌<◌}
use native.Mathlib.Omega.{arith}
use borrow.Author.Tests.{ne_eqb}
use lib.Dec.{eqb}
use lib.ListN.{length, get_or, take, drop}
use Rattle.circle.specs.Plan.{Form}
use Rattle.circle.specs.Step.{next}
use Rattle.circle.specs.Walk.{changed}
use Rattle.reason.specs.Explanation.{Explanation, says, explanation_of}
use Rattle.reason.specs.Meaning.{moving, changing}
use Rattle.reason.proofs.Rules.{Tests, only, last, after, itself, tests}
use Rattle.reason.proofs.Reasons.{one-said, last-said, next-said, found-said}
use Rattle.reason.proofs.Theorems.{explains, moving-next, changing-next, changed-count}
use Rattle.text.specs.Decimal.{decimal}
use Rattle.text.specs.Spells.{digits_value}
use Rattle.text.proofs.Theorems.{decimal-spells}
use Rattle.reason_line.specs.Line.{places_text, explained_line}
use Rattle.reason_line.specs.Back.{words_from, words_in, places_in, read_back}

-- a text with no space and no line feed in it
abbrev Plain : List ℕ → Type 0
Plain w = (k : ℕ) → k < length w → (get_or w k 0 ≢ 10) × (get_or w k 0 ≢ 32)

decimal-plain : (n : ℕ) → Plain (decimal n)
decimal-plain n k h =
    let digit = (decimal-spells n).digits k h in
    (λ e. omega (arith, digit.0, e), λ e. omega (arith, digit.0, e))

-- such a text is a word up to the space or the line feed after it
passed : (w so rest : List ℕ) → Plain w → words_from so (w ++ rest) ≡ words_from (so ++ w) rest
unfolding words_from
passed [] so rest p = ap (λ (l : List ℕ). words_from l rest) (sym (append-nil so))
passed (x ∷ w) so rest p =
    let here = p 0 (omega arith) in
    simp (ne_eqb x 10 here.0, ne_eqb x 32 here.1)
    (passed w (so ++ x ∷ []) rest (λ k h. p (suc k) (omega arith))
    ∙ ap (λ (l : List ℕ). words_from l rest) (append_assoc so (x ∷ []) w))

word-then : (w rest : List ℕ) → Plain w → words_in (w ++ 32 ∷ rest) ≡ w ∷ words_in rest
unfolding words_from
word-then w rest p = passed w [] (32 ∷ rest) p

word-last : (w : List ℕ) → Plain w → words_in (w ++ 10 ∷ []) ≡ w ∷ []
unfolding words_from
word-last w p = passed w [] (10 ∷ []) p

-- the words of some places
abbrev words_of : List ℕ → List (List ℕ)
words_of [] = (45 ∷ []) ∷ []
words_of (k ∷ l) = map decimal (k ∷ l)

dash-plain : Plain (45 ∷ [])
dash-plain zero h = (λ e. omega (arith, e), λ e. omega (arith, e))
dash-plain (suc k) h = absurd (omega arith)

words_last : (l : List ℕ) → words_in (places_text l ++ 10 ∷ []) ≡ words_of l
unfolding places_text
words_last [] = word-last (45 ∷ []) dash-plain
words_last (k ∷ []) = word-last (decimal k) (decimal-plain k)
words_last (k ∷ m ∷ l) =
    ap words_in (append_assoc (decimal k) (32 ∷ places_text (m ∷ l)) (10 ∷ []))
    ∙ word-then (decimal k) (places_text (m ∷ l) ++ 10 ∷ []) (decimal-plain k)
    ∙ ap (λ (w : List (List ℕ)). decimal k ∷ w) (words_last (m ∷ l))

-- what they say
not-dash : (k : ℕ) → eqb (get_or (decimal k) 0 0) 45 ≡ false
not-dash k =
    let q = decimal-spells k in
    ne_eqb (get_or (decimal k) 0 0) 45 (λ e. omega (arith, (q.digits 0 (omega (arith, q.some))).0, e))

say-all : (l : List ℕ) → places_in (map decimal l) ≡ l
unfolding places_in
say-all [] = refl
say-all (k ∷ l) = simp (not-dash k) (ap₂ ◌∷◌ (decimal-spells k).value (say-all l))

say-places : (l : List ℕ) → places_in (words_of l) ≡ l
unfolding places_in
say-places [] = refl
say-places (k ∷ l) = say-all (k ∷ l)

-- a line of four parts, the second and the third of one word each
module _ (n : ℕ) (found moved changed : List ℕ) (one : length found ≤ 1) (other : length moved ≤ 1) where
  single : (l rest : List ℕ) → length l ≤ 1
      → words_in (places_text l ++ 32 ∷ rest) ≡ get_or (words_of l) 0 [] ∷ words_in rest
  unfolding places_text
  single [] rest h = word-then (45 ∷ []) rest dash-plain
  single (k ∷ []) rest h = word-then (decimal k) rest (decimal-plain k)
  single (k ∷ m ∷ l) rest h = absurd (omega arith)

  alone : (l : List ℕ) → length l ≤ 1 → places_in (get_or (words_of l) 0 [] ∷ []) ≡ l
  alone [] h = say-places []
  alone (k ∷ []) h = say-places (k ∷ [])
  alone (k ∷ m ∷ l) h = absurd (omega arith)

  line-words : words_in (explained_line (says n found moved changed))
      ≡ decimal n ∷ get_or (words_of found) 0 [] ∷ get_or (words_of moved) 0 [] ∷ words_of changed
  line-words =
      ap words_in nested
      ∙ word-then (decimal n) after-case (decimal-plain n)
      ∙ ap (λ (w : List (List ℕ)). decimal n ∷ w)
      (single found after-found one
      ∙ ap (λ (w : List (List ℕ)). get_or (words_of found) 0 [] ∷ w)
      (single moved (places_text changed ++ 10 ∷ []) other
      ∙ ap (λ (w : List (List ℕ)). get_or (words_of moved) 0 [] ∷ w) (words_last changed)))
    where
      after-found : List ℕ
      after-found = places_text moved ++ 32 ∷ (places_text changed ++ 10 ∷ [])

      after-case : List ℕ
      after-case = places_text found ++ 32 ∷ after-found

      nested : explained_line (says n found moved changed) ≡ decimal n ++ 32 ∷ after-case
      nested = simp append_assoc

  back : read_back (explained_line (says n found moved changed)) ≡ says n found moved changed
  back =
      ap (λ (w : List (List ℕ)).
      says (digits_value 0 (get_or w 0 [])) (places_in (take 1 (drop 1 w))) (places_in (take 1 (drop 2 w)))
      (places_in (drop 3 w)))
      line-words
      ∙ ap (λ (k : ℕ). says k (places_in (get_or (words_of found) 0 [] ∷ []))
      (places_in (get_or (words_of moved) 0 [] ∷ [])) (places_in (words_of changed))) (decimal-spells n).value
      ∙ ap (λ (l : List ℕ). says n l (places_in (get_or (words_of moved) 0 [] ∷ [])) (places_in (words_of changed)))
      (alone found one)
      ∙ ap₂ (says n found) (alone moved other) (say-places changed)

module _ (b : List ℕ) where
  pub read_back_lem : read_back (explained_line (explanation_of b)) ≡ explanation_of b
  read_back_lem = by (tests b)
    where
      by : Tests b → read_back (explained_line (explanation_of b)) ≡ explanation_of b
      by (only one) =
          subst (λ (e : Explanation). read_back (explained_line e) ≡ e) (sym (one-said b one))
          (back _ _ _ _ (omega arith) (omega arith))
      by (last more h) =
          subst (λ (e : Explanation). read_back (explained_line e) ≡ e) (sym (last-said b more h))
          (back _ _ _ _ (omega arith) (omega arith))
      by (after more h m) =
          subst (λ (e : Explanation). read_back (explained_line e) ≡ e) (sym (next-said b more h m))
          (back _ _ _ _ (omega arith) (omega arith))
      by (itself more h m) =
          subst (λ (e : Explanation). read_back (explained_line e) ≡ e) (sym (found-said b more h m))
          (back _ _ _ _ (omega arith) (omega arith))

pub line-one : (b c : List ℕ) → explained_line (explanation_of b) ≡ explained_line (explanation_of c)
    → explanation_of b ≡ explanation_of c
line-one b c e = sym (read_back_lem b) ∙ ap read_back e ∙ read_back_lem c

module _ {b : List ℕ} (f : Form b) where
  pub line-moving : moving (read_back (explained_line (explanation_of b))).moved b ≡ next b
  line-moving =
      ap (λ (e : Explanation). moving e.moved b) (read_back_lem b) ∙ moving-next f (explains f)

  pub line-changing : changing (read_back (explained_line (explanation_of b))).changed b ≡ next b
  line-changing =
      ap (λ (e : Explanation). changing e.changed b) (read_back_lem b) ∙ changing-next f (explains f)

  pub line-count : length (read_back (explained_line (explanation_of b))).changed ≡ changed b (next b)
  line-count = ap (λ (e : Explanation). length e.changed) (read_back_lem b) ∙ changed-count f (explains f)
