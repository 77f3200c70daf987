-- The examples of the manual, "Examples on both sides", that are marked P, in one list. proofs/Examples.antt shows that
-- each holds. A later example is one more line of the list; one of a new kind is also one more case of Example and of
-- Holds. Definitions only.
--     Example      `counts t s n`: there are n forms of t, s
--                  `follows t s l`: from number 0 on, the forms stand in the order of l
--                  `changes t s l`: the steps from there on change as many beats as l says
--                  `rounds t s n`: a whole round changes n beats
--                  `numbers t s l`: the forms of l have the numbers from 0 on, and are the forms of those numbers
-- `links b l r p`: the tree of the closed schedule b has the left children l, the right children r and the parents p
--     Holds        what an example says, of the definitions
--     examples     the list [P7] [E1] [E3] [E7a] [E9]
use Rattle.std.specs.Prelude.{List, [], ◌∷◌, ◌≡◌, ℕ, suc, length}
use Rattle.triangle.specs.Count.{N}
use Rattle.circle.specs.Step.{next}
use Rattle.circle.specs.Walk.{changed, worked}
use Rattle.number.specs.Number.{start, number_of, form_of}
use Rattle.tree.specs.Table.{Has}

pub data Example : Type 0 where
  -- [E1]
  counts : (t s n : ℕ) → Example
  follows : (t s : ℕ) → List (List ℕ) → Example
  changes : (t s : ℕ) → List ℕ → Example
  rounds : (t s n : ℕ) → Example
  -- [E7a]
  numbers : (t s : ℕ) → List (List ℕ) → Example
  -- [E9]
  links : (b l r p : List ℕ) → Example

-- b, and each form after it, in the order of a list
abbrev pub InOrder : List ℕ → List (List ℕ) → Type 0
InOrder b [] = Unit {0}
InOrder b (c ∷ l) = (b ≡ c) × InOrder (next b) l

-- the changed beats of the steps from b on
abbrev pub Changing : List ℕ → List ℕ → Type 0
Changing b [] = Unit {0}
Changing b (n ∷ l) = (changed b (next b) ≡ n) × Changing (next b) l

-- the forms of a list have the numbers from n on, and are the forms of those numbers
abbrev pub Numbering : ℕ → ℕ → ℕ → List (List ℕ) → Type 0
Numbering t s n [] = Unit {0}
Numbering t s n (b ∷ l) = ((number_of t s b ≡ n) × (form_of t s n ≡ b)) × Numbering t s (suc n) l

abbrev pub Holds : Example → Type 0
Holds (counts t s n) = N t s ≡ n
Holds (follows t s l) = InOrder (start t s) l
Holds (changes t s l) = Changing (start t s) l
Holds (rounds t s n) = worked (N t s) (start t s) ≡ n
Holds (numbers t s l) = Numbering t s 0 l
Holds (links b l r p) = Has (length l) b l r p

abbrev pub examples : List Example
examples =
    follows 3 2 (
    (1 ∷ 0 ∷ 1 ∷ 1 ∷ 0 ∷ []) ∷
    (1 ∷ 1 ∷ 0 ∷ 1 ∷ 0 ∷ []) ∷
    (1 ∷ 0 ∷ 1 ∷ 0 ∷ 1 ∷ []) ∷
    (1 ∷ 1 ∷ 0 ∷ 0 ∷ 1 ∷ []) ∷
    (1 ∷ 1 ∷ 1 ∷ 0 ∷ 0 ∷ []) ∷
    (1 ∷ 0 ∷ 1 ∷ 1 ∷ 0 ∷ []) ∷ []
    ) ∷
    changes 3 2 (2 ∷ 4 ∷ 2 ∷ 2 ∷ 2 ∷ []) ∷
    rounds 3 2 12 ∷
    counts 3 2 5 ∷
    counts 2 1 2 ∷
    follows 3 3 (
    (1 ∷ 0 ∷ 1 ∷ 1 ∷ 0 ∷ 0 ∷ []) ∷
    (1 ∷ 1 ∷ 0 ∷ 1 ∷ 0 ∷ 0 ∷ []) ∷
    (1 ∷ 0 ∷ 1 ∷ 0 ∷ 1 ∷ 0 ∷ []) ∷
    (1 ∷ 1 ∷ 0 ∷ 0 ∷ 1 ∷ 0 ∷ []) ∷
    (1 ∷ 1 ∷ 1 ∷ 0 ∷ 0 ∷ 0 ∷ []) ∷
    (1 ∷ 0 ∷ 1 ∷ 1 ∷ 0 ∷ 0 ∷ []) ∷ []
    ) ∷
    follows 2 1 ((1 ∷ 0 ∷ 1 ∷ []) ∷ (1 ∷ 1 ∷ 0 ∷ []) ∷ (1 ∷ 0 ∷ 1 ∷ []) ∷ []) ∷
    rounds 2 1 4 ∷
    follows 1 1 ((1 ∷ 0 ∷ []) ∷ (1 ∷ 0 ∷ []) ∷ []) ∷
    changes 1 1 (0 ∷ []) ∷
    follows 4 0 ((1 ∷ 1 ∷ 1 ∷ 1 ∷ []) ∷ (1 ∷ 1 ∷ 1 ∷ 1 ∷ []) ∷ []) ∷
    changes 4 0 (0 ∷ []) ∷
    follows 0 0 ([] ∷ [] ∷ []) ∷
    changes 0 0 (0 ∷ []) ∷
    numbers 3 2 (
    (1 ∷ 0 ∷ 1 ∷ 1 ∷ 0 ∷ []) ∷
    (1 ∷ 1 ∷ 0 ∷ 1 ∷ 0 ∷ []) ∷
    (1 ∷ 0 ∷ 1 ∷ 0 ∷ 1 ∷ []) ∷
    (1 ∷ 1 ∷ 0 ∷ 0 ∷ 1 ∷ []) ∷
    (1 ∷ 1 ∷ 1 ∷ 0 ∷ 0 ∷ []) ∷ []
    ) ∷
    numbers 3 3 (
    (1 ∷ 0 ∷ 1 ∷ 1 ∷ 0 ∷ 0 ∷ []) ∷
    (1 ∷ 1 ∷ 0 ∷ 1 ∷ 0 ∷ 0 ∷ []) ∷
    (1 ∷ 0 ∷ 1 ∷ 0 ∷ 1 ∷ 0 ∷ []) ∷
    (1 ∷ 1 ∷ 0 ∷ 0 ∷ 1 ∷ 0 ∷ []) ∷
    (1 ∷ 1 ∷ 1 ∷ 0 ∷ 0 ∷ 0 ∷ []) ∷ []
    ) ∷
    numbers 2 1 ((1 ∷ 0 ∷ 1 ∷ []) ∷ (1 ∷ 1 ∷ 0 ∷ []) ∷ []) ∷
    numbers 1 1 ((1 ∷ 0 ∷ []) ∷ []) ∷
    numbers 4 0 ((1 ∷ 1 ∷ 1 ∷ 1 ∷ []) ∷ []) ∷
    numbers 0 0 ([] ∷ []) ∷
    counts 5 3 28 ∷
    counts 8 5 572 ∷
    links
    (1 ∷ 1 ∷ 1 ∷ 0 ∷ 0 ∷ 1 ∷ 0 ∷ 0 ∷ 1 ∷ 1 ∷ 0 ∷ 0 ∷ [])
    (2 ∷ 3 ∷ 0 ∷ 0 ∷ 6 ∷ 0 ∷ [])
    (5 ∷ 4 ∷ 0 ∷ 0 ∷ 0 ∷ 0 ∷ [])
    (0 ∷ 1 ∷ 2 ∷ 2 ∷ 1 ∷ 5 ∷ []) ∷ []
