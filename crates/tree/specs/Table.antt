-- The tree tables of a closed schedule, the manual, "Tree table" and "Refusal numbers" (rows 1 and 3; Order: trees).
-- Definitions only.
--     Has          b is the word of a tree of n nodes with the final leaf left out, and l, r, p are the tree's tables,
--                  its nodes numbered 1 to n; the root's parent is 0 [O4]
--     fits         lengths of a schedule of 2n beats and of three tables of n
--     size_rows    the refusals by length, in their order: 1, 3; lent_rows, of what is lent [R17]
--     tree_rows    the refusals of a schedule and of the tables lent for it, in their order: 1, 3, then 4, 5, 6 [R17]
--     Treed        what the way from a schedule to its tables answers and leaves: the tables of its tree, or, refused,
--                  what was there [T4]
use Rattle.std.specs.Prelude.{Bool, not, ◌&&◌, List, [], ◌∷◌, ◌++◌, ◌≡◌, ℕ, ◌+◌, eqb, ltb, length, Ok, Err}
use Rattle.refusal.specs.declared.Refusal.{Refusal}
use Rattle.refusal.specs.declared.Refusal.TheVariants.{TooManyTasks, WrongLength}
use Rattle.refusal.specs.Answer.{Verdict}
use Rattle.refusal.specs.Rows.{Row, ◌⇒◌, judge}
use Rattle.triangle.specs.Count.{largest}
use Rattle.schedule.specs.Check.{play_rows}
use Rattle.tree.specs.Tree.{Tree, size, word, lefts, rights, parents}

pub record Has (n : ℕ) (b l r p : List ℕ) : Type 0 where
  pub tree : Tree
  pub nodes : size tree ≡ n
  pub beats : b ++ 0 ∷ [] ≡ word tree
  pub left : l ≡ lefts 1 tree
  pub right : r ≡ rights 1 tree
  pub parent : p ≡ parents 0 1 tree

abbrev pub fits : ℕ → ℕ → ℕ → ℕ → ℕ → Bool
fits n beats left right parent = eqb beats (n + n) && eqb left n && eqb right n && eqb parent n

abbrev pub size_rows : ℕ → ℕ → ℕ → ℕ → ℕ → List Row
size_rows n beats left right parent =
    (ltb largest n ⇒ TooManyTasks) ∷ (not (fits n beats left right parent) ⇒ WrongLength) ∷ []

-- the rows of sizes, of what is lent
abbrev pub lent_rows : ℕ → List ℕ → List ℕ → List ℕ → List ℕ → List Row
lent_rows n b l r p = size_rows n (length b) (length l) (length r) (length p)

abbrev pub tree_rows : ℕ → List ℕ → List ℕ → List ℕ → List ℕ → List Row
tree_rows n b l r p = lent_rows n b l r p ++ play_rows n b

pub data Treed (n : ℕ) (b l r p : List ℕ) : Verdict → List ℕ → List ℕ → List ℕ → Type 0 where
  filled : {l' r' p' : List ℕ} → judge (tree_rows n b l r p) ≡ Ok tt → Has n b l' r' p'
      → Treed n b l r p (Ok tt) l' r' p'
  kept : {why : Refusal} → judge (tree_rows n b l r p) ≡ Err why
      → Treed n b l r p (Err why) l r p
