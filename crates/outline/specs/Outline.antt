-- Outlines, the manual, "The outline" (source 001, section 2.4.2: ordered trees). Definitions only.
--     Outline, Heading     an outline is a list of headings, and each heading carries a list of its own [H1]
--     headings, below      how many headings an outline has, and a heading with all below it
--     schedule, beats      the schedule of an outline, and the beats of a heading: a 1 opens it one level down, and
--                          after all that stands below it a 0 goes back up [H2]
--     planted, outline_of  the outline of a tree: a node is a heading, its left tree all below it, its right tree the
--                          headings that follow; and so the outline of a closed schedule, by its tree [H2]
use Rattle.std.specs.Prelude.{List, [], ◌∷◌, ◌++◌, ℕ, suc, ◌+◌}
use Rattle.tree.specs.Tree.{Tree, leaf, node}
use Rattle.tree.specs.Parse.{tree_of}

infixr 25 ◌then◌
mutual
  pub data Outline : Type 0 where
    none : Outline
    ◌then◌ : Heading → Outline → Outline

  pub data Heading : Type 0 where
    heading : Outline → Heading

unfoldable mutual
  pub headings : Outline → ℕ
  headings none = 0
  headings (h then o) = below h + headings o

  pub below : Heading → ℕ
  below (heading o) = suc (headings o)

unfoldable mutual
  pub schedule : Outline → List ℕ
  schedule none = []
  schedule (h then o) = beats h ++ schedule o

  pub beats : Heading → List ℕ
  beats (heading o) = 1 ∷ (schedule o ++ 0 ∷ [])

unfoldable pub planted : Tree → Outline
planted leaf = none
planted (node a b) = heading (planted a) then planted b

abbrev pub outline_of : List ℕ → Outline
outline_of b = planted (tree_of b)
