-- Closed schedules and outlines belong together one to one, by the trees of the crate `tree`.
--     rooted, planted-rooted     the tree of an outline, whose outline it is
--     planted-front              the outline of a tree has the tree's word, without its final leaf, for its schedule
--     planted-size               and as many headings as the tree has nodes
--     schedule-closed            the schedule of an outline of n headings is closed, of n tasks [H3]
--     schedule-outline           an outline is the outline of its schedule [H3]
--     outline-schedule           a closed schedule is the schedule of its outline [H3]
--     outline-size               which has as many headings as it has tasks
-- Assumes nothing.
use mathlib.Core.List.{List, [], ◌∷◌, ◌++◌}
use mathlib.Core.Path.{◌≡◌, refl, sym, ◌∙◌, ap, ap₂, subst}
use Prim.Native.Nat.{ℕ}
use native.Mathlib.Omega.{arith}
use Rattle.schedule.specs.Schedule.{ones, Schedule}
use Rattle.tree.specs.Tree.{Tree, leaf, node, size}
use Rattle.tree.specs.Parse.{tree_of}
use Rattle.tree.proofs.Word.{front, word-front, front-schedule, front-unique, word-tree, one-tree}
use Rattle.outline.specs.Outline.{
  Outline,
  none,
  ◌then◌,
  Heading,
  heading,
  headings,
  schedule,
  planted,
  outline_of,
}

unfoldable mutual
  pub rooted : Outline → Tree
  rooted none = leaf
  rooted (h then o) = node (rooted_below h) (rooted o)

  rooted_below : Heading → Tree
  rooted_below (heading o) = rooted o

mutual
  unfolding planted rooted

  pub planted-rooted : (o : Outline) → planted (rooted o) ≡ o
  planted-rooted none = refl
  planted-rooted (h then o) = ap₂ ◌then◌ (heading-rooted h) (planted-rooted o)

  heading-rooted : (h : Heading) → heading (planted (rooted_below h)) ≡ h
  heading-rooted (heading o) = ap heading (planted-rooted o)

pub planted-front : (t : Tree) → schedule (planted t) ≡ front t
unfolding planted schedule front
planted-front leaf = refl
planted-front (node a b) =
    ap₂ (λ (u v : List ℕ). 1 ∷ (u ++ v))
    (ap (λ (u : List ℕ). u ++ 0 ∷ []) (planted-front a) ∙ sym (word-front a))
    (planted-front b)

pub planted-size : (t : Tree) → headings (planted t) ≡ size t
unfolding planted headings size
planted-size leaf = refl
planted-size (node a b) = omega (arith, planted-size a, planted-size b)

rooted-front : (o : Outline) → schedule o ≡ front (rooted o)
rooted-front o = ap schedule (sym (planted-rooted o)) ∙ planted-front (rooted o)

rooted-size : (o : Outline) → size (rooted o) ≡ headings o
rooted-size o = sym (planted-size (rooted o)) ∙ ap headings (planted-rooted o)

pub schedule-closed : (o : Outline) → Schedule (headings o) (headings o) (schedule o)
schedule-closed o =
    subst (λ (n : ℕ). Schedule n n (schedule o)) (rooted-size o)
    (subst (Schedule (size (rooted o)) (size (rooted o))) (sym (rooted-front o)) (front-schedule (rooted o)))

pub schedule-outline : (o : Outline) → outline_of (schedule o) ≡ o
schedule-outline o =
    let t = rooted o in
    ap planted (ap tree_of (rooted-front o) ∙ one-tree t (front t) (sym (word-front t))) ∙ planted-rooted o

pub outline-schedule : {n : ℕ} {b : List ℕ} → Schedule n n b → schedule (outline_of b) ≡ b
outline-schedule {n} {b} q =
    planted-front (tree_of b) ∙ sym (front-unique b (front (tree_of b)) (word-tree q ∙ word-front (tree_of b)))

pub outline-size : {n : ℕ} {b : List ℕ} → Schedule n n b → headings (outline_of b) ≡ n
outline-size {n} {b} q =
    sym (schedule-closed (outline_of b)).taken ∙ ap ones (outline-schedule q) ∙ q.taken
