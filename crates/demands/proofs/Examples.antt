-- Every example of specs/Examples.antt holds, by computing the definitions.
--     every-example     each example of the list holds [P7] [E1] [E3] [E7a] [E9]
-- Assumes nothing.
use mathlib.Core.List.Memᴰ
use mathlib.Core.List.{List, [], ◌∷◌, Memᴰ}
use mathlib.Core.Logic.{⊎_elim}
use mathlib.Core.Path.{refl, sym, subst}
use Rattle.bounded.specs.Bounded.{every, first_from}
use Rattle.triangle.specs.Count.{N}
use Rattle.schedule.specs.Schedule.{ones, zeros, is_schedule}
use Rattle.circle.specs.Step.{shift, found, has01, moves_next, next}
use Rattle.circle.specs.Walk.{steps, changed, worked}
use Rattle.tree.specs.Tree.{Tree, leaf, node, size, word, root, lefts, rights, parents}
use Rattle.demands.specs.Examples.{Example, Holds, examples}

abbrev All : List Example → Type 0
All [] = Unit {0}
All (e ∷ l) = Holds e × All l

member : (l : List Example) → All l → (e : Example) → Memᴰ e l → Holds e
member [] h e m = absurd (Memᴰ.not-nil m)
member (first ∷ l) h e m =
    ⊎_elim (λ same. subst Holds (sym same) h.0) (λ later. member l h.1 e later) (Memᴰ.cases_cons m)

infixr 5 ◌and◌
◌and◌ : {A B : Type 0} → A → B → A × B
◌and◌ a b = (a, b)

tree-111001001100 : Tree
tree-111001001100 = node (node (node leaf leaf) (node leaf leaf)) (node (node leaf leaf) leaf)

-- one line for each example, in the order of the list
computed : All examples
unfolding tree-111001001100 size word root lefts rights parents N every first_from ones zeros is_schedule shift found
    has01 moves_next next steps changed worked
computed =
    (refl and refl and refl and refl and refl and refl and tt) and
    (refl and refl and refl and refl and refl and tt) and
    refl and
    refl and
    refl and
    (refl and refl and refl and refl and refl and refl and tt) and
    (refl and refl and refl and tt) and
    refl and
    (refl and refl and tt) and
    (refl and tt) and
    (refl and refl and tt) and
    (refl and tt) and
    (refl and refl and tt) and
    (refl and tt) and
    ((refl, refl) and (refl, refl) and (refl, refl) and (refl, refl) and (refl, refl) and tt) and
    ((refl, refl) and (refl, refl) and (refl, refl) and (refl, refl) and (refl, refl) and tt) and
    ((refl, refl) and (refl, refl) and tt) and
    ((refl, refl) and tt) and
    ((refl, refl) and tt) and
    ((refl, refl) and tt) and
    refl and
    refl and
    (record { tree = tree-111001001100; nodes = refl; beats = refl; left = refl; right = refl; parent = refl }) and
    tt

pub every-example : (e : Example) → Memᴰ e examples → Holds e
every-example = member examples computed
