-- What the inner functions answer and leave. Definitions only.
--     root_number n     the root of a tree of n nodes, 0 where there is none
--     is_next p k c own  c is node k + 1, the next in preorder, and its parent is own
--     Traced            what reading tables of n entries from the root on has found: b is the schedule that has them,
--                       or none has
use Rattle.std.specs.Prelude.{Bool, true, false, ◌&&◌, List, ℕ, zero, suc, eqb, ltb, length, get_or}
use Rattle.tree.specs.Table.{Has}

abbrev pub root_number : ℕ → ℕ
root_number zero = 0
root_number (suc n) = 1

abbrev pub is_next : List ℕ → ℕ → ℕ → ℕ → Bool
is_next p k c own = ltb k (length p) && eqb c (suc k) && eqb (get_or p k 0) own

pub data Traced (n : ℕ) (l r p b : List ℕ) : Bool → Type 0 where
  whole : Has n b l r p → Traced n l r p b true
  broken : ((c : List ℕ) → Has n c l r p → ⊥) → Traced n l r p b false
