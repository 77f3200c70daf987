-- The definitions of specs/ on small inputs: for each part of them one that fits and one that does not. The tables are
-- those of the examples of the crate `tree`. Assumes nothing.
use mathlib.Core.Bool.{true, false}
use mathlib.Core.List.{List, [], ◌∷◌}
use mathlib.Core.Path.{◌≡◌, refl, ap}
use Prim.Native.Nat.{ℕ}
use native.Mathlib.Omega.{arith}
use lib.ListN.{get_or}
use Rattle.std.proofs.Common.{Ok, Err}
use Rattle.refusal.specs.declared.Refusal.{Refusal}
use Rattle.refusal.specs.declared.Refusal.TheVariants.{WrongLength, NoSuchTables}
use Rattle.refusal.specs.Answer.{refusal}
use Rattle.refusal.proofs.Theorems.{refused-number}
use Rattle.tree.proofs.Cases.{one, other-parent}
use Rattle.tree_back.specs.Back.{Untreed, found, none, unfit}
use Rattle.tree_back.specs.Tracing.{root_number, is_next, Traced, whole, broken}
use Rattle.tree_back.proofs.Theorems.{untreed-one}

-- the way back: tables that 10 has; tables that none has; a schedule lent too short
untreed-10 : Untreed 1 (0 ∷ []) (0 ∷ []) (0 ∷ []) (7 ∷ 7 ∷ []) (Ok tt) (1 ∷ 0 ∷ [])
untreed-10 = found refl one

untreed-none : Untreed 1 (0 ∷ []) (0 ∷ []) (1 ∷ []) (7 ∷ 7 ∷ []) (Err NoSuchTables) (7 ∷ 7 ∷ [])
untreed-none = none refl other-parent

untreed-short : Untreed 1 (0 ∷ []) (0 ∷ []) (0 ∷ []) (7 ∷ []) (Err WrongLength) (7 ∷ [])
untreed-short = unfit refl

untreed-refused : (why : Refusal) (b : List ℕ)
    → Untreed 1 (0 ∷ []) (0 ∷ []) (0 ∷ []) (7 ∷ 7 ∷ []) (Err why) b → ⊥
untreed-refused why b q = omega (arith, ap refusal (untreed-one q untreed-10).0, (refused-number why).0)

untreed-taken : (b : List ℕ) → Untreed 1 (0 ∷ []) (0 ∷ []) (1 ∷ []) (7 ∷ 7 ∷ []) (Ok tt) b → ⊥
untreed-taken b q = omega (arith, ap refusal (untreed-one q untreed-none).0)

untreed-changed : Untreed 1 (0 ∷ []) (0 ∷ []) (1 ∷ []) (7 ∷ 7 ∷ []) (Err NoSuchTables) (1 ∷ 0 ∷ []) → ⊥
untreed-changed q = omega (arith, ap (λ (l : List ℕ). get_or l 0 0) (untreed-one q untreed-none).1)

-- what the reading has found, and what it may not have found
traced-10 : Traced 1 (0 ∷ []) (0 ∷ []) (0 ∷ []) (1 ∷ 0 ∷ []) true
traced-10 = whole one

traced-none : Traced 1 (0 ∷ []) (0 ∷ []) (1 ∷ []) [] false
traced-none = broken other-parent

not-whole : (b : List ℕ) → Traced 1 (0 ∷ []) (0 ∷ []) (1 ∷ []) b true → ⊥
not-whole b (whole q) = other-parent b q

not-broken : (b : List ℕ) → Traced 1 (0 ∷ []) (0 ∷ []) (0 ∷ []) b false → ⊥
not-broken b (broken f) = f (1 ∷ 0 ∷ []) one

-- the root of no node, and of some
no-root : root_number 0 ≡ 0
no-root = refl

some-root : root_number 3 ≡ 1
some-root = refl

-- the next node, one out of its turn, and one with another parent
next-node : is_next (0 ∷ 1 ∷ []) 1 2 1 ≡ true
next-node = refl

out-of-turn : is_next (0 ∷ 1 ∷ []) 1 1 1 ≡ false
out-of-turn = refl

other-own : is_next (0 ∷ 1 ∷ []) 1 2 2 ≡ false
other-own = refl
