-- The verdict of an order that goes on.
--     judge-refused      what the first rows refuse stays refused with more rows after them
--     judge-accepted     where the first rows accept, the rows after them decide
--     both               a verdict is not an accepting and a refusing one
--     judge-front, judge-back     what an order accepts, its first rows accept, and the rows after them
--     All             P holds of the refusal of every row, where the row holds
--     given           so P holds of the one that the order gives
--     all_join           and of those of an order that goes on
-- Assumes nothing.
use mathlib.Core.Bool.{true, false}
use mathlib.Core.List.{List, [], ◌∷◌, ◌++◌}
use mathlib.Core.Path.{◌≡◌, refl, ◌∙◌, sym, subst}
use Prim.Native.Nat.{ℕ}
use native.Mathlib.Omega.{arith}
use Rattle.std.proofs.Common.{Ok, Err}
use Rattle.refusal.specs.declared.Refusal.{Refusal}
use Rattle.refusal.specs.Answer.{Verdict}
use Rattle.refusal.specs.Rows.{Row, ◌⇒◌, judge}

pub judge-refused : (l m : List Row) (why : Refusal) → judge l ≡ Err why
    → judge (l ++ m) ≡ Err why
judge-refused [] m why e = let z : ◌≡◌ {A = ℕ} 0 1 = cc in absurd (omega arith)
judge-refused ((true ⇒ first) ∷ l) m why e = e
judge-refused ((false ⇒ first) ∷ l) m why e = judge-refused l m why e

pub judge-accepted : (l m : List Row) → judge l ≡ Ok tt → judge (l ++ m) ≡ judge m
judge-accepted [] m e = refl
judge-accepted ((true ⇒ first) ∷ l) m e = let z : ◌≡◌ {A = ℕ} 0 1 = cc in absurd (omega arith)
judge-accepted ((false ⇒ first) ∷ l) m e = judge-accepted l m e

pub judge-front : (l m : List Row) → judge (l ++ m) ≡ Ok tt → judge l ≡ Ok tt
judge-front [] m e = refl
judge-front ((true ⇒ first) ∷ l) m e = e
judge-front ((false ⇒ first) ∷ l) m e = judge-front l m e

pub judge-back : (l m : List Row) → judge (l ++ m) ≡ Ok tt → judge m ≡ Ok tt
judge-back l m e = sym (judge-accepted l m (judge-front l m e)) ∙ e

pub both : {v : Verdict} {why : Refusal} {A : Type 0} → v ≡ Ok tt → v ≡ Err why → A
both e f = let z : ◌≡◌ {A = ℕ} 0 1 = cc in absurd (omega arith)

abbrev pub All : (Refusal → Type 0) → List Row → Type 0
All P [] = Unit {0}
All P ((holds ⇒ why) ∷ rows) = (holds ≡ true → P why) × All P rows

module _ (P : Refusal → Type 0) where
  pub given : (rows : List Row) → All P rows → {why : Refusal} → judge rows ≡ Err why → P why
  given [] a e = let z : ◌≡◌ {A = ℕ} 0 1 = cc in absurd (omega arith)
  given ((true ⇒ first) ∷ rows) a {why} e = let same : first ≡ why = cc in subst P same (a.0 refl)
  given ((false ⇒ first) ∷ rows) a e = given rows a.1 e

  pub all_join : (l m : List Row) → All P l → All P m → All P (l ++ m)
  all_join [] m a b = b
  all_join ((holds ⇒ why) ∷ l) m a b = (a.0, all_join l m a.1 b)
