-- What a function answers and leaves, handed on in the words of `Gives`.
--     says       an answer that equals another says what that one says
--     tells      a reading that equals another tells what that one tells
--     alone      one lent list that equals another
--     behind     and one after a list that is only read
-- Assumes nothing.
use mathlib.Core.List.{List, [], ◌∷◌}
use mathlib.Core.Path.{◌≡◌, ap}
use Prim.Native.Nat.{ℕ}
use Rattle.refusal.specs.Answer.{Answer, verdict, value}
use Rattle.record.specs.Parts.{Reading}
use Rattle.record.specs.Parts as said
use Rattle.demands.specs.Calls.{Says}

pub says : (a b : Answer) → a ≡ b → Says b (verdict a) (value a ∷ [])
says a b e = (ap verdict e, ap (λ (x : Answer). value x ∷ []) e)

pub tells : (a b : Reading) → a ≡ b
    → (said.verdict a ≡ said.verdict b)
    × (said.t a ∷ said.s a ∷ said.number a ∷ said.consumed a ∷ []
    ≡ said.t b ∷ said.s b ∷ said.number b ∷ said.consumed b ∷ [])
tells a b e = (ap said.verdict e, ap (λ (x : Reading). said.t x ∷ said.s x ∷ said.number x ∷ said.consumed x ∷ []) e)

pub alone : (x y : List ℕ) → x ≡ y → ◌≡◌ {A = List (List ℕ)} (x ∷ []) (y ∷ [])
alone x y e = ap (λ (l : List ℕ). l ∷ []) e

pub behind : (b x y : List ℕ) → x ≡ y → ◌≡◌ {A = List (List ℕ)} (b ∷ x ∷ []) (b ∷ y ∷ [])
behind b x y e = ap (λ (l : List ℕ). b ∷ l ∷ []) e
