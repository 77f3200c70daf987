-- The places at which two lists differ, in general and by the shape of a step.
--     differing-self                a list differs from itself nowhere
--     differing-swap, differing-turn, differing-dip     what a step changes, by the shape
-- Assumes nothing.
use mathlib.Core.List.{List, [], ◌∷◌}
use mathlib.Core.Path.{◌≡◌, refl, ◌∙◌, ap, sym}
use Prim.Native.Nat.{ℕ, zero, suc, ◌+◌}
use native.Mathlib.Omega.{arith}
use borrow.Author.Tests.{eq-eqb}
use Rattle.circle.proofs.Shape.{ups, downs, ups-snoc, downs-snoc}
use Rattle.reason.specs.Explanation.{differing_from, differing}

differing-same : (k x : ℕ) (b c : List ℕ) → differing_from k (x ∷ b) (x ∷ c) ≡ differing_from (suc k) b c
unfolding differing_from
differing-same k x b c = simp (eq-eqb x x refl)

self-from : (k : ℕ) (b : List ℕ) → differing_from k b b ≡ []
unfolding differing_from
self-from k [] = refl
self-from k (x ∷ b) = differing-same k x b b ∙ self-from (suc k) b

pub differing-self : (b : List ℕ) → differing b b ≡ []
differing-self b = self-from 0 b

-- a common front is passed over
past-ups : (p k i : ℕ) (c d : List ℕ) → i ≡ k + p → differing_from k (ups p c) (ups p d) ≡ differing_from i c d
past-ups zero k i c d e = ap (λ (j : ℕ). differing_from j c d) (omega arith)
past-ups (suc p) k i c d e = differing-same k 1 (ups p c) (ups p d) ∙ past-ups p (suc k) i c d (omega arith)

past-downs : (q k i : ℕ) (c d : List ℕ) → i ≡ k + q → differing_from k (downs q c) (downs q d) ≡ differing_from i c d
past-downs zero k i c d e = ap (λ (j : ℕ). differing_from j c d) (omega arith)
past-downs (suc q) k i c d e = differing-same k 0 (downs q c) (downs q d) ∙ past-downs q (suc k) i c d (omega arith)

-- a 1 and a 0 at the front
one-zero : (k : ℕ) (c d : List ℕ) → differing_from k (1 ∷ c) (0 ∷ d) ≡ k ∷ differing_from (suc k) c d
unfolding differing_from
one-zero k c d = refl

zero_one : (k : ℕ) (c d : List ℕ) → differing_from k (0 ∷ c) (1 ∷ d) ≡ k ∷ differing_from (suc k) c d
unfolding differing_from
zero_one k c d = refl

-- the 0 at k becomes 1, and after q zeros more something else happens
lifted : (q k i : ℕ) (c d : List ℕ) → i ≡ suc k + q
    → differing_from k (downs (suc q) c) (1 ∷ downs q d) ≡ k ∷ differing_from i c d
lifted q k i c d e = zero_one k (downs q c) (downs q d) ∙ ap (λ (l : List ℕ). k ∷ l) (past-downs q (suc k) i c d e)

swap-from : (p q k y x : ℕ) (z : List ℕ) → y ≡ k + p → x ≡ y + suc q
    → differing_from k (ups p (downs (suc q) (1 ∷ z))) (ups (suc p) (downs (suc q) z)) ≡ y ∷ x ∷ []
swap-from p q k y x z ey ex =
    ap (differing_from k (ups p (downs (suc q) (1 ∷ z)))) (sym (ups-snoc p (downs (suc q) z)))
    ∙ past-ups p k y (downs (suc q) (1 ∷ z)) (1 ∷ downs (suc q) z) ey
    ∙ ap (λ (l : List ℕ). differing_from y (downs (suc q) (1 ∷ z)) (1 ∷ l)) (sym (downs-snoc q z))
    ∙ lifted q y x (1 ∷ z) (0 ∷ z) (omega arith)
    ∙ ap (λ (l : List ℕ). y ∷ l) (one-zero x z z ∙ ap (λ (l : List ℕ). x ∷ l) (self-from (suc x) z))

pub differing-swap : (p q y x : ℕ) (z : List ℕ) → y ≡ p → x ≡ p + suc q
    → differing (ups p (downs (suc q) (1 ∷ z))) (ups (suc p) (downs (suc q) z)) ≡ y ∷ x ∷ []
differing-swap p q y x z ey ex = swap-from p q 0 y x z (omega arith) (omega arith)

-- the second beat of a list that begins with two ones becomes 0
second : (b c : List ℕ) → differing (1 ∷ 1 ∷ b) (1 ∷ 0 ∷ c) ≡ 1 ∷ differing_from 2 b c
second b c = differing-same 0 1 (1 ∷ b) (0 ∷ c) ∙ one-zero 1 b c

pub differing-turn : (p q y : ℕ) → y ≡ suc (suc p)
    → differing (ups (suc (suc p)) (downs (suc q) [])) (1 ∷ 0 ∷ ups (suc p) (downs q [])) ≡ 1 ∷ y ∷ []
differing-turn p q y ey =
    second (ups p (downs (suc q) [])) (ups (suc p) (downs q []))
    ∙ ap (λ (l : List ℕ). 1 ∷ l)
    (ap (differing_from 2 (ups p (downs (suc q) []))) (sym (ups-snoc p (downs q [])))
    ∙ past-ups p 2 y (downs (suc q) []) (1 ∷ downs q []) (omega arith)
    ∙ lifted q y (suc y + q) [] [] refl
    ∙ ap (λ (l : List ℕ). y ∷ l) (self-from (suc y + q) []))

pub differing-dip : (p q y x : ℕ) (a : List ℕ) → y ≡ suc (suc p) → x ≡ suc (suc p) + suc q
    → differing (ups (suc (suc p)) (downs (suc q) (1 ∷ 0 ∷ a))) (1 ∷ 0 ∷ ups (suc p) (downs (suc q) (1 ∷ a)))
    ≡ 1 ∷ y ∷ x ∷ suc x ∷ []
differing-dip p q y x a ey ex =
    second (ups p (downs (suc q) (1 ∷ 0 ∷ a))) (ups (suc p) (downs (suc q) (1 ∷ a)))
    ∙ ap (λ (l : List ℕ). 1 ∷ l)
    (ap (differing_from 2 (ups p (downs (suc q) (1 ∷ 0 ∷ a)))) (sym (ups-snoc p (downs (suc q) (1 ∷ a))))
    ∙ past-ups p 2 y (downs (suc q) (1 ∷ 0 ∷ a)) (1 ∷ downs (suc q) (1 ∷ a)) (omega arith)
    ∙ ap (λ (l : List ℕ). differing_from y (downs (suc q) (1 ∷ 0 ∷ a)) (1 ∷ l)) (sym (downs-snoc q (1 ∷ a)))
    ∙ lifted q y x (1 ∷ 0 ∷ a) (0 ∷ 1 ∷ a) (omega arith)
    ∙ ap (λ (l : List ℕ). y ∷ l)
    (one-zero x (0 ∷ a) (1 ∷ a)
    ∙ ap (λ (l : List ℕ). x ∷ l)
    (zero_one (suc x) a a ∙ ap (λ (l : List ℕ). suc x ∷ l) (self-from (suc (suc x)) a))))
