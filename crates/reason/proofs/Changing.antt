-- The places at which two lists differ: how many, which, and that changing them leads from one list to the other.
--     differing-changed     there are as many as beats that changed
--     differing-changes     they are exactly the places that differ, ascending
--     changes-one           no other list of places is
--     changing-differing    changing the beats there, and no other, makes the one list of the other
-- Assumes nothing.
use mathlib.Core.Bool.{Bool, true, false, cond}
use mathlib.Core.List.{List, [], ◌∷◌, map}
use mathlib.Core.Logic.{◌≢◌, inl, inr, ⊎_elim, ◌↔◌}
use mathlib.Core.Path.{◌≡◌, refl, ◌∙◌, ap, ap₂, sym, subst}
use Prim.Native.Nat.{ℕ, zero, suc, ◌+◌, ◌-◌, ◌≤◌, ◌<◌}
use native.Mathlib.Decide.{ℕ_discrete}
use native.Mathlib.Omega.{arith}
use borrow.Author.Tests.{eq-eqb, ne_eqb}
use lib.Dec.{eqb}
use lib.ListN.{length, get_or, set}
use Rattle.circle.specs.Walk.{changed}
use Rattle.reason.specs.Explanation.{differing_from, differing}
use Rattle.reason.specs.Meaning.{Among, Ascending, Changes, changing}

-- how many there are
length_from : (k : ℕ) (b c : List ℕ) → length (differing_from k b c) ≡ changed b c
unfolding differing_from changed
length_from k [] c = refl
length_from k (x ∷ b) [] = refl
length_from k (x ∷ b) (y ∷ c) = by (eqb x y) (length_from (suc k) b c)
  where
    by : (t : Bool) → length (differing_from (suc k) b c) ≡ changed b c
        → length (cond t (differing_from (suc k) b c) (k ∷ differing_from (suc k) b c)) ≡ cond t 0 1 + changed b c
    by true e = omega arith
    by false e = omega arith

pub differing-changed : (b c : List ℕ) → length (differing b c) ≡ changed b c
differing-changed b c = length_from 0 b c

-- counted from one place later, each is one more
later : (k : ℕ) (b c : List ℕ) → differing_from (suc k) b c ≡ map suc (differing_from k b c)
unfolding differing_from
later k [] c = refl
later k (x ∷ b) [] = refl
later k (x ∷ b) (y ∷ c) = by (eqb x y) (later (suc k) b c)
  where
    by : (t : Bool) → differing_from (suc (suc k)) b c ≡ map suc (differing_from (suc k) b c)
        → cond t (differing_from (suc (suc k)) b c) (suc k ∷ differing_from (suc (suc k)) b c)
        ≡ map suc (cond t (differing_from (suc k) b c) (k ∷ differing_from (suc k) b c))
    by true e = e
    by false e = ap (λ (l : List ℕ). suc k ∷ l) e

-- the places of two lists, by whether their first beats differ
module _ (x y : ℕ) (b c : List ℕ) where
  at_same : x ≡ y → differing (x ∷ b) (y ∷ c) ≡ map suc (differing b c)
  unfolding differing_from
  at_same e = simp (eq-eqb x y e) (later 0 b c)

  at_other : x ≢ y → differing (x ∷ b) (y ∷ c) ≡ 0 ∷ map suc (differing b c)
  unfolding differing_from
  at_other n = simp (ne_eqb x y n) (ap (λ (l : List ℕ). 0 ∷ l) (later 0 b c))

-- they ascend
weaker : (k : ℕ) (l : List ℕ) → Ascending (suc k) l → Ascending k l
weaker k [] h = tt
weaker k (x ∷ l) h = (omega (arith, h.0), h.1)

ascends : (k : ℕ) (b c : List ℕ) → Ascending k (differing_from k b c)
unfolding differing_from
ascends k [] c = tt
ascends k (x ∷ b) [] = tt
ascends k (x ∷ b) (y ∷ c) = by (eqb x y) (ascends (suc k) b c)
  where
    by : (t : Bool) → Ascending (suc k) (differing_from (suc k) b c)
        → Ascending k (cond t (differing_from (suc k) b c) (k ∷ differing_from (suc k) b c))
    by true h = weaker k (differing_from (suc k) b c) h
    by false h = (omega arith, h)

-- they are the places that differ
among-suc : (l : List ℕ) (k : ℕ) → Among (map suc l) (suc k) ↔ Among l k
among-suc [] k = (λ a. a, λ a. a)
among-suc (x ∷ l) k = (
  ⊎_elim (λ (e : suc k ≡ suc x). inl (omega arith)) (λ (a : Among (map suc l) (suc k)). inr ((among-suc l k).0 a)),
  ⊎_elim (λ (e : k ≡ x). inl (ap suc e)) (λ (a : Among l k). inr ((among-suc l k).1 a)),
)

no_zero : (l : List ℕ) → Among (map suc l) 0 → ⊥
no_zero [] a = a
no_zero (x ∷ l) a = ⊎_elim (λ (e : 0 ≡ suc x). omega arith) (no_zero l) a

-- k is among the places l exactly if b and c differ there
abbrev Fits : List ℕ → List ℕ → ℕ → List ℕ → Type 0
Fits b c k l = Among l k ↔ ((k < length b) × (get_or b k 0 ≢ get_or c k 0))

module _ (x y : ℕ) (b c : List ℕ) (rest : (k : ℕ) → Fits b c k (differing b c)) where
  differs-behind : (k : ℕ) → Fits (x ∷ b) (y ∷ c) (suc k) (map suc (differing b c))
  differs-behind k = (
    λ a. let p = (rest k).0 ((among-suc (differing b c) k).0 a) in (omega (arith, p.0), p.1),
    λ p. (among-suc (differing b c) k).1 ((rest k).1 (omega (arith, p.0), p.1)),
  )

  after_same : x ≡ y → (k : ℕ) → Fits (x ∷ b) (y ∷ c) k (map suc (differing b c))
  after_same e zero = (λ a. absurd (no_zero (differing b c) a), λ p. absurd (p.1 e))
  after_same e (suc k) = differs-behind k

  after-other : x ≢ y → (k : ℕ) → Fits (x ∷ b) (y ∷ c) k (0 ∷ map suc (differing b c))
  after-other m zero = (λ a. (omega arith, m), λ p. inl refl)
  after-other m (suc k) = (
    ⊎_elim (λ (e : suc k ≡ 0). absurd (omega arith)) (differs-behind k).0,
    λ p. inr ((differs-behind k).1 p),
  )

differs_at : (b c : List ℕ) → length b ≡ length c → (k : ℕ) → Fits b c k (differing b c)
unfolding differing_from
differs_at [] c n k = (λ a. absurd a, λ p. omega (arith, p.0))
differs_at (x ∷ b) [] n k = absurd (omega arith)
differs_at (x ∷ b) (y ∷ c) n k =
    let rest = differs_at b c (omega arith) in
    elim (ℕ_discrete x y) [
      | yes e ↦ subst (Fits (x ∷ b) (y ∷ c) k) (sym (at_same x y b c e)) (after_same x y b c rest e k)
      | no m ↦ subst (Fits (x ∷ b) (y ∷ c) k) (sym (at_other x y b c m)) (after-other x y b c rest m k)
    ]

pub differing-changes : (b c : List ℕ) → length b ≡ length c → Changes b c (differing b c)
differing-changes b c n = record { ascending = ascends 0 b c; just = differs_at b c n }

-- ascending lists of the same places are one
low : (k : ℕ) (l : List ℕ) → Ascending k l → (j : ℕ) → Among l j → k ≤ j
low k [] h j a = absurd a
low k (x ∷ l) h j a =
    ⊎_elim (λ (e : j ≡ x). omega (arith, h.0)) (λ (b : Among l j). omega (arith, h.0, low (suc x) l h.1 j b)) a

one_list : (k : ℕ) (l m : List ℕ) → Ascending k l → Ascending k m → ((j : ℕ) → Among l j ↔ Among m j) → l ≡ m
one_list k [] [] h g same = refl
one_list k [] (y ∷ m) h g same = absurd ((same y).1 (inl refl))
one_list k (x ∷ l) [] h g same = absurd ((same x).0 (inl refl))
one_list k (x ∷ l) (y ∷ m) h g same = ap₂ ◌∷◌ first (one_list (suc x) l m h.1 after tails)
  where
    first : x ≡ y
    first =
        let up = ⊎_elim (λ (e : x ≡ y). let q : y ≤ x = omega arith in q)
        (λ (a : Among m x). let q : y ≤ x = omega (arith, low (suc y) m g.1 x a) in q) ((same x).0 (inl refl)) in
        let down = ⊎_elim (λ (e : y ≡ x). let q : x ≤ y = omega arith in q)
        (λ (a : Among l y). let q : x ≤ y = omega (arith, low (suc x) l h.1 y a) in q) ((same y).1 (inl refl)) in
        omega (arith, up, down)

    after : Ascending (suc x) m
    after = subst (λ (j : ℕ). Ascending (suc j) m) (sym first) g.1

    tails : (j : ℕ) → Among l j ↔ Among m j
    tails j = (
      λ a. ⊎_elim (λ (e : j ≡ y). absurd (omega (arith, e, first, low (suc x) l h.1 j a))) (λ b. b)
          ((same j).0 (inr a)),
      λ a. ⊎_elim (λ (e : j ≡ x). absurd (omega (arith, e, low (suc x) m after j a))) (λ b. b)
          ((same j).1 (inr a)),
    )

pub changes-one : {b c l m : List ℕ} → Changes b c l → Changes b c m → l ≡ m
changes-one {b} {c} {l} {m} p q =
    one_list 0 l m p.ascending q.ascending
    (λ j. (λ a. (q.just j).1 ((p.just j).0 a), λ a. (p.just j).1 ((q.just j).0 a)))

-- changing the beats there
changing-under : (l : List ℕ) (x : ℕ) (b : List ℕ) → changing (map suc l) (x ∷ b) ≡ x ∷ changing l b
unfolding changing
changing-under [] x b = refl
changing-under (k ∷ l) x b = changing-under l x (set b k (1 - get_or b k 0))

changed-under : (z : ℕ) (b c : List ℕ) → changing (differing b c) b ≡ c
    → changing (map suc (differing b c)) (z ∷ b) ≡ z ∷ c
changed-under z b c e = changing-under (differing b c) z b ∙ ap (λ (l : List ℕ). z ∷ l) e

pub changing-differing : (b c : List ℕ) → length b ≡ length c → ((k : ℕ) → k < length b → get_or b k 0 ≤ 1)
    → ((k : ℕ) → k < length c → get_or c k 0 ≤ 1) → changing (differing b c) b ≡ c
unfolding changing differing_from
changing-differing [] [] n f g = refl
changing-differing [] (y ∷ c) n f g = absurd (omega arith)
changing-differing (x ∷ b) [] n f g = absurd (omega arith)
changing-differing (x ∷ b) (y ∷ c) n f g =
    let rest = changing-differing b c (omega arith) (λ k l. f (suc k) (omega arith)) (λ k l. g (suc k) (omega arith)) in
    elim (ℕ_discrete x y) [
      | yes e ↦
          ap (λ (l : List ℕ). changing l (x ∷ b)) (at_same x y b c e)
          ∙ changed-under x b c rest
          ∙ ap (λ (z : ℕ). z ∷ c) e
      | no m ↦
          let turned : 1 - x ≡ y = omega (arith, m, f 0 (omega arith), g 0 (omega arith)) in
          ap (λ (l : List ℕ). changing l (x ∷ b)) (at_other x y b c m)
          ∙ changed-under (1 - x) b c rest
          ∙ ap (λ (z : ℕ). z ∷ c) turned
    ]
