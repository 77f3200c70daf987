-- A list of beats as ones, then zeros, then a 1 and the rest.
--     View, view                  a list that plays is ones and zeros, or has a 1 after its first zeros
--     plays-shape, shape-plays    whether such a list plays, by how many ones and zeros it starts with
--     shape-.., get-..            counts, lengths and beats by the shape
--     turn-ups, turn-downs        the shape of the list written last beat first
-- Assumes nothing.
use mathlib.Core.Bool.{Bool, true, false, false≢true}
use mathlib.Core.List.{List, [], ◌∷◌, ◌++◌, reverse_aux}
use mathlib.Core.Path.{◌≡◌, refl, ◌∙◌, ap, sym}
use Prim.Native.Nat.{ℕ, zero, suc, ◌+◌, ◌<◌}
use native.Mathlib.Nat.{zero-add, suc-add}
use native.Mathlib.Omega.{arith}
use lib.ListN.{length, get_or}
use Rattle.schedule.specs.Schedule.{ones, zeros}
use Rattle.schedule.proofs.Hand.{plays}
use Rattle.circle.specs.Step.{top}
pub use Rattle.circle.specs.Found.{ups, downs}

pub data View : List ℕ → Type 0 where
  none : (p q : ℕ) → View (ups p (downs q []))
  some : (p q : ℕ) (z : List ℕ) → View (ups p (downs (suc q) (1 ∷ z)))

after_one : {b : List ℕ} → View b → View (1 ∷ b)
after_one (none p q) = none (suc p) q
after_one (some p q z) = some (suc p) q z

after-zero : {b : List ℕ} → View b → View (0 ∷ b)
after-zero (none zero q) = none zero (suc q)
after-zero (none (suc p) q) = some zero zero (ups p (downs q []))
after-zero (some zero q z) = some zero (suc q) z
after-zero (some (suc p) q z) = some zero zero (ups p (downs (suc q) (1 ∷ z)))

pub view : (h : ℕ) (b : List ℕ) → plays h b ≡ true → View b
unfolding plays
view h [] o = none 0 0
view zero (zero ∷ b) o = absurd (false≢true o)
view (suc h) (zero ∷ b) o = after-zero (view h b o)
view h (suc zero ∷ b) o = after_one (view (suc h) b o)
view h (suc (suc x) ∷ b) o = absurd (false≢true o)

plays-ups : (p h : ℕ) (c : List ℕ) → plays h (ups p c) ≡ plays (p + h) c
unfolding plays
plays-ups zero h c = ap (λ (k : ℕ). plays k c) (sym (zero-add h))
plays-ups (suc p) h c = plays-ups p (suc h) c ∙ ap (λ (k : ℕ). plays k c) (omega arith)

plays-downs : (q h : ℕ) (c : List ℕ) → plays h (downs q c) ≡ true → (k : ℕ) × (h ≡ q + k) × (plays k c ≡ true)
unfolding plays
plays-downs zero h c o = (h, sym (zero-add h), o)
plays-downs (suc q) zero c o = absurd (false≢true o)
plays-downs (suc q) (suc h) c o = let r = plays-downs q h c o in (r.0, omega (arith, r.1), r.2)

downs-plays : (q h : ℕ) (c : List ℕ) → plays (q + h) (downs q c) ≡ plays h c
unfolding plays
downs-plays zero h c = ap (λ (k : ℕ). plays k c) (zero-add h)
downs-plays (suc q) h c = ap (λ (k : ℕ). plays k (downs (suc q) c)) (suc-add q h) ∙ downs-plays q h c

-- with k in hand after them the rest plays
pub plays-shape : (p q : ℕ) (c : List ℕ) → plays 0 (ups p (downs q c)) ≡ true
    → (k : ℕ) × (p ≡ q + k) × (plays k c ≡ true)
plays-shape p q c o =
    let r = plays-downs q (p + 0) c (sym (plays-ups p 0 (downs q c)) ∙ o) in
    (r.0, omega (arith, r.1), r.2)

pub shape-plays : (p q k : ℕ) (c : List ℕ) → p ≡ q + k → plays 0 (ups p (downs q c)) ≡ plays k c
shape-plays p q k c e =
    plays-ups p 0 (downs q c) ∙ ap (λ (h : ℕ). plays h (downs q c)) (omega arith) ∙ downs-plays q k c

pub shape-short : (p q : ℕ) (c : List ℕ) → p < q → plays 0 (ups p (downs q c)) ≡ false
shape-short p q c h = by (plays 0 (ups p (downs q c))) refl
  where
    by : (t : Bool) → plays 0 (ups p (downs q c)) ≡ t → plays 0 (ups p (downs q c)) ≡ false
    by true e = absurd (omega (arith, (plays-shape p q c e).1))
    by false e = e

-- counts, lengths and beats, by the shape
ones-ups : (p : ℕ) (c : List ℕ) → ones (ups p c) ≡ p + ones c
unfolding ones
ones-ups zero c = omega arith
ones-ups (suc p) c = omega (arith, ones-ups p c)

zeros-ups : (p : ℕ) (c : List ℕ) → zeros (ups p c) ≡ zeros c
unfolding zeros
zeros-ups zero c = refl
zeros-ups (suc p) c = zeros-ups p c

ones-downs : (q : ℕ) (c : List ℕ) → ones (downs q c) ≡ ones c
unfolding ones
ones-downs zero c = refl
ones-downs (suc q) c = ones-downs q c

zeros-downs : (q : ℕ) (c : List ℕ) → zeros (downs q c) ≡ q + zeros c
unfolding zeros
zeros-downs zero c = omega arith
zeros-downs (suc q) c = omega (arith, zeros-downs q c)

length-ups : (p : ℕ) (c : List ℕ) → length (ups p c) ≡ p + length c
length-ups zero c = omega arith
length-ups (suc p) c = omega (arith, length-ups p c)

length-downs : (q : ℕ) (c : List ℕ) → length (downs q c) ≡ q + length c
length-downs zero c = omega arith
length-downs (suc q) c = omega (arith, length-downs q c)

pub get-ups : (p i k : ℕ) (c : List ℕ) → k ≡ p + i → get_or (ups p c) k 0 ≡ get_or c i 0
get-ups zero i k c e = ap (λ (j : ℕ). get_or c j 0) (omega arith)
get-ups (suc p) i zero c e = absurd (omega arith)
get-ups (suc p) i (suc k) c e = get-ups p i k c (omega arith)

pub get-downs : (q i k : ℕ) (c : List ℕ) → k ≡ q + i → get_or (downs q c) k 0 ≡ get_or c i 0
get-downs zero i k c e = ap (λ (j : ℕ). get_or c j 0) (omega arith)
get-downs (suc q) i zero c e = absurd (omega arith)
get-downs (suc q) i (suc k) c e = get-downs q i k c (omega arith)

pub get-up : (p k : ℕ) (c : List ℕ) → k < p → get_or (ups p c) k 0 ≡ 1
get-up zero k c h = absurd (omega arith)
get-up (suc p) zero c h = refl
get-up (suc p) (suc k) c h = get-up p k c (omega arith)

pub get-down : (q k : ℕ) (c : List ℕ) → k < q → get_or (downs q c) k 0 ≡ 0
get-down zero k c h = absurd (omega arith)
get-down (suc q) zero c h = refl
get-down (suc q) (suc k) c h = get-down q k c (omega arith)

module _ (p q : ℕ) (c : List ℕ) where
  pub shape-ones : ones (ups p (downs q c)) ≡ p + ones c
  shape-ones = ones-ups p (downs q c) ∙ ap (λ (k : ℕ). p + k) (ones-downs q c)

  pub shape-zeros : zeros (ups p (downs q c)) ≡ q + zeros c
  shape-zeros = zeros-ups p (downs q c) ∙ zeros-downs q c

  pub shape-length : length (ups p (downs q c)) ≡ p + q + length c
  shape-length = omega (arith, length-ups p (downs q c), length-downs q c)

-- ones and zeros joined to what follows
ups-join : (p : ℕ) (c d : List ℕ) → ups p c ++ d ≡ ups p (c ++ d)
ups-join zero c d = refl
ups-join (suc p) c d = ap (λ (l : List ℕ). 1 ∷ l) (ups-join p c d)

downs-join : (q : ℕ) (c d : List ℕ) → downs q c ++ d ≡ downs q (c ++ d)
downs-join zero c d = refl
downs-join (suc q) c d = ap (λ (l : List ℕ). 0 ∷ l) (downs-join q c d)

pub shape-append : (p q : ℕ) (c d : List ℕ) → ups p (downs q c) ++ d ≡ ups p (downs q (c ++ d))
shape-append p q c d = ups-join p (downs q c) d ∙ ap (ups p) (downs-join q c d)

pub shape-join : (p q : ℕ) (c : List ℕ) → ups p (downs q []) ++ c ≡ ups p (downs q c)
shape-join p q c = shape-append p q [] c

-- one more at the end of the ones or of the zeros
pub ups-snoc : (p : ℕ) (c : List ℕ) → ups p (1 ∷ c) ≡ 1 ∷ ups p c
ups-snoc zero c = refl
ups-snoc (suc p) c = ap (λ (l : List ℕ). 1 ∷ l) (ups-snoc p c)

pub downs-snoc : (q : ℕ) (c : List ℕ) → downs q (0 ∷ c) ≡ 0 ∷ downs q c
downs-snoc zero c = refl
downs-snoc (suc q) c = ap (λ (l : List ℕ). 0 ∷ l) (downs-snoc q c)

pub turn-ups : (p : ℕ) (c r : List ℕ) → reverse_aux (ups p c) r ≡ reverse_aux c (ups p r)
turn-ups zero c r = refl
turn-ups (suc p) c r = turn-ups p c (1 ∷ r) ∙ ap (λ (l : List ℕ). reverse_aux c l) (ups-snoc p r)

pub turn-downs : (q : ℕ) (c r : List ℕ) → reverse_aux (downs q c) r ≡ reverse_aux c (downs q r)
turn-downs zero c r = refl
turn-downs (suc q) c r = turn-downs q c (0 ∷ r) ∙ ap (λ (l : List ℕ). reverse_aux c l) (downs-snoc q r)

-- t ones and then s zeros
pub top-shape : (t s : ℕ) → top t s ≡ ups t (downs s [])
top-shape zero zero = refl
top-shape zero (suc s) = ap (λ (l : List ℕ). 0 ∷ l) (top-shape zero s)
top-shape (suc t) s = ap (λ (l : List ℕ). 1 ∷ l) (top-shape t s)
