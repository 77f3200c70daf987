-- Two lists of the same things, each once, are equally long.
--     fewer            a map of the numbers below n into those below m that sends no two to one needs n ≤ m
--     lists_length     so lists of all that P holds of, each once, have one length
-- Assumes nothing.
use mathlib.Core.List.{List, []}
use mathlib.Core.Path.{◌≡◌, refl, ◌∙◌, sym, ap, subst}
use Prim.Native.Nat.{ℕ, zero, suc, ◌≤◌, ◌<◌}
use native.Mathlib.Omega.{arith}
use native.Mathlib.Decide.{dec_lt, ℕ_discrete}
use lib.ListN.{length, get_or}
use Rattle.schedule.specs.Schedule.{Lists}

record Into (n m : ℕ) (f : ℕ → ℕ) : Type 0 where
  below : (i : ℕ) → i < n → f i < m
  apart : (i j : ℕ) → i < n → j < n → f i ≡ f j → i ≡ j

-- what becomes of the value at i once the largest value, m, makes way for the value at n
data Kept (f : ℕ → ℕ) (n m i x : ℕ) : Type 0 where
  moved : f i ≡ m → x ≡ f n → Kept f n m i x
  stayed : (f i ≡ m → ⊥) → x ≡ f i → Kept f n m i x

chosen : {A : Type 0} → Dec A → ℕ → ℕ → ℕ
chosen (yes a) x y = x
chosen (no a) x y = y

kept : (f : ℕ → ℕ) (n m i : ℕ) → Kept f n m i (chosen (ℕ_discrete (f i) m) (f n) (f i))
kept f n m i = by (ℕ_discrete (f i) m)
  where
    by : (d : Dec (f i ≡ m)) → Kept f n m i (chosen d (f n) (f i))
    by (yes e) = moved e (unfold chosen in refl)
    by (no e) = stayed e (unfold chosen in refl)

module _ (n m : ℕ) (f : ℕ → ℕ) (p : Into (suc n) (suc m) f) where
  not_last : (i : ℕ) → i < n → f i ≡ f n → ⊥
  not_last i h e = omega (arith, p.apart i n (omega arith) (omega arith) e)

  below-m : (i x : ℕ) → i < n → Kept f n m i x → x < m
  below-m i x h (moved e q) = elim (ℕ_discrete (f n) m) [
    | yes last ↦ absurd (not_last i h (e ∙ sym last))
    | no last ↦ omega (arith, p.below n (omega arith))
  ]
  below-m i x h (stayed e q) = omega (arith, p.below i (omega arith))

  apart-still : (i j x : ℕ) → i < n → j < n → Kept f n m i x → Kept f n m j x → i ≡ j
  apart-still i j x h k (moved e q) (moved d r) = p.apart i j (omega arith) (omega arith) (e ∙ sym d)
  apart-still i j x h k (moved e q) (stayed d r) = absurd (not_last j k (sym r ∙ q))
  apart-still i j x h k (stayed e q) (moved d r) = absurd (not_last i h (sym q ∙ r))
  apart-still i j x h k (stayed e q) (stayed d r) = p.apart i j (omega arith) (omega arith) (sym q ∙ r)

  narrowed : Into n m (λ i. chosen (ℕ_discrete (f i) m) (f n) (f i))
  narrowed =
      record {
        below = λ i h. below-m i _ h (kept f n m i);
        apart = λ i j h k e. apart-still i j _ h k (kept f n m i) (subst (Kept f n m j) (sym e) (kept f n m j));
      }

fewer : (n m : ℕ) (f : ℕ → ℕ) → Into n m f → n ≤ m
fewer zero m f p = omega arith
fewer (suc n) zero f p = absurd (omega (arith, p.below 0 (omega arith)))
fewer (suc n) (suc m) f p = omega (arith, fewer n m (λ i. chosen (ℕ_discrete (f i) m) (f n) (f i)) (narrowed n m f p))

module _ (P : List ℕ → Type 0) (l m : List (List ℕ)) (p : Lists P l) (q : Lists P m) where
  -- where m has what l has at i
  place : (i : ℕ) → Dec (i < length l) → ℕ
  place i (yes h) = (q.complete (get_or l i []) (p.sound i h)).0
  place i (no h) = 0

  placed : (i : ℕ) (d : Dec (i < length l)) → i < length l
      → (place i d < length m) × (get_or m (place i d) [] ≡ get_or l i [])
  unfolding place
  placed i (yes h) k = let found = q.complete (get_or l i []) (p.sound i h) in (found.1, found.2)
  placed i (no h) k = absurd (h k)

  lists-le : length l ≤ length m
  lists-le =
      fewer (length l) (length m) (λ i. place i (dec_lt i (length l)))
      (record {
        below = λ i h. (placed i (dec_lt i (length l)) h).0;
        apart = λ i j h k e.
            p.once i j h k
            (sym (placed i (dec_lt i (length l)) h).1
            ∙ ap (λ (x : ℕ). get_or m x []) e
            ∙ (placed j (dec_lt j (length l)) k).1);
      })

pub lists_length : (P : List ℕ → Type 0) (l m : List (List ℕ)) → Lists P l → Lists P m → length l ≡ length m
lists_length P l m p q = omega (arith, lists-le P l m p q, lists-le P m l q p)
