-- Lists of all that P holds of, each once, by membership; and the part of such a list that a test keeps.
--     Distinct                    no member stands twice
--     distinct-lists              distinct members that are all that P holds of are a list of all, each once
--     keep f l, tally f l         the members of l that pass the test f, and how many they are
--     keep-mem, mem-keep, keep-distinct     what is kept
-- Assumes nothing.
use mathlib.Core.Bool.{Bool, true, false, cond}
use mathlib.Core.List.Memᴰ
use mathlib.Core.List.{
  List,
  [],
  ◌∷◌,
  Memᴰ,
}
use mathlib.Core.Logic.{⊎_elim}
use mathlib.Core.Path.{◌≡◌, refl, ◌∙◌, ap, sym, subst}
use Prim.Native.Nat.{ℕ, zero, suc, ◌+◌, ◌<◌}
use native.Mathlib.Omega.{arith}
use lib.ListN.{length, get_or}
use Rattle.schedule.specs.Schedule.{Lists}

pub data Distinct : List (List ℕ) → Type 0 where
  nothing : Distinct []
  more : {x : List ℕ} {l : List (List ℕ)} → (Memᴰ x l → ⊥) → Distinct l → Distinct (x ∷ l)

-- a member has a place, and what stands at a place is a member
mem-place : {x : List ℕ} (l : List (List ℕ)) → Memᴰ x l → (i : ℕ) × (i < length l) × (get_or l i [] ≡ x)
mem-place [] m = absurd (Memᴰ.not-nil m)
mem-place {x} (y ∷ l) m =
    ⊎_elim (λ e. (0, omega arith, sym e)) (λ later. next (mem-place l later)) (Memᴰ.cases_cons m)
  where
    next : (i : ℕ) × (i < length l) × (get_or l i [] ≡ x) → (i : ℕ) × (i < suc (length l)) × (get_or (y ∷ l) i [] ≡ x)
    next found = (suc found.0, omega (arith, found.1), found.2)

place-mem : (l : List (List ℕ)) (i : ℕ) → i < length l → Memᴰ (get_or l i []) l
place-mem [] i h = absurd (omega arith)
place-mem (y ∷ l) zero h = Memᴰ.head refl
place-mem (y ∷ l) (suc i) h = Memᴰ.tail (place-mem l i (omega arith))

mem-as : {x y : List ℕ} {l : List (List ℕ)} → x ≡ y → Memᴰ y l → Memᴰ x l
mem-as {l = l} e m = subst (λ (z : List ℕ). Memᴰ z l) (sym e) m

distinct-once : {l : List (List ℕ)} → Distinct l → (i j : ℕ) → i < length l → j < length l
    → get_or l i [] ≡ get_or l j []
    → i ≡ j
distinct-once nothing i j h k e = absurd (omega arith)
distinct-once (more n d) zero zero h k e = refl
distinct-once (more {l = l} n d) zero (suc j) h k e = absurd (n (mem-as e (place-mem l j (omega arith))))
distinct-once (more {l = l} n d) (suc i) zero h k e = absurd (n (mem-as (sym e) (place-mem l i (omega arith))))
distinct-once (more n d) (suc i) (suc j) h k e = ap suc (distinct-once d i j (omega arith) (omega arith) e)

module _ (P : List ℕ → Type 0) where
  pub distinct-lists : (l : List (List ℕ)) → Distinct l → ((x : List ℕ) → Memᴰ x l → P x)
      → ((x : List ℕ) → P x → Memᴰ x l) → Lists P l
  distinct-lists l d f g =
      record {
        sound = λ i h. f (get_or l i []) (place-mem l i h);
        complete = λ x p. mem-place l (g x p);
        once = distinct-once d;
      }

unfoldable pub keep : (List ℕ → Bool) → List (List ℕ) → List (List ℕ)
keep f [] = []
keep f (x ∷ l) = cond (f x) (x ∷ keep f l) (keep f l)

unfoldable pub tally : (List ℕ → Bool) → List (List ℕ) → ℕ
tally f [] = 0
tally f (x ∷ l) = tally f l + cond (f x) 1 0

pub keep-length : (f : List ℕ → Bool) (l : List (List ℕ)) → length (keep f l) ≡ tally f l
unfolding keep tally
keep-length f [] = refl
keep-length f (x ∷ l) = by (f x) (keep-length f l)
  where
    by : (q : Bool) → length (keep f l) ≡ tally f l → length (cond q (x ∷ keep f l) (keep f l)) ≡ tally f l + cond q 1 0
    by true e = omega arith
    by false e = omega arith

module _ (f : List ℕ → Bool) where
  pub keep-mem : (l : List (List ℕ)) (x : List ℕ) → Memᴰ x (keep f l) → Memᴰ x l × (f x ≡ true)
  unfolding keep
  keep-mem [] x m = absurd (Memᴰ.not-nil m)
  keep-mem (y ∷ l) x m = by (f y) refl m (keep-mem l x)
    where
      by : (q : Bool) → f y ≡ q → Memᴰ x (cond q (y ∷ keep f l) (keep f l))
          → (Memᴰ x (keep f l) → Memᴰ x l × (f x ≡ true)) → Memᴰ x (y ∷ l) × (f x ≡ true)
      by true e m below =
          ⊎_elim (λ here. (Memᴰ.head here, ap f here ∙ e))
          (λ later. (Memᴰ.tail (below later).0, (below later).1)) (Memᴰ.cases_cons m)
      by false e m below = (Memᴰ.tail (below m).0, (below m).1)

  pub mem-keep : (l : List (List ℕ)) (x : List ℕ) → Memᴰ x l → f x ≡ true → Memᴰ x (keep f l)
  unfolding keep
  mem-keep [] x m e = absurd (Memᴰ.not-nil m)
  mem-keep (y ∷ l) x m e =
      ⊎_elim (λ here. first here) (λ later. after (f y) (mem-keep l x later e)) (Memᴰ.cases_cons m)
    where
      first : x ≡ y → Memᴰ x (cond (f y) (y ∷ keep f l) (keep f l))
      first here = rw (ap f (sym here) ∙ e) (Memᴰ.head here)

      after : (q : Bool) → Memᴰ x (keep f l) → Memᴰ x (cond q (y ∷ keep f l) (keep f l))
      after true m = Memᴰ.tail m
      after false m = m

  pub keep-distinct : {l : List (List ℕ)} → Distinct l → Distinct (keep f l)
  unfolding keep
  keep-distinct nothing = nothing
  keep-distinct (more {x = x} {l = l} n d) = by (f x) (keep-distinct d)
    where
      by : (q : Bool) → Distinct (keep f l) → Distinct (cond q (x ∷ keep f l) (keep f l))
      by true e = more (λ m. n (keep-mem l x m).0) e
      by false e = e
