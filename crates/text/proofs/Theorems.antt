-- What the definitions of specs/ mean, once over all numbers.
--     decimal-spells      a decimal is digits that say its number, and none of several begins with 0 [E13]
--     spells-decimal      no other text does that [E13]
--     signed-says, says-signed     the same of an integer [Q6]
--     signed-one          so two integers with one text are one [Q6]
--     written_one         no second text and no second answer fits what is said of a written piece [P12]
-- That a number of 64 bits has at most 20 digits is `digits-fit` in Digits. Assumes nothing.
use mathlib.Core.List.{List, [], ◌∷◌, ◌++◌, append-nil}
use mathlib.Core.Path.{◌≡◌, refl, ◌∙◌, ap, ap₂, sym}
use Prim.Native.Nat.{ℕ, zero, suc, ◌+◌, ◌-◌, ◌*◌, ◌/◌, ◌%◌, ◌≤◌, ◌<◌}
use native.Mathlib.Decide.{dec_lt}
use native.Mathlib.Omega.{arith}
use lib.IntN.{ℤ, pos, negsuc}
use lib.ListN.{length, get_or, drop, get_or-append, length-append}
use lib.Seq.{get_or-append_seam, append_snoc}
use Rattle.text.specs.Decimal.{decimal, signed}
use Rattle.text.specs.Spells.{digits_value, Spells, Says}
use Rattle.text.specs.Written.{Written}
use Rattle.text.proofs.Digits.{decimal-one, decimal-more}

value-join : (v : ℕ) (d e : List ℕ) → digits_value v (d ++ e) ≡ digits_value (digits_value v d) e
unfolding digits_value
value-join v [] e = refl
value-join v (x ∷ d) e = value-join (10 * v + (x - 48)) d e

spells_one : (n : ℕ) → n < 10 → Spells n ((48 + n) ∷ [])
unfolding digits_value
spells_one n h = record { digits = each; value = omega arith; some = omega arith; first = λ l. absurd (omega arith) }
  where
    each : (k : ℕ) → k < 1 → (48 ≤ get_or ((48 + n) ∷ []) k 0) × (get_or ((48 + n) ∷ []) k 0 ≤ 57)
    each zero l = (omega arith, omega arith)
    each (suc k) l = absurd (omega arith)

-- what spells a number that is not 0 does not begin with 0
first_of : (n : ℕ) (d : List ℕ) → 1 ≤ n → Spells n d → 49 ≤ get_or d 0 0
unfolding digits_value
first_of n [] h q = absurd (omega (arith, q.some))
first_of n (x ∷ []) h q = omega (arith, q.value)
first_of n (x ∷ y ∷ d) h q = q.first (omega arith)

-- what spells the tenth, with the last digit after it
spells-more : (n : ℕ) (d : List ℕ) → 10 ≤ n → Spells (n / 10) d → Spells n (d ++ (48 + n % 10) ∷ [])
unfolding digits_value
spells-more n d h q =
    record {
      digits = each;
      value = value-join 0 d ((48 + n % 10) ∷ []) ∙ omega (arith, q.value);
      some = omega (arith, length-append d ((48 + n % 10) ∷ []));
      first = λ l. rw (get_or-append d ((48 + n % 10) ∷ []) 0 0 q.some) (first_of (n / 10) d (omega arith) q);
    }
  where
    each : (k : ℕ) → k < length (d ++ (48 + n % 10) ∷ [])
        → (48 ≤ get_or (d ++ (48 + n % 10) ∷ []) k 0) × (get_or (d ++ (48 + n % 10) ∷ []) k 0 ≤ 57)
    each k l =
        elim (dec_lt k (length d)) [
          | yes y ↦ rw (get_or-append d ((48 + n % 10) ∷ []) 0 k y) (q.digits k y)
          | no y ↦
              let e : k ≡ length d = omega (arith, length-append d ((48 + n % 10) ∷ [])) in
              rw (e, get_or-append_seam d (48 + n % 10) [] 0) (omega arith, omega arith)
        ]

-- by induction on a bound of n
spells-within : (j n : ℕ) → n < j → Spells n (decimal n)
spells-within zero n h = absurd (omega arith)
spells-within (suc j) n h =
    elim (dec_lt n 10) [
      | yes y ↦ rw (decimal-one n y) (spells_one n y)
      | no y ↦
          let l : 10 ≤ n = omega arith in
          rw (decimal-more n l) (spells-more n (decimal (n / 10)) l (spells-within j (n / 10) (omega arith)))
    ]

pub decimal-spells : (n : ℕ) → Spells n (decimal n)
decimal-spells n = spells-within (suc n) n (omega arith)

-- digits after a number that is not 0 go after its decimal
decimal-join : (v : ℕ) (d : List ℕ) → 1 ≤ v → ((k : ℕ) → k < length d → (48 ≤ get_or d k 0) × (get_or d k 0 ≤ 57))
    → decimal (digits_value v d) ≡ decimal v ++ d
unfolding digits_value
decimal-join v [] h q = sym (append-nil (decimal v))
decimal-join v (x ∷ d) h q =
    let e = q 0 (omega arith) in
    let w = 10 * v + (x - 48) in
    let tenth : w / 10 ≡ v = omega arith in
    let last : 48 + w % 10 ≡ x = omega arith in
    decimal-join w d (omega arith) (λ k l. q (suc k) (omega arith))
    ∙ ap (λ (l : List ℕ). l ++ d) (decimal-more w (omega arith) ∙ ap₂ (λ (a b : ℕ). decimal a ++ b ∷ []) tenth last)
    ∙ append_snoc (decimal v) x d

pub spells-decimal : (n : ℕ) (d : List ℕ) → Spells n d → d ≡ decimal n
unfolding digits_value
spells-decimal n [] q = absurd (omega (arith, q.some))
spells-decimal n (x ∷ []) q =
    let e = q.digits 0 (omega arith) in
    let digit : x ≡ 48 + n = omega (arith, q.value) in
    ap (λ (k : ℕ). k ∷ []) digit ∙ sym (decimal-one n (omega arith))
spells-decimal n (x ∷ y ∷ d) q =
    let e = q.digits 0 (omega arith) in
    let v = 10 * 0 + (x - 48) in
    let digit : 48 + v ≡ x = omega arith in
    sym (ap decimal (sym q.value)
    ∙ decimal-join v (y ∷ d) (omega (arith, q.first (omega arith))) (λ k l. q.digits (suc k) (omega arith))
    ∙ ap (λ (l : List ℕ). l ++ y ∷ d) (decimal-one v (omega arith) ∙ ap (λ (k : ℕ). k ∷ []) digit))

pub signed-says : (z : ℤ) → Says z (signed z)
signed-says (pos n) = decimal-spells n
signed-says (negsuc n) = (decimal (suc n), decimal-spells (suc n), refl)

pub says-signed : (z : ℤ) (d : List ℕ) → Says z d → d ≡ signed z
says-signed (pos n) d q = spells-decimal n d q
says-signed (negsuc n) d q = q.2 ∙ ap (λ (e : List ℕ). 45 ∷ e) (spells-decimal (suc n) q.0 q.1)

decimal-same : (m n : ℕ) → decimal m ≡ decimal n → m ≡ n
decimal-same m n e = sym (decimal-spells m).value ∙ ap (digits_value 0) e ∙ (decimal-spells n).value

-- digits have no - before them
no_sign : (n : ℕ) (d : List ℕ) → decimal n ≡ 45 ∷ d → ⊥
no_sign n d e =
    let q = decimal-spells n in
    let digit = q.digits 0 (omega (arith, q.some)) in
    omega (arith, digit.0, ap (λ (l : List ℕ). get_or l 0 0) e)

pub signed-one : (y z : ℤ) → signed y ≡ signed z → y ≡ z
signed-one (pos m) (pos n) e = ap pos (decimal-same m n e)
signed-one (pos m) (negsuc n) e = absurd (no_sign m _ e)
signed-one (negsuc m) (pos n) e = absurd (no_sign n _ (sym e))
signed-one (negsuc m) (negsuc n) e =
    ap negsuc (omega (arith, decimal-same (suc m) (suc n) (ap (drop 1) e)))

pub written_one : {at r q : ℕ} {p xs ys zs : List ℕ} → Written at p xs ys r → Written at p xs zs q → (ys ≡ zs) × (r ≡ q)
written_one w v = (w.text ∙ sym v.text, w.end ∙ sym v.end)
