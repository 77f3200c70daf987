-- The decimal of a number, by its last digit, and how many digits it has.
--     decimal-one, decimal-more     the decimal of a number below ten; of another, that of the tenth and the last digit
--     length_more                   that is one digit more
--     digits-some                   it has a digit
--     digits_above, digits-below    from 10^k on it has more than k digits, and below 10^k at most k
--     digits-fit                    a number of 64 bits has at most 20 digits, since 2^64 < 10^20
--     Counting                      the digits of n are counted by the powers of ten up to n
--     counting-one, counting_more   the count begins; one digit more
--     counting-all, counting-most   n is below the power; n has 20 digits
--     power-fits                    a power before the last can be raised
-- Assumes nothing.
use mathlib.Core.List.{List, [], ◌∷◌, ◌++◌}
use mathlib.Core.Path.{◌≡◌, refl, ◌∙◌, ap, sym}
use Prim.Native.Nat.{ℕ, zero, suc, ◌+◌, ◌*◌, ◌/◌, ◌%◌, ◌^◌, ◌≤◌, ◌<◌}
use native.Mathlib.Decide.{dec_lt}
use native.Mathlib.Nat.{pow-suc, one-le-pow, pow-le-pow_right}
use native.Mathlib.Numerals.{add-one}
use native.Mathlib.Omega.{arith}
use lib.ListN.{length, length-append}
use Rattle.text.specs.Decimal.{digits, decimal}

digits-none : (k : ℕ) → digits k 0 ≡ []
unfolding digits
digits-none zero = refl
digits-none (suc k) = refl

-- divisions beyond the number change nothing
digits-enough : (j k n : ℕ) → n ≤ j → n ≤ k → digits j n ≡ digits k n
unfolding digits
digits-enough zero k zero h l = sym (digits-none k)
digits-enough zero k (suc n) h l = absurd (omega arith)
digits-enough (suc j) k zero h l = sym (digits-none k)
digits-enough (suc j) zero (suc n) h l = absurd (omega arith)
digits-enough (suc j) (suc k) (suc n) h l =
    ap (λ (d : List ℕ). d ++ (48 + suc n % 10) ∷ []) (digits-enough j k (suc n / 10) (omega arith) (omega arith))

digits_decimal : (k n : ℕ) → 1 ≤ n → n ≤ k → digits k n ≡ decimal n
unfolding digits decimal
digits_decimal k zero h l = absurd (omega arith)
digits_decimal zero (suc n) h l = absurd (omega arith)
digits_decimal (suc k) (suc n) h l =
    ap (λ (d : List ℕ). d ++ (48 + suc n % 10) ∷ []) (digits-enough k (suc n) (suc n / 10) (omega arith) (omega arith))

pub decimal-one : (n : ℕ) → n < 10 → decimal n ≡ (48 + n) ∷ []
unfolding digits decimal
decimal-one n h =
    let front : n / 10 ≡ 0 = omega arith in
    let last : n % 10 ≡ n = omega arith in
    rw (front, last, digits-none n)

pub decimal-more : (n : ℕ) → 10 ≤ n → decimal n ≡ decimal (n / 10) ++ (48 + n % 10) ∷ []
unfolding decimal
decimal-more n h = ap (λ (d : List ℕ). d ++ (48 + n % 10) ∷ []) (digits_decimal n (n / 10) (omega arith) (omega arith))

pub length_more : (n : ℕ) → 10 ≤ n → length (decimal n) ≡ length (decimal (n / 10)) + 1
length_more n h = ap length (decimal-more n h) ∙ length-append (decimal (n / 10)) ((48 + n % 10) ∷ [])

pub digits-some : (n : ℕ) → 1 ≤ length (decimal n)
digits-some n =
    elim (dec_lt n 10) [
      | yes y ↦ omega (arith, ap length (decimal-one n y))
      | no y ↦ omega (arith, length_more n (omega arith))
    ]

digits_above : (k n : ℕ) → 10 ^ k ≤ n → k < length (decimal n)
digits_above zero n h = digits-some n
digits_above (suc k) n h =
    let e = pow-suc 10 k in
    let l : 10 ≤ n = omega (arith, one-le-pow k 10 (omega arith)) in
    omega (arith, length_more n l, digits_above k (n / 10) (omega arith))

digits-below : (k n : ℕ) → 1 ≤ k → n < 10 ^ k → length (decimal n) ≤ k
digits-below zero n p h = absurd (omega arith)
digits-below (suc zero) n p h = omega (arith, ap length (decimal-one n h))
digits-below (suc (suc k)) n p h =
    let e = pow-suc 10 (suc k) in
    elim (dec_lt n 10) [
      | yes y ↦ omega (arith, ap length (decimal-one n y))
      | no y ↦ omega (arith, length_more n (omega arith), digits-below (suc k) (n / 10) (omega arith) (omega arith))
    ]

pub digits-fit : (n : ℕ) → n < 2 ^ 64 → length (decimal n) ≤ 20
digits-fit n h = digits-below 20 n (omega arith) (omega arith)

pub record Counting (n digits power : ℕ) : Type 0 where
  pub raised : power ≡ 10 ^ digits
  pub some : 1 ≤ digits
  pub few : digits ≤ 19
  pub no-fewer : digits ≤ length (decimal n)

pub counting-one : (n : ℕ) → Counting n 1 10
counting-one n = record { raised = refl; some = omega arith; few = omega arith; no-fewer = digits-some n }

module _ {n digits power : ℕ} (u : Counting n digits power) where
  pub counting_more : power ≤ n → ((digits ≡ 19) → ⊥) → Counting n (digits + 1) (power * 10)
  counting_more h k =
      record {
        raised = rw (add-one digits, pow-suc 10 digits, u.raised);
        some = omega arith;
        few = omega (arith, u.few);
        no-fewer = omega (arith, digits_above digits n (rw u.raised at h));
      }

  pub power-fits : ((digits ≡ 19) → ⊥) → power ≤ 10 ^ 18
  power-fits k = rw u.raised (pow-le-pow_right {n = 10} (omega arith) {i = digits} {j = 18} (omega (arith, u.few)))

  pub counting-all : n < power → digits ≡ length (decimal n)
  counting-all h = omega (arith, u.no-fewer, digits-below digits n u.some (rw u.raised at h))

  pub counting-most : power ≤ n → digits ≡ 19 → n < 2 ^ 64 → 20 ≡ length (decimal n)
  counting-most h e l = omega (arith, digits_above digits n (rw u.raised at h), digits-fit n l)
