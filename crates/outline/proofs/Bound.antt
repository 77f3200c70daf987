-- How long the text of an outline is at most: its k-th line, with its line feed, has at most 2k bytes.
--     decimal-short     a number from 1 on has at most as many digits as it says
--     line-bound        each line is that short
--     text-bound        so the text of n lines has at most n(n + 1) bytes [H8]
--     bound-largest     and n(n + 1) grows with n
--     printed-bound     the same of the text of a closed schedule
-- Assumes nothing.
use mathlib.Core.List.{List, [], ◌∷◌, ◌++◌}
use mathlib.Core.Path.{◌≡◌, refl, ap, subst}
use Prim.Native.Nat.{ℕ, zero, suc, ◌+◌, ◌*◌, ◌/◌, ◌≤◌, ◌<◌}
use native.Mathlib.Decide.{dec_lt}
use native.Mathlib.Nat.{mul-suc, suc-mul, mul-le-mul}
use native.Mathlib.Numerals.{add-one}
use native.Mathlib.Omega.{arith}
use lib.ListN.{length, get_or, length-append}
use Rattle.text.specs.Decimal.{decimal}
use Rattle.text.proofs.Digits.{decimal-one, length_more}
use Rattle.schedule.specs.Schedule.{Schedule}
use Rattle.outline.specs.Outline.{Outline, headings, outline_of}
use Rattle.outline.specs.Text.{stem, under, lines, lines_of, text, outline_text, printed}
use Rattle.outline.proofs.Induction.{by-headings}
use Rattle.outline.proofs.Schedules.{outline-size}
use Rattle.outline.proofs.Lines.{length-lines}
use Rattle.outline.proofs.Below.{under_some}

-- by induction on a bound of n
short-within : (j n : ℕ) → n < j → 1 ≤ n → length (decimal n) ≤ n
short-within zero n h l = absurd (omega arith)
short-within (suc j) n h l =
    elim (dec_lt n 10) [
      | yes y ↦ omega (arith, ap length (decimal-one n y))
      | no y ↦ omega (arith, length_more n (omega arith), short-within j (n / 10) (omega arith) (omega arith))
    ]

pub decimal-short : (n : ℕ) → 1 ≤ n → length (decimal n) ≤ n
decimal-short n h = short-within (suc n) n (omega arith) h

-- of lines with c before them each is short enough
abbrev Short : ℕ → List (List ℕ) → Type 0
Short c [] = Unit {0}
Short c (l ∷ a) = (length l < 2 * suc c) × Short (suc c) a

short-append : (c d : ℕ) (a b : List (List ℕ)) → d ≡ c + length a → Short c a → Short d b → Short c (a ++ b)
short-append c d [] b e q u = let here : d ≡ c = omega arith in rw here at u
short-append c d (l ∷ a) b e q u = (q.0, short-append (suc c) d a b (omega arith) q.1 u)

short-at : (c : ℕ) (a : List (List ℕ)) (i : ℕ) → i < length a → Short c a → length (get_or a i []) < 2 * suc (c + i)
short-at c [] i h q = absurd (omega arith)
short-at c (l ∷ a) zero h q = omega (arith, q.0)
short-at c (l ∷ a) (suc i) h q = omega (arith, short-at (suc c) a i (omega arith) q.1)

-- the bytes of n lines, c before them, that are as long as they can be
unfoldable most : ℕ → ℕ → ℕ
most c zero = 0
most c (suc n) = 2 * suc c + most (suc c) n

most-more : (c n : ℕ) → most c (suc n) ≡ most c n + 2 * suc (c + n)
unfolding most
most-more c zero = omega arith
most-more c (suc n) = omega (arith, most-more (suc c) n)

most-all : (n : ℕ) → most 0 n ≡ n * (n + 1)
unfolding most
most-all zero = refl
most-all (suc n) =
    let product : suc n * (suc n + 1) ≡ n * (n + 1) + 2 * suc n =
    rw (add-one (suc n), suc-mul n (suc (suc n)), mul-suc n (suc n), add-one n) (omega arith) in
    omega (arith, most-more 0 n, most-all n)

short-text : (c : ℕ) (a : List (List ℕ)) → Short c a → length (text a) ≤ most c (length a)
unfolding text most
short-text c [] q = omega arith
short-text c (l ∷ a) q = omega (arith, q.0, length-append l (10 ∷ text a), short-text (suc c) a q.1)

stem-some : (p : List ℕ) → 1 ≤ length p → length (stem p) ≡ length p + 1
unfolding stem
stem-some [] h = absurd (omega arith)
stem-some (x ∷ p) h = length-append (x ∷ p) (46 ∷ [])

-- of a list of headings with c lines before it, the first of which is the k-th under p
module _ (p : List ℕ) (k c : ℕ) (some : 1 ≤ k) (few : length (stem p) + k ≤ 2 * c + 1) where
  first_short : length (under p k) < 2 * suc c
  first_short = omega (arith, length-append (stem p) (decimal k), decimal-short k some)

  inner-few : length (stem (under p k)) + 1 ≤ 2 * suc c + 1
  inner-few = omega (arith, stem-some (under p k) (under_some p k), first_short)

lines-short : (o : Outline) (p : List ℕ) (k c : ℕ) → 1 ≤ k → length (stem p) + k ≤ 2 * c + 1 → Short c (lines o p k)
unfolding lines lines_of
lines-short =
    by-headings
    (λ o. (p : List ℕ) (k c : ℕ) → 1 ≤ k → length (stem p) + k ≤ 2 * c + 1 → Short c (lines o p k))
    (λ p k c some few. tt)
    (λ o r inner rest p k c some few.
    let below = lines o (under p k) 1 in
    let d = suc c + length below in (
      first_short p k c some few,
      short-append (suc c) d below (lines r p (suc k)) refl
          (inner (under p k) 1 (suc c) (omega arith) (inner-few p k c some few))
          (rest p (suc k) d (omega arith) (omega arith)),
    ))

outline-short : (o : Outline) → Short 0 (lines o [] 1)
unfolding stem
outline-short o = lines-short o [] 1 0 (omega arith) (omega arith)

pub line-bound : (o : Outline) (i : ℕ) → i < headings o → length (get_or (lines o [] 1) i []) < 2 * suc i
line-bound o i h =
    omega (arith, short-at 0 (lines o [] 1) i (omega (arith, length-lines o [] 1)) (outline-short o))

pub text-bound : (o : Outline) → length (outline_text o) ≤ headings o * (headings o + 1)
text-bound o =
    let n = length-lines o [] 1 in
    let bytes = short-text 0 (lines o [] 1) (outline-short o) in
    omega (arith, ap (most 0) n, most-all (headings o))

pub bound-largest : {n m : ℕ} → n ≤ m → n * (n + 1) ≤ m * (m + 1)
bound-largest {n} {m} h = mul-le-mul {n₁ = n} {m₁ = n + 1} {n₂ = m} {m₂ = m + 1} h (omega arith)

pub printed-bound : {n : ℕ} {b : List ℕ} → Schedule n n b → length (printed b) ≤ n * (n + 1)
printed-bound {n} {b} q =
    subst (λ (m : ℕ). length (printed b) ≤ m * (m + 1)) (outline-size q) (text-bound (outline_of b))
