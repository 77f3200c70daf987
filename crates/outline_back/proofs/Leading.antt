-- The leading lines of an outline are those of an outline, and every outline's are those of a longer one.
--     leading, leading-lines, leading-headings     the outline of the first k lines of an outline
--     tops, longer, longer-headings, longer-lines  m topmost headings, and an outline with them after it
-- Assumes nothing.
use mathlib.Core.List.{List, [], ◌∷◌, ◌++◌, append_assoc}
use mathlib.Core.Path.{◌≡◌, refl, sym, ◌∙◌, ap, ap₂}
use Prim.Native.Nat.{ℕ, zero, suc, ◌+◌, ◌-◌, ◌≤◌}
use native.Mathlib.Omega.{arith}
use lib.ListN.{length, take}
use lib.Seq.{take-nil, take_at, length-take-le}
use Rattle.outline.specs.Outline.{Outline, none, ◌then◌, Heading, heading, headings, below}
use Rattle.outline.specs.Text.{under, lines, lines_of}
use Rattle.outline.proofs.Induction.{by-headings}
use Rattle.outline.proofs.Lines.{length-lines}

unfoldable mutual
  pub leading : Outline → ℕ → Outline
  leading none k = none
  leading (h then r) k = leading_of h k (leading r (k - below h))

  leading_of : Heading → ℕ → Outline → Outline
  leading_of (heading o) zero r = none
  leading_of (heading o) (suc k) r = heading (leading o k) then r

take-append : (k i : ℕ) (a b : List (List ℕ)) → i ≡ k - length a → take k (a ++ b) ≡ take k a ++ take i b
take-append k i [] b e = let all : i ≡ k = omega arith in rw (all, take-nil {A = List ℕ} k)
take-append zero i (l ∷ a) b e = let none : i ≡ 0 = omega arith in rw none
take-append (suc k) i (l ∷ a) b e = ap (λ (c : List (List ℕ)). l ∷ c) (take-append k i a b (omega arith))

abbrev Taken : Outline → Type 0
Taken o = (k : ℕ) (p : List ℕ) (j : ℕ) → lines (leading o k) p j ≡ take k (lines o p j)

pub leading-lines : (o : Outline) (k : ℕ) (p : List ℕ) (j : ℕ) → lines (leading o k) p j ≡ take k (lines o p j)
unfolding lines lines_of leading leading_of headings below
leading-lines = by-headings Taken (λ k p j. sym (take-nil k)) step
  where
    step : (o r : Outline) → Taken o → Taken r → Taken (heading o then r)
    step o r inner rest zero p j = refl
    step o r inner rest (suc k) p j =
        let u = under p j in
        let left : suc k - suc (headings o) ≡ k - length (lines o u 1) = omega (arith, length-lines o u 1) in
        ap (λ (c : List (List ℕ)). u ∷ c)
        (ap₂ ◌++◌ (inner k u 1) (rest (suc k - suc (headings o)) p (suc j))
        ∙ sym (take-append k (suc k - suc (headings o)) (lines o u 1) (lines r p (suc j)) left))

pub leading-headings : (o : Outline) (k : ℕ) → k ≤ headings o → headings (leading o k) ≡ k
leading-headings o k h =
    sym (length-lines (leading o k) [] 1)
    ∙ ap length (leading-lines o k [] 1)
    ∙ length-take-le k (lines o [] 1) (omega (arith, length-lines o [] 1))

unfoldable pub tops : ℕ → Outline
tops zero = none
tops (suc m) = heading none then tops m

unfoldable pub longer : Outline → ℕ → Outline
longer none m = tops m
longer (h then r) m = h then longer r m

tops-headings : (m : ℕ) → headings (tops m) ≡ m
unfolding tops headings below
tops-headings zero = refl
tops-headings (suc m) = omega (arith, tops-headings m)

pub longer-headings : (o : Outline) (m : ℕ) → headings (longer o m) ≡ headings o + m
unfolding longer headings
longer-headings none m = omega (arith, tops-headings m)
longer-headings (h then r) m = omega (arith, longer-headings r m)

-- the lines of the headings that are added
more-lines : (o : Outline) (m : ℕ) (p : List ℕ) (k : ℕ)
    → (l : List (List ℕ)) × (lines (longer o m) p k ≡ lines o p k ++ l)
unfolding longer lines
more-lines none m p k = (lines (tops m) p k, refl)
more-lines (h then r) m p k =
    let i = more-lines r m p (suc k) in
    let first = lines_of h (under p k) in (
      i.0,
      ap (λ (l : List (List ℕ)). first ++ l) i.1 ∙ sym (append_assoc first (lines r p (suc k)) i.0),
    )

pub longer-lines : (o : Outline) (m : ℕ) (p : List ℕ) (k : ℕ) → take (headings o) (lines (longer o m) p k) ≡ lines o p k
longer-lines o m p k =
    let i = more-lines o m p k in
    ap (take (headings o)) i.1 ∙ take_at (lines o p k) i.0 (headings o) (length-lines o p k)
