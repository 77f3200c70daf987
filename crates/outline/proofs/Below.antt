-- The numbers of headings: those under a number go on from it by a dot, and its sisters do not. So an outline is
-- known by its lines.
--     Below                  a line goes on from a number by a dot
--     under_some             no number is empty
--     lines-below            each line of a list of headings goes on from the number that the list stands under
--     under-beside           no sister's number does
--     line_after             so where such a list ends is known
--     one-outline, one-text  lines, and a text, have at most one outline [H5]
-- Assumes nothing.
use mathlib.Core.List.{List, [], ◌∷◌, ◌++◌, append_assoc}
use mathlib.Core.Path.{◌≡◌, refl, sym, ◌∙◌, ap, ap₂, subst}
use Prim.Native.Nat.{ℕ, suc, ◌≤◌, ◌<◌}
use native.Mathlib.Decide.{dec_lt}
use native.Mathlib.Omega.{arith}
use lib.ListN.{length, get_or, take, drop, length-append, get_or-append}
use lib.Seq.{take_at, drop_at, get_or_at, drop-append_seam}
use Rattle.text.specs.Decimal.{decimal}
use Rattle.text.proofs.Digits.{digits-some}
use Rattle.outline.specs.Outline.{Outline, none, ◌then◌, heading, headings}
use Rattle.outline.specs.Text.{stem, under, lines, lines_of, outline_text}
use Rattle.outline.proofs.Induction.{by-headings}
use Rattle.outline.proofs.Lines.{length-lines, Without, decimal-without, Each, each_append, each_at}
use Rattle.outline.proofs.Lines.{lines-clean, text-one}

abbrev pub Below : List ℕ → List ℕ → Type 0
Below p l = (y : List ℕ) × (l ≡ p ++ 46 ∷ y)

pub under_some : (p : List ℕ) (k : ℕ) → 1 ≤ length (under p k)
under_some p k = omega (arith, length-append (stem p) (decimal k), digits-some k)

under-below : (p : List ℕ) (k : ℕ) → 1 ≤ length p → Below p (under p k)
unfolding stem
under-below [] k h = absurd (omega arith)
under-below (x ∷ p) k h = (decimal k, append_assoc (x ∷ p) (46 ∷ []) (decimal k))

-- what goes on from a number that goes on from p
below-below : (p u l : List ℕ) → Below p u → Below u l → Below p l
below-below p u l q w =
    (q.0 ++ 46 ∷ w.0, w.1 ∙ ap (λ (x : List ℕ). x ++ 46 ∷ w.0) q.1 ∙ append_assoc p (46 ∷ q.0) (46 ∷ w.0))

each_below : (p u : List ℕ) (a : List (List ℕ)) → Below p u → Each (Below u) a → Each (Below p) a
each_below p u [] q w = tt
each_below p u (l ∷ a) q w = (below-below p u l q w.0, each_below p u a q w.1)

pub lines-below : (o : Outline) (p : List ℕ) (k : ℕ) → 1 ≤ length p → Each (Below p) (lines o p k)
unfolding lines lines_of
lines-below =
    by-headings (λ o. (p : List ℕ) (k : ℕ) → 1 ≤ length p → Each (Below p) (lines o p k))
    (λ p k h. tt)
    (λ o r inner rest p k h.
    let u = under-below p k h in (
      u,
      each_append (Below p) (lines o (under p k) 1) (lines r p (suc k))
          (each_below p (under p k) (lines o (under p k) 1) u (inner (under p k) 1 (under_some p k)))
          (rest p (suc k) h),
    ))

-- no number without a dot has one
no-dot : (l d y : List ℕ) → Without 46 l → l ≡ d ++ 46 ∷ y → ⊥
no-dot [] [] y q e = let z : ◌≡◌ {A = ℕ} 0 1 = cc in omega arith
no-dot [] (x ∷ d) y q e = let z : ◌≡◌ {A = ℕ} 0 1 = cc in omega arith
no-dot (x ∷ l) [] y q e = q.0 (cc)
no-dot (x ∷ l) (z ∷ d) y q e = let rest : l ≡ d ++ 46 ∷ y = cc in no-dot l d y q.1 rest

pub under-beside : (p : List ℕ) (j k : ℕ) → Below (under p k) (under p j) → ⊥
under-beside p j k q =
    let whole = q.1 ∙ append_assoc (stem p) (decimal k) (46 ∷ q.0) in
    no-dot (decimal j) (decimal k) q.0 (decimal-without 46 j (omega arith))
    (sym (drop-append_seam (stem p) (decimal j))
    ∙ ap (drop (length (stem p))) whole
    ∙ drop-append_seam (stem p) (decimal k ++ 46 ∷ q.0))

-- where the lines under a number go on past those of another list of headings under it, nothing follows that list
pub line_after : (a c r : Outline) (p : List ℕ) (k : ℕ) → headings c < headings a
    → get_or (lines a (under p k) 1) (headings c) [] ≡ get_or (lines c (under p k) 1 ++ lines r p (suc k)) (headings c)
    []
    → r ≡ none
unfolding lines lines_of
line_after a c none p k h e = refl
line_after a c (heading o then r) p k h e =
    let u = under p k in
    let after = e ∙ get_or_at (lines c u 1) (under p (suc k)) _ [] (headings c) (length-lines c u 1) in
    let under-it =
    each_at (Below u) (lines a u 1) (headings c) (omega (arith, length-lines a u 1))
    (lines-below a u 1 (under_some p k)) in
    absurd (under-beside p (suc k) k (subst (Below u) after under-it))

-- of two lists of headings under a number, each with those after it, neither is longer
no_longer : (a c s r : Outline) (p : List ℕ) (k : ℕ)
    → lines a (under p k) 1 ++ lines s p (suc k) ≡ lines c (under p k) 1 ++ lines r p (suc k) → headings a ≤ headings c
unfolding headings
no_longer a c s r p k e =
    elim (dec_lt (headings c) (headings a)) [
      | yes h ↦
          let u = under p k in
          let both = ap length e in
          let long = length-lines a u 1 in
          let here = get_or-append (lines a u 1) (lines s p (suc k)) [] (headings c) (omega arith) in
          let last = line_after a c r p k h (sym here ∙ ap (λ (l : List (List ℕ)). get_or l (headings c) []) e) in
          absurd (omega (
            arith,
            both,
            length-append (lines a u 1) (lines s p (suc k)),
            length-append (lines c u 1) (lines r p (suc k)),
            length-lines c u 1,
            length-lines r p (suc k),
            ap headings last,
          ))
      | no h ↦ omega arith
    ]

-- so both end in one place
one_list : (a c s r : Outline) (p : List ℕ) (k : ℕ)
    → lines a (under p k) 1 ++ lines s p (suc k) ≡ lines c (under p k) 1 ++ lines r p (suc k)
    → (lines a (under p k) 1 ≡ lines c (under p k) 1) × (lines s p (suc k) ≡ lines r p (suc k))
one_list a c s r p k e =
    let u = under p k in
    let long : length (lines a u 1) ≡ length (lines c u 1) =
    omega (arith, no_longer a c s r p k e, no_longer c a r s p k (sym e), length-lines a u 1, length-lines c u 1) in
    let n = length (lines c u 1) in
    let more = lines s p (suc k) in
    let rest = lines r p (suc k) in (
      sym (take_at (lines a u 1) more n long) ∙ ap (take n) e ∙ take_at (lines c u 1) rest n refl,
      sym (drop_at (lines a u 1) more n long) ∙ ap (drop n) e ∙ drop_at (lines c u 1) rest n refl,
    )

-- no other outline has its lines
abbrev Known : Outline → Type 0
Known a = (b : Outline) (p : List ℕ) (k : ℕ) → lines a p k ≡ lines b p k → a ≡ b

pub one-outline : (a b : Outline) (p : List ℕ) (k : ℕ) → lines a p k ≡ lines b p k → a ≡ b
unfolding lines lines_of
one-outline = by-headings Known none-one more-one
  where
    none-one : Known none
    none-one none p k e = refl
    none-one (heading o then r) p k e = absurd (omega (arith, ap length e))

    more-one : (o r : Outline) → Known o → Known r → Known (heading o then r)
    more-one o r inner rest none p k e = absurd (omega (arith, ap length e))
    more-one o r inner rest (heading c then s) p k e =
        let after : lines o (under p k) 1 ++ lines r p (suc k) ≡ lines c (under p k) 1 ++ lines s p (suc k) = cc in
        let same = one_list o c r s p k after in
        ap₂ (λ (a b : Outline). heading a then b) (inner c (under p k) 1 same.0) (rest s p (suc k) same.1)

pub one-text : (a b : Outline) → outline_text a ≡ outline_text b → a ≡ b
one-text a b e =
    one-outline a b [] 1 (text-one (lines a [] 1) (lines b [] 1) (lines-clean a [] 1 tt) (lines-clean b [] 1 tt) e)
