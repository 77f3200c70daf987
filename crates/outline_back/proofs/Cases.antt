-- The definitions of specs/ on small inputs: for each part of them one that fits and one that does not. The outlines
-- are those of the examples of the crate `outline`; 49 10 is the line of the number 1. Assumes nothing.
use mathlib.Core.Bool.{true, false}
use mathlib.Core.List.{List, [], ◌∷◌, ◌++◌}
use mathlib.Core.Path.{◌≡◌, refl, ap}
use Prim.Native.Nat.{ℕ, zero, suc, ◌≤◌}
use native.Mathlib.Omega.{arith}
use lib.ListN.{length, drop, take, get_or}
use Rattle.std.proofs.Common.{Some, None, Ok, Err}
use Rattle.refusal.specs.declared.Refusal.{Refusal}
use Rattle.refusal.specs.declared.Refusal.TheVariants.{TooManyTasks, WrongLength, NoSuchOutline}
use Rattle.refusal.specs.Answer.{refusal}
use Rattle.refusal.specs.Rows.{judge}
use Rattle.refusal.proofs.Theorems.{refused-number}
use Rattle.text.specs.Decimal.{digits, decimal}
use Rattle.text.specs.Written.{Written}
use Rattle.outline.specs.Outline.{Outline, none, ◌then◌, heading, headings, below, schedule, beats}
use Rattle.outline.specs.Text.{stem, lines, lines_of, text, outline_text}
use Rattle.outline.proofs.Cases.{alone, family}
use Rattle.outline_back.specs.declared.Reached.{Reached}
use Rattle.outline_back.specs.Back.{Leads, Wrong, back_rows, Back, found, none, unfit}
use Rattle.outline_back.specs.Reading.{
  Stood,
  there,
  other,
  Lined,
  line,
  Reads,
  full,
  stop,
  more,
  ListRead,
  HeadingRead,
  Found,
  whole,
  broken,
}

abbrev one_line : List ℕ
one_line = 49 ∷ 10 ∷ []

-- 1 is the leading line of an outline of one line; of 1, 1.1, 1.3 the first two lead one of three
leads-1 : Leads 1 one_line 1
unfolding headings below text lines lines_of stem decimal digits
leads-1 = record { outline = alone then none; size = refl; within = omega arith; rest = []; begins = refl }

leads-2 : Leads 3 (49 ∷ 10 ∷ 49 ∷ 46 ∷ 49 ∷ 10 ∷ 49 ∷ 46 ∷ 51 ∷ 10 ∷ []) 2
unfolding headings below text lines lines_of stem decimal digits
leads-2 = record {
  outline = family;
  size = refl;
  within = omega arith;
  rest = 49 ∷ 46 ∷ 51 ∷ 10 ∷ [];
  begins = refl;
}

-- no line leads an outline of none; 2 is no first line; a single line does not lead two
leads-past : Leads 0 one_line 1 → ⊥
leads-past q = omega (arith, q.within)

leads-other : Leads 1 (50 ∷ 10 ∷ []) 1 → ⊥
leads-other q = by q.outline q.size q.rest q.begins
  where
    by : (o : Outline) → headings o ≡ 1 → (rest : List ℕ) → 50 ∷ 10 ∷ [] ≡ text (take 1 (lines o [] 1)) ++ rest → ⊥
    by none s rest e = unfold headings in omega (arith, s)
    by (heading p then r) s rest e = unfold text lines lines_of stem decimal digits in
        let clash : ◌≡◌ {A = ℕ} 50 49 = ap (λ (l : List ℕ). get_or l 0 0) e in omega arith

leads-short : Leads 2 one_line 2 → ⊥
leads-short q = by q.outline q.size q.rest q.begins
  where
    by : (o : Outline) → headings o ≡ 2 → (rest : List ℕ) → one_line ≡ text (take 2 (lines o [] 1)) ++ rest → ⊥
    by none s rest e = unfold headings in omega (arith, s)
    by (heading none then none) s rest e = unfold headings below in omega (arith, s)
    by (heading none then (heading p then r)) s rest e = unfold text lines lines_of stem decimal digits in
        omega (arith, ap length e)
    by (heading (heading p then q) then r) s rest e = unfold text lines lines_of stem decimal digits in
        omega (arith, ap length e)

-- no byte: the first line is missing
leads-none : (k : ℕ) → Leads 1 [] k → k ≤ 0
leads-none zero q = omega arith
leads-none (suc k) q = absurd (by q.outline q.size q.rest q.begins)
  where
    by : (o : Outline) → headings o ≡ 1 → (rest : List ℕ) → [] ≡ text (take (suc k) (lines o [] 1)) ++ rest → ⊥
    by none s rest e = unfold headings in omega (arith, s)
    by (heading p then r) s rest e = unfold text lines lines_of stem decimal digits in omega (arith, ap length e)

wrong-0 : Wrong 1 [] 0
unfolding headings below text lines lines_of
wrong-0 = record {
  leads = record { outline = alone then none; size = refl; within = omega arith; rest = []; begins = refl };
  most = leads-none;
}

wrong-earlier : Wrong 1 one_line 0 → ⊥
wrong-earlier q = omega (arith, q.most 1 leads-1)

wrong-later : Wrong 1 [] 1 → ⊥
wrong-later q = omega (arith, leads-none 1 q.leads)

-- no outline of one line has no text
no-outline : (o : Outline) → headings o ≡ 1 → [] ≡ outline_text o → ⊥
no-outline none s e = unfold headings in omega (arith, s)
no-outline (heading p then r) s e = unfold text lines lines_of stem decimal digits in omega (arith, ap length e)

-- the sizes: 1 before 3
sizes-fit : judge (back_rows 1 2) ≡ Ok tt
sizes-fit = refl

sizes-200 : judge (back_rows 200 0) ≡ Err TooManyTasks
sizes-200 = refl

sizes-long : judge (back_rows 1 3) ≡ Err WrongLength
sizes-long = refl

-- the way back: the line 1; no line; beats lent too short
back-1 : Back 1 one_line (7 ∷ 7 ∷ []) (Ok tt) (1 ∷ 0 ∷ [])
unfolding headings below text lines lines_of stem decimal digits schedule beats
back-1 = found (alone then none) refl refl refl

back_none : Back 1 [] (7 ∷ 7 ∷ []) (Err (NoSuchOutline 0)) (7 ∷ 7 ∷ [])
back_none = none refl no-outline wrong-0

back-short : Back 1 one_line (7 ∷ []) (Err WrongLength) (7 ∷ [])
back-short = unfit refl

back-refused : (why : Refusal) (b : List ℕ) → Back 1 one_line (7 ∷ 7 ∷ []) (Err why) b → ⊥
unfolding headings below text lines lines_of stem decimal digits
back-refused why b (none j f w) = f (alone then none) refl refl
back-refused why b (unfit j) = omega (arith, ap refusal j, (refused-number why).0)

back-taken : (b : List ℕ) → Back 1 [] (7 ∷ 7 ∷ []) (Ok tt) b → ⊥
back-taken b (found o j s e) = no-outline o s e

back-later : (b : List ℕ) → Back 1 [] (7 ∷ 7 ∷ []) (Err (NoSuchOutline 1)) b → ⊥
back-later b (none j f w) = wrong-later w
back-later b (unfit j) = omega (arith, ap refusal j)

refused-kept : {n : ℕ} {x out b : List ℕ} {why : Refusal} → Back n x out (Err why) b → b ≡ out
refused-kept (none j f w) = refl
refused-kept (unfit j) = refl

back-changed : Back 1 [] (7 ∷ 7 ∷ []) (Err (NoSuchOutline 0)) (1 ∷ 0 ∷ []) → ⊥
back-changed q = let clash : ◌≡◌ {A = ℕ} 1 7 = ap (λ (l : List ℕ). get_or l 0 0) (refused-kept q) in omega arith

-- 2 stands in 1 2 3 from 1 on, and 3 does not
stood-2 : Stood (1 ∷ 2 ∷ 3 ∷ []) 1 (2 ∷ []) true
stood-2 = there (3 ∷ []) refl

not-3 : (rest : List ℕ) → 2 ∷ 3 ∷ [] ≡ (3 ∷ []) ++ rest → ⊥
not-3 rest e = let clash : ◌≡◌ {A = ℕ} 2 3 = ap (λ (l : List ℕ). get_or l 0 0) e in omega arith

stood-not-3 : Stood (1 ∷ 2 ∷ 3 ∷ []) 1 (3 ∷ []) false
stood-not-3 = other not-3

stood-overlooked : Stood (1 ∷ 2 ∷ 3 ∷ []) 1 (2 ∷ []) false → ⊥
stood-overlooked (other f) = f (3 ∷ []) refl

stood-imagined : Stood (1 ∷ 2 ∷ 3 ∷ []) 1 (3 ∷ []) true → ⊥
stood-imagined (there rest e) = not-3 rest e

-- the line 1 ends at 2, and without its line feed there is none
lined-2 : Lined (49 ∷ 10 ∷ 7 ∷ []) 0 (49 ∷ []) (Some 2)
lined-2 = line refl refl

no-feed : (rest : List ℕ) → 49 ∷ [] ≡ (49 ∷ []) ++ 10 ∷ rest → ⊥
no-feed rest e = omega (arith, ap length e)

lined-none : Lined (49 ∷ []) 0 (49 ∷ []) None
lined-none = other no-feed

lined-overlooked : Lined one_line 0 (49 ∷ []) None → ⊥
lined-overlooked (other f) = f [] refl

lined-without-feed : Lined (49 ∷ []) 0 (49 ∷ []) (Some 2) → ⊥
lined-without-feed (line l e) = no-feed (drop 2 (49 ∷ [])) e

-- the line 1 is read as a heading; it is not passed over, and 2 is not read for it
reads-1 : Reads [] 1 1 one_line (alone then none) [] 0
unfolding stem decimal digits
reads-1 = more [] refl full full

reads_nothing : Reads [] 1 1 one_line none one_line 1 → ⊥
reads_nothing q = by 1 one_line none one_line 1 q refl refl refl
  where
    by : (n : ℕ) (x : List ℕ) (o : Outline) (y : List ℕ) (m : ℕ)
        → Reads [] 1 n x o y m → n ≡ 1 → x ≡ one_line → o ≡ none → ⊥
    by n x o y m full z e q = omega (arith, z)
    by n x o y m (stop f) z e q = unfold stem decimal digits in f [] e
    by n x o y m (more w d inner rest) z e q = cc

reads-2 : (y : List ℕ) (m : ℕ) → Reads [] 1 1 (50 ∷ 10 ∷ []) (alone then none) y m → ⊥
reads-2 y m (more w e inner rest) = unfold stem decimal digits in
    let clash : ◌≡◌ {A = ℕ} 50 49 = ap (λ (l : List ℕ). get_or l 0 0) e in omega arith

-- the list of that line, and its heading after the line: 10 is written
abbrev after-1 : Reached
after-1 = record { byte = 2; beat = 2; left = 0 }

abbrev past : Reached
past = record { byte = 3; beat = 2; left = 0 }

list_read : ListRead one_line 0 0 0 1 0 (7 ∷ 7 ∷ []) (1 ∷ 0 ∷ []) after-1
unfolding schedule beats
list_read = record {
  list = alone then none;
  reads = reads-1;
  within = omega arith;
  written = record { text = refl; end = refl };
}

list-imagined : ListRead [] 0 0 0 1 0 (7 ∷ 7 ∷ []) (1 ∷ 0 ∷ []) after-1 → ⊥
list-imagined q = by q.list q.reads q.written
  where
    by : (o : Outline) {y : List ℕ} {m e : ℕ} → Reads [] 1 1 [] o y m
        → Written 0 (schedule o) (7 ∷ 7 ∷ []) (1 ∷ 0 ∷ []) e → ⊥
    by none r w = unfold schedule in
        let clash : ◌≡◌ {A = ℕ} 1 7 = ap (λ (l : List ℕ). get_or l 0 0) w.text in omega arith
    by (heading o then p) (more rest e inner next) w = unfold stem decimal digits in omega (arith, ap length e)

list-past-the-text : ListRead one_line 0 0 0 1 0 (7 ∷ 7 ∷ []) (1 ∷ 0 ∷ []) past → ⊥
list-past-the-text q = omega (arith, q.within)

heading-read : HeadingRead one_line 0 1 2 0 0 (7 ∷ 7 ∷ []) (1 ∷ 0 ∷ []) after-1
unfolding schedule beats
heading-read = record { list = none; reads = full; within = omega arith; written = record { text = refl; end = refl } }

heading-not-opened : HeadingRead one_line 0 1 2 0 0 (7 ∷ 7 ∷ []) (0 ∷ 1 ∷ []) after-1 → ⊥
unfolding beats
heading-not-opened q =
    let clash : ◌≡◌ {A = ℕ} 0 1 = ap (λ (l : List ℕ). get_or l 0 0) q.written.text in omega arith

heading-past-the-text : HeadingRead one_line 0 1 2 0 0 (7 ∷ 7 ∷ []) (1 ∷ 0 ∷ []) past → ⊥
heading-past-the-text q = omega (arith, q.within)

-- a whole text, and one of which a line is missing
found-whole : Found 1 one_line (1 ∷ 0 ∷ []) (Ok tt)
unfolding headings below text lines lines_of stem decimal digits schedule beats
found-whole = whole (alone then none) refl refl refl

found-broken : Found 1 [] (7 ∷ 7 ∷ []) (Err (NoSuchOutline 0))
found-broken = broken no-outline wrong-0

found-taken : (room : List ℕ) → Found 1 [] room (Ok tt) → ⊥
found-taken room (whole o s e r) = no-outline o s e

found-refused : (k : ℕ) (room : List ℕ) → Found 1 one_line room (Err (NoSuchOutline k)) → ⊥
unfolding headings below text lines lines_of stem decimal digits
found-refused k room (broken f w) = f (alone then none) refl refl

found-other-beats : Found 1 one_line (0 ∷ 1 ∷ []) (Ok tt) → ⊥
found-other-beats (whole o s e r) = by o s r
  where
    by : (o : Outline) → headings o ≡ 1 → 0 ∷ 1 ∷ [] ≡ schedule o → ⊥
    by none s r = unfold headings in omega (arith, s)
    by (heading p then q) s r = unfold schedule beats in
        let clash : ◌≡◌ {A = ℕ} 0 1 = ap (λ (l : List ℕ). get_or l 0 0) r in omega arith
