-- What reading a list of headings has read.
--     reads-text     the text of the list that it found, and what it stopped before
-- Assumes nothing.
use mathlib.Core.List.{List, ◌∷◌, ◌++◌, append_assoc}
use mathlib.Core.Path.{◌≡◌, refl, sym, ◌∙◌, ap}
use Prim.Native.Nat.{ℕ, suc, ◌+◌}
use native.Mathlib.Omega.{arith}
use Rattle.outline.specs.Outline.{Outline, ◌then◌, heading, headings, below}
use Rattle.outline.specs.Text.{under, lines, lines_of, text}
use Rattle.outline.proofs.Lines.{text-join}
use Rattle.outline_back.specs.Reading.{Reads, full, stop, more}

-- the text of a heading's line, of the lines below it and of those after it
pub text-more : (o r : Outline) (p : List ℕ) (k : ℕ) (y : List ℕ)
    → text (lines (heading o then r) p k) ++ y
    ≡ under p k ++ 10 ∷ (text (lines o (under p k) 1) ++ (text (lines r p (suc k)) ++ y))
unfolding lines lines_of text
text-more o r p k y =
    append_assoc (under p k) (10 ∷ text (lines o (under p k) 1 ++ lines r p (suc k))) y
    ∙ ap (λ (x : List ℕ). under p k ++ 10 ∷ x) (text-join (lines o (under p k) 1) (lines r p (suc k)) y)

pub reads-text : {p : List ℕ} {k n : ℕ} {x : List ℕ} {o : Outline} {y : List ℕ} {m : ℕ} → Reads p k n x o y m
    → (x ≡ text (lines o p k) ++ y) × (n ≡ headings o + m)
unfolding lines headings below text
reads-text full = (refl, refl)
reads-text (stop h) = (refl, omega arith)
reads-text (more {p} {k} {n} {m} {l} {x} {y} {z} {o} {r} w e inner rest) =
    let i = reads-text inner in
    let j = reads-text rest in (
      e
          ∙ ap (λ (s : List ℕ). under p k ++ 10 ∷ s)
          (i.0 ∙ ap (λ (s : List ℕ). text (lines o (under p k) 1) ++ s) j.0)
          ∙ sym (text-more o r p k z),
      omega (arith, i.1, j.1),
    )
