-- Whether the line of a heading stands in a text, on plain values.
--     stem-empty                 a number begins with nothing where there is no parent
--     stem-none, stem-other, stem-then     whether the beginning of a number stands there: it is nothing; its parent's
--                                          number does not; that does, and the dot is looked for
--     written-front              what is written at the start is there
--     line-there, line_other     a line stands there with its line feed, or another does
--     line-found, line-none      what the end of a line says: it stands there, or does not
--     line-within, line-part     where a line that stands there ends, and that it is the text's part before its line
--                                feed
-- Assumes nothing.
use mathlib.Core.Bool.{Bool, true, false}
use mathlib.Core.List.{List, [], ◌∷◌, ◌++◌, append_assoc}
use mathlib.Core.Path.{◌≡◌, refl, sym, ◌∙◌, ap}
use Prim.Native.Nat.{ℕ, ◌+◌, ◌-◌, ◌≤◌, ◌<◌}
use native.Mathlib.Omega.{arith}
use lib.ListN.{length, take, drop, length-append, length-drop}
use lib.Seq.{take_at}
use Rattle.std.specs.Prelude.{Some, None}
use Rattle.text.specs.Written.{Written}
use Rattle.outline.specs.Text.{stem}
use Rattle.outline.specs.Writing.{part}
use Rattle.outline.proofs.Numbers.{part_length, stem-some}
use Rattle.outline_back.specs.Reading.{Stood, there, other, Lined, line}
use Rattle.outline_back.proofs.Standing.{behind, stood-then, stood-never}

pub stem-empty : (p : List ℕ) → length p ≡ 0 → stem p ≡ []
unfolding stem
stem-empty [] e = refl
stem-empty (a ∷ p) e = absurd (omega arith)

-- the beginning of a number under the one that stands from parent on
module _ (x : List ℕ) (parent long from : ℕ) (h : parent + long ≤ length x) where
  long-part : length (part x parent long) ≡ long
  long-part = part_length x parent long h

  pub stem-none : long ≡ 0 → Stood x from (stem (part x parent long)) true
  stem-none e = there (drop from x) (rw (stem-empty (part x parent long) (long-part ∙ e)) refl)

  module _ (f : long ≡ 0 → ⊥) where
    dotted : stem (part x parent long) ≡ part x parent long ++ 46 ∷ []
    dotted = stem-some (part x parent long) (λ e. f (sym long-part ∙ e))

    pub stem-other : Stood x from (part x parent long) false → Stood x from (stem (part x parent long)) false
    stem-other s = rw dotted (stood-never (46 ∷ []) s)

    pub stem-then : {r : Bool} → Stood x from (part x parent long) true → Stood x (from + long) (46 ∷ []) r
        → Stood x from (stem (part x parent long)) r
    stem-then s d = rw dotted (stood-then s (ap (λ (k : ℕ). from + k) (sym long-part)) d)

pub written-front : {p xs ys : List ℕ} {r : ℕ} → Written 0 p xs ys r → take r ys ≡ p
written-front {p} {xs} {ys} {r} w =
    ap (take r) w.text ∙ take_at p (drop (0 + length p) xs) r (omega (arith, w.end))

pub line-there : {x : List ℕ} {from : ℕ} {l : List ℕ} {end : ℕ}
    → Stood x from (l ++ 10 ∷ []) true → end ≡ from + length l + 1 → Lined x from l (Some end)
line-there {x} {from} {l} {end} (there rest e) h =
    let at : end ≡ from + length (l ++ 10 ∷ []) = omega (arith, length-append l (10 ∷ [])) in
    let after : rest ≡ drop end x = sym (ap (λ (k : ℕ). drop k x) at ∙ behind x from (l ++ 10 ∷ []) rest e) in
    line h (e ∙ append_assoc l (10 ∷ []) rest ∙ ap (λ (r : List ℕ). l ++ 10 ∷ r) after)

pub line_other : {x : List ℕ} {from : ℕ} {l : List ℕ} → Stood x from (l ++ 10 ∷ []) false → Lined x from l None
line_other {x} {from} {l} (other f) = other (λ rest e. f rest (e ∙ sym (append_assoc l (10 ∷ []) rest)))

pub line-found : {x : List ℕ} {from : ℕ} {l : List ℕ} {end : ℕ} → Lined x from l (Some end)
    → (end ≡ from + length l + 1) × (drop from x ≡ l ++ 10 ∷ drop end x)
line-found (line e f) = (e, f)

pub line-none : {x : List ℕ} {from : ℕ} {l : List ℕ} → Lined x from l None
    → (rest : List ℕ) → drop from x ≡ l ++ 10 ∷ rest → ⊥
line-none (other f) = f

-- a line that was found
module _ {x : List ℕ} {from : ℕ} {l : List ℕ} {end : ℕ} (found : Lined x from l (Some end)) where
  pub line-within : (from < end) × (end ≤ length x)
  line-within =
      let q = line-found found in (
        omega (arith, q.0),
        omega (arith, q.0, ap length q.1, length-append l (10 ∷ drop end x), length-drop from x),
      )

  pub line-part : part x from (end - 1 - from) ≡ l
  line-part =
      let q = line-found found in
      ap (take (end - 1 - from)) q.1 ∙ take_at l (10 ∷ drop end x) (end - 1 - from) (omega (arith, q.0))
