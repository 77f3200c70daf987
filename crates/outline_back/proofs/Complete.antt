-- Reading finds as many lines as any outline has in common with the text.
--     same_rest        outlines of as many lines, whose texts begin a text, end in one place of it
--     reads-most       no outline with at most so many lines, whose text the text begins with, has more
--     reads_whole      all lines and the whole text are read: that is the outline
--     reads-broken     else no outline of n lines has this text, and the line where reading stopped is wrong
-- Assumes nothing.
use mathlib.Core.List.{List, [], ◌∷◌, ◌++◌, append-nil}
use mathlib.Core.Path.{◌≡◌, sym, ◌∙◌, ap}
use Prim.Native.Nat.{ℕ, suc, ◌-◌, ◌≤◌, ◌<◌}
use native.Mathlib.Decide.{dec_lt}
use native.Mathlib.Omega.{arith}
use lib.ListN.{take, length-append}
use Rattle.outline.specs.Outline.{Outline, none, ◌then◌, heading, headings, below}
use Rattle.outline.specs.Text.{under, lines, text, outline_text}
use Rattle.outline.proofs.Lines.{length-lines, Without, each_append, under-clean, lines-clean}
use Rattle.outline.proofs.Lines.{text-join, same_line, same_text}
use Rattle.outline.proofs.Below.{line_after}
use Rattle.outline_back.specs.Back.{Leads, Wrong}
use Rattle.outline_back.specs.Reading.{Reads, full, stop, more}
use Rattle.outline_back.proofs.Texts.{text-more, reads-text}
use Rattle.outline_back.proofs.Leading.{leading, leading-lines, leading-headings}
use Rattle.outline_back.proofs.Leading.{longer, longer-headings, longer-lines}

-- a text that begins with a heading's line goes on with what follows it
rest_of : (u w v : List ℕ) → u ++ 10 ∷ w ≡ u ++ 10 ∷ v → w ≡ v
rest_of [] w v e = cc
rest_of (x ∷ u) w v e = let rest : u ++ 10 ∷ w ≡ u ++ 10 ∷ v = cc in rest_of u w v rest

pub same_rest : (a c : Outline) (p : List ℕ) (k : ℕ) (y v : List ℕ) → Without 10 p → headings a ≡ headings c
    → text (lines a p k) ++ y ≡ text (lines c p k) ++ v → y ≡ v
same_rest a c p k y v q h e =
    (same_text (lines a p k) (lines c p k) y v (lines-clean a p k q) (lines-clean c p k q) e
    (omega (arith, length-lines a p k, length-lines c p k))).1

-- of two lists of headings below one heading, whose texts begin a text, nothing follows the shorter one
nothing-after : (a c r : Outline) (p : List ℕ) (k : ℕ) (y v : List ℕ) → Without 10 p → headings c < headings a
    → text (lines a (under p k) 1) ++ y ≡ text (lines c (under p k) 1) ++ (text (lines r p (suc k)) ++ v)
    → headings r ≡ 0
unfolding headings
nothing-after a c r p k y v q h e =
    elim (dec_lt 0 (headings r)) [
      | yes some ↦
          let u = under p k in
          let below = lines c u 1 in
          let after = lines r p (suc k) in
          let clean = under-clean p k q in
          let all = each_append (Without 10) below after (lines-clean c u 1 clean) (lines-clean r p (suc k) q) in
          ap headings
          (line_after a c r p k h
          (same_line (lines a u 1) (below ++ after) y v (headings c) (lines-clean a u 1 clean) all
          (e ∙ sym (text-join below after v))
          (omega (arith, length-lines a u 1))
          (omega (arith, length-append below after, length-lines c u 1, length-lines r p (suc k)))))
      | no some ↦ omega arith
    ]

pub reads-most : {p : List ℕ} {k n : ℕ} {x : List ℕ} {o : Outline} {y : List ℕ} {m : ℕ} → Reads p k n x o y m
    → Without 10 p → (c : Outline) (v : List ℕ) → x ≡ text (lines c p k) ++ v → headings c ≤ n
    → headings c ≤ headings o
unfolding headings below
reads-most full q c v e h = h
reads-most (stop other) q none v e h = omega arith
reads-most (stop {p} {k} other) q (heading c then r) v e h = absurd (other _ (e ∙ text-more c r p k v))
reads-most (more w f inner rest) q none v e h = omega arith
reads-most (more {p} {k} {y = y} {o = o} w f inner rest) q (heading c then r) v e h =
    let read = reads-text inner in
    let end = text (lines r p (suc k)) ++ v in
    let after = rest_of (under p k) w _ (sym f ∙ e ∙ text-more c r p k v) in
    let fewer = reads-most inner (under-clean p k q) c end after (omega arith) in
    let both = sym read.0 ∙ after in
    elim (dec_lt (headings c) (headings o)) [
      | yes less ↦ omega (arith, nothing-after o c r p k y v q less both)
      | no less ↦
          let same : headings o ≡ headings c = omega arith in
          let here = same_rest o c (under p k) 1 y end (under-clean p k q) same both in
          omega (arith, reads-most rest q r v here (omega (arith, read.1)))
    ]

-- from the start on
module _ {n m : ℕ} {x y : List ℕ} {o : Outline} (reads : Reads [] 1 n x o y m) where
  reads-no-fewer : (k : ℕ) → Leads n x k → k ≤ headings o
  reads-no-fewer k q =
      let size = leading-headings q.outline k (omega (arith, q.within, q.size)) in
      let same = ap (λ (l : List (List ℕ)). text l ++ q.rest) (leading-lines q.outline k [] 1) in
      let few = q.within in
      omega (arith, reads-most reads tt (leading q.outline k) q.rest (q.begins ∙ sym same) (omega arith))

  reads-leads : Leads n x (n - m)
  reads-leads =
      let read = reads-text reads in
      let size : n - m ≡ headings o = omega (arith, read.1) in
      record {
        outline = longer o m;
        size = omega (arith, read.1, longer-headings o m);
        within = omega arith;
        rest = y;
        begins =
            read.0
            ∙ ap (λ (l : List (List ℕ)). text l ++ y)
            (sym (longer-lines o m [] 1) ∙ ap (λ (k : ℕ). take k (lines (longer o m) [] 1)) (sym size));
      }

  pub reads-broken : ((m ≡ 0) × (y ≡ []) → ⊥)
      → ((p : Outline) → headings p ≡ n → x ≡ outline_text p → ⊥) × Wrong n x (n - m)
  reads-broken part = (
    λ p size whole.
        let read = reads-text reads in
        let all = whole ∙ sym (append-nil (outline_text p)) in
        let most = reads-most reads tt p [] all (omega arith) in
        part (
          omega (arith, read.1),
          same_rest o p [] 1 y [] tt (omega (arith, read.1)) (sym read.0 ∙ all),
        ),
    record {
      leads = reads-leads;
      most = λ k q. omega (arith, reads-no-fewer k q, (reads-text reads).1);
    },
  )

pub reads_whole : {n : ℕ} {x : List ℕ} {o : Outline} → Reads [] 1 n x o [] 0 → (headings o ≡ n) × (x ≡ outline_text o)
reads_whole {n} {x} {o} reads =
    let read = reads-text reads in
    (omega (arith, read.1), read.0 ∙ append-nil (outline_text o))
