-- A record that is refused 6: it says how far the ones of its beats are off, and its counts and its beats are there.
--     PackedOff, read-sixes     a 6 says how far the ones are off that the record packs
--     six-facts                 a record that is refused so is whole, and L reaches past its counts
--     six-off                   both of a verdict
-- Assumes nothing.
use mathlib.Core.Bool.{false}
use mathlib.Core.List.Memᴰ
use mathlib.Core.List.{List, [], ◌∷◌, ◌++◌}
use mathlib.Core.Path.{◌≡◌, refl, ◌∙◌, ap, sym}
use Prim.Native.Nat.{ℕ, ◌+◌, ◌≤◌}
use native.Mathlib.Omega.{arith}
use borrow.Author.Tests.{ltb-false}
use lib.IntN.{ℤ}
use Rattle.std.proofs.Common.{Ok}
use Rattle.refusal.specs.declared.Refusal.TheVariants.{WrongSize}
use Rattle.refusal.specs.Answer.{refusal, surplus}
use Rattle.refusal.specs.Rows.{◌⇒◌, judge}
use Rattle.refusal.proofs.Rows.{All, all_join, judge-accepted}
use Rattle.refusal.proofs.Theorems.{Six, six-given, sixless-all, past-sixless, accepted-none}
use Rattle.counts.specs.Counts.{count_rows}
use Rattle.schedule.specs.Meaning.{Off}
use Rattle.schedule.proofs.Surplus.{hand-sixes}
use Rattle.record.specs.declared.layout.Layout.{Layout}
use Rattle.record.specs.Bytes.{unpacked}
use Rattle.record.specs.Layout.{counts_at}
use Rattle.record.specs.Record.{
  long,
  layout_in,
  ups_at,
  downs_at,
  body_at,
  cut,
  misfit,
  body_rows,
  head_rows,
  kind_rows,
  packed_rows,
  read_rows,
}
use Rattle.reader.proofs.Parts.{head-facts}

-- how far the ones are off that kind 2 packs, by the layout of a record
abbrev pub PackedOff : Layout → List ℕ → ℤ → Type 0
PackedOff k src =
    let at = counts_at k in
    Off (ups_at at src) (unpacked (ups_at at src + downs_at at src) (body_at at src))

kind-sixes : (k : Layout) (src : List ℕ) → All (Six (PackedOff k src)) (kind_rows k src)
kind-sixes (Layout.Numbered at by) src =
    sixless-all (PackedOff (Layout.Numbered at by) src) (kind_rows (Layout.Numbered at by) src) refl
kind-sixes (Layout.Beaten at) src =
    let t = ups_at at src in
    let s = downs_at at src in
    let packed-in = Six (PackedOff (Layout.Beaten at) src) in
    let hand = hand-sixes t (unpacked (t + s) (body_at at src)) in
    let counts = sixless-all (PackedOff (Layout.Beaten at) src) (count_rows t s) refl in (
      λ so six. absurd (omega arith),
      all_join packed-in (count_rows t s) (packed_rows t s (body_at at src)) counts
          (λ so six. absurd (omega arith), hand),
    )
kind-sixes Layout.Unknown src = sixless-all (PackedOff Layout.Unknown src) (kind_rows Layout.Unknown src) refl

pub read-sixes : (room : ℕ) (src : List ℕ) → All (Six (PackedOff (layout_in src) src)) (read_rows room src)
read-sixes room src =
    let k = layout_in src in
    let head = sixless-all (PackedOff k src) (head_rows room src) refl in
    all_join (Six (PackedOff k src)) (head_rows room src) (kind_rows k src) head (kind-sixes k src)

module _ (room : ℕ) (src : List ℕ) (six : refusal (judge (read_rows room src)) ≡ 6) where
  head_passed : judge (head_rows room src) ≡ Ok tt
  head_passed = past-sixless (head_rows room src) (kind_rows (layout_in src) src) refl six

  -- in the rows of its kind only packed beats can be refused so, and L is not below the byte of the counts
  reaches : (k : Layout) → refusal (judge (kind_rows k src)) ≡ 6 → counts_at k ≤ long src
  reaches (Layout.Numbered at by) six =
      absurd (six-given (λ z. ⊥) (kind_rows (Layout.Numbered at by) src)
      (sixless-all (λ z. ⊥) (kind_rows (Layout.Numbered at by) src) refl) six)
  reaches (Layout.Beaten at) six =
      let fits = (misfit (Layout.Beaten at) (long src) ⇒ WrongSize) ∷ [] in
      let t = ups_at at src in
      let s = downs_at at src in
      let passed = past-sixless fits (count_rows t s ++ body_rows (Layout.Beaten at) t s (body_at at src)) refl six in
      ltb-false (long src) at (accepted-none fits passed _ (Memᴰ.head refl))
  reaches Layout.Unknown six = omega arith

  pub six-facts : (cut src ≡ false) × (2 ≤ long src) × (counts_at (layout_in src) ≤ long src)
  six-facts =
      let head = head-facts room src head_passed in
      let kind : refusal (judge (kind_rows (layout_in src) src)) ≡ 6 =
      ap refusal (sym (judge-accepted (head_rows room src) (kind_rows (layout_in src) src) head_passed)) ∙ six in
      (head.1, head.2, reaches (layout_in src) kind)

  pub six-off : PackedOff (layout_in src) src (surplus (judge (read_rows room src)))
  six-off = six-given (PackedOff (layout_in src) src) (read_rows room src) (read-sixes room src) six
