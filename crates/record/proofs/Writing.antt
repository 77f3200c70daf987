-- Writing a record.
--     headed               the six bytes in front of the payload, stored one by one
--     numbered-size, beaten-size         how long a record of each kind is
--     record-made          head and payload make the record, and what was after stays
--     write-refused, write-short, write-taken     the verdict on writing a kind that is written, from the check's
--     write-unknown, write-kind          the kind's row in front of the others
-- Assumes nothing.
use mathlib.Core.Bool.{Bool, true, false}
use mathlib.Core.List.{List, [], ◌∷◌, ◌++◌}
use mathlib.Core.Path.{◌≡◌, refl, sym, ◌∙◌, ap}
use Prim.Native.Nat.{ℕ, ◌+◌, ◌*◌, ◌/◌, ◌%◌, ◌≤◌, ◌<◌}
use native.Mathlib.Omega.{arith}
use borrow.Author.Tests.{lt-ltb, le-ltb}
use lib.ListN.{length, set, take, drop}
use lib.Seq.{drop-drop}
use Rattle.std.proofs.Common.{Ok, Err}
use Rattle.refusal.specs.declared.Refusal.{Refusal}
use Rattle.refusal.specs.declared.Refusal.TheVariants.{UnknownKind, NoRoom}
use Rattle.refusal.specs.Rows.{Row, ◌⇒◌, judge}
use Rattle.refusal.proofs.Rows.{judge-refused, judge-accepted}
use Rattle.schedule.specs.Check.{check_rows, checked}
use Rattle.record.specs.Bytes.{low_first, spell, bytes_for, packed}
use Rattle.record.specs.declared.layout.Layout.{Layout}
use Rattle.record.specs.declared.layout.Numbering.{Numbering}
use Rattle.record.specs.Layout.{layout_of, counts_at, is_unwritten}
use Rattle.record.specs.Record.{number_by, payload, record_in, record_of, room_row, known_rows, write_rows}
use Rattle.record.proofs.Numerals.{length-low}
use Rattle.record.proofs.Packing.{length-tabulate}

pub headed : (xs : List ℕ) (a b c d e f : ℕ) → 6 ≤ length xs
    → set (set (set (set (set (set xs 0 a) 1 b) 2 c) 3 d) 4 e) 5 f ≡ a ∷ (b ∷ (c ∷ (d ∷ (e ∷ (f ∷ drop 6 xs)))))
headed [] a b c d e f h = absurd (omega arith)
headed (x₀ ∷ []) a b c d e f h = absurd (omega arith)
headed (x₀ ∷ (x₁ ∷ [])) a b c d e f h = absurd (omega arith)
headed (x₀ ∷ (x₁ ∷ (x₂ ∷ []))) a b c d e f h = absurd (omega arith)
headed (x₀ ∷ (x₁ ∷ (x₂ ∷ (x₃ ∷ [])))) a b c d e f h = absurd (omega arith)
headed (x₀ ∷ (x₁ ∷ (x₂ ∷ (x₃ ∷ (x₄ ∷ []))))) a b c d e f h = absurd (omega arith)
headed (x₀ ∷ (x₁ ∷ (x₂ ∷ (x₃ ∷ (x₄ ∷ (x₅ ∷ xs)))))) a b c d e f h = refl

-- head and payload, and what was after them
made : (l kind t s : ℕ) (p out x : List ℕ) → x ≡ low_first 2 l ++ (low_first 2 kind ++ (t ∷ (s ∷ drop 6 out)))
    → take 6 x ++ (p ++ drop (length p) (drop 6 x))
    ≡ (low_first 2 l ++ (low_first 2 kind ++ (t ∷ (s ∷ p)))) ++ drop (6 + length p) out
unfolding low_first
made l kind t s p out x e =
    ap (λ (y : List ℕ). take 6 y ++ (p ++ drop (length p) (drop 6 y))) e
    ∙ ap (λ (w : List ℕ). l % 256 ∷ (l / 256 % 256 ∷ (kind % 256 ∷ (kind / 256 % 256 ∷ (t ∷ (s ∷ (p ++ w)))))))
    (drop-drop (length p) 6 out)

module _ (k : Layout) (kind t s : ℕ) (b : List ℕ) where
  abbrev p : List ℕ
  p = payload k t s b

  -- a record is its head of six bytes and its payload
  pub record-size : length (record_in k kind t s b) ≡ 6 + length p
  unfolding low_first
  record-size = omega arith

  -- head, and payload from byte `from` on
  pub record-made : (l from n : ℕ) (out x y : List ℕ)
      → x ≡ low_first 2 l ++ (low_first 2 kind ++ (t ∷ (s ∷ drop 6 out)))
      → y ≡ p → l ≡ counts_at k + length p → from ≡ 6 → n ≡ length p
      → take from x ++ (y ++ drop n (drop from x))
      ≡ record_in k kind t s b ++ drop (length (record_in k kind t s b)) out
  record-made l from n out x y e f g h i =
      ap (λ (j : ℕ). take j x ++ (y ++ drop n (drop j x))) h
      ∙ ap (λ (w : List ℕ). take 6 x ++ (w ++ drop n (drop 6 x))) f
      ∙ ap (λ (j : ℕ). take 6 x ++ (p ++ drop j (drop 6 x))) i
      ∙ made l kind t s p out x e
      ∙ ap (λ (j : ℕ). (low_first 2 j ++ (low_first 2 kind ++ (t ∷ (s ∷ p)))) ++ drop (6 + length p) out) g
      ∙ ap (λ (j : ℕ). record_in k kind t s b ++ drop j out) (sym record-size)

-- the verdict on writing these bytes for a schedule
module _ (t s : ℕ) (b bytes out : List ℕ) where
  abbrev last : List Row
  last = room_row bytes out ∷ []

  pub write-refused : {why : Refusal} → checked t s b ≡ Err why
      → judge (known_rows t s b bytes out) ≡ Err why
  write-refused {why} e = judge-refused (check_rows t s b) last why e

  module _ (e : checked t s b ≡ Ok tt) where
    pub write-short : length out < length bytes → judge (known_rows t s b bytes out) ≡ Err NoRoom
    write-short h =
        judge-accepted (check_rows t s b) last e
        ∙ ap (λ (x : Bool). judge ((x ⇒ NoRoom) ∷ [])) (lt-ltb (length out) (length bytes) h)

    pub write-taken : length bytes ≤ length out → judge (known_rows t s b bytes out) ≡ Ok tt
    write-taken h =
        judge-accepted (check_rows t s b) last e
        ∙ ap (λ (x : Bool). judge ((x ⇒ NoRoom) ∷ [])) (le-ltb (length out) (length bytes) h)

-- the kind's row in front of the others
module _ (kind t s : ℕ) (b out : List ℕ) where
  abbrev known : List Row
  known = known_rows t s b (record_of kind t s b) out

  pub write-unknown : is_unwritten (layout_of kind) ≡ true
      → judge (write_rows kind t s b out) ≡ Err UnknownKind
  write-unknown e = ap (λ (x : Bool). judge ((x ⇒ UnknownKind) ∷ known)) e

  pub write-kind : is_unwritten (layout_of kind) ≡ false → judge (write_rows kind t s b out) ≡ judge known
  write-kind e = ap (λ (x : Bool). judge ((x ⇒ UnknownKind) ∷ known)) e

pub packed-size : (b : List ℕ) → length (packed b) ≡ bytes_for (length b)
packed-size b = length-tabulate (bytes_for (length b)) (λ j. spell 8 (drop (8 * j) b))

module _ (at kind t s : ℕ) (b : List ℕ) where
  pub numbered-size : (by : Numbering) → length (record_in (Layout.Numbered at by) kind t s b) ≡ 14
  numbered-size by =
      record-size (Layout.Numbered at by) kind t s b ∙ ap (λ (j : ℕ). 6 + j) (length-low 8 (number_by by t s b))

  pub beaten-size : length (record_in (Layout.Beaten at) kind t s b) ≡ 6 + bytes_for (length b)
  beaten-size = record-size (Layout.Beaten at) kind t s b ∙ ap (λ (j : ℕ). 6 + j) (packed-size b)
