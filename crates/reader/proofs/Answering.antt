-- What the reader of each layout answers and leaves, from what the functions below it do.
--     numbered-long, numbered-fits     L is what a number needs; then the verdict on it decides
--     body_taken           what is left of L for the beats
--     beaten-long, beaten-fits         L reaches past the counts; then the counts, the exact L, the bits and the beats
--                          decide
--     beaten-answer, beaten-left       so does what the packed beats answer and leave
--     read-cut, read-tiny, read-unknown      the refusals before the kind, in their order
--     read-kind            after them the rows of the kind decide
--     read-passing         a refusal of a whole record passes over it
-- Assumes nothing.
use mathlib.Core.Bool.{Bool, true, false, not}
use mathlib.Core.List.{List, ◌∷◌, ◌++◌}
use mathlib.Core.Path.{◌≡◌, sym, ◌∙◌, ap}
use Prim.Native.Nat.{ℕ, ◌+◌, ◌-◌, ◌≤◌, ◌<◌}
use native.Mathlib.Omega.{arith}
use borrow.Author.Tests.{lt-ltb, le-ltb, eq-eqb, ne_eqb}
use lib.ListN.{length, take, drop}
use Rattle.std.proofs.Common.{Result, Ok, Err}
use Rattle.std.specs.Result.{MatchResult, IsErrAnd}
use Rattle.std.proofs.lemmas.Result.{err_from_is_err_and}
use Rattle.form.specs.Answers.{number_rows}
use Rattle.refusal.specs.Answer.{Verdict, left}
use Rattle.refusal.specs.declared.Refusal.{Refusal}
use Rattle.refusal.specs.declared.Refusal.TheVariants.{WrongSize, UnknownKind, CutShort}
use Rattle.refusal.specs.Rows.{Row, ◌⇒◌, judge}
use Rattle.triangle.specs.Count.{most_beats}
use Rattle.counts.specs.Counts.{count_rows}
use Rattle.number.specs.Number.{number_of}
use Rattle.record.specs.Bytes.{value_of, unpacked}
use Rattle.record.specs.Record.{long, ups_at, downs_at, body_at, packed_rows, kind_rows, read_rows, layout_in}
use Rattle.record.specs.Record.{cut, ups, downs, body, meant_number}
use Rattle.record.specs.declared.layout.Layout.{Layout}
use Rattle.record.specs.declared.layout.Numbering.{Numbering}
use Rattle.record.specs.declared.reading.Order.{Order}
use Rattle.record.specs.declared.reading.Unread.{Unread}
use Rattle.record.specs.Parts.{Reading}
use Rattle.record.specs.Layout.{is_unknown}
use Rattle.reader.specs.Answers.{ordered, order_by, left_by, read_order, read_answer}
use Rattle.reader.proofs.Verdicts.{late-read, told-passing, told-order}

module _ (at : ℕ) (src : List ℕ) where
  abbrev up : ℕ
  up = ups_at at src

  abbrev down : ℕ
  down = downs_at at src

  abbrev held : List ℕ
  held = body_at at src

  abbrev packed : Layout
  packed = Layout.Beaten at

  abbrev numbered_tail : List Row
  numbered_tail = number_rows up down (value_of held)

  abbrev beaten_tail : List Row
  beaten_tail = count_rows up down ++ packed_rows up down held

  module _ (by : Numbering) where
    abbrev numbered : Layout
    numbered = Layout.Numbered at by

    pub numbered-long : ((long src ≡ at + 8) → ⊥) → judge (kind_rows numbered src) ≡ Err WrongSize
    numbered-long n = ap (λ (b : Bool). judge ((not b ⇒ WrongSize) ∷ numbered_tail)) (ne_eqb (long src) (at + 8) n)

    pub numbered-fits : long src ≡ at + 8 → judge (kind_rows numbered src) ≡ judge numbered_tail
    numbered-fits e = ap (λ (b : Bool). judge ((not b ⇒ WrongSize) ∷ numbered_tail)) (eq-eqb (long src) (at + 8) e)

  pub beaten-long : long src < at → judge (kind_rows packed src) ≡ Err WrongSize
  beaten-long h = ap (λ (b : Bool). judge ((b ⇒ WrongSize) ∷ beaten_tail)) (lt-ltb (long src) at h)

  pub beaten-fits : at ≤ long src → judge (kind_rows packed src) ≡ judge beaten_tail
  beaten-fits h = ap (λ (b : Bool). judge ((b ⇒ WrongSize) ∷ beaten_tail)) (le-ltb (long src) at h)

  pub body_taken : {l : ℕ} → l ≡ long src → at ≤ long src → take (2 + l - (at + 2)) (drop (at + 2) src) ≡ held
  body_taken {l} e h =
      let size : 2 + l - (at + 2) ≡ long src - at = omega arith in
      ap (λ (j : ℕ). take j (drop (at + 2) src)) size

  module _ {t s : ℕ} (et : t ≡ up) (es : s ≡ down) where
    module _ {p : List ℕ} {l : ℕ} (ep : p ≡ held) (el : l ≡ long src) (h : at ≤ long src) where
      pub beaten-answer : {r : Result Order Refusal}
          → r ≡ ordered t s (number_of t s (unpacked (t + s) p)) l (judge (count_rows t s ++ packed_rows t s p))
          → r ≡ order_by packed src (judge (kind_rows packed src))
      beaten-answer q =
          let number = number_of up down (unpacked (up + down) held) in
          q ∙ rw (et, es, ep, el) (ap (ordered up down number (long src)) (sym (beaten-fits h)))

      pub beaten-left : {x : List ℕ} (out : List ℕ)
          → x ≡ left (judge (count_rows t s ++ packed_rows t s p)) (unpacked (t + s) p ++ drop (t + s) out) out
          → x ≡ left_by packed src (judge (kind_rows packed src)) out
      beaten-left out q =
          let after = unpacked (up + down) held ++ drop (up + down) out in
          q ∙ rw (et, es, ep) (ap (λ (v : Verdict). left v after out) (sym (beaten-fits h)))

module _ (room : ℕ) (src : List ℕ) where
  module _ (h : most_beats ≤ room) where
    pub read-cut : cut src ≡ true → judge (read_rows room src) ≡ Err CutShort
    read-cut e = simp (le-ltb room most_beats h, e)

    module _ (e : cut src ≡ false) where
      pub read-tiny : long src < 2 → judge (read_rows room src) ≡ Err WrongSize
      read-tiny l = simp (le-ltb room most_beats h, e, lt-ltb (long src) 2 l)

      module _ (l : 2 ≤ long src) where
        pub read-unknown : is_unknown (layout_in src) ≡ true → judge (read_rows room src) ≡ Err UnknownKind
        read-unknown k = simp (le-ltb room most_beats h, e, le-ltb (long src) 2 l, k)

        pub read-kind : is_unknown (layout_in src) ≡ false
            → judge (read_rows room src) ≡ judge (kind_rows (layout_in src) src)
        read-kind k = simp (le-ltb room most_beats h, e, le-ltb (long src) 2 l, k)

-- what is answered of a whole record, from that with no bytes to pass over
pub read-passing : (src out : List ℕ) → most_beats ≤ length out → cut src ≡ false
    → {r : Reading} (o : Result Order Refusal) → o ≡ read_order src out
    → {Q : Refusal → Unread → Type 0}
    → ((why : Refusal) (u : Unread) → Q why u → u ≡ record { why = why; consumed = 2 + long src })
    → MatchResult o (λ x. r ≡ Ok x) (λ why. IsErrAnd r (Q why))
    → r ≡ read_answer src out
read-passing src out h e (Ok x) is q k =
    k ∙ told-order (ups src) (downs src) (meant_number (layout_in src) (ups src) (downs src) (body src)) (long src)
    (judge (read_rows (length out) src)) is
read-passing src out h e {r} (Err why) is q k =
    let p = err_from_is_err_and r k in
    p.1 ∙ ap Err (q why p.0 p.2)
    ∙ told-passing (ups src) (downs src) (meant_number (layout_in src) (ups src) (downs src) (body src)) (long src)
    (judge (read_rows (length out) src)) (λ w f. late-read (length out) src h e f) is
