-- The loop of a pass: records listed one after the other.
--     tail, tail-is    the part of a list from an index on, as it is lent
--     Going            the records before `at` are listed, their lines stand before `put`, and what stood after them
--                      stands there; whatever the rest of the pass lists follows those lines
--     going_start      before the first record
--     going_more       one record more
--     going-fits       its line fits
--     going_less       the bytes that are left are fewer then
--     going-rests, going-last     the pass stops: before a record, or after the line of a 9
-- Assumes nothing.
use mathlib.Core.Bool.{Bool, true, false}
use mathlib.Core.List.{List, ◌++◌, append-nil, append_assoc}
use mathlib.Core.Path.{◌≡◌, refl, sym, ◌∙◌, ap, ap₂, subst}
use Prim.Native.Nat.{ℕ, ◌+◌, ◌-◌, ◌≤◌, ◌<◌}
use native.Mathlib.Omega.{arith}
use lib.ListN.{length, take, drop, length-append, length-drop, take-append-drop, drop_of_length-le}
use lib.Seq.{take_all, take_at, drop_at, drop-drop, length-take-le}
use Rattle.stream.specs.declared.Front.{Front}
use Rattle.stream.specs.declared.Printed.{Printed}
use Rattle.stream.specs.Stream.{passed, ends, front_of}
use Rattle.stream.specs.Pass.{Prints, Lines, rests, last, more, Passes}
use Rattle.stream.proofs.Lists.{passed-some, passed-within}

abbrev pub tail : List ℕ → ℕ → List ℕ
tail l k = take (length l - k) (drop k l)

pub tail-is : (l : List ℕ) (k : ℕ) → tail l k ≡ drop k l
tail-is l k = take_all (length l - k) (drop k l) (omega (arith, length-drop k l))

module _ (line : List ℕ → List ℕ) (widest : ℕ) (ended : Bool) (src out : List ℕ) where
  pub record Going (at put : ℕ) (now : List ℕ) : Type 0 where
    pub read : at ≤ length src
    pub filled : put ≤ length out
    pub long : length now ≡ length out
    pub rest : drop put now ≡ drop put out
    pub lines : {text left : List ℕ} {front : Front}
        → Lines line widest ended (length out - put) (drop at src) text left front
        → Lines line widest ended (length out) src (take put now ++ text) left front

  pub going_start : Going 0 0 out
  going_start = record {
    read = omega arith;
    filled = omega arith;
    long = refl;
    rest = refl;
    lines = λ {text} {left} {front} q.
        let all : length out - 0 ≡ length out = omega arith in
        subst (λ (n : ℕ). Lines line widest ended n src text left front) all q;
  }

  pub going-rests : {at put : ℕ} {now : List ℕ} {front : Front} → Going at put now
      → front_of ended (tail src at) ≡ front
      → (front ≡ Front.Record → length out - put < widest)
      → Passes line widest ended src out (record { consumed = at; bytes = put; front = front }) now
  going-rests {at} {put} {now} {front} g e i =
      let size : length (take put now) ≡ put = length-take-le put now (omega (arith, g.filled, g.long)) in
      record {
        text = take put now;
        lines =
            subst (λ (l : List ℕ). Lines line widest ended (length out) src l (drop at src) front)
            (append-nil (take put now))
            (g.lines (rests (ap (front_of ended) (sym (tail-is src at)) ∙ e) i));
        within = g.read;
        size = sym size;
        written =
            sym (take-append-drop put now)
            ∙ ap (λ (l : List ℕ). take put now ++ l) (g.rest ∙ ap (λ (j : ℕ). drop j out) (sym size));
      }

  -- a record was printed after the lines
  module _ {at put : ℕ} {now : List ℕ} (g : Going at put now) {printed : Printed} {part after : List ℕ}
      (p : Prints line (tail src at) (tail now put) printed part)
      (a : after ≡ take put now ++ (part ++ drop (length now - put) (drop put now)))
      (same : length after ≡ length now) where
    abbrev this : List ℕ
    this = line (drop at src)

    abbrev lined : List ℕ
    lined = take put now ++ this

    bytes-is : printed.bytes ≡ length this
    bytes-is = p.line-size ∙ ap (λ (l : List ℕ). length (line l)) (tail-is src at)

    laid : after ≡ lined ++ drop (put + length this) now
    laid =
        a
        ∙ ap (λ (l : List ℕ). take put now ++ (part ++ l))
        (drop_of_length-le (drop put now) {i = length now - put} (omega (arith, length-drop put now)))
        ∙ ap (λ (l : List ℕ). take put now ++ l) (append-nil part ∙ p.written
        ∙ ap₂ (λ (l m : List ℕ). line l ++ drop (length (line l)) m) (tail-is src at) (tail-is now put)
        ∙ ap (λ (l : List ℕ). this ++ l) (drop-drop (length this) put now))
        ∙ sym (append_assoc (take put now) this (drop (put + length this) now))

    lined-size : length lined ≡ put + length this
    lined-size =
        length-append (take put now) this
        ∙ ap (λ (n : ℕ). n + length this) (length-take-le put now (omega (arith, g.filled, g.long)))

    fits : put + length this ≤ length out
    fits = omega (arith, lined-size, g.long, same, ap length laid, length-append lined (drop (put + length this) now))

    pub going-fits : put + printed.bytes ≤ length out
    going-fits = omega (arith, fits, bytes-is)

    front-lines : take (put + length this) after ≡ lined
    front-lines =
        ap (take (put + length this)) laid ∙ take_at lined (drop (put + length this) now) (put + length this) lined-size

    behind-lines : drop (put + length this) after ≡ drop (put + length this) out
    behind-lines =
        ap (drop (put + length this)) laid ∙ drop_at lined (drop (put + length this) now) (put + length this) lined-size
        ∙ sym (drop-drop (length this) put now) ∙ ap (drop (length this)) g.rest ∙ drop-drop (length this) put out

    module _ (e : front_of ended (tail src at) ≡ Front.Record) (w : widest ≤ length out - put) where
      at-record : front_of ended (drop at src) ≡ Front.Record
      at-record = ap (front_of ended) (sym (tail-is src at)) ∙ e

      ends_is : printed.last ≡ ends (drop at src)
      ends_is = p.ending ∙ ap ends (tail-is src at)

      pub going-last : printed.last ≡ true
          → Passes line widest ended src out
          (record { consumed = at; bytes = put + printed.bytes; front = Front.Over }) after
      going-last f =
          record {
            text = lined;
            lines = g.lines (last at-record w (sym ends_is ∙ f));
            within = g.read;
            size = ap (λ (n : ℕ). put + n) bytes-is ∙ sym lined-size;
            written = sym (take-append-drop (put + length this) after)
                ∙ ap₂ (λ (l m : List ℕ). l ++ m) front-lines
                (behind-lines ∙ ap (λ (j : ℕ). drop j out) (sym lined-size));
          }

      pub going_more : printed.last ≡ false → Going (at + printed.consumed) (put + printed.bytes) after
      going_more f = subst (λ (n : ℕ). Going n (put + printed.bytes) after) (ap (λ (n : ℕ). at + n) (sym size_is))
          (subst (λ (n : ℕ). Going (at + passed (drop at src)) n after) (ap (λ (n : ℕ). put + n) (sym bytes-is)) going)
        where
          size_is : printed.consumed ≡ passed (drop at src)
          size_is = p.record-size ∙ ap passed (tail-is src at)

          going : Going (at + passed (drop at src)) (put + length this) after
          going = record {
            read = omega (arith, g.read, passed-within (drop at src), length-drop at src);
            filled = fits;
            long = same ∙ g.long;
            rest = behind-lines;
            lines = λ {text} {left} {front} q.
                let room : length out - (put + length this) ≡ length out - put - length this = omega arith in
                subst (λ (l : List ℕ). Lines line widest ended (length out) src l left front)
                (sym (append_assoc (take put now) this text) ∙ ap (λ (l : List ℕ). l ++ text) (sym front-lines))
                (g.lines (more at-record w (sym ends_is ∙ f)
                (subst
                (λ (n : ℕ). Lines line widest ended n (drop (passed (drop at src)) (drop at src)) text left front) room
                (subst (λ (l : List ℕ). Lines line widest ended (length out - (put + length this)) l text left front)
                (sym (drop-drop (passed (drop at src)) at src)) q))));
          }

      -- the next turn of the loop has fewer bytes before it
      pub going_less : printed.last ≡ false → length src - (at + printed.consumed) < length src - at
      going_less f = omega (
        arith,
        g.read,
        p.record-size ∙ ap passed (tail-is src at),
        passed-some (drop at src) (sym ends_is ∙ f),
        passed-within (drop at src),
        length-drop at src,
      )
