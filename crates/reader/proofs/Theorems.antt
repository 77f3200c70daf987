-- What a record means, the manual, "Order record", for every kind and form. That an accepted record means a schedule of
-- allowed counts and its number is `read-means` in Meaning.antt.
--     written_read         what was written is read back: t, s, the number, the schedule, and 2 + L bytes consumed [B3]
--     read-written         what is read is written again byte for byte [B4]
--     one-record           within a kind a form has one record [B5]
--     kinds-agree          the records of a form in two kinds, as 1, 2 and 3, read the same, but for their length [B6]
-- Assumes nothing.
use mathlib.Core.Bool.{false, true≢false}
use mathlib.Core.List.Memᴰ
use mathlib.Core.List.{List, [], ◌∷◌, ◌++◌}
use mathlib.Core.Path.{◌≡◌, refl, sym, ◌∙◌, ap, ap₂}
use Prim.Native.Nat.{ℕ, zero, suc, ◌+◌, ◌-◌, ◌≤◌, ◌<◌}
use native.Mathlib.Decide.{dec_lt}
use native.Mathlib.Omega.{arith}
use borrow.Author.Tests.{le-ltb, eq-eqb}
use lib.ListN.{length, get_or, take, drop, length-append, get_or-eq_default}
use lib.Seq.{take_at, get_or-drop, get_or-take}
use Rattle.std.proofs.Common.{Ok}
use Rattle.form.specs.Answers.{number_rows}
use Rattle.refusal.specs.Answer.{Verdict}
use Rattle.refusal.specs.Rows.{judge}
use Rattle.refusal.proofs.Rows.{judge-front, judge-accepted}
use Rattle.refusal.proofs.Theorems.{accepted-none}
use Rattle.triangle.specs.Count.{most_beats}
use Rattle.triangle.proofs.Theorems.{fits-64-bits}
use Rattle.counts.specs.Counts.{Allowed, count_rows}
use Rattle.counts.proofs.Sizes.{allowed-counts}
use Rattle.schedule.specs.Schedule.{Schedule}
use Rattle.schedule.specs.Check.{check_rows}
use Rattle.schedule.proofs.Theorems.{accepted-schedule, schedule-accepted}
use Rattle.number.specs.Number.{number_of}
use Rattle.form.proofs.Verdicts.{number-taken}
use Rattle.record.specs.Bytes.{low_first, value_of, bytes_for, packed, unpacked, unused}
use Rattle.record.specs.declared.layout.Layout.{Layout}
use Rattle.record.specs.declared.layout.Numbering.{Numbering}
use Rattle.record.specs.Layout.{layout_of, counts_at, is_unknown}
use Rattle.record.specs.Record.{number_by, form_by, kind_in}
use Rattle.record.specs.Record.{payload, record_of, long, layout_in, ups_at, downs_at, body_at, ups, downs, body, cut}
use Rattle.record.specs.Record.{packed_rows, kind_rows, read_rows, meant, meant_number, room_row, write_rows}
use Rattle.record.proofs.Layouts.{counts-at-four, known_small, written_known}
use Rattle.record.proofs.Numerals.{Bytes, value_low, low_value, length-low}
use Rattle.record.proofs.Packing.{all-beats}
use Rattle.record.proofs.Writing.{record-size, write-kind, packed-size}
use Rattle.reader.specs.Answers.{answer_by, left_by, read_answer, read_left}
use Rattle.record.specs.Parts as said
use Rattle.reader.proofs.Numberings.{number-form-in, number-below-in, form-number-in}
use Rattle.reader.proofs.Unpacking.{unpacked-packed, packed-unpacked}
use Rattle.reader.proofs.Heads.{cut-rest, whole_long, body-size}
use Rattle.reader.proofs.Verdicts.{hand-checked, spoiled-not}
use Rattle.reader.proofs.Answering.{numbered-fits, beaten-fits, read-kind}
use Rattle.reader.proofs.Parts.{parts-of, six, unused-packed, read-facts}
use Rattle.reader.proofs.Meaning.{numbered-facts, beaten-facts, kind-reaches}

-- a slice whose parts, by a layout, are those of a form
module _ (src : List ℕ) {t s : ℕ} {b : List ℕ} (a : Allowed t s) (q : Schedule t s b) where
  record Holds (k : Layout) : Type 0 where
    known : is_unknown k ≡ false
    t-is : ups_at (counts_at k) src ≡ t
    s-is : downs_at (counts_at k) src ≡ s
    body_is : body_at (counts_at k) src ≡ payload k t s b
    size : long src ≡ counts_at k + length (payload k t s b)

  -- the packed beats have the bytes that they need, no unused bit, and give the beats again
  exact : length (packed b) ≡ bytes_for (t + s)
  exact = packed-size b ∙ ap bytes_for q.size

  clean : unused (t + s) (packed b) ≡ 0
  clean = ap (λ (j : ℕ). unused j (packed b)) (sym q.size) ∙ unused-packed b

  again : unpacked (t + s) (packed b) ≡ b
  again = ap (λ (j : ℕ). unpacked j (packed b)) (sym q.size) ∙ unpacked-packed b (all-beats b q.beats)

  value-held : (at : ℕ) (by : Numbering) → Holds (Layout.Numbered at by)
      → value_of (body_at at src) ≡ number_by by t s b
  value-held at by h =
      ap value_of h.body_is
      ∙ value_low 8 (number_by by t s b) (omega (arith, number-below-in q by, fits-64-bits t s a.0))

  beats-held : (k : Layout) → Holds k
      → meant k (ups_at (counts_at k) src) (downs_at (counts_at k) src) (body_at (counts_at k) src) ≡ b
  beats-held (Layout.Numbered at by) h =
      ap₂ (λ (i j : ℕ). form_by by i j (value_of (body_at at src))) h.t-is h.s-is
      ∙ ap (form_by by t s) (value-held at by h)
      ∙ number-form-in q by
  beats-held (Layout.Beaten at) h =
      ap₂ (λ (i j : ℕ). unpacked (i + j) (body_at at src)) h.t-is h.s-is
      ∙ ap (unpacked (t + s)) h.body_is
      ∙ again
  beats-held Layout.Unknown h = absurd (true≢false h.known)

  number-held : (k : Layout) → Holds k
      → meant_number k (ups_at (counts_at k) src) (downs_at (counts_at k) src) (body_at (counts_at k) src) ≡ number_of t
      s b
  number-held k h =
      let form = meant k (ups_at (counts_at k) src) (downs_at (counts_at k) src) (body_at (counts_at k) src) in
      ap₂ (λ (i j : ℕ). number_of i j form) h.t-is h.s-is ∙ ap (number_of t s) (beats-held k h)

  rows-held : (k : Layout) → Holds k → judge (kind_rows k src) ≡ Ok tt
  rows-held (Layout.Numbered at by) h =
      numbered-fits at src by (h.size ∙ ap (λ (j : ℕ). at + j) (length-low 8 (number_by by t s b)))
      ∙ ap₂ (λ (i j : ℕ). judge (number_rows i j (value_of (body_at at src)))) h.t-is h.s-is
      ∙ ap (λ (n : ℕ). judge (number_rows t s n)) (value-held at by h)
      ∙ number-taken t s (number_by by t s b) (allowed-counts t s a) (number-below-in q by)
  rows-held (Layout.Beaten at) h =
      beaten-fits at src (omega (arith, h.size))
      ∙ ap₂ (λ (i j : ℕ). judge (count_rows i j ++ packed_rows i j (body_at at src))) h.t-is h.s-is
      ∙ ap (λ (w : List ℕ). judge (count_rows t s ++ packed_rows t s w)) h.body_is
      ∙ judge-accepted (count_rows t s) (packed_rows t s (packed b)) (allowed-counts t s a)
      ∙ spoiled-not t s (packed b) exact (eq-eqb (unused (t + s) (packed b)) 0 clean) b (sym again)
      ∙ sym (hand-checked t s b a q.size q.beats)
      ∙ schedule-accepted t s b a q
  rows-held Layout.Unknown h = absurd (true≢false h.known)

  few : (k : Layout) → length (payload k t s b) ≤ most_beats
  few (Layout.Numbered at by) = omega (arith, length-low 8 (number_by by t s b))
  few (Layout.Beaten at) = omega (arith, exact, a.0, a.1)
  few Layout.Unknown = omega arith

-- what reading a slice is to say: that it is a record of this form
pub record Says (src : List ℕ) (t s n : ℕ) (b : List ℕ) (bytes : ℕ) : Type 0 where
  pub accepted : (room : ℕ) → most_beats ≤ room → judge (read_rows room src) ≡ Ok tt
  pub t-is : ups src ≡ t
  pub s-is : downs src ≡ s
  pub number_is : meant_number (layout_in src) (ups src) (downs src) (body src) ≡ n
  pub beats-are : meant (layout_in src) (ups src) (downs src) (body src) ≡ b
  pub bytes-are : 2 + long src ≡ bytes

-- a record that was written, with something after it
module _ (t s : ℕ) (b rest : List ℕ) (a : Allowed t s) (q : Schedule t s b) (kind : ℕ)
    (u : is_unknown (layout_of kind) ≡ false) where
  abbrev p : List ℕ
  p = payload (layout_of kind) t s b

  abbrev src : List ℕ
  src = record_of kind t s b ++ rest

  small : counts_at (layout_of kind) + length p < 1000
  small = omega (arith, counts-at-four kind u, few src a q (layout_of kind))

  parts : (long src ≡ counts_at (layout_of kind) + length p) × (value_of (take 2 (drop 2 src)) ≡ kind)
      × (ups_at 4 src ≡ t) × (downs_at 4 src ≡ s) × (drop 6 src ≡ p ++ rest)
  parts = parts-of (counts_at (layout_of kind) + length p) kind t s p rest (omega (arith, small)) (known_small kind u)

  laid : layout_in src ≡ layout_of kind
  laid = ap layout_of parts.1

  four : counts_at (layout_in src) ≡ 4
  four = ap counts_at laid ∙ counts-at-four kind u

  body_is : body src ≡ p
  body_is =
      let size : long src - 4 ≡ length p = omega (arith, parts.0, counts-at-four kind u) in
      ap (λ (j : ℕ). body_at j src) four ∙ ap₂ take size parts.4 ∙ take_at p rest (length p) refl

  held : Holds src a q (layout_in src)
  held = record {
    known = ap is_unknown laid ∙ u;
    t-is = ap (λ (j : ℕ). ups_at j src) four ∙ parts.2;
    s-is = ap (λ (j : ℕ). downs_at j src) four ∙ parts.3;
    body_is = body_is ∙ ap (λ (k : Layout). payload k t s b) (sym laid);
    size = parts.0 ∙ ap (λ (k : Layout). counts_at k + length (payload k t s b)) (sym laid);
  }

  whole : cut src ≡ false
  whole =
      let longer : 2 + long src ≤ length src =
      omega (
        arith,
        parts.0,
        counts-at-four kind u,
        record-size (layout_of kind) kind t s b,
        length-append (record_of kind t s b) rest,
      ) in
      sym (cut-rest src (omega (arith, longer)) (omega (arith, parts.0, small)))
      ∙ le-ltb (length src) (2 + long src) longer

  pub says : Says src t s (number_of t s b) b (length (record_of kind t s b))
  says = record {
    accepted = λ room h.
        read-kind room src h whole (omega (arith, parts.0, counts-at-four kind u)) held.known
        ∙ rows-held src a q (layout_in src) held;
    t-is = held.t-is;
    s-is = held.s-is;
    number_is = number-held src a q (layout_in src) held;
    beats-are = beats-held src a q (layout_in src) held;
    bytes-are = omega (arith, parts.0, counts-at-four kind u, record-size (layout_of kind) kind t s b);
  }

-- what reading such a slice answers and leaves
says_all : (t s : ℕ) (b rest lent : List ℕ) → most_beats ≤ length lent → {src : List ℕ} {n bytes : ℕ}
    → Says src t s n b bytes
    → (read_answer src lent ≡ Ok (record { t = t; s = s; number = n; consumed = bytes }))
    × (read_left src lent ≡ b ++ drop (t + s) lent)
says_all t s b rest lent h {src} u =
    let v = u.accepted (length lent) h in (
      ap (answer_by Numbering.Catalogue (layout_in src) src) v ∙ rw (u.number_is, u.t-is, u.s-is, u.bytes-are),
      ap (λ (w : Verdict). left_by (layout_in src) src w lent) v
          ∙ ap₂ (λ (c : List ℕ) (n : ℕ). c ++ drop n lent) u.beats-are
          (ap₂ (λ (i j : ℕ). i + j) u.t-is u.s-is),
    )

module _ (kind t s : ℕ) (b out rest lent : List ℕ) where
  pub written_read : judge (write_rows kind t s b out) ≡ Ok tt → most_beats ≤ length lent
      → (read_answer (record_of kind t s b ++ rest) lent
      ≡ Ok (record { t = t; s = s; number = number_of t s b; consumed = length (record_of kind t s b) }))
      × (read_left (record_of kind t s b ++ rest) lent ≡ b ++ drop (t + s) lent)
  written_read e h =
      let kept = accepted-none (write_rows kind t s b out) e _ (Memᴰ.head refl) in
      let known = written_known (layout_of kind) kept in
      let rows = sym (write-kind kind t s b out kept) ∙ e in
      let form =
      accepted-schedule t s b (judge-front (check_rows t s b) (room_row (record_of kind t s b) out ∷ []) rows) in
      says_all t s b rest lent h (says t s b rest form.0 form.1 kind known)

-- a slice of bytes that is accepted
module _ (src : List ℕ) (bytes : Bytes src) (room : ℕ) (e : judge (read_rows room src) ≡ Ok tt) where
  abbrev kind : ℕ
  kind = kind_in src

  abbrev at : ℕ
  at = counts_at (layout_in src)

  abbrev b : List ℕ
  b = meant (layout_in src) (ups src) (downs src) (body src)

  facts : (most_beats ≤ room) × (cut src ≡ false) × (2 ≤ long src) × (is_unknown (layout_in src) ≡ false)
      × (judge (kind_rows (layout_in src) src) ≡ Ok tt)
  facts = read-facts room src e

  at-four : at ≡ 4
  at-four = counts-at-four kind facts.3

  reaches : (at ≤ long src) × (2 + long src ≤ length src)
  reaches = (kind-reaches src (layout_in src) facts.3 facts.4, (whole_long src facts.1).1)

  size : length (body src) ≡ long src - at
  size = body-size src at reaches.0 reaches.1

  body_bytes : Bytes (body src)
  body_bytes i = elim (dec_lt i (long src - at)) [
    | yes h ↦
        let inside = get_or-take (long src - at) (drop (at + 2) src) i 0 h in
        omega (arith, inside, get_or-drop (at + 2) src i 0, bytes (at + 2 + i))
    | no h ↦ omega (arith, get_or-eq_default (body src) 0 {n = i} (omega (arith, size, h)))
  ]

  -- the payload that the writer makes is the one that was read
  payload-is : payload (layout_in src) (ups src) (downs src) b ≡ body src
  payload-is = by (layout_in src) facts.3 facts.4 size body_bytes
    where
      by : (k : Layout) → is_unknown k ≡ false → judge (kind_rows k src) ≡ Ok tt
          → length (body_at (counts_at k) src) ≡ long src - counts_at k → Bytes (body_at (counts_at k) src)
          → payload k (ups_at (counts_at k) src) (downs_at (counts_at k) src)
          (meant k (ups_at (counts_at k) src) (downs_at (counts_at k) src) (body_at (counts_at k) src))
          ≡ body_at (counts_at k) src
      by (Layout.Numbered at numbering) u f n m =
          let g = numbered-facts at src numbering f in
          let number = value_of (body_at at src) in
          let eight : 8 ≡ length (body_at at src) = omega (arith, n, g.0) in
          ap (low_first 8) (form-number-in g.1.1 numbering number g.2)
          ∙ ap (λ (j : ℕ). low_first j number) eight
          ∙ low_value (body_at at src) m
      by (Layout.Beaten at) u f n m =
          let g = beaten-facts at src f in
          packed-unpacked (ups_at at src + downs_at at src) (body_at at src) g.exact m g.clean
      by Layout.Unknown u f n m = absurd (true≢false u)

  front : src ≡ get_or src 0 0 ∷
      (get_or src 1 0 ∷ (get_or src 2 0 ∷ (get_or src 3 0 ∷ (ups src ∷ (downs src ∷ drop 6 src)))))
  front =
      six src (omega (arith, at-four, reaches))
      ∙ ap (λ (j : ℕ).
      get_or src 0 0 ∷ (get_or src 1 0 ∷ (get_or src 2 0 ∷ (get_or src 3 0 ∷
      (ups_at j src ∷ (downs_at j src ∷ drop 6 src))))))
      (sym at-four)

  two_bytes : (x y : ℕ) → x < 256 → y < 256 → low_first 2 (value_of (x ∷ (y ∷ []))) ≡ x ∷ (y ∷ [])
  two_bytes x y h g = low_value (x ∷ (y ∷ [])) each
    where
      each : (i : ℕ) → get_or (x ∷ (y ∷ [])) i 0 < 256
      each zero = h
      each (suc zero) = g
      each (suc (suc i)) = omega arith

  long-bytes : low_first 2 (at + length (body src)) ≡ get_or src 0 0 ∷ (get_or src 1 0 ∷ [])
  long-bytes =
      let all : at + length (body src) ≡ long src = omega (arith, size, reaches) in
      ap (low_first 2) (all ∙ ap (λ (w : List ℕ). value_of (take 2 w)) front)
      ∙ two_bytes (get_or src 0 0) (get_or src 1 0) (bytes 0) (bytes 1)

  kind-bytes : low_first 2 kind ≡ get_or src 2 0 ∷ (get_or src 3 0 ∷ [])
  kind-bytes =
      ap (low_first 2) (ap (λ (w : List ℕ). value_of (take 2 (drop 2 w))) front)
      ∙ two_bytes (get_or src 2 0) (get_or src 3 0) (bytes 2) (bytes 3)

  pub read-written : record_of kind (ups src) (downs src) b ≡ take (2 + long src) src
  read-written =
      let n = long src - 4 in
      let all : suc (suc (suc (suc (suc (suc n))))) ≡ 2 + long src = omega (arith, at-four, reaches) in
      ap (λ (w : List ℕ). low_first 2 (at + length w) ++ (low_first 2 kind ++ (ups src ∷ (downs src ∷ w)))) payload-is
      ∙ ap₂ (λ (u v : List ℕ). u ++ (v ++ (ups src ∷ (downs src ∷ body src)))) long-bytes kind-bytes
      ∙ ap (λ (j : ℕ).
      get_or src 0 0 ∷ (get_or src 1 0 ∷ (get_or src 2 0 ∷ (get_or src 3 0 ∷ (ups src ∷ (downs src ∷ body_at j src))))))
      at-four
      ∙ sym (ap (take (suc (suc (suc (suc (suc (suc n))))))) front)
      ∙ ap (λ (j : ℕ). take j src) all

-- two slices of one kind that mean one form start with one record
pub one-record : (src dst : List ℕ) → Bytes src → Bytes dst → (room : ℕ) → judge (read_rows room src) ≡ Ok tt
    → judge (read_rows room dst) ≡ Ok tt
    → kind_in src ≡ kind_in dst → ups src ≡ ups dst → downs src ≡ downs dst
    → meant (layout_in src) (ups src) (downs src) (body src) ≡ meant (layout_in dst) (ups dst) (downs dst) (body dst)
    → take (2 + long src) src ≡ take (2 + long dst) dst
one-record src dst f g room e h k t s b =
    sym (read-written src f room e)
    ∙ ap (λ (j : ℕ). record_of j (ups src) (downs src) (meant (layout_in src) (ups src) (downs src) (body src))) k
    ∙ ap₂ (λ (i j : ℕ).
    record_of (kind_in dst) i j (meant (layout_in src) (ups src) (downs src) (body src)))
    t s
    ∙ ap (record_of (kind_in dst) (ups dst) (downs dst)) b
    ∙ read-written dst g room h

-- the records of a form in two kinds that are read mean the same
pub kinds-agree : (i j : ℕ) → is_unknown (layout_of i) ≡ false → is_unknown (layout_of j) ≡ false
    → (t s : ℕ) (b rest lent : List ℕ) → Allowed t s → Schedule t s b → most_beats ≤ length lent
    → (said.t (read_answer (record_of i t s b ++ rest) lent) ≡ said.t (read_answer (record_of j t s b ++ rest) lent))
    × (said.s (read_answer (record_of i t s b ++ rest) lent) ≡ said.s (read_answer (record_of j t s b ++ rest) lent))
    × (said.number (read_answer (record_of i t s b ++ rest) lent)
    ≡ said.number (read_answer (record_of j t s b ++ rest) lent))
    × (read_left (record_of i t s b ++ rest) lent ≡ read_left (record_of j t s b ++ rest) lent)
kinds-agree i j u v t s b rest lent a q h =
    let one = says_all t s b rest lent h (says t s b rest a q i u) in
    let two = says_all t s b rest lent h (says t s b rest a q j v) in (
      ap said.t one.0 ∙ sym (ap said.t two.0),
      ap said.s one.0 ∙ sym (ap said.s two.0),
      ap said.number one.0 ∙ sym (ap said.number two.0),
      one.1 ∙ sym two.1,
    )
