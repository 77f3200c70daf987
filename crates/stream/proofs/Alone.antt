-- What a record is judged by: its own bytes, and none after them.
--     cut-ends         a record that is cut is refused with 9: the list ends, and nothing is passed over
--     whole-goes       any other record is passed over whole, and the list goes on
--     verdict-alone    what follows a settled record does not change the verdict on it
--     passed-alone     nor the bytes to pass over
--     parts-alone      nor the kind, the counts and the body of a whole record whose L reaches past its counts, and so
--     accepted-alone   of one that is accepted
-- Assumes nothing.
use mathlib.Core.Bool.{Bool, true, false, true≢false}
use mathlib.Core.List.{List, ◌++◌}
use mathlib.Core.Logic.{⊎_elim}
use mathlib.Core.Path.{◌≡◌, refl, sym, ◌∙◌, ap, ap₂, subst}
use Prim.Native.Nat.{ℕ, ◌+◌, ◌-◌, ◌≤◌, ◌<◌}
use native.Mathlib.Decide.{dec_lt, ℕ_discrete}
use native.Mathlib.Omega.{arith}
use borrow.Author.Tests.{le-ltb}
use lib.Dec.{eqb}
use lib.ListN.{length, take, drop, length-append, length-drop, get_or-append}
use lib.Seq.{take-append-le, drop-append-le}
use Rattle.std.proofs.Common.{Ok, Err}
use Rattle.form.specs.Answers.{number_rows}
use Rattle.refusal.specs.declared.Refusal.{Refusal}
use Rattle.refusal.specs.Answer.{Verdict}
use Rattle.refusal.specs.Refusal.{refusal_number}
use Rattle.refusal.specs.Rows.{judge}
use Rattle.triangle.specs.Count.{most_beats}
use Rattle.counts.specs.Counts.{count_rows}
use Rattle.record.specs.Bytes.{value_of, unpacked}
use Rattle.record.specs.declared.layout.Layout.{Layout}
use Rattle.record.specs.Layout.{layout_of, counts_at, is_unknown}
use Rattle.record.specs.Record.{long, longest, layout_in, ups_at, downs_at, body_at, ups, downs, body}
use Rattle.record.specs.Record.{packed_rows, cut, kind_rows, eaten}
use Rattle.reader.proofs.Heads.{cut-above, cut-rest, whole_long}
use Rattle.refusal.proofs.Rows.{All, given}
use Rattle.schedule.specs.Check.{hand_rows}
use Rattle.reader.proofs.Answering.{
  numbered-long,
  numbered-fits,
  beaten-long,
  beaten-fits,
  read-cut,
  read-tiny,
  read-unknown,
  read-kind,
}
use Rattle.reader.proofs.Meaning.{kind-reaches}
use Rattle.reader.proofs.Parts.{read-facts}
use Rattle.stream.specs.Stream.{verdict_on, passing, passed, ending, ends, settled}
use Rattle.stream.proofs.Fronts.{settled-whole}

-- a refusal after which the list goes on after the record
abbrev Goes : Refusal → Type 0
Goes why = ((l : ℕ) → eaten why l ≡ 2 + l) × (eqb (refusal_number why) 9 ≡ false)

hand-goes : (t : ℕ) (b : List ℕ) → All Goes (hand_rows t b)
hand-goes t b = (λ so. (λ l. refl, refl), (λ so. (λ l. refl, refl), tt))

kind-goes : (k : Layout) (src : List ℕ) → is_unknown k ≡ false → {why : Refusal}
    → judge (kind_rows k src) ≡ Err why → Goes why
kind-goes (Layout.Numbered at by) src u e =
    given Goes (kind_rows (Layout.Numbered at by) src)
    (λ so. (λ l. refl, refl), (λ so. (λ l. refl, refl), (λ so. (λ l. refl, refl), (λ so. (λ l. refl, refl), tt)))) e
kind-goes (Layout.Beaten at) src u e =
    let hand = hand-goes (ups_at at src) (unpacked (ups_at at src + downs_at at src) (body_at at src)) in
    given Goes (kind_rows (Layout.Beaten at) src)
    (λ so. (λ l. refl, refl), (λ so. (λ l. refl, refl), (λ so. (λ l. refl, refl), (λ so. (λ l. refl, refl), hand)))) e
kind-goes Layout.Unknown src u e = absurd (true≢false u)

module _ (src : List ℕ) where
  pub cut-ends : cut src ≡ true → (ends src ≡ true) × (passed src ≡ 0)
  cut-ends e = let refused = read-cut most_beats src (omega arith) e in (ap ending refused, ap (passing src) refused)

  module _ (e : cut src ≡ false) where
    refused-goes : {why : Refusal} → verdict_on src ≡ Err why → Goes why
    refused-goes {why} r = elim (dec_lt (long src) 2) [
      | yes l ↦ this (λ m. refl, refl) (read-tiny most_beats src (omega arith) e l)
      | no l ↦ by (omega arith) (is_unknown (layout_in src)) refl
    ]
      where
        this : {first : Refusal} → Goes first → verdict_on src ≡ Err first → Goes why
        this {first} goes q = let same : first ≡ why = cc in subst Goes same goes

        by : 2 ≤ long src → (b : Bool) → is_unknown (layout_in src) ≡ b → Goes why
        by l true u = this (λ m. refl, refl) (read-unknown most_beats src (omega arith) e l u)
        by l false u = kind-goes (layout_in src) src u (sym (read-kind most_beats src (omega arith) e l u) ∙ r)

    pub whole-goes : (ends src ≡ false) × (passed src ≡ 2 + long src)
    whole-goes = by (verdict_on src) refl
      where
        by : (v : Verdict) → verdict_on src ≡ v → (ends src ≡ false) × (passed src ≡ 2 + long src)
        by (Ok unit) r = (ap ending r, ap (passing src) r)
        by (Err why) r =
            (ap ending r ∙ (refused-goes r).1, ap (passing src) r ∙ (refused-goes r).0 (long src))

-- a record, and what follows it
module _ (src more : List ℕ) where
  abbrev both : List ℕ
  both = src ++ more

  longer : length src ≤ length both
  longer = omega (arith, length-append src more)

  long_same : 2 ≤ length src → long both ≡ long src
  long_same h = ap value_of (take-append-le 2 src more h)

  kind-same : 4 ≤ length src → layout_in both ≡ layout_in src
  kind-same h =
      ap (λ (l : List ℕ). layout_of (value_of (take 2 l))) (drop-append-le 2 src more (omega arith))
      ∙ ap (λ (l : List ℕ). layout_of (value_of l))
      (take-append-le 2 (drop 2 src) more (omega (arith, length-drop 2 src)))

  -- counts at a byte that L reaches past
  module _ (at : ℕ) (inside : at ≤ long src) (whole : 2 + long src ≤ length src) where
    ups-same : ups_at at both ≡ ups_at at src
    ups-same = get_or-append src more 0 at (omega arith)

    downs-same : downs_at at both ≡ downs_at at src
    downs-same = get_or-append src more 0 (at + 1) (omega arith)

    body_same : body_at at both ≡ body_at at src
    body_same =
        ap (λ (j : ℕ). take (j - at) (drop (at + 2) both)) (long_same (omega arith))
        ∙ ap (take (long src - at)) (drop-append-le (at + 2) src more (omega arith))
        ∙ take-append-le (long src - at) (drop (at + 2) src) more (omega (arith, length-drop (at + 2) src))

  module _ (here : cut src ≡ false) where
    whole : (long src ≤ longest) × (2 + long src ≤ length src)
    whole = whole_long src here

    same-long : long both ≡ long src
    same-long = long_same (omega (arith, whole))

    both-whole : cut both ≡ false
    both-whole =
        sym (cut-rest both (omega (arith, whole, longer)) (omega (arith, whole, same-long)))
        ∙ le-ltb (length both) (2 + long both) (omega (arith, whole, longer, same-long))

    rows-alone : (k : Layout) → is_unknown k ≡ false → judge (kind_rows k both) ≡ judge (kind_rows k src)
    rows-alone (Layout.Numbered at by) u = elim (ℕ_discrete (long src) (at + 8)) [
      | yes e ↦
          let inside : at ≤ long src = omega (arith, e) in
          numbered-fits at both by (same-long ∙ e)
          ∙ ap₂ (λ (t s : ℕ). judge (number_rows t s (value_of (body_at at both)))) (ups-same at inside whole.1)
          (downs-same at inside whole.1)
          ∙ ap (λ (l : List ℕ). judge (number_rows (ups_at at src) (downs_at at src) (value_of l)))
          (body_same at inside whole.1)
          ∙ sym (numbered-fits at src by e)
      | no n ↦ numbered-long at both by (λ e. n (sym same-long ∙ e)) ∙ sym (numbered-long at src by n)
    ]
    rows-alone (Layout.Beaten at) u = elim (dec_lt (long src) at) [
      | yes l ↦ beaten-long at both (omega (arith, l, same-long)) ∙ sym (beaten-long at src l)
      | no l ↦
          let inside : at ≤ long src = omega (arith, l) in
          let t = ups_at at src in
          let s = downs_at at src in
          beaten-fits at both (omega (arith, l, same-long))
          ∙ ap₂ (λ (i j : ℕ). judge (count_rows i j ++ packed_rows i j (body_at at both))) (ups-same at inside whole.1)
          (downs-same at inside whole.1)
          ∙ ap (λ (p : List ℕ). judge (count_rows t s ++ packed_rows t s p)) (body_same at inside whole.1)
          ∙ sym (beaten-fits at src inside)
    ]
    rows-alone Layout.Unknown u = absurd (true≢false u)

    whole-alone : verdict_on both ≡ verdict_on src
    whole-alone = elim (dec_lt (long src) 2) [
      | yes l ↦
          read-tiny most_beats both (omega arith) both-whole (omega (arith, l, same-long))
          ∙ sym (read-tiny most_beats src (omega arith) here l)
      | no l ↦ by (omega arith) (is_unknown (layout_in src)) refl
    ]
      where
        by : 2 ≤ long src → (b : Bool) → is_unknown (layout_in src) ≡ b → verdict_on both ≡ verdict_on src
        by l true u =
            read-unknown most_beats both (omega arith) both-whole (omega (arith, same-long))
            (ap is_unknown (kind-same (omega (arith, whole))) ∙ u)
            ∙ sym (read-unknown most_beats src (omega arith) here l u)
        by l false u =
            read-kind most_beats both (omega arith) both-whole (omega (arith, same-long))
            (ap is_unknown (kind-same (omega (arith, whole))) ∙ u)
            ∙ ap (λ (k : Layout). judge (kind_rows k both)) (kind-same (omega (arith, whole)))
            ∙ rows-alone (layout_in src) u
            ∙ sym (read-kind most_beats src (omega arith) here l u)

  module _ (e : settled src ≡ true) where
    above-alone : longest < long src → verdict_on both ≡ verdict_on src
    above-alone h =
        let two = (settled-whole src e).0 in
        read-cut most_beats both (omega arith)
        (sym (cut-above both (omega (arith, longer)) (omega (arith, h, long_same two))))
        ∙ sym (read-cut most_beats src (omega arith) (sym (cut-above src two h)))

    pub verdict-alone : verdict_on both ≡ verdict_on src
    verdict-alone = elim (dec_lt longest (long src)) [
      | yes h ↦ above-alone h
      | no h ↦ ⊎_elim above-alone
          (λ w. whole-alone
          (sym (cut-rest src (settled-whole src e).0 (omega arith)) ∙ le-ltb (length src) (2 + long src) w))
          (settled-whole src e).1
    ]

    pub passed-alone : passed both ≡ passed src
    passed-alone = ap (passing both) verdict-alone ∙ by (verdict_on src)
      where
        by : (v : Verdict) → passing both v ≡ passing src v
        by (Ok unit) = ap (λ (l : ℕ). 2 + l) (long_same (settled-whole src e).0)
        by (Err why) = ap (eaten why) (long_same (settled-whole src e).0)

  pub parts-alone : cut src ≡ false → 2 ≤ long src → counts_at (layout_in src) ≤ long src
      → (layout_in both ≡ layout_in src) × (ups both ≡ ups src) × (downs both ≡ downs src) × (body both ≡ body src)
  parts-alone here some inside =
      let reaches = (whole_long src here).1 in
      let at = counts_at (layout_in src) in
      let same = kind-same (omega (arith, some, reaches)) in (
        same,
        ap (λ (k : Layout). ups_at (counts_at k) both) same ∙ ups-same at inside reaches,
        ap (λ (k : Layout). downs_at (counts_at k) both) same ∙ downs-same at inside reaches,
        ap (λ (k : Layout). body_at (counts_at k) both) same ∙ body_same at inside reaches,
      )

  pub accepted-alone : verdict_on src ≡ Ok tt
      → (layout_in both ≡ layout_in src) × (ups both ≡ ups src) × (downs both ≡ downs src) × (body both ≡ body src)
  accepted-alone r =
      let facts = read-facts most_beats src r in
      parts-alone facts.1 facts.2 (kind-reaches src (layout_in src) facts.3 facts.4)
