-- Reading, and what version 1 read (specs/Earlier): of every slice and all room that is lent.
--     layout_stays         every kind but 3 has the layout that it had
--     read-as-before       what version 1 accepted is accepted, with the same counts, bytes consumed and schedule, and
--                          with the number one less round the circle [K5]
--     refused-as-before    what version 1 refused is refused so, consumes as much and leaves the same, but for a record
--                          of kind 3 that was refused 10 [K6]
--     earlier-held         the number that version 1 answered for a record of kind 1 is the one that the record holds
--                          [K5]
-- Assumes nothing.
use mathlib.Core.Bool.{false, true≢false}
use mathlib.Core.List.{List, [], ◌∷◌}
use mathlib.Core.Path.{◌≡◌, refl, sym, ◌∙◌, ap}
use Prim.Native.Nat.{ℕ, zero, suc, ◌+◌}
use native.Mathlib.Decide.{ℕ_discrete}
use lib.Dec.{ltb}
use lib.ListN.{length}
use Rattle.std.proofs.Common.{Ok, Err}
use Rattle.refusal.specs.declared.Refusal.{Refusal}
use Rattle.refusal.specs.declared.Refusal.TheVariants.{WrongSize, CutShort, UnknownKind, NoRoom}
use Rattle.refusal.specs.Answer.{Verdict}
use Rattle.refusal.specs.Rows.{Row, ◌⇒◌, judge}
use Rattle.refusal.proofs.Rows.{judge-refused, judge-accepted}
use Rattle.triangle.specs.Count.{most_beats}
use Rattle.number.specs.Number.{number_from_top}
use Rattle.number.proofs.Theorems.{catalogue-number}
use Rattle.record.specs.declared.layout.Layout.{Layout}
use Rattle.record.specs.declared.layout.Numbering.{Numbering}
use Rattle.record.specs.declared.reading.Order.{Order}
use Rattle.record.specs.Parts.{Reading, unread}
use Rattle.record.specs.Bytes.{value_of}
use Rattle.record.specs.Layout.{layout_of, counts_at, is_unknown}
use Rattle.record.specs.Parts as said
use Rattle.record.specs.Record.{long, kind_in, layout_in, ups_at, downs_at, body_at, body, cut, meant, kind_rows}
use Rattle.record.specs.Record.{read_rows_by}
use Rattle.reader.specs.Answers.{answer_by, left_by, read_answer_by, read_left_by, read_answer, read_left}
use Rattle.reader.specs.Earlier.{earlier_layout, earlier_answer, earlier_left, renumbered}
use Rattle.reader.proofs.Meaning.{Means, kind-means}
use Rattle.reader.proofs.Parts.{read-facts-by}
use Rattle.reader.proofs.Verdicts.{told-verdict}

pub layout_stays : (kind : ℕ) → ((kind ≡ 3) → ⊥) → earlier_layout kind ≡ layout_of kind
layout_stays zero n = refl
layout_stays (suc zero) n = refl
layout_stays (suc (suc zero)) n = refl
layout_stays (suc (suc (suc zero))) n = absurd (n refl)
layout_stays (suc (suc (suc (suc kind)))) n = refl

module _ (src out : List ℕ) where
  -- an answer has the verdict of the rows
  verdict-of : (by : Numbering) (k : Layout) {r : Reading} → read_answer_by by k src out ≡ r
      → judge (read_rows_by k (length out) src) ≡ said.verdict r
  verdict-of by k e = sym (told-verdict _ _ _ _ _) ∙ ap said.verdict e

  -- accepted by a layout, with a number that counts from t ones then s zeros
  module _ (k : Layout) (o : Order) (e : read_answer_by Numbering.FromTop k src out ≡ Ok o) where
    abbrev t : ℕ
    t = ups_at (counts_at k) src

    abbrev s : ℕ
    s = downs_at (counts_at k) src

    abbrev b : List ℕ
    b = meant k t s (body_at (counts_at k) src)

    abbrev order : ℕ → Order
    order n = record { t = t; s = s; number = n; consumed = 2 + long src }

    accepted : judge (read_rows_by k (length out) src) ≡ Ok tt
    accepted = verdict-of Numbering.FromTop k e

    known : is_unknown k ≡ false
    known = (read-facts-by k (length out) src accepted).3

    means : Means src k
    means = kind-means src k known (read-facts-by k (length out) src accepted).4

    is-order : order (number_from_top t s b) ≡ o
    is-order = ap order_of (sym (ap (answer_by Numbering.FromTop k src) accepted) ∙ e)
      where
        order_of : Reading → Order
        order_of (Ok other) = other
        order_of (Err u) = o

    moved : read_answer_by Numbering.Catalogue k src out ≡ Ok (renumbered o)
    moved =
        ap (answer_by Numbering.Catalogue k src) accepted
        ∙ ap (λ (n : ℕ). Ok (order n)) (catalogue-number means.schedule)
        ∙ ap (λ (other : Order). Ok (renumbered other)) is-order

  -- the rows before the kind's are the same for every layout
  abbrev front : List Row
  front =
      (ltb (length out) most_beats ⇒ NoRoom) ∷ (cut src ⇒ CutShort) ∷ (ltb (long src) 2 ⇒ WrongSize) ∷ []

  abbrev back : Layout → List Row
  back k = (is_unknown k ⇒ UnknownKind) ∷ kind_rows k src

  fronted : (why : Refusal) → ((why ≡ UnknownKind) → ⊥)
      → judge (read_rows_by Layout.Unknown (length out) src) ≡ Err why
      → (k : Layout) → judge (read_rows_by k (length out) src) ≡ Err why
  fronted why n e k = by (judge front) refl
    where
      why_of : Verdict → Refusal
      why_of (Ok unit) = why
      why_of (Err other) = other

      by : (v : Verdict) → judge front ≡ v → judge (read_rows_by k (length out) src) ≡ Err why
      by (Ok unit) f =
          absurd (n (ap why_of (sym e ∙ judge-accepted front (back Layout.Unknown) f)))
      by (Err other) f =
          judge-refused front (back k) other f ∙ sym (judge-refused front (back Layout.Unknown) other f) ∙ e

  pub read-as-before : (o : Order) → earlier_answer src out ≡ Ok o
      → (read_answer src out ≡ Ok (renumbered o)) × (read_left src out ≡ earlier_left src out)
  read-as-before o e = elim (ℕ_discrete (kind_in src) 3) [
    | yes three ↦
        let unknown = ap (λ (kind : ℕ). is_unknown (earlier_layout kind)) three in
        absurd (true≢false (sym unknown ∙ known (earlier_layout (kind_in src)) o e))
    | no other ↦ let stays = sym (layout_stays (kind_in src) other) in (
      ap (λ (k : Layout). read_answer_by Numbering.Catalogue k src out) stays
          ∙ moved (earlier_layout (kind_in src)) o e,
      ap (λ (k : Layout). read_left_by k src out) stays,
    )
  ]

  pub refused-as-before : (why : Refusal) (n : ℕ) → ((why ≡ UnknownKind) × (kind_in src ≡ 3) → ⊥)
      → earlier_answer src out ≡ unread why n
      → (read_answer src out ≡ unread why n) × (read_left src out ≡ earlier_left src out)
  refused-as-before why n unless e = (
    ap (answer_by Numbering.Catalogue (layout_in src) src) after
        ∙ sym (ap (answer_by Numbering.FromTop (earlier_layout (kind_in src)) src) before)
        ∙ e,
    ap (λ (v : Verdict). left_by (layout_in src) src v out) after
        ∙ sym (ap (λ (v : Verdict). left_by (earlier_layout (kind_in src)) src v out) before),
  )
    where
      before : judge (read_rows_by (earlier_layout (kind_in src)) (length out) src) ≡ Err why
      before = verdict-of Numbering.FromTop (earlier_layout (kind_in src)) e

      after : judge (read_rows_by (layout_in src) (length out) src) ≡ Err why
      after = elim (ℕ_discrete (kind_in src) 3) [
        | yes three ↦
            let none = ap (λ (kind : ℕ). judge (read_rows_by (earlier_layout kind) (length out) src)) (sym three) in
            fronted why (λ ten. unless (ten, three)) (none ∙ before) (layout_in src)
        | no other ↦
            ap (λ (k : Layout). judge (read_rows_by k (length out) src)) (sym (layout_stays (kind_in src) other))
            ∙ before
      ]

  pub earlier-held : (o : Order) → kind_in src ≡ 1 → earlier_answer src out ≡ Ok o
      → o.number ≡ value_of (body src)
  earlier-held o one e =
      let laid = Layout.Numbered 4 Numbering.FromTop in
      let so = ap (λ (kind : ℕ). read_answer_by Numbering.FromTop (earlier_layout kind) src out) (sym one) ∙ e in
      ap (λ (other : Order). other.number) (sym (is-order laid o so))
      ∙ sym (means laid o so).held
      ∙ sym (ap (λ (kind : ℕ). value_of (body_at (counts_at (layout_of kind)) src)) one)
