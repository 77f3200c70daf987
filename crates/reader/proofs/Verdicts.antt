-- The verdicts of reading, row by row, and what a reader answers and leaves by them.
--     told-verdict         an answer has the verdict that it was made from
--     late-read            where there is room and the record is whole, each refusal is one after which the record's
--                          bytes are consumed
--     told-passing, told-order     an answer from that with no bytes to pass over
--     ordered-given, ordered-refused     and that from what is answered of the form in the record
--     form-number          a form of a number in exactly its room is refused as the number is
--     hand-checked         beats that are zeros and ones, of the right length and of allowed counts,
--                          are refused by 5 and 6 only
--     spoiled-bits, spoiled-not       the row for kind 2's L and unused bits
--     unpacked-beats       unpacked beats are zeros and ones
-- Assumes nothing.
use mathlib.Core.Bool.{Bool, true, false, not, true≢false}
use mathlib.Core.List.{List, ◌∷◌}
use mathlib.Core.Path.{◌≡◌, refl, sym, ◌∙◌, ap}
use Prim.Native.Nat.{ℕ, ◌+◌, ◌≤◌, ◌<◌}
use native.Mathlib.Omega.{arith}
use borrow.Author.Tests.{eq-eqb, ne_eqb, le-ltb}
use lib.Dec.{eqb}
use lib.ListN.{length, get_or}
use Rattle.std.proofs.Common.{Ok, Err}
use Rattle.form.specs.Answers.{number_rows, form_rows}
use Rattle.refusal.specs.declared.Refusal.{Refusal}
use Rattle.refusal.specs.declared.Refusal.TheVariants.{WrongSize, WrongLength, BadBeat}
use Rattle.refusal.specs.Answer.{Verdict, answer}
use Rattle.refusal.specs.Rows.{◌⇒◌, judge}
use Rattle.refusal.proofs.Rows.{All, judge-accepted, given}
use Rattle.triangle.specs.Count.{most_beats}
use Rattle.counts.specs.Counts.{Allowed, count_rows}
use Rattle.counts.proofs.Sizes.{allowed-counts}
use Rattle.schedule.specs.Check.{bad_beat, hand_rows, play_rows, beat_rows, checked}
use Rattle.schedule.proofs.Reflect.{no-bad-passed}
use Rattle.form.proofs.Verdicts.{form-refused, form-taken}
use Rattle.record.specs.Bytes.{bytes_for, beat_at, unpacked, unused}
use Rattle.record.specs.declared.layout.Layout.{Layout}
use Rattle.record.specs.declared.reading.Order.{Order}
use Rattle.record.specs.Record.{ups_at, downs_at, body_at, layout_in, cut, packed_rows, kind_rows, read_rows, eaten}
use Rattle.record.proofs.Packing.{length-tabulate, get_or-tabulate}
use Rattle.record.specs.Parts.{unread}
use Rattle.record.specs.Parts as said
use Rattle.reader.specs.Answers.{told, ordered}

-- a refusal that comes after the record was found whole
abbrev pub Late : Refusal → Type 0
Late why = (l : ℕ) → eaten why l ≡ 2 + l

late-packed : (t s : ℕ) (p : List ℕ) → All Late (packed_rows t s p)
late-packed t s p = (λ so l. refl, (λ so l. refl, (λ so l. refl, tt)))

late-kind : (k : Layout) (src : List ℕ) → All Late (kind_rows k src)
late-kind (Layout.Numbered at by) src = (λ so l. refl, (λ so l. refl, (λ so l. refl, (λ so l. refl, tt))))
late-kind (Layout.Beaten at) src =
    (λ so l. refl, (λ so l. refl, (λ so l. refl, late-packed (ups_at at src) (downs_at at src) (body_at at src))))
late-kind Layout.Unknown src = (λ so l. refl, (λ so l. refl, (λ so l. refl, tt)))

pub late-read : (room : ℕ) (src : List ℕ) → most_beats ≤ room → cut src ≡ false → {why : Refusal}
    → judge (read_rows room src) ≡ Err why → Late why
late-read room src h e =
    given Late (read_rows room src) (
      λ so. absurd (true≢false (sym so ∙ le-ltb room most_beats h)),
      (λ so. absurd (true≢false (sym so ∙ e)), (λ so l. refl, (λ so l. refl, late-kind (layout_in src) src))),
    )

pub told-verdict : (t s n l : ℕ) (v : Verdict) → said.verdict (told t s n l v) ≡ v
told-verdict t s n l (Ok unit) = refl
told-verdict t s n l (Err why) = refl

-- what is answered of a record, with the bytes to pass over and without
pub told-passing : (t s n l : ℕ) (v : Verdict) {why : Refusal} → ((r : Refusal) → v ≡ Err r → Late r)
    → Err why ≡ ordered t s n l v → unread why (2 + l) ≡ told t s n l v
told-passing t s n l (Ok unit) late e = let z : ◌≡◌ {A = ℕ} 0 1 = cc in absurd (omega arith)
told-passing t s n l (Err r) {why} late e =
    let same : why ≡ r = cc in ap (λ (w : Refusal). unread w (2 + l)) same ∙ ap (unread r) (sym (late r refl l))

pub told-order : (t s n l : ℕ) (v : Verdict) {o : Order} → Ok o ≡ ordered t s n l v → Ok o ≡ told t s n l v
told-order t s n l (Ok unit) {o} e =
    let same : o ≡ record { t = t; s = s; number = n; consumed = 2 + l } = cc in ap Ok same
told-order t s n l (Err r) e = let z : ◌≡◌ {A = ℕ} 0 1 = cc in absurd (omega arith)

-- what is answered of a record, from what is answered of the form in it
pub ordered-given : (t s m l : ℕ) (v : Verdict) {n : ℕ} → Ok n ≡ answer v m
    → Ok (record { t = t; s = s; number = n; consumed = 2 + l }) ≡ ordered t s m l v
ordered-given t s m l (Ok unit) {n} e =
    let same : n ≡ m = cc in ap (λ (j : ℕ). Ok (record { t = t; s = s; number = j; consumed = 2 + l })) same
ordered-given t s m l (Err r) e = let z : ◌≡◌ {A = ℕ} 0 1 = cc in absurd (omega arith)

pub ordered-refused : (t s m l : ℕ) (v : Verdict) {why : Refusal} → Err why ≡ answer v m → Err why ≡ ordered t s m l v
ordered-refused t s m l (Ok unit) e = let z : ◌≡◌ {A = ℕ} 0 1 = cc in absurd (omega arith)
ordered-refused t s m l (Err r) {why} e = let same : why ≡ r = cc in ap Err same

pub form-number : (t s n : ℕ) (out : List ℕ) → length out ≡ t + s
    → judge (form_rows t s n out) ≡ judge (number_rows t s n)
form-number t s n out h = by (judge (number_rows t s n)) refl
  where
    by : (v : Verdict) → judge (number_rows t s n) ≡ v → judge (form_rows t s n out) ≡ judge (number_rows t s n)
    by (Ok unit) e = form-taken t s n out e h ∙ sym e
    by (Err why) e = form-refused t s n out e ∙ sym e

pub hand-checked : (t s : ℕ) (b : List ℕ) → Allowed t s → length b ≡ t + s → ((k : ℕ) → k < length b → get_or b k 0 ≤ 1)
    → checked t s b ≡ judge (hand_rows t b)
hand-checked t s b a n f =
    judge-accepted (count_rows t s) (beat_rows t s b) (allowed-counts t s a)
    ∙ ap (λ (x : Bool). judge ((not x ⇒ WrongLength) ∷ play_rows t b)) (eq-eqb (length b) (t + s) n)
    ∙ ap (λ (x : Bool). judge ((x ⇒ BadBeat (bad_beat b)) ∷ hand_rows t b))
    (le-ltb (bad_beat b) (length b) (no-bad-passed b (λ k h q. omega (arith, f k h))))

module _ (t s : ℕ) (p : List ℕ) where
  pub spoiled-long : ((length p ≡ bytes_for (t + s)) → ⊥) → judge (packed_rows t s p) ≡ Err WrongSize
  spoiled-long n = simp (ne_eqb (length p) (bytes_for (t + s)) n)

  module _ (e : length p ≡ bytes_for (t + s)) where
    pub spoiled-bits : eqb (unused (t + s) p) 0 ≡ false → judge (packed_rows t s p) ≡ Err WrongSize
    spoiled-bits z = simp (eq-eqb (length p) (bytes_for (t + s)) e, z)

    pub spoiled-not : eqb (unused (t + s) p) 0 ≡ true → (b : List ℕ) → b ≡ unpacked (t + s) p
        → judge (packed_rows t s p) ≡ judge (hand_rows t b)
    spoiled-not z b q =
        let first : judge (packed_rows t s p) ≡ judge (hand_rows t (unpacked (t + s) p)) =
        simp (eq-eqb (length p) (bytes_for (t + s)) e, z) in
        first ∙ ap (λ (c : List ℕ). judge (hand_rows t c)) (sym q)

-- unpacked beats are zeros and ones
pub unpacked-beats : (n : ℕ) (p : List ℕ) → (k : ℕ) → k < length (unpacked n p) → get_or (unpacked n p) k 0 ≤ 1
unpacked-beats n p k h = omega (arith, get_or-tabulate n (beat_at p) k (omega (arith, length-tabulate n (beat_at p))))
