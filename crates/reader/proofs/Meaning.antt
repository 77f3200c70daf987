-- What an accepted record of each kind has, and that it means a schedule, and holds its number by the kind's numbering
-- or its beats.
--     numbered-facts, beaten-facts     what the rows of a layout say where they accept
--     kind-reaches         L of an accepted record reaches past its counts
--     Held                 what a record of a layout holds of a form
--     kind-means           an accepted record of a known kind means a schedule of allowed counts, and holds it
--     read-means           the same of an accepted slice [B7]
-- Assumes nothing.
use mathlib.Core.Bool.{false, true≢false}
use mathlib.Core.List.{List, ◌++◌}
use mathlib.Core.Path.{◌≡◌, refl, sym, ◌∙◌}
use Prim.Native.Nat.{ℕ, ◌+◌, ◌≤◌, ◌<◌}
use native.Mathlib.Decide.{dec_lt, ℕ_discrete}
use native.Mathlib.Omega.{arith}
use borrow.Author.Tests.{eq-eqb, ne_eqb}
use lib.ListN.{length}
use Rattle.std.proofs.Common.{Ok}
use Rattle.refusal.specs.Rows.{judge}
use Rattle.refusal.proofs.Rows.{judge-front, judge-back, both}
use Rattle.triangle.specs.Count.{N}
use Rattle.counts.specs.Counts.{Allowed, count_rows}
use Rattle.counts.proofs.Sizes.{counts-allowed}
use Rattle.schedule.specs.Schedule.{Schedule}
use Rattle.schedule.specs.Check.{checked}
use Rattle.schedule.proofs.Theorems.{accepted-schedule}
use Rattle.form.proofs.Verdicts.{number-allowed}
use Rattle.record.specs.Bytes.{value_of, bytes_for, beat_at, unpacked, unused}
use Rattle.record.specs.declared.layout.Layout.{Layout}
use Rattle.record.specs.declared.layout.Numbering.{Numbering}
use Rattle.record.specs.Layout.{counts_at, is_unknown}
use Rattle.record.specs.Record.{long, layout_in, ups_at, downs_at, body_at, packed_rows, kind_rows, read_rows}
use Rattle.record.specs.Record.{number_by, meant}
use Rattle.record.proofs.Packing.{length-tabulate}
use Rattle.reader.proofs.Numberings.{form-schedule-in, form-number-in}
use Rattle.reader.proofs.Verdicts.{hand-checked, unpacked-beats, spoiled-long, spoiled-bits, spoiled-not}
use Rattle.reader.proofs.Answering.{numbered-long, numbered-fits, beaten-long, beaten-fits}
use Rattle.reader.proofs.Parts.{read-facts}

module _ (at : ℕ) (src : List ℕ) where
  abbrev up : ℕ
  up = ups_at at src

  abbrev down : ℕ
  down = downs_at at src

  abbrev held : List ℕ
  held = body_at at src

  pub numbered-facts : (by : Numbering) → judge (kind_rows (Layout.Numbered at by) src) ≡ Ok tt
      → (long src ≡ at + 8) × Allowed up down × (value_of held < N up down)
  numbered-facts by e =
      let exact : long src ≡ at + 8 =
      elim (ℕ_discrete (long src) (at + 8)) [ yes h ↦ h | no m ↦ both e (numbered-long at src by m) ] in
      let few = number-allowed up down (value_of held) (sym (numbered-fits at src by exact) ∙ e) in
      (exact, (few.0, few.1), few.2)

  -- a record of packed beats that is accepted
  pub record Beaten : Type 0 where
    pub reaches : at ≤ long src
    pub allowed : Allowed up down
    pub exact : length held ≡ bytes_for (up + down)
    pub clean : unused (up + down) held ≡ 0
    pub taken : checked up down (unpacked (up + down) held) ≡ Ok tt

  pub beaten-facts : judge (kind_rows (Layout.Beaten at) src) ≡ Ok tt → Beaten
  beaten-facts e = record { reaches = reaches; allowed = allowed; exact = exact; clean = clean; taken = taken }
    where
      reaches : at ≤ long src
      reaches = elim (dec_lt (long src) at) [ yes h ↦ both e (beaten-long at src h) | no h ↦ omega arith ]

      tail : judge (count_rows up down ++ packed_rows up down held) ≡ Ok tt
      tail = sym (beaten-fits at src reaches) ∙ e

      allowed : Allowed up down
      allowed = counts-allowed up down (judge-front (count_rows up down) (packed_rows up down held) tail)

      rows : judge (packed_rows up down held) ≡ Ok tt
      rows = judge-back (count_rows up down) (packed_rows up down held) tail

      exact : length held ≡ bytes_for (up + down)
      exact = elim (ℕ_discrete (length held) (bytes_for (up + down))) [
        | yes h ↦ h
        | no m ↦ both rows (spoiled-long up down held m)
      ]

      clean : unused (up + down) held ≡ 0
      clean = elim (ℕ_discrete (unused (up + down) held) 0) [
        | yes h ↦ h
        | no m ↦ both rows (spoiled-bits up down held exact (ne_eqb (unused (up + down) held) 0 m))
      ]

      taken : checked up down (unpacked (up + down) held) ≡ Ok tt
      taken =
          let beats = unpacked (up + down) held in
          let whole = length-tabulate (up + down) (beat_at held) in
          hand-checked up down beats allowed whole (unpacked-beats (up + down) held)
          ∙ sym (spoiled-not up down held exact (eq-eqb (unused (up + down) held) 0 clean) beats refl)
          ∙ rows

abbrev pub Held : Layout → ℕ → ℕ → List ℕ → List ℕ → Type 0
Held (Layout.Numbered at by) t s p b = value_of p ≡ number_by by t s b
Held (Layout.Beaten at) t s p b = unpacked (t + s) p ≡ b
Held Layout.Unknown t s p b = ⊥

module _ (src : List ℕ) where
  -- L of an accepted record reaches past its counts
  pub kind-reaches : (k : Layout) → is_unknown k ≡ false → judge (kind_rows k src) ≡ Ok tt
      → counts_at k ≤ long src
  kind-reaches (Layout.Numbered at by) u e = omega (arith, (numbered-facts at src by e).0)
  kind-reaches (Layout.Beaten at) u e = (beaten-facts at src e).reaches
  kind-reaches Layout.Unknown u e = absurd (true≢false u)

  -- what a record of a layout means
  pub record Means (k : Layout) : Type 0 where
    pub allowed : Allowed (ups_at (counts_at k) src) (downs_at (counts_at k) src)
    pub schedule : Schedule (ups_at (counts_at k) src) (downs_at (counts_at k) src)
        (meant k (ups_at (counts_at k) src) (downs_at (counts_at k) src) (body_at (counts_at k) src))
    pub held : Held k (ups_at (counts_at k) src) (downs_at (counts_at k) src) (body_at (counts_at k) src)
        (meant k (ups_at (counts_at k) src) (downs_at (counts_at k) src) (body_at (counts_at k) src))

  pub kind-means : (k : Layout) → is_unknown k ≡ false → judge (kind_rows k src) ≡ Ok tt → Means k
  kind-means (Layout.Numbered at by) u e =
      let f = numbered-facts at src by e in
      let n = value_of (body_at at src) in
      let schedule = form-schedule-in f.1.1 by n in
      record { allowed = f.1; schedule = schedule; held = sym (form-number-in f.1.1 by n f.2) }
  kind-means (Layout.Beaten at) u e =
      let f = beaten-facts at src e in
      let t = ups_at at src in
      let s = downs_at at src in
      let beats = unpacked (t + s) (body_at at src) in
      record { allowed = f.allowed; schedule = (accepted-schedule t s beats f.taken).1; held = refl }
  kind-means Layout.Unknown u e = absurd (true≢false u)

  pub read-means : (room : ℕ) → judge (read_rows room src) ≡ Ok tt → Means (layout_in src)
  read-means room e = let f = read-facts room src e in kind-means (layout_in src) f.3 f.4
