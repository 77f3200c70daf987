-- The parts of a record's bytes.
--     parts-of             the length, the kind, the counts and the payload of a record that was written
--     six                  a slice of six bytes and more, by its first six
--     unused-packed        packed beats leave no unused bit set [B1]
--     head-facts-by, head-facts     what a slice has that passes the head's rows: room, a whole record, a known kind;
--                          by a layout, and by that of its kind
--     read-facts-by, read-facts     what an accepted slice has: that, and the rows of the kind
-- Assumes nothing.
use mathlib.Core.Bool.{false}
use mathlib.Core.List.Memᴰ
use mathlib.Core.List.{List, [], ◌∷◌, ◌++◌}
use mathlib.Core.Path.{◌≡◌, refl, sym, ◌∙◌, ap, ap₂}
use Prim.Native.Nat.{ℕ, zero, suc, ◌+◌, ◌-◌, ◌*◌, ◌/◌, ◌%◌, ◌^◌, ◌≤◌, ◌<◌}
use native.Mathlib.Decide.{ℕ_discrete}
use native.Mathlib.Nat.{mod-one, mul-mod_right, pow-suc, mul_assoc, mul_comm}
use native.Mathlib.Omega.{arith}
use borrow.Author.Tests.{ltb-false}
use lib.ListN.{length, get_or, take, drop, get_or-eq_default}
use lib.Seq.{get_or-drop}
use Rattle.std.proofs.Common.{Ok}
use Rattle.refusal.specs.Rows.{judge}
use Rattle.refusal.proofs.Rows.{judge-front, judge-back}
use Rattle.refusal.proofs.Theorems.{accepted-none}
use Rattle.triangle.specs.Count.{most_beats}
use Rattle.record.specs.Bytes.{low_first, value_of, spell, bytes_for, packed, unused}
use Rattle.record.specs.declared.layout.Layout.{Layout}
use Rattle.record.specs.Layout.{is_unknown}
use Rattle.record.specs.Record.{long, layout_in, ups_at, downs_at, cut, head_rows_by, kind_rows, read_rows_by}
use Rattle.record.specs.Record.{head_rows, read_rows}
use Rattle.record.proofs.Packing.{get_or-tabulate}

module _ (l k t s : ℕ) (p rest : List ℕ) where
  abbrev pub bytes_of : List ℕ
  bytes_of = (low_first 2 l ++ (low_first 2 k ++ (t ∷ (s ∷ p)))) ++ rest

  pub parts-of : l < 65536 → k < 65536
      → (long bytes_of ≡ l) × (value_of (take 2 (drop 2 bytes_of)) ≡ k)
      × (ups_at 4 bytes_of ≡ t) × (downs_at 4 bytes_of ≡ s) × (drop 6 bytes_of ≡ p ++ rest)
  unfolding low_first value_of
  parts-of h g = (omega arith, omega arith, refl, refl, refl)

pub six : (src : List ℕ) → 6 ≤ length src
    → src
    ≡ get_or src 0 0 ∷ (get_or src 1 0 ∷ (get_or src 2 0 ∷ (get_or src 3 0 ∷
    (get_or src 4 0 ∷ (get_or src 5 0 ∷ drop 6 src)))))
six [] h = absurd (omega arith)
six (x₀ ∷ []) h = absurd (omega arith)
six (x₀ ∷ (x₁ ∷ [])) h = absurd (omega arith)
six (x₀ ∷ (x₁ ∷ (x₂ ∷ []))) h = absurd (omega arith)
six (x₀ ∷ (x₁ ∷ (x₂ ∷ (x₃ ∷ [])))) h = absurd (omega arith)
six (x₀ ∷ (x₁ ∷ (x₂ ∷ (x₃ ∷ (x₄ ∷ []))))) h = absurd (omega arith)
six (x₀ ∷ (x₁ ∷ (x₂ ∷ (x₃ ∷ (x₄ ∷ (x₅ ∷ src)))))) h = refl

-- beats after which nothing more is set spell a multiple
spell-zeros : (c : List ℕ) (m d : ℕ) → ((r : ℕ) → m ≤ r → get_or c r 0 ≡ 0) → spell (m + d) c ≡ 2 ^ d * spell m c
unfolding spell
spell-zeros c m zero f = let same : m + 0 ≡ m = omega arith in ap (λ (j : ℕ). spell j c) same ∙ omega arith
spell-zeros c m (suc d) f =
    let same : m + suc d ≡ suc (m + d) = omega arith in
    let double : 2 * spell (m + d) c + get_or c (m + d) 0 ≡ 2 * (2 ^ d * spell m c) =
    omega (arith, spell-zeros c m d f, f (m + d) (omega arith)) in
    ap (λ (j : ℕ). spell j c) same
    ∙ double
    ∙ sym (mul_assoc 2 (2 ^ d) (spell m c))
    ∙ ap (λ (x : ℕ). x * spell m c) (mul_comm 2 (2 ^ d) ∙ sym (pow-suc 2 d))

pub unused-packed : (b : List ℕ) → unused (length b) (packed b) ≡ 0
unused-packed b = elim (ℕ_discrete (length b % 8) 0) [ yes e ↦ none e | no m ↦ some m ]
  where
    none : length b % 8 ≡ 0 → unused (length b) (packed b) ≡ 0
    none e =
        let zero_bits : 8 * ((length b + 7) / 8) - length b ≡ 0 = omega arith in
        ap (λ (j : ℕ). get_or (packed b) ((length b + 7) / 8 - 1) 0 % 2 ^ j) zero_bits
        ∙ mod-one (get_or (packed b) ((length b + 7) / 8 - 1) 0)

    some : ((length b % 8 ≡ 0) → ⊥) → unused (length b) (packed b) ≡ 0
    some m =
        let c = drop (8 * (length b / 8)) b in
        let byte_at : (length b + 7) / 8 - 1 ≡ length b / 8 = omega (arith, m) in
        let bits : 8 * ((length b + 7) / 8) - length b ≡ 8 - length b % 8 = omega (arith, m) in
        let eight : length b % 8 + (8 - length b % 8) ≡ 8 = omega arith in
        let past : (i : ℕ) → length b % 8 ≤ i → get_or c i 0 ≡ 0 =
        λ i h.
        get_or-drop (8 * (length b / 8)) b i 0 ∙ get_or-eq_default b 0 {n = 8 * (length b / 8) + i} (omega arith) in
        ap₂ (λ (i k : ℕ). get_or (packed b) i 0 % 2 ^ k) byte_at bits
        ∙ ap (λ (v : ℕ). v % 2 ^ (8 - length b % 8)) (
        get_or-tabulate (bytes_for (length b)) (λ i. spell 8 (drop (8 * i) b)) (length b / 8) (omega (arith, m))
        ∙ ap (λ (k : ℕ). spell k c) (sym eight)
        ∙ spell-zeros c (length b % 8) (8 - length b % 8) past
        )
        ∙ mul-mod_right (2 ^ (8 - length b % 8)) (spell (length b % 8) c)

module _ (k : Layout) (room : ℕ) (src : List ℕ) where
  pub head-facts-by : judge (head_rows_by k room src) ≡ Ok tt
      → (most_beats ≤ room) × (cut src ≡ false) × (2 ≤ long src) × (is_unknown k ≡ false)
  head-facts-by front =
      let none = accepted-none (head_rows_by k room src) front in (
        ltb-false room most_beats (none _ (Memᴰ.head refl)),
        none _ (Memᴰ.tail (Memᴰ.head refl)),
        ltb-false (long src) 2 (none _ (Memᴰ.tail (Memᴰ.tail (Memᴰ.head refl)))),
        none _ (Memᴰ.tail (Memᴰ.tail (Memᴰ.tail (Memᴰ.head refl)))),
      )

  pub read-facts-by : judge (read_rows_by k room src) ≡ Ok tt
      → (most_beats ≤ room) × (cut src ≡ false) × (2 ≤ long src) × (is_unknown k ≡ false)
      × (judge (kind_rows k src) ≡ Ok tt)
  read-facts-by e =
      let head = head-facts-by (judge-front (head_rows_by k room src) (kind_rows k src) e) in
      (head.0, head.1, head.2, head.3, judge-back (head_rows_by k room src) (kind_rows k src) e)

module _ (room : ℕ) (src : List ℕ) where
  pub head-facts : judge (head_rows room src) ≡ Ok tt
      → (most_beats ≤ room) × (cut src ≡ false) × (2 ≤ long src) × (is_unknown (layout_in src) ≡ false)
  head-facts = head-facts-by (layout_in src) room src

  pub read-facts : judge (read_rows room src) ≡ Ok tt
      → (most_beats ≤ room) × (cut src ≡ false) × (2 ≤ long src) × (is_unknown (layout_in src) ≡ false)
      × (judge (kind_rows (layout_in src) src) ≡ Ok tt)
  read-facts = read-facts-by (layout_in src) room src
