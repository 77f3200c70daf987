-- Numbers as bytes, the low one first.
--     value-below          bytes below 256 are of a number below 256^k
--     value_low, low_value the two ways undo each other
--     Valued, valued-start, valued-more, valued-all       the loop that reads a number, from its last byte on
--     Spelled, spelled-more, spelled-all                  the loop that writes one, from its first byte on
-- Assumes nothing.
use mathlib.Core.List.{List, [], ◌∷◌, ◌++◌, append_assoc, append-nil}
use mathlib.Core.Path.{◌≡◌, refl, sym, ◌∙◌, ap}
use Prim.Native.Nat.{ℕ, zero, suc, ◌+◌, ◌-◌, ◌*◌, ◌/◌, ◌%◌, ◌^◌, ◌≤◌, ◌<◌}
use native.Mathlib.Numerals.{add-one}
use native.Mathlib.Nat.{pow-suc, pow-le-pow_right}
use native.Mathlib.Omega.{arith}
use Rattle.std.proofs.lemmas.List.{nil_from_length}
use lib.ListN.{length, get_or, set, take, length-set, length-append}
use lib.Seq.{get_or-drop, drop_at, take_all, take-suc-set}
use Rattle.record.specs.Bytes.{low_first, value_of}

-- each entry of a list of bytes
abbrev pub Bytes : List ℕ → Type 0
Bytes l = (i : ℕ) → get_or l i 0 < 256

value-below : (l : List ℕ) → Bytes l → value_of l < 256 ^ length l
unfolding value_of
value-below [] f = omega arith
value-below (x ∷ l) f = omega (arith, value-below l (λ i. f (suc i)), f 0, pow-suc 256 (length l))

pub value_low : (k v : ℕ) → v < 256 ^ k → value_of (low_first k v) ≡ v
unfolding value_of low_first
value_low zero v h = omega arith
value_low (suc k) v h = omega (arith, value_low k (v / 256) (omega arith))

pub low_value : (l : List ℕ) → Bytes l → low_first (length l) (value_of l) ≡ l
unfolding value_of low_first
low_value [] f = refl
low_value (x ∷ l) f =
    let low : (x + 256 * value_of l) % 256 ≡ x = omega (arith, f 0) in
    let high : (x + 256 * value_of l) / 256 ≡ value_of l = omega (arith, f 0) in
    rw (low, high, low_value l (λ i. f (suc i)))

pub length-low : (k v : ℕ) → length (low_first k v) ≡ k
unfolding low_first
length-low zero v = refl
length-low (suc k) v = ap suc (length-low k (v / 256))

-- the bytes behind those that are left have been read
pub record Valued (src left : List ℕ) (number : ℕ) : Type 0 where
  pub done : List ℕ
  pub parts : left ++ done ≡ src
  pub so_far : number ≡ value_of done

pub valued-start : (src left : List ℕ) → left ≡ src → Valued src left 0
unfolding value_of
valued-start src left e = record { done = []; parts = append-nil left ∙ e; so_far = refl }

-- x is the next byte, the last of those that were left
module _ {src left : List ℕ} {number : ℕ} (u : Valued src left number) (rest : List ℕ) (x : ℕ)
    (e : left ≡ rest ++ x ∷ [])
  where
    pub valued-more : Valued src rest (number * 256 + x)
    unfolding value_of
    valued-more = record {
      done = x ∷ u.done;
      parts = sym (append_assoc rest (x ∷ []) u.done) ∙ ap (λ (w : List ℕ). w ++ u.done) (sym e) ∙ u.parts;
      so_far = omega (arith, u.so_far);
    }

    pub valued-small : Bytes src → length src ≤ 8 → number < 256 ^ 7
    valued-small f h =
        let here = λ (i : ℕ).
        ap (λ (w : List ℕ). get_or w i 0) (sym (drop_at left u.done (length left) refl))
        ∙ get_or-drop (length left) (left ++ u.done) i 0
        ∙ ap (λ (w : List ℕ). get_or w (length left + i) 0) u.parts in
        let below = value-below u.done (λ i. omega (arith, here i, f (length left + i))) in
        let few : length u.done ≤ 7 =
        omega (arith, ap length u.parts, ap length e, length-append left u.done, length-append rest (x ∷ [])) in
        omega (arith, u.so_far, below, pow-le-pow_right {n = 256} (omega arith) few)

pub valued-all : {src left : List ℕ} {number : ℕ} → Valued src left number → length left ≡ 0 → number ≡ value_of src
valued-all {src} {left} {number} u h =
    u.so_far ∙ ap value_of (ap (λ (w : List ℕ). w ++ u.done) (sym (nil_from_length left h)) ∙ u.parts)

-- the first at bytes have been written, and those of the rest are still to come
pub record Spelled (number n at rest : ℕ) (out : List ℕ) : Type 0 where
  pub within : at ≤ n
  pub long : length out ≡ n
  pub so_far : take at out ++ low_first (n - at) rest ≡ low_first n number

pub spelled-more : {number n at rest : ℕ} {out : List ℕ} → Spelled number n at rest out → at < length out
    → Spelled number n (at + 1) (rest / 256) (set out at (rest % 256))
unfolding low_first
spelled-more {number} {n} {at} {rest} {out} u h =
    let one : n - at ≡ suc (n - (at + 1)) = omega (arith, u.long) in
    record {
      within = omega (arith, u.long);
      long = length-set out at (rest % 256) ∙ u.long;
      so_far = ap (λ (j : ℕ). take j (set out at (rest % 256)) ++ low_first (n - (at + 1)) (rest / 256)) (add-one at)
          ∙ ap (λ (w : List ℕ). w ++ low_first (n - (at + 1)) (rest / 256)) (take-suc-set out at (rest % 256) h)
          ∙ append_assoc (take at out) (rest % 256 ∷ []) (low_first (n - (at + 1)) (rest / 256))
          ∙ ap (λ (j : ℕ). take at out ++ low_first j rest) (sym one)
          ∙ u.so_far;
    }

pub spelled-all : {number n at rest : ℕ} {out : List ℕ} → Spelled number n at rest out → length out ≤ at
    → out ≡ low_first n number
unfolding low_first
spelled-all {number} {n} {at} {rest} {out} u h =
    let none : n - at ≡ 0 = omega (arith, u.long) in
    sym (take_all at out h)
    ∙ sym (append-nil (take at out))
    ∙ ap (λ (j : ℕ). take at out ++ low_first j rest) (sym none)
    ∙ u.so_far
