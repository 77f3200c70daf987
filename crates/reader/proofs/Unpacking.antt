-- Packing and unpacking undo each other.
--     unpacked-packed     beats that are packed are unpacked again
--     packed-unpacked     bytes whose unused bits are 0 are what packing their beats gives
-- Assumes nothing.
use mathlib.Core.List.{List}
use mathlib.Core.Path.{◌≡◌, sym, ◌∙◌, ap, ap₂}
use Prim.Native.Nat.{ℕ, zero, suc, ◌+◌, ◌-◌, ◌*◌, ◌/◌, ◌%◌, ◌^◌, ◌≤◌, ◌<◌}
use native.Mathlib.Decide.{dec_lt}
use native.Mathlib.Nat.{div-one}
use native.Mathlib.Omega.{arith}
use lib.ListN.{length, get_or, drop, get_or-eq_default}
use lib.Seq.{ext_get_or, get_or-drop}
use Rattle.record.specs.Bytes.{spell, bytes_for, packed, beat_at, unpacked, unused}
use Rattle.record.proofs.Writing.{packed-size}
use Rattle.record.proofs.Packing.{length-tabulate, get_or-tabulate, shift-bit, shift-on, shift-left}

-- the bit at r of the byte that eight beats spell
spell-bit : (c : List ℕ) (r : ℕ) → ((i : ℕ) → get_or c i 0 ≤ 1) → r < 8 → spell 8 c / 2 ^ (7 - r) % 2 ≡ get_or c r 0
unfolding spell
spell-bit c zero f h = omega (arith, f 0, f 1, f 2, f 3, f 4, f 5, f 6, f 7)
spell-bit c (suc zero) f h = omega (arith, f 0, f 1, f 2, f 3, f 4, f 5, f 6, f 7)
spell-bit c (suc (suc zero)) f h = omega (arith, f 0, f 1, f 2, f 3, f 4, f 5, f 6, f 7)
spell-bit c (suc (suc (suc zero))) f h = omega (arith, f 0, f 1, f 2, f 3, f 4, f 5, f 6, f 7)
spell-bit c (suc (suc (suc (suc zero)))) f h = omega (arith, f 0, f 1, f 2, f 3, f 4, f 5, f 6, f 7)
spell-bit c (suc (suc (suc (suc (suc zero))))) f h = omega (arith, f 0, f 1, f 2, f 3, f 4, f 5, f 6, f 7)
spell-bit c (suc (suc (suc (suc (suc (suc zero)))))) f h = omega (arith, f 0, f 1, f 2, f 3, f 4, f 5, f 6, f 7)
spell-bit c (suc (suc (suc (suc (suc (suc (suc zero))))))) f h = omega (arith, f 0, f 1, f 2, f 3, f 4, f 5, f 6, f 7)
spell-bit c (suc (suc (suc (suc (suc (suc (suc (suc r)))))))) f h = absurd (omega arith)

-- a byte is what its bits spell
half : (v k : ℕ) → k < 8 → 2 * (v / 2 ^ (8 - k)) + v / 2 ^ (7 - k) % 2 ≡ v / 2 ^ (7 - k)
half v zero h = omega arith
half v (suc zero) h = omega arith
half v (suc (suc zero)) h = omega arith
half v (suc (suc (suc zero))) h = omega arith
half v (suc (suc (suc (suc zero)))) h = omega arith
half v (suc (suc (suc (suc (suc zero))))) h = omega arith
half v (suc (suc (suc (suc (suc (suc zero)))))) h = omega arith
half v (suc (suc (suc (suc (suc (suc (suc zero))))))) h = omega arith
half v (suc (suc (suc (suc (suc (suc (suc (suc k)))))))) h = absurd (omega arith)

bits-part : (c : List ℕ) (v : ℕ) → v < 256 → ((r : ℕ) → r < 8 → get_or c r 0 ≡ v / 2 ^ (7 - r) % 2) → (k : ℕ) → k ≤ 8
    → spell k c ≡ v / 2 ^ (8 - k)
unfolding spell
bits-part c v h f zero l = omega arith
bits-part c v h f (suc k) l =
    let same : 7 - k ≡ 8 - suc k = omega arith in
    ap (λ (x : ℕ). 2 * x + get_or c k 0) (bits-part c v h f k (omega arith))
    ∙ ap (λ (x : ℕ). 2 * (v / 2 ^ (8 - k)) + x) (f k (omega arith))
    ∙ half v k (omega arith) ∙ ap (λ (j : ℕ). v / 2 ^ j) same

bits-spell : (c : List ℕ) (v : ℕ) → v < 256 → ((r : ℕ) → r < 8 → get_or c r 0 ≡ v / 2 ^ (7 - r) % 2) → spell 8 c ≡ v
bits-spell c v h f = bits-part c v h f 8 (omega arith) ∙ div-one v

pub unpacked-packed : (b : List ℕ) → ((i : ℕ) → get_or b i 0 ≤ 1) → unpacked (length b) (packed b) ≡ b
unpacked-packed b f =
    ext_get_or 0 (unpacked (length b) (packed b)) b (length-tabulate (length b) (beat_at (packed b))) each
  where
    each : (i : ℕ) → i < length (unpacked (length b) (packed b))
        → get_or (unpacked (length b) (packed b)) i 0 ≡ get_or b i 0
    each i h =
        let inside : i < length b = omega (arith, length-tabulate (length b) (beat_at (packed b))) in
        let c = drop (8 * (i / 8)) b in
        let place : 8 * (i / 8) + i % 8 ≡ i = omega arith in
        get_or-tabulate (length b) (beat_at (packed b)) i inside
        ∙ ap (λ (v : ℕ). v / 2 ^ (7 - i % 8) % 2)
        (get_or-tabulate (bytes_for (length b)) (λ j. spell 8 (drop (8 * j) b)) (i / 8) (omega arith))
        ∙ spell-bit c (i % 8) (λ k. omega (arith, get_or-drop (8 * (i / 8)) b k 0, f (8 * (i / 8) + k))) (omega arith)
        ∙ get_or-drop (8 * (i / 8)) b (i % 8) 0
        ∙ ap (λ (k : ℕ). get_or b k 0) place

-- a byte none of whose bits from m on is set
zero-from : (v m d : ℕ) → m + d < 8 → v * 2 ^ m % 256 ≡ 0 → v * 2 ^ (m + d) % 256 ≡ 0
zero-from v m zero h z = let same : m ≡ m + 0 = omega arith in ap (λ (j : ℕ). v * 2 ^ j % 256) (sym same) ∙ z
zero-from v m (suc d) h z =
    let before = zero-from v m d (omega arith) z in
    let same : suc (m + d) ≡ m + suc d = omega arith in
    ap (λ (j : ℕ). v * 2 ^ j % 256) (sym same)
    ∙ sym (shift-on v (m + d) (omega arith))
    ∙ ap (λ (x : ℕ). x % 128 * 2) before

-- the bits of unpacked beats, read past their end as well: those are the unused ones
module _ (n : ℕ) (p : List ℕ) (long : length p ≡ bytes_for n) (bytes : (i : ℕ) → get_or p i 0 < 256)
    (z : unused n p ≡ 0)
  where
    past : (j r : ℕ) → j < bytes_for n → r < 8 → n ≤ 8 * j + r → get_or p j 0 / 2 ^ (7 - r) % 2 ≡ 0
    past j r h k l =
        let m = n % 8 in
        let at : j ≡ n / 8 = omega arith in
        let some : (n % 8 ≡ 0) → ⊥ = λ e. omega arith in
        let v = get_or p j 0 in
        let none : v * 2 ^ (n % 8) % 256 ≡ 0 = (shift-left v (n % 8) (omega arith)).1 (spare j at some) in
        let more : n % 8 + (r - n % 8) ≡ r = omega arith in
        sym (shift-bit v r (bytes j) k)
        ∙ ap (λ (x : ℕ). x / 128)
        (ap (λ (i : ℕ). v * 2 ^ i % 256) (sym more) ∙ zero-from v (n % 8) (r - n % 8) (omega arith) none)
      where
        spare : (j : ℕ) → j ≡ n / 8 → ((n % 8 ≡ 0) → ⊥) → get_or p j 0 % 2 ^ (8 - n % 8) ≡ 0
        spare j at some =
            let byte_at : j ≡ (n + 7) / 8 - 1 = omega (arith, some) in
            let bits : 8 - n % 8 ≡ 8 * ((n + 7) / 8) - n = omega (arith, some) in
            ap₂ (λ (i k : ℕ). get_or p i 0 % 2 ^ k) byte_at bits ∙ z

    bit : (j r : ℕ) → j < bytes_for n → r < 8
        → get_or (drop (8 * j) (unpacked n p)) r 0 ≡ get_or p j 0 / 2 ^ (7 - r) % 2
    bit j r h k = get_or-drop (8 * j) (unpacked n p) r 0 ∙ elim (dec_lt (8 * j + r) n) [
      | yes l ↦ inside l
      | no l ↦
          get_or-eq_default (unpacked n p) 0 {n = 8 * j + r} (omega (arith, length-tabulate n (beat_at p), l))
          ∙ sym (past j r h k (omega arith))
    ]
      where
        inside : 8 * j + r < n → get_or (unpacked n p) (8 * j + r) 0 ≡ get_or p j 0 / 2 ^ (7 - r) % 2
        inside l =
            let byte_at : (8 * j + r) / 8 ≡ j = omega arith in
            let bit_at : (8 * j + r) % 8 ≡ r = omega arith in
            get_or-tabulate n (beat_at p) (8 * j + r) l
            ∙ ap₂ (λ (i k : ℕ). get_or p i 0 / 2 ^ (7 - k) % 2) byte_at bit_at

    pub packed-unpacked : packed (unpacked n p) ≡ p
    packed-unpacked = ext_get_or 0 (packed (unpacked n p)) p (size ∙ sym long) each
      where
        size : length (packed (unpacked n p)) ≡ bytes_for n
        size = packed-size (unpacked n p) ∙ ap bytes_for (length-tabulate n (beat_at p))

        each : (j : ℕ) → j < length (packed (unpacked n p)) → get_or (packed (unpacked n p)) j 0 ≡ get_or p j 0
        each j h =
            get_or-tabulate (bytes_for (length (unpacked n p))) (λ i. spell 8 (drop (8 * i) (unpacked n p))) j
            (omega (arith, packed-size (unpacked n p)))
            ∙ bits-spell (drop (8 * j) (unpacked n p)) (get_or p j 0) (bytes j) (λ r k. bit j r (omega (arith, size)) k)
