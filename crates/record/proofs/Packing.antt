-- Beats eight to a byte.
--     length-tabulate, get_or-tabulate     a table's length and entries
--     spell-below          k beats spell a number below 2^k
--     Octet, octet-start, octet-more                    the loop that spells a byte
--     Filled, filled-start, filled_more, filled-all      a loop that fills a list by a rule, as the one that packs does
--     turned-new, turned-old     the byte in hand
--     Unpacked, unpacked-start, unpacked-more, unpacked-all     the loop that unpacks
--     all-beats            the beats of a schedule are zeros and ones, read past their end as well
-- Assumes nothing.
use mathlib.Core.Bool.{Bool, cond}
use mathlib.Core.List.{List, [], ◌∷◌, ◌++◌}
use mathlib.Core.Logic.{◌↔◌}
use mathlib.Core.Path.{◌≡◌, refl, sym, ◌∙◌, ap, ap₂}
use Prim.Native.Nat.{ℕ, zero, suc, ◌+◌, ◌-◌, ◌*◌, ◌/◌, ◌%◌, ◌^◌, ◌≤◌, ◌<◌}
use native.Mathlib.Decide.{dec_lt, ℕ_discrete}
use native.Mathlib.Nat.{mod-one, mul-suc, mul-zero, one-le-pow, pow-le-pow_right}
use native.Mathlib.Numerals.{add-one}
use native.Mathlib.Omega.{arith}
use borrow.Author.Tests.{eq-eqb, ne_eqb}
use lib.Dec.{eqb}
use lib.ListN.{length, get_or, set, take, drop, length-append, length-set, get_or-eq_default}
use lib.Seq.{get_or-drop, get_or_at, take_all, take-suc-set}
use Rattle.record.specs.Bytes.{spell, tabulate, beat_at, unpacked, unused, turned}

pub length-tabulate : (n : ℕ) (f : ℕ → ℕ) → length (tabulate n f) ≡ n
unfolding tabulate
length-tabulate zero f = refl
length-tabulate (suc n) f = omega (arith, length-append (tabulate n f) (f n ∷ []), length-tabulate n f)

get_or-front : (u v : List ℕ) (i : ℕ) → i < length u → get_or (u ++ v) i 0 ≡ get_or u i 0
get_or-front [] v i h = absurd (omega arith)
get_or-front (x ∷ u) v zero h = refl
get_or-front (x ∷ u) v (suc i) h = get_or-front u v i (omega arith)

pub get_or-tabulate : (n : ℕ) (f : ℕ → ℕ) (i : ℕ) → i < n → get_or (tabulate n f) i 0 ≡ f i
unfolding tabulate
get_or-tabulate zero f i h = absurd (omega arith)
get_or-tabulate (suc n) f i h = elim (ℕ_discrete i n) [
  | yes e ↦ rw e (get_or_at (tabulate n f) (f n) [] 0 n (length-tabulate n f))
  | no m ↦
      get_or-front (tabulate n f) (f n ∷ []) i (omega (arith, length-tabulate n f, m))
      ∙ get_or-tabulate n f i (omega (arith, m))
]

-- a list filled up to at with the entries of a table
pub record Filled (f : ℕ → ℕ) (n at : ℕ) (out : List ℕ) : Type 0 where
  pub within : at ≤ n
  pub long : length out ≡ n
  pub so_far : take at out ≡ tabulate at f

pub filled-start : (f : ℕ → ℕ) (out : List ℕ) → Filled f (length out) 0 out
unfolding tabulate
filled-start f out = record { within = omega arith; long = refl; so_far = refl }

pub filled_more : {f : ℕ → ℕ} {n at : ℕ} {out : List ℕ} → Filled f n at out → at < length out → (x : ℕ) → x ≡ f at
    → Filled f n (at + 1) (set out at x)
unfolding tabulate
filled_more {f} {n} {at} {out} u h x e = record {
  within = omega (arith, u.long);
  long = length-set out at x ∙ u.long;
  so_far = rw (add-one at, take-suc-set out at x h, u.so_far, e);
}

pub filled-all : {f : ℕ → ℕ} {n at : ℕ} {out : List ℕ} → Filled f n at out → length out ≤ at → out ≡ tabulate n f
filled-all {f} {n} {at} {out} u h =
    let all : at ≡ n = omega (arith, u.long, u.within) in
    sym (take_all at out h) ∙ u.so_far ∙ ap (λ (j : ℕ). tabulate j f) all

-- a byte, spelled beat by beat
spell-more : (c : List ℕ) (k : ℕ) → spell (k + 1) c ≡ 2 * spell k c + get_or c k 0
unfolding spell
spell-more c k = rw (add-one k)

spell-below : (c : List ℕ) (k : ℕ) → ((i : ℕ) → get_or c i 0 ≤ 1) → spell k c < 2 ^ k
unfolding spell
spell-below c zero f = omega arith
spell-below c (suc k) f = omega (arith, spell-below c k f, f k)

pub record Octet (b : List ℕ) (from at byte : ℕ) : Type 0 where
  pub within : at ≤ 8
  pub so_far : byte ≡ spell at (drop from b)

pub octet-start : (b : List ℕ) (from : ℕ) → Octet b from 0 0
unfolding spell
octet-start b from = record { within = omega arith; so_far = refl }

module _ {b : List ℕ} {from at byte : ℕ} (f : (i : ℕ) → get_or b i 0 ≤ 1) (u : Octet b from at byte) (h : at < 8) where
  pub octet-small : byte < 128
  octet-small =
      omega (
        arith,
        u.so_far,
        spell-below (drop from b) at (λ i. omega (arith, get_or-drop from b i 0, f (from + i))),
        pow-le-pow_right {n = 2} (omega arith) {i = at} {j = 7} (omega arith),
      )

  pub octet-more : (x : ℕ) → x ≡ get_or b (from + at) 0 → Octet b from (at + 1) (byte * 2 + x)
  octet-more x e = record {
    within = omega arith;
    so_far = omega (arith, u.so_far, spell-more (drop from b) at, get_or-drop from b at 0);
  }

-- a byte moved up by r bits: its highest bit, what is left of it, and whether anything is
pub shift-bit : (v r : ℕ) → v < 256 → r < 8 → v * 2 ^ r % 256 / 128 ≡ v / 2 ^ (7 - r) % 2
shift-bit v zero h k = omega arith
shift-bit v (suc zero) h k = omega arith
shift-bit v (suc (suc zero)) h k = omega arith
shift-bit v (suc (suc (suc zero))) h k = omega arith
shift-bit v (suc (suc (suc (suc zero)))) h k = omega arith
shift-bit v (suc (suc (suc (suc (suc zero))))) h k = omega arith
shift-bit v (suc (suc (suc (suc (suc (suc zero)))))) h k = omega arith
shift-bit v (suc (suc (suc (suc (suc (suc (suc zero))))))) h k = omega arith
shift-bit v (suc (suc (suc (suc (suc (suc (suc (suc r)))))))) h k = absurd (omega arith)

pub shift-on : (v r : ℕ) → r < 7 → v * 2 ^ r % 256 % 128 * 2 ≡ v * 2 ^ (suc r) % 256
shift-on v zero k = omega arith
shift-on v (suc zero) k = omega arith
shift-on v (suc (suc zero)) k = omega arith
shift-on v (suc (suc (suc zero))) k = omega arith
shift-on v (suc (suc (suc (suc zero)))) k = omega arith
shift-on v (suc (suc (suc (suc (suc zero))))) k = omega arith
shift-on v (suc (suc (suc (suc (suc (suc zero)))))) k = omega arith
shift-on v (suc (suc (suc (suc (suc (suc (suc r))))))) k = absurd (omega arith)

shift_rest : (v r : ℕ) → r < 8 → v * 2 ^ r % 256 ≡ 2 ^ r * (v % 2 ^ (8 - r))
shift_rest v zero h = omega arith
shift_rest v (suc zero) h = omega arith
shift_rest v (suc (suc zero)) h = omega arith
shift_rest v (suc (suc (suc zero))) h = omega arith
shift_rest v (suc (suc (suc (suc zero)))) h = omega arith
shift_rest v (suc (suc (suc (suc (suc zero))))) h = omega arith
shift_rest v (suc (suc (suc (suc (suc (suc zero)))))) h = omega arith
shift_rest v (suc (suc (suc (suc (suc (suc (suc zero))))))) h = omega arith
shift_rest v (suc (suc (suc (suc (suc (suc (suc (suc r)))))))) h = absurd (omega arith)

product-zero : (a x : ℕ) → 1 ≤ a → a * x ≡ 0 → x ≡ 0
product-zero a zero h e = refl
product-zero a (suc x) h e = absurd (omega (arith, mul-suc a x))

pub shift-left : (v r : ℕ) → r < 8 → (v * 2 ^ r % 256 ≡ 0) ↔ (v % 2 ^ (8 - r) ≡ 0)
shift-left v r h = (
  λ e. product-zero (2 ^ r) (v % 2 ^ (8 - r)) (one-le-pow r 2 (omega arith)) (sym (shift_rest v r h) ∙ e),
  λ e. shift_rest v r h ∙ ap (λ (x : ℕ). 2 ^ r * x) e ∙ mul-zero (2 ^ r),
)

same_test : (x y : ℕ) → (x ≡ 0) ↔ (y ≡ 0) → eqb x 0 ≡ eqb y 0
same_test x y q = elim (ℕ_discrete x 0) [
  | yes e ↦ eq-eqb x 0 e ∙ sym (eq-eqb y 0 (q.0 e))
  | no m ↦ ne_eqb x 0 m ∙ sym (ne_eqb y 0 (λ e. m (q.1 e)))
]

-- the byte of a beat, moved up so that the beat is its highest bit
abbrev moved : List ℕ → ℕ → ℕ
moved p at = get_or p (at / 8) 0 * 2 ^ (at % 8) % 256

pub turned-new : (p : List ℕ) (at x : ℕ) → at % 8 ≡ 0 → turned p at x ≡ get_or p (at / 8) 0
turned-new p at x e = ap (λ (b : Bool). cond b (get_or p (at / 8) 0) x) (eq-eqb (at % 8) 0 e)

pub turned-old : (p : List ℕ) (at x : ℕ) → (at % 8 ≡ 0 → ⊥) → turned p at x ≡ x
turned-old p at x m = ap (λ (b : Bool). cond b (get_or p (at / 8) 0) x) (ne_eqb (at % 8) 0 m)

-- the beats so far, and the bits that are left of the byte in hand
pub record Unpacked (p : List ℕ) (n at byte : ℕ) (out : List ℕ) : Type 0 where
  pub filled : Filled (beat_at p) n at out
  pub over : at % 8 ≡ 0 → byte ≡ 0
  pub inner : (at % 8 ≡ 0 → ⊥) → byte ≡ moved p at

pub unpacked-start : (p out : List ℕ) → Unpacked p (length out) 0 0 out
unpacked-start p out = record { filled = filled-start (beat_at p) out; over = λ e. refl; inner = λ e. absurd (e refl) }

module _ {p : List ℕ} {n at byte : ℕ} {out : List ℕ} (f : (i : ℕ) → get_or p i 0 < 256) (u : Unpacked p n at byte out)
  where
    turned-is : turned p at byte ≡ moved p at
    turned-is = elim (ℕ_discrete (at % 8) 0) [
      | yes e ↦ turned-new p at byte e ∙ first e
      | no m ↦ turned-old p at byte m ∙ u.inner m
    ]
      where
        first : at % 8 ≡ 0 → get_or p (at / 8) 0 ≡ moved p at
        first e =
            let one : 2 ^ (at % 8) ≡ 1 = ap (λ (j : ℕ). 2 ^ j) e in
            omega (arith, f (at / 8), ap (λ (j : ℕ). get_or p (at / 8) 0 * j % 256) one)

    pub unpacked-more : at < length out → (x : ℕ) → x ≡ turned p at byte
        → Unpacked p n (at + 1) (x % 128 * 2) (set out at (x / 128))
    unpacked-more h x e =
        let v = get_or p (at / 8) 0 in
        let r : at % 8 < 8 = omega arith in
        let from : x ≡ v * 2 ^ (at % 8) % 256 = e ∙ turned-is in
        record {
          filled =
              filled_more u.filled h (x / 128) (ap (λ (y : ℕ). y / 128) from ∙ shift-bit v (at % 8) (f (at / 8)) r);
          over = λ z. last from z;
          inner = λ z. next from z;
        }
      where
        last : x ≡ moved p at → (at + 1) % 8 ≡ 0 → x % 128 * 2 ≡ 0
        last from z =
            let seven : at % 8 ≡ 7 = omega arith in
            let y : x ≡ get_or p (at / 8) 0 * 128 % 256 =
            from ∙ ap (λ (j : ℕ). get_or p (at / 8) 0 * 2 ^ j % 256) seven in
            omega arith

        next : x ≡ moved p at → ((at + 1) % 8 ≡ 0 → ⊥) → x % 128 * 2 ≡ moved p (at + 1)
        next from z =
            let same : at / 8 ≡ (at + 1) / 8 = omega (arith, z) in
            let more : suc (at % 8) ≡ (at + 1) % 8 = omega (arith, z) in
            ap (λ (y : ℕ). y % 128 * 2) from
            ∙ shift-on (get_or p (at / 8) 0) (at % 8) (omega (arith, z))
            ∙ ap₂ (λ (i j : ℕ). get_or p i 0 * 2 ^ j % 256) same more

    -- the bits that are left are the unused ones
    unpacked-over : (byte ≡ 0) ↔ (unused at p ≡ 0)
    unpacked-over = elim (ℕ_discrete (at % 8) 0) [
      | yes e ↦ (λ z. none e, λ z. u.over e)
      | no m ↦ (λ z. some m ∙ parts.0 (sym (u.inner m) ∙ z), λ z. u.inner m ∙ parts.1 (sym (some m) ∙ z))
    ]
      where
        parts : (moved p at ≡ 0) ↔ (get_or p (at / 8) 0 % 2 ^ (8 - at % 8) ≡ 0)
        parts = shift-left (get_or p (at / 8) 0) (at % 8) (omega arith)

        none : at % 8 ≡ 0 → unused at p ≡ 0
        none e =
            let zero_bits : 8 * ((at + 7) / 8) - at ≡ 0 = omega arith in
            ap (λ (j : ℕ). get_or p ((at + 7) / 8 - 1) 0 % 2 ^ j) zero_bits ∙ mod-one (get_or p ((at + 7) / 8 - 1) 0)

        some : (at % 8 ≡ 0 → ⊥) → unused at p ≡ get_or p (at / 8) 0 % 2 ^ (8 - at % 8)
        some m =
            let byte_at : (at + 7) / 8 - 1 ≡ at / 8 = omega (arith, m) in
            let bits : 8 * ((at + 7) / 8) - at ≡ 8 - at % 8 = omega (arith, m) in
            ap₂ (λ (i j : ℕ). get_or p i 0 % 2 ^ j) byte_at bits

    pub unpacked-all : length out ≤ at → (eqb byte 0 ≡ eqb (unused n p) 0) × (out ≡ unpacked n p)
    unpacked-all h =
        let all : at ≡ n = omega (arith, u.filled.long, u.filled.within) in
        (same_test byte (unused at p) unpacked-over ∙ ap (λ (j : ℕ). eqb (unused j p) 0) all, filled-all u.filled h)

-- beats of which each is 0 or 1, read past their end as well
pub all-beats : (b : List ℕ) → ((k : ℕ) → k < length b → get_or b k 0 ≤ 1) → (k : ℕ) → get_or b k 0 ≤ 1
all-beats b f k = elim (dec_lt k (length b)) [
  | yes h ↦ f k h
  | no h ↦ omega (arith, get_or-eq_default b 0 {n = k} (omega arith))
]
