-- Numbers and beats as bytes, the manual, "Order record". Definitions only.
--     low_first k v    the first k bytes of v, the low one first
--     value_of l       the number whose bytes these are, the low one first
--     spell k c        the number that the first k beats of c spell, each the next lower bit; 0 for a beat that is not
--                      there
--     bytes_for n      the whole bytes that n beats need
--     tabulate n f     f 0, f 1, … f (n − 1)
--     packed b         the beats eight to a byte, the first in the highest bit, the unused low bits 0 [B1]
--     beat_at p i      the i-th bit of the bytes p, from the highest of the first byte on
--     unpacked n p     the first n of them
--     turned p at x    where the unpacking looks at a beat: at every eighth the next byte, else what is left of the
--                      last
--     unused n p       the low bits that n beats leave over in the last byte they need
use Rattle.std.specs.Prelude.{cond, List, [], ◌∷◌, ◌++◌, ℕ, zero, suc, ◌+◌, ◌-◌, ◌*◌, ◌/◌, ◌%◌, ◌^◌, eqb, length}
use Rattle.std.specs.Prelude.{get_or, drop}

unfoldable pub low_first : ℕ → ℕ → List ℕ
low_first zero v = []
low_first (suc k) v = v % 256 ∷ low_first k (v / 256)

unfoldable pub value_of : List ℕ → ℕ
value_of [] = 0
value_of (x ∷ l) = x + 256 * value_of l

unfoldable pub spell : ℕ → List ℕ → ℕ
spell zero c = 0
spell (suc k) c = 2 * spell k c + get_or c k 0

unfoldable pub tabulate : ℕ → (ℕ → ℕ) → List ℕ
tabulate zero f = []
tabulate (suc n) f = tabulate n f ++ (f n ∷ [])

abbrev pub bytes_for : ℕ → ℕ
bytes_for n = (n + 7) / 8

abbrev pub packed : List ℕ → List ℕ
packed b = tabulate (bytes_for (length b)) (λ j. spell 8 (drop (8 * j) b))

abbrev pub beat_at : List ℕ → ℕ → ℕ
beat_at p i = get_or p (i / 8) 0 / 2 ^ (7 - i % 8) % 2

abbrev pub unpacked : ℕ → List ℕ → List ℕ
unpacked n p = tabulate n (beat_at p)

abbrev pub unused : ℕ → List ℕ → ℕ
unused n p = get_or p (bytes_for n - 1) 0 % 2 ^ (8 * bytes_for n - n)

abbrev pub turned : List ℕ → ℕ → ℕ → ℕ
turned p at x = cond (eqb (at % 8) 0) (get_or p (at / 8) 0) x
