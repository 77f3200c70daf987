-- The list of an input, record by record.
--     list-none        of no bytes there is no line
--     list-last        the line of a 9 is the last
--     list-more        any other line is followed by the list of what follows its record
--     passed-some      a record after which the list goes on takes some bytes
--     passed-within    no more is passed over than is there
-- Assumes nothing.
use mathlib.Core.Bool.{Bool, true, false, cond, true≢false}
use mathlib.Core.List.{List, [], ◌∷◌, ◌++◌, append-nil}
use mathlib.Core.Path.{◌≡◌, refl, sym, ◌∙◌, ap}
use Prim.Native.Nat.{ℕ, zero, suc, ◌≤◌, ◌<◌}
use native.Mathlib.Omega.{arith}
use lib.ListN.{length, drop, length-drop}
use Rattle.record.specs.Record.{cut}
use Rattle.reader.proofs.Heads.{whole_long}
use Rattle.stream.specs.Stream.{passed, ends, list_from, list_of}
use Rattle.stream.proofs.Alone.{cut-ends, whole-goes}

-- a record after which the list goes on takes two bytes at least
goes-whole : (src : List ℕ) → ends src ≡ false → cut src ≡ false
goes-whole src e = by (cut src) refl
  where
    by : (b : Bool) → cut src ≡ b → cut src ≡ false
    by true c = absurd (true≢false (sym (cut-ends src c).0 ∙ e))
    by false c = c

pub passed-some : (src : List ℕ) → ends src ≡ false → 2 ≤ passed src
passed-some src e = omega (arith, (whole-goes src (goes-whole src e)).1)

pub passed-within : (src : List ℕ) → passed src ≤ length src
passed-within src = by (cut src) refl
  where
    by : (b : Bool) → cut src ≡ b → passed src ≤ length src
    by true c = omega (arith, (cut-ends src c).1)
    by false c = omega (arith, (whole-goes src c).1, (whole_long src c).1)

-- where the list goes on, it goes on the same
behind : (b : Bool) {l m : List ℕ} → (b ≡ false → l ≡ m) → cond b [] l ≡ cond b [] m
behind true h = refl
behind false h = h refl

module _ (line : List ℕ → List ℕ) where
  -- as many records as bytes are enough
  enough : (k m : ℕ) (src : List ℕ) → length src ≤ k → length src ≤ m → list_from line k src ≡ list_from line m src
  unfolding list_from
  enough zero zero src h g = refl
  enough zero (suc m) [] h g = refl
  enough zero (suc m) (x ∷ rest) h g = absurd (omega arith)
  enough (suc k) zero [] h g = refl
  enough (suc k) zero (x ∷ rest) h g = absurd (omega arith)
  enough (suc k) (suc m) [] h g = refl
  enough (suc k) (suc m) (x ∷ rest) h g =
      let src = x ∷ rest in
      let shorter = length-drop (passed src) src in
      ap (λ (l : List ℕ). line src ++ l) (behind (ends src) (λ e.
      enough k m (drop (passed src) src) (omega (arith, shorter, passed-some src e))
      (omega (arith, shorter, passed-some src e))))

  pub list-none : list_of line [] ≡ []
  unfolding list_from
  list-none = refl

  list-front : (src : List ℕ) → 0 < length src
      → list_of line src ≡ line src ++ cond (ends src) [] (list_of line (drop (passed src) src))
  unfolding list_from
  list-front [] h = absurd (omega arith)
  list-front (x ∷ rest) h =
      let src = x ∷ rest in
      let left = drop (passed src) src in
      ap (λ (l : List ℕ). line src ++ l) (behind (ends src) (λ e.
      enough (length rest) (length left) left (omega (arith, length-drop (passed src) src, passed-some src e))
      (omega arith)))

  pub list-last : (src : List ℕ) → 0 < length src → ends src ≡ true → list_of line src ≡ line src
  list-last src h e =
      list-front src h
      ∙ ap (λ (b : Bool). line src ++ cond b [] (list_of line (drop (passed src) src))) e
      ∙ append-nil (line src)

  pub list-more : (src : List ℕ) → 0 < length src → ends src ≡ false
      → list_of line src ≡ line src ++ list_of line (drop (passed src) src)
  list-more src h e =
      list-front src h ∙ ap (λ (b : Bool). line src ++ cond b [] (list_of line (drop (passed src) src))) e
