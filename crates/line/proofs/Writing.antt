-- A line is written piece by piece, on plain values.
--     glyphs                        the beats as digits, also where there are none
--     beats-more                    one beat more is written
--     written_none, written-beats   no beat is to be written; every beat is written
--     text-fits                     the beats, or -, take one byte each, and at least one
--     word                          the word refused and a space
--     written-accepted, written-refused     the parts of a line, or of what it says of a refusal, one after the other,
--                                   are the whole
-- Assumes nothing.
use mathlib.Core.List.{List, [], ◌∷◌, ◌++◌, map, append_assoc}
use mathlib.Core.Logic.{◌⊎◌, inl, inr}
use mathlib.Core.Path.{◌≡◌, refl, ◌∙◌, ap, ap₂, sym, subst}
use Prim.Native.Nat.{ℕ, ◌+◌, ◌≤◌, ◌<◌}
use native.Mathlib.Numerals.{add-one}
use native.Mathlib.Omega.{arith}
use lib.IntN.{ℤ}
use lib.ListN.{length, take, drop, set, get_or, get_or-map, length-map}
use lib.Seq.{take_all}
use lib.Seq.{paste, paste-suc}
use Rattle.refusal.specs.Refusal.{refusal_number, refusal_place, refusal_surplus}
use Rattle.refusal.specs.declared.Refusal.{Refusal}
use Rattle.text.proofs.Writing.{written_then}
use Rattle.text.specs.Decimal.{decimal, signed}
use Rattle.line.specs.Line.{beat_text, accepted_line, refused_text}
use Rattle.text.specs.Written.{Written}

abbrev pub glyphs : List ℕ → List ℕ
glyphs b = map (λ y. 48 + y) b

pub beats-more : (b xs : List ℕ) (at i : ℕ) → at + i < length xs → i < length b
    → set (paste xs at (glyphs b) i) (at + i) (48 + get_or b i 0) ≡ paste xs at (glyphs b) (i + 1)
beats-more b xs at i h l =
    rw (add-one i, ← get_or-map (λ y. 48 + y) b i 0) (paste-suc xs at (glyphs b) i 48 h (simp length-map l))

pub written_none : (b : List ℕ) {at r : ℕ} {xs ys : List ℕ}
    → length b ≡ 0 → Written at (45 ∷ []) xs ys r → Written at (beat_text b) xs ys r
unfolding beat_text
written_none [] e w = w
written_none (x ∷ b) e w = absurd (omega arith)

text-glyphs : (b : List ℕ) → ((length b ≡ 0) → ⊥) → glyphs b ≡ beat_text b
unfolding beat_text
text-glyphs [] h = absurd (h refl)
text-glyphs (x ∷ b) h = refl

pub written-beats : (b xs ys : List ℕ) (at i : ℕ) → ((length b ≡ 0) → ⊥) → i ≡ length b
    → ys ≡ paste xs at (glyphs b) i → Written at (beat_text b) xs ys (at + length b)
written-beats b xs ys at i h l e =
    let long : length b ≡ length (glyphs b) = sym (length-map b (λ y. 48 + y)) in
    subst (λ (p : List ℕ). Written at p xs ys (at + length b)) (text-glyphs b h)
    (record {
      text =
          e
          ∙ ap₂ (λ (g : List ℕ) (k : ℕ). take at xs ++ g ++ drop (at + k) xs)
          (take_all i (glyphs b) (omega (arith, l, long)))
          (l ∙ long);
      end = ap (λ (k : ℕ). at + k) long;
    })

pub text-fits : (b : List ℕ) → (length (beat_text b) ≤ 1) ⊎ (length (beat_text b) ≤ length b)
unfolding beat_text
text-fits [] = inl (omega arith)
text-fits (x ∷ b) = inr (omega (arith, length-map b (λ y. 48 + y)))

pub written-accepted : (t s n : ℕ) (b : List ℕ) {h i j k r : ℕ} {v w x y z out : List ℕ}
    → Written 0 (decimal t ++ 32 ∷ []) v w h → Written h (decimal s ++ 32 ∷ []) w x i
    → Written i (decimal n ++ 32 ∷ []) x y j → Written j (beat_text b) y z k → Written k (10 ∷ []) z out r
    → Written 0 (accepted_line t s n b) v out r
written-accepted t s n b {r = r} {v = v} {out = out} first second third fourth fifth =
    let two = written_then (omega arith) first second in
    let four = written_then (omega arith) (written_then (omega arith) two third) fourth in
    subst (λ (p : List ℕ). Written 0 p v out r) (simp append_assoc) (written_then (omega arith) four fifth)

abbrev pub word : List ℕ
word = 114 ∷ 101 ∷ 102 ∷ 117 ∷ 115 ∷ 101 ∷ 100 ∷ 32 ∷ []

pub written-refused : (why : Refusal) {number place : ℕ} {off : ℤ}
    → number ≡ refusal_number why → place ≡ refusal_place why → off ≡ refusal_surplus why
    → {h i j r : ℕ} {v w x y out : List ℕ}
    → Written 0 word v w h → Written h (decimal number ++ 32 ∷ []) w x i → Written i (decimal place ++ 32 ∷ []) x y j
    → Written j (signed off) y out r → Written 0 (refused_text why) v out r
written-refused why en ep es {r = r} {v = v} {out = out} first second third fourth =
    let two = written_then (omega arith) first second in
    subst (λ (p : List ℕ). Written 0 p v out r) (simp append_assoc (rw (en, ep, es)))
    (written_then (omega arith) (written_then (omega arith) two third) fourth)
