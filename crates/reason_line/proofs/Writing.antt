-- A line is written piece by piece, on plain values.
--     written-two, written-four         the changed places and the line feed
--     written-found                     the two places before them, and these
--     one-form-line, last_line, next-line, found-line     the line of each reason
--     written-counted                   the line of a record that is refused 6
-- Assumes nothing.
use mathlib.Core.List.{List, [], ◌∷◌, ◌++◌, append_assoc}
use mathlib.Core.Path.{subst}
use Prim.Native.Nat.{ℕ, ◌≤◌}
use native.Mathlib.Omega.{arith}
use lib.ListN.{length}
use Rattle.refusal.specs.declared.Refusal.{Refusal}
use Rattle.reason.specs.declared.Places.{Places}
use Rattle.reason.specs.declared.Reason.{Reason}
use Rattle.reason.specs.Explanation.{places_of, values_of}
use Rattle.text.specs.Decimal.{digits, decimal}
use Rattle.text.specs.Written.{Written}
use Rattle.text.proofs.Writing.{written_then}
use Rattle.line.specs.Line.{refused_text}
use Rattle.reason_line.specs.Line.{places_text, explained_line, counted_line}

-- a number with the space after it
abbrev spaced : ℕ → List ℕ
spaced n = decimal n ++ 32 ∷ []

module _ {at : ℕ} {u : List ℕ} (inside : at ≤ length u) where
  pub written-two : (a b : ℕ) {h i r : ℕ} {v w out : List ℕ}
      → Written at (spaced a) u v h → Written h (decimal b) v w i → Written i (10 ∷ []) w out r
      → Written at (places_text (a ∷ b ∷ []) ++ 10 ∷ []) u out r
  unfolding places_text
  written-two a b {r = r} {out = out} first second third =
      subst (λ (p : List ℕ). Written at p u out r) (simp append_assoc)
      (written_then inside (written_then inside first second) third)

  pub written-four : (a b c d : ℕ) {h i r : ℕ} {v w out : List ℕ}
      → Written at (spaced a) u v h → Written h (spaced b) v w i
      → Written i (places_text (c ∷ d ∷ []) ++ 10 ∷ []) w out r
      → Written at (places_text (a ∷ b ∷ c ∷ d ∷ []) ++ 10 ∷ []) u out r
  unfolding places_text
  written-four a b c d {r = r} {out = out} first second third =
      subst (λ (p : List ℕ). Written at p u out r) (simp append_assoc)
      (written_then inside (written_then inside first second) third)

  pub written-found : (found moved : ℕ) (l : List ℕ) {h i r : ℕ} {v w out : List ℕ}
      → Written at (spaced found) u v h → Written h (spaced moved) v w i → Written i (places_text l ++ 10 ∷ []) w out r
      → Written at (decimal found ++ 32 ∷ decimal moved ++ 32 ∷ places_text l ++ 10 ∷ []) u out r
  written-found found moved l {r = r} {out = out} first second third =
      subst (λ (p : List ℕ). Written at p u out r) (simp append_assoc)
      (written_then inside (written_then inside first second) third)

-- the line of each reason
module _ {u out : List ℕ} {r : ℕ} where
  pub one-form-line : Written 0 (49 ∷ 32 ∷ 45 ∷ 32 ∷ 45 ∷ 32 ∷ 45 ∷ 10 ∷ []) u out r
      → Written 0 (explained_line (values_of Reason.OneForm)) u out r
  unfolding decimal digits places_text
  one-form-line w = w

  pub last_line : (at : ℕ) (places : Places) {h i : ℕ} {v w : List ℕ}
      → Written 0 (50 ∷ 32 ∷ 45 ∷ 32 ∷ []) u v h → Written h (spaced at) v w i
      → Written i (places_text (places_of places) ++ 10 ∷ []) w out r
      → Written 0 (explained_line (values_of (Reason.LastMoves at places))) u out r
  unfolding decimal digits places_text
  last_line at places first second third =
      subst (λ (p : List ℕ). Written 0 p u out r) (simp append_assoc)
      (written_then (omega arith) (written_then (omega arith) first second) third)

  pub next-line : (at next : ℕ) (places : Places) {h : ℕ} {v : List ℕ}
      → Written 0 (51 ∷ 32 ∷ []) u v h
      → Written h (decimal at ++ 32 ∷ decimal next ++ 32 ∷ places_text (places_of places) ++ 10 ∷ []) v out r
      → Written 0 (explained_line (values_of (Reason.NextMoves at next places))) u out r
  unfolding decimal digits places_text
  next-line at next places first second = written_then (omega arith) first second

  pub found-line : (at : ℕ) (places : Places) {h : ℕ} {v : List ℕ}
      → Written 0 (52 ∷ 32 ∷ []) u v h
      → Written h (decimal at ++ 32 ∷ decimal at ++ 32 ∷ places_text (places_of places) ++ 10 ∷ []) v out r
      → Written 0 (explained_line (values_of (Reason.FoundMoves at places))) u out r
  unfolding decimal digits places_text
  found-line at places first second = written_then (omega arith) first second

  -- whatever the text before the two numbers
  counted-after : (text : List ℕ) (asked found : ℕ) {h i j k : ℕ} {v w x y : List ℕ}
      → Written 0 text u v h → Written h (32 ∷ []) v w i → Written i (spaced asked) w x j
      → Written j (decimal found) x y k → Written k (10 ∷ []) y out r
      → Written 0 (text ++ 32 ∷ decimal asked ++ 32 ∷ decimal found ++ 10 ∷ []) u out r
  counted-after text asked found first second third fourth fifth =
      let two = written_then (omega arith) first second in
      let four = written_then (omega arith) (written_then (omega arith) two third) fourth in
      subst (λ (p : List ℕ). Written 0 p u out r) (simp append_assoc) (written_then (omega arith) four fifth)

  pub written-counted : (why : Refusal) (asked found : ℕ) {h i j k : ℕ} {v w x y : List ℕ}
      → Written 0 (refused_text why) u v h → Written h (32 ∷ []) v w i → Written i (spaced asked) w x j
      → Written j (decimal found) x y k → Written k (10 ∷ []) y out r
      → Written 0 (counted_line why asked found) u out r
  written-counted why = counted-after (refused_text why)
