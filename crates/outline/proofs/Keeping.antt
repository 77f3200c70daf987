-- What stays of a text when a piece is written into it.
--     kept-length      its length
--     kept-part        a part of what stands before the piece
--     kept-get_or      and so a byte of that
--     piece-part       the first part of a piece stands where the piece does
--     repeated-none, repeated-more     a part of what stands before is written again, byte by byte
-- Assumes nothing.
use mathlib.Core.List.{List, [], ◌∷◌, ◌++◌, append_assoc}
use mathlib.Core.Path.{◌≡◌, refl, sym, ◌∙◌, ap, subst}
use Prim.Native.Nat.{ℕ, ◌+◌, ◌≤◌, ◌<◌}
use native.Mathlib.Numerals.{add-one}
use native.Mathlib.Omega.{arith}
use lib.ListN.{length, take, drop, set, get_or, length-append, length-drop, take-append-drop, get_or-append}
use lib.Seq.{length-take-le, take-append-le, take-append_seam, drop-append-le, drop_at, take-suc, get_or-drop}
use lib.Seq.{paste-zero}
use Rattle.text.specs.Written.{Written}
use Rattle.text.proofs.Writing.{written-put, written_then}
use Rattle.outline.specs.Writing.{part}

-- a part of what two lists begin with
part-front : (front u v : List ℕ) (a n : ℕ) → a + n ≤ length front → part (front ++ u) a n ≡ part (front ++ v) a n
part-front front u v a n h =
    let l : n ≤ length (drop a front) = omega (arith, length-drop a front) in
    let each : (w : List ℕ) → part (front ++ w) a n ≡ take n (drop a front) =
    λ w. ap (take n) (drop-append-le a front w (omega arith)) ∙ take-append-le n (drop a front) w l in
    each u ∙ sym (each v)

module _ {at r : ℕ} {p x y : List ℕ} (w : Written at p x y r) where
  pub kept-length : at + length p ≤ length x → length y ≡ length x
  kept-length h =
      ap length w.text
      ∙ omega (
        arith,
        length-append (take at x ++ p) (drop (at + length p) x),
        length-append (take at x) p,
        length-take-le at x (omega arith),
        length-drop (at + length p) x,
      )

  pub kept-part : (a n : ℕ) → at ≤ length x → a + n ≤ at → part y a n ≡ part x a n
  kept-part a n h l =
      let front = take at x in
      let k : a + n ≤ length front = omega (arith, length-take-le at x h) in
      ap (λ (z : List ℕ). part z a n) (w.text ∙ append_assoc front p (drop (at + length p) x))
      ∙ part-front front (p ++ drop (at + length p) x) (drop at x) a n k
      ∙ ap (λ (z : List ℕ). part z a n) (take-append-drop at x)

  pub kept-get_or : (j : ℕ) → at ≤ length x → j < at → get_or y j 0 ≡ get_or x j 0
  kept-get_or j h l =
      let front = take at x in
      let k : j < length front = omega (arith, length-take-le at x h) in
      ap (λ (z : List ℕ). get_or z j 0) (w.text ∙ append_assoc front p (drop (at + length p) x))
      ∙ get_or-append front (p ++ drop (at + length p) x) 0 j k
      ∙ sym (get_or-append front (drop at x) 0 j k)
      ∙ ap (λ (z : List ℕ). get_or z j 0) (take-append-drop at x)

pub piece-part : {at r : ℕ} {x y : List ℕ} (q u : List ℕ) → Written at (q ++ u) x y r → at ≤ length x
    → part y at (length q) ≡ q
piece-part {at} {r} {x} q u w h =
    let far = drop (at + length (q ++ u)) x in
    ap (λ (z : List ℕ). part z at (length q)) (w.text ∙ append_assoc (take at x) (q ++ u) far)
    ∙ ap (take (length q)) (drop_at (take at x) ((q ++ u) ++ far) at (length-take-le at x h) ∙ append_assoc q u far)
    ∙ take-append_seam q (u ++ far)

module _ (x : List ℕ) (from to : ℕ) where
  pub repeated-none : Written to (part x from 0) x x (to + 0)
  repeated-none = record { text = paste-zero x to []; end = refl }

  pub repeated-more : {y : List ℕ} {long i : ℕ} → from + long ≤ to → to + long ≤ length x → i < long
      → length y ≡ length x → Written to (part x from i) x y (to + i)
      → Written to (part x from (i + 1)) x (set y (to + i) (get_or y (from + i) 0)) (to + (i + 1))
  repeated-more {y} {long} {i} h l k same w =
      let v = get_or y (from + i) 0 in
      let byte : v ≡ get_or (drop from x) i 0 =
      kept-get_or w (from + i) (omega arith) (omega arith) ∙ sym (get_or-drop from x i 0) in
      let one : part x from i ++ v ∷ [] ≡ part x from (i + 1) =
      ap (λ (b : ℕ). part x from i ++ b ∷ []) byte
      ∙ sym (take-suc (drop from x) i 0 (omega (arith, length-drop from x)))
      ∙ ap (part x from) (sym (add-one i)) in
      let both = written_then (omega arith) w (written-put v (to + i) y (omega arith)) in
      subst (λ (q : List ℕ). Written to q x (set y (to + i) v) (to + (i + 1))) one
      (subst (λ (e : ℕ). Written to (part x from i ++ v ∷ []) x (set y (to + i) v) e) (omega arith) both)
