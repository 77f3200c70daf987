-- Whether a piece stands in a text, on plain values.
--     Begun                        as many bytes of a piece stand there
--     stood-short, stood-other     a piece that does not stand there: too little is left; or another byte is met
--     begun-none, begun_more       none of its bytes stands there yet; one more
--     stood-whole                  all of its bytes do
--     stood-within                 where it stands, the text has it whole
--     behind                       what follows it there
--     stood-then, stood-never      a piece and then the piece after it; a beginning that does not stand there
-- Assumes nothing.
use mathlib.Core.Bool.{Bool, true, false}
use mathlib.Core.List.{List, [], ◌∷◌, ◌++◌, append_assoc}
use mathlib.Core.Path.{◌≡◌, refl, sym, ◌∙◌, ap, ap₂}
use Prim.Native.Nat.{ℕ, suc, ◌+◌, ◌-◌, ◌≤◌, ◌<◌}
use native.Mathlib.Numerals.{add-one}
use native.Mathlib.Omega.{arith}
use lib.ListN.{length, take, drop, get_or, length-append, length-drop, take-append-drop, get_or-append}
use lib.Seq.{drop-append_seam, drop-drop, take-suc, take-length, get_or-drop}
use Rattle.outline_back.specs.Reading.{Stood, there, other}

pub record Begun (x : List ℕ) (at : ℕ) (p : List ℕ) (i : ℕ) : Type 0 where
  pub within : i ≤ length p
  pub same : take i (drop at x) ≡ take i p

module _ {x : List ℕ} {at : ℕ} {p : List ℕ} where
  pub stood-short : length x - at < length p → Stood x at p false
  stood-short h = other (λ rest e. omega (arith, length-append p rest, length-drop at x, ap length e))

  pub stood-other : (i : ℕ) → i < length p → (get_or x (at + i) 0 ≡ get_or p i 0 → ⊥) → Stood x at p false
  stood-other i h f = other (λ rest e.
      f (sym (get_or-drop at x i 0) ∙ ap (λ (l : List ℕ). get_or l i 0) e ∙ get_or-append p rest 0 i h))

  pub begun-none : Begun x at p 0
  begun-none = record { within = omega arith; same = refl }

  pub begun_more : {i : ℕ} → Begun x at p i → at + i < length x → i < length p → get_or x (at + i) 0 ≡ get_or p i 0
      → Begun x at p (i + 1)
  begun_more {i} b h g e =
      let long : i < length (drop at x) = omega (arith, length-drop at x) in
      let one : get_or (drop at x) i 0 ≡ get_or p i 0 = get_or-drop at x i 0 ∙ e in
      let more : take (suc i) (drop at x) ≡ take (suc i) p =
      take-suc (drop at x) i 0 long ∙ ap₂ (λ (l : List ℕ) (a : ℕ). l ++ a ∷ []) b.same one
      ∙ sym (take-suc p i 0 g) in
      record { within = omega arith; same = rw add-one more }

  pub stood-whole : {i : ℕ} → Begun x at p i → length p ≤ i → Stood x at p true
  stood-whole {i} b h =
      let e : i ≡ length p = omega (arith, b.within) in
      let whole : take i (drop at x) ≡ p = b.same ∙ ap (λ (k : ℕ). take k p) e ∙ take-length p in
      there (drop i (drop at x))
      (sym (take-append-drop i (drop at x)) ∙ ap (λ (l : List ℕ). l ++ drop i (drop at x)) whole)

pub stood-within : {x : List ℕ} {at : ℕ} {p : List ℕ} → Stood x at p true → at ≤ length x → at + length p ≤ length x
stood-within {x} {at} {p} (there rest e) h = omega (arith, length-append p rest, length-drop at x, ap length e)

pub behind : (x : List ℕ) (at : ℕ) (a rest : List ℕ) → drop at x ≡ a ++ rest → drop (at + length a) x ≡ rest
behind x at a rest e =
    sym (drop-drop (length a) at x) ∙ ap (drop (length a)) e ∙ drop-append_seam a rest

pub stood-then : {x : List ℕ} {at mid : ℕ} {a b : List ℕ} {r : Bool}
    → Stood x at a true → mid ≡ at + length a → Stood x mid b r → Stood x at (a ++ b) r
stood-then {x} {at} {mid} {a} {b} (there rest e) h (there more f) =
    let after : rest ≡ b ++ more = sym (behind x at a rest e) ∙ ap (λ (k : ℕ). drop k x) (sym h) ∙ f in
    there more (e ∙ ap (λ (l : List ℕ). a ++ l) after ∙ sym (append_assoc a b more))
stood-then {x} {at} {mid} {a} {b} (there rest e) h (other f) =
    other (λ more g.
    f more (ap (λ (k : ℕ). drop k x) h ∙ behind x at a (b ++ more) (g ∙ append_assoc a b more)))

pub stood-never : {x : List ℕ} {at : ℕ} {a : List ℕ} (b : List ℕ) → Stood x at a false → Stood x at (a ++ b) false
stood-never {x} {at} {a} b (other f) = other (λ more g. f (b ++ more) (g ∙ append_assoc a b more))
