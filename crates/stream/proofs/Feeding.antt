-- The unread bytes moved to the front, and a read after them.
--     refill-lost      a read that failed: the unread bytes are as they were
--     refill-got       a read that brought some, or none at the end of the input
-- Assumes nothing.
use mathlib.Core.Bool.{Bool, true, false}
use mathlib.Core.List.{List, ◌++◌, append-nil}
use mathlib.Core.Path.{◌≡◌, sym, ◌∙◌, ap, subst}
use Prim.Native.Nat.{ℕ, ◌+◌, ◌-◌, ◌≤◌}
use native.Mathlib.Decide.{ℕ_discrete}
use native.Mathlib.Omega.{arith}
use borrow.Author.Tests.{eq-eqb, ne_eqb}
use lib.Dec.{eqb}
use lib.ListN.{length, take, drop, length-append, length-drop}
use lib.Seq.{length-take-le, take_at, take-append-add}
use Rattle.stream.specs.declared.Failure.{Failure}
use Rattle.std.proofs.Common.{Some, None, Err}
use Rattle.stream.specs.Exchange.{between, Room, Fed, came, finished, unread, Refilled}

from_start : (l : List ℕ) (n : ℕ) → between l 0 n ≡ take n l
from_start l n = let same : n - 0 ≡ n = omega arith in ap (λ (j : ℕ). take j l) same

module _ (input : List ℕ) (at have : ℕ) (room : Room input at have) (slid : List ℕ) (same : length slid ≡ length input)
    (front : take (have - at) slid ≡ between input at have) (rest : List ℕ)
    (whole : length (take (have - at) slid ++ rest) ≡ length input) where
  abbrev left : ℕ
  left = have - at

  abbrev after : List ℕ
  after = take left slid ++ rest

  size : length (take left slid) ≡ left
  size = length-take-le left slid (omega (arith, room.some))

  pub refill-lost : Refilled input at have after
      (record { at = 0; have = left; ended = false; end = Some (Err Failure.Unread) })
  refill-lost = record {
    inside = record { unread = omega arith; held = omega (arith, room.some, whole) };
    fed =
        subst (λ (l : List ℕ). Fed (between input at have) l false (Some (Err Failure.Unread)))
        (sym (from_start after left ∙ take_at (take left slid) rest left size ∙ front)) unread;
  }

  module _ (more : ℕ) (within : more ≤ length (take (length after - left) (drop left after))) where
    few : left + more ≤ length input
    few = omega (
      arith,
      within,
      whole,
      room.some,
      length-take-le (length after - left) (drop left after) (omega (arith, length-drop left after)),
    )

    abbrev Brought : List ℕ → Bool → Type 0
    Brought l b = Fed (between input at have) l b None

    rest-size : length (take more rest) ≡ more
    rest-size = length-take-le more rest (omega (arith, few, whole, size, length-append (take left slid) rest))

    seen : between after 0 (left + more) ≡ between input at have ++ take more rest
    seen =
        from_start after (left + more)
        ∙ ap (λ (j : ℕ). take (j + more) after) (sym size)
        ∙ take-append-add (take left slid) rest more
        ∙ ap (λ (l : List ℕ). l ++ take more rest) front

    pub refill-got : Refilled input at have after
        (record { at = 0; have = left + more; ended = eqb more 0; end = None })
    refill-got = record {
      inside = record { unread = omega arith; held = omega (arith, few, whole) };
      fed = elim (ℕ_discrete more 0) [ yes e ↦ nothing e | no n ↦ some n ];
    }
      where
        nothing : more ≡ 0 → Brought (between after 0 (left + more)) (eqb more 0)
        nothing e =
            subst (λ (b : Bool). Brought (between after 0 (left + more)) b) (sym (eq-eqb more 0 e))
            (subst (λ (l : List ℕ). Brought l true)
            (sym (seen ∙ ap (λ (j : ℕ). between input at have ++ take j rest) e ∙ append-nil (between input at have)))
            finished)

        some : ((more ≡ 0) → ⊥) → Brought (between after 0 (left + more)) (eqb more 0)
        some n =
            subst (λ (b : Bool). Brought (between after 0 (left + more)) b) (sym (ne_eqb more 0 n))
            (subst (λ (l : List ℕ). Brought l false) (sym seen) (came (take more rest) (omega (arith, n, rest-size))))
