-- The numbers of headings are numbers from 1 on, written without leading zeros, with a dot between them.
--     Dotted, Goes               such a number; what may follow a digit of one: another digit, a dot and a number, or
--                                nothing
--     lines-dotted               each line of an outline is such a number
--     no-empty                   no such number is empty [H12]
--     no_zero, no-zero-after     none has a 0 at its start or after a dot [H12]
--     no_byte                    none has a byte below the dot: no carriage return and no space [H12]
-- Assumes nothing.
use mathlib.Core.List.{List, [], ◌∷◌, ◌++◌, append_assoc, append-nil}
use mathlib.Core.Logic.{◌⊎◌, inl, inr}
use mathlib.Core.Path.{◌≡◌, refl, subst}
use Prim.Native.Nat.{ℕ, suc, ◌≤◌, ◌<◌}
use native.Mathlib.Omega.{arith}
use lib.ListN.{length, get_or}
use Rattle.text.specs.Decimal.{decimal}
use Rattle.text.specs.Spells.{digits_value, Spells}
use Rattle.text.proofs.Theorems.{decimal-spells}
use Rattle.outline.specs.Outline.{Outline}
use Rattle.outline.specs.Text.{stem, under, lines, lines_of}
use Rattle.outline.proofs.Induction.{by-headings}
use Rattle.outline.proofs.Lines.{Each, each_append}

unfoldable mutual
  pub Dotted : List ℕ → Type 0
  Dotted [] = ⊥
  Dotted (x ∷ l) = (49 ≤ x) × (x ≤ 57) × Goes l

  pub Goes : List ℕ → Type 0
  Goes [] = Unit {0}
  Goes (x ∷ l) = ((48 ≤ x) × (x ≤ 57) × Goes l) ⊎ ((x ≡ 46) × Dotted l)

abbrev Digits : List ℕ → Type 0
Digits l = (k : ℕ) → k < length l → (48 ≤ get_or l k 0) × (get_or l k 0 ≤ 57)

digits-go : (l m : List ℕ) → Digits l → Goes m → Goes (l ++ m)
unfolding Goes
digits-go [] m q u = u
digits-go (x ∷ l) m q u =
    let d = q 0 (omega arith) in
    inl (d.0, d.1, digits-go l m (λ k h. q (suc k) (omega arith)) u)

spells-dotted : (n : ℕ) (d m : List ℕ) → 1 ≤ n → Spells n d → Goes m → Dotted (d ++ m)
unfolding Dotted digits_value
spells-dotted n [] m h q u = absurd (omega (arith, q.some))
spells-dotted n (x ∷ []) m h q u = (omega (arith, q.value), (q.digits 0 (omega arith)).1, u)
spells-dotted n (x ∷ y ∷ d) m h q u = (
  q.first (omega arith),
  (q.digits 0 (omega arith)).1,
  digits-go (y ∷ d) m (λ k l. q.digits (suc k) (omega arith)) u,
)

decimal-dotted : (k : ℕ) → 1 ≤ k → Dotted (decimal k)
unfolding Goes
decimal-dotted k h = subst Dotted (append-nil (decimal k)) (spells-dotted k (decimal k) [] h (decimal-spells k) tt)

-- a dot and a number after a number
mutual
  unfolding Dotted Goes

  dotted-dot : (p l : List ℕ) → Dotted p → Dotted l → Dotted (p ++ 46 ∷ l)
  dotted-dot [] l q u = absurd q
  dotted-dot (x ∷ p) l q u = (q.0, q.1, goes-dot p l q.2 u)

  goes-dot : (p l : List ℕ) → Goes p → Dotted l → Goes (p ++ 46 ∷ l)
  goes-dot [] l q u = inr (refl, u)
  goes-dot (x ∷ p) l (inl q) u = inl (q.0, q.1, goes-dot p l q.2 u)
  goes-dot (x ∷ p) l (inr q) u = inr (q.0, dotted-dot p l q.1 u)

-- a heading's number, or nothing for the topmost headings
abbrev Parent : List ℕ → Type 0
Parent [] = Unit {0}
Parent (x ∷ p) = Dotted (x ∷ p)

under-dotted : (p : List ℕ) (k : ℕ) → Parent p → 1 ≤ k → Dotted (under p k)
unfolding stem
under-dotted [] k q h = decimal-dotted k h
under-dotted (x ∷ p) k q h = rw append_assoc (dotted-dot (x ∷ p) (decimal k) q (decimal-dotted k h))

dotted-parent : (p : List ℕ) → Dotted p → Parent p
dotted-parent [] q = tt
dotted-parent (x ∷ p) q = q

numbers-dotted : (o : Outline) (p : List ℕ) (k : ℕ) → Parent p → 1 ≤ k → Each Dotted (lines o p k)
unfolding lines lines_of
numbers-dotted =
    by-headings (λ o. (p : List ℕ) (k : ℕ) → Parent p → 1 ≤ k → Each Dotted (lines o p k))
    (λ p k q h. tt)
    (λ o r inner rest p k q h.
    let u = under-dotted p k q h in
    let inside = inner (under p k) 1 (dotted-parent (under p k) u) (omega arith) in
    (u, each_append Dotted (lines o (under p k) 1) (lines r p (suc k)) inside (rest p (suc k) q (omega arith))))

pub lines-dotted : (o : Outline) → Each Dotted (lines o [] 1)
lines-dotted o = numbers-dotted o [] 1 tt (omega arith)

pub no-empty : Dotted [] → ⊥
unfolding Dotted
no-empty q = q

pub no_zero : (l : List ℕ) → Dotted (48 ∷ l) → ⊥
unfolding Dotted
no_zero l q = omega (arith, q.0)

mutual
  unfolding Dotted Goes

  pub no-zero-after : (p l : List ℕ) → Dotted (p ++ 46 ∷ 48 ∷ l) → ⊥
  no-zero-after [] l q = omega (arith, q.0)
  no-zero-after (x ∷ p) l q = goes-no-zero p l q.2

  goes-no-zero : (p l : List ℕ) → Goes (p ++ 46 ∷ 48 ∷ l) → ⊥
  goes-no-zero [] l (inl q) = omega (arith, q.0)
  goes-no-zero [] l (inr q) = omega (arith, q.1.0)
  goes-no-zero (x ∷ p) l (inl q) = goes-no-zero p l q.2
  goes-no-zero (x ∷ p) l (inr q) = no-zero-after p l q.1

mutual
  unfolding Dotted Goes

  pub no_byte : (c : ℕ) (p l : List ℕ) → c < 46 → Dotted (p ++ c ∷ l) → ⊥
  no_byte c [] l h q = omega (arith, q.0)
  no_byte c (x ∷ p) l h q = goes-no-byte c p l h q.2

  goes-no-byte : (c : ℕ) (p l : List ℕ) → c < 46 → Goes (p ++ c ∷ l) → ⊥
  goes-no-byte c [] l h (inl q) = omega (arith, q.0)
  goes-no-byte c [] l h (inr q) = omega (arith, q.0)
  goes-no-byte c (x ∷ p) l h (inl q) = goes-no-byte c p l h q.2
  goes-no-byte c (x ∷ p) l h (inr q) = no_byte c p l h q.1
