-- When a record is settled, and what stands at the front of the unread bytes.
--     settled-none, settled-above, settled-rest     the tests of `settled`, in their order
--     settled-whole        a settled record is whole, or its length is above the longest
--     unsettled-few        a record that is not settled has fewer bytes than the longest record
--     front-over, front_rest, front-record, front-short     what the tests of `front_of` find
--     is-over, is_some, is-settled, is_open     what stands at the front, and what that says
-- Assumes nothing.
use mathlib.Core.Bool.{Bool, true, false, cond, true≢false, false≢true}
use mathlib.Core.List.{List}
use mathlib.Core.Logic.{◌⊎◌, inl, inr}
use mathlib.Core.Path.{◌≡◌, refl, sym, ◌∙◌, ap}
use Prim.Native.Nat.{ℕ, ◌+◌, ◌≤◌, ◌<◌}
use native.Mathlib.Decide.{dec_lt, ℕ_discrete}
use native.Mathlib.Omega.{arith}
use borrow.Author.Tests.{lt-ltb, le-ltb, le-leb, lt-leb, leb-true, eqb-true, eq-eqb, ne_eqb}
use lib.Dec.{eqb, leb}
use lib.ListN.{length}
use Rattle.record.specs.Record.{long, longest}
use Rattle.stream.specs.declared.Front.{Front}
use Rattle.stream.specs.Stream.{settled, front_of}

module _ (src : List ℕ) where
  pub settled-none : length src < 2 → false ≡ settled src
  settled-none h = sym (simp (lt-leb 2 (length src) h))

  module _ (h : 2 ≤ length src) where
    pub settled-above : longest < long src → true ≡ settled src
    settled-above k = sym (simp (le-leb 2 (length src) h, lt-ltb longest (long src) k))

    pub settled-rest : long src ≤ longest → leb (2 + long src) (length src) ≡ settled src
    settled-rest k = sym (simp (le-leb 2 (length src) h, le-ltb longest (long src) k))

  pub settled-whole : settled src ≡ true → (2 ≤ length src) × ((longest < long src) ⊎ (2 + long src ≤ length src))
  settled-whole e = (
    two,
    elim (dec_lt longest (long src)) [
      | yes h ↦ inl h
      | no h ↦ inr (leb-true (2 + long src) (length src) (settled-rest two (omega arith) ∙ e))
    ],
  )
    where
      two : 2 ≤ length src
      two = elim (dec_lt (length src) 2) [ yes h ↦ absurd (false≢true (settled-none h ∙ e)) | no h ↦ omega arith ]

  pub unsettled-few : settled src ≡ false → length src < 2 + longest
  unsettled-few e = elim (dec_lt (length src) (2 + longest)) [
    | yes h ↦ h
    | no h ↦ absurd (true≢false (enough (omega arith) ∙ e))
  ]
    where
      enough : 2 + longest ≤ length src → true ≡ settled src
      enough h = elim (dec_lt longest (long src)) [
        | yes k ↦ settled-above (omega arith) k
        | no k ↦ sym (le-leb (2 + long src) (length src) (omega arith)) ∙ settled-rest (omega arith) (omega arith)
      ]

  pub front-over : length src ≡ 0 → Front.Over ≡ front_of true src
  front-over e = sym (simp (eq-eqb (length src) 0 e))

  pub front_rest : ((length src ≡ 0) → ⊥) → Front.Record ≡ front_of true src
  front_rest n = sym (simp (ne_eqb (length src) 0 n))

  pub front-record : settled src ≡ true → Front.Record ≡ front_of false src
  front-record e = sym (ap (λ (b : Bool). cond b Front.Record Front.Short) e)

  pub front-short : settled src ≡ false → Front.Short ≡ front_of false src
  front-short e = sym (ap (λ (b : Bool). cond b Front.Record Front.Short) e)

-- what stands at the front, and what that says
pub is-over : (ended : Bool) (src : List ℕ) → front_of ended src ≡ Front.Over → (ended ≡ true) × (length src ≡ 0)
is-over true src e = (refl, by (eqb (length src) 0) refl e)
  where
    by : (b : Bool) → eqb (length src) 0 ≡ b → cond b Front.Over Front.Record ≡ Front.Over → length src ≡ 0
    by true f q = eqb-true (length src) 0 f
    by false f q = let z : ◌≡◌ {A = ℕ} 0 1 = cc in absurd (omega arith)
is-over false src e = by (settled src) e
  where
    by : (b : Bool) → cond b Front.Record Front.Short ≡ Front.Over → (false ≡ true) × (length src ≡ 0)
    by true q = let z : ◌≡◌ {A = ℕ} 0 1 = cc in absurd (omega arith)
    by false q = let z : ◌≡◌ {A = ℕ} 0 1 = cc in absurd (omega arith)

pub is_some : (src : List ℕ) → front_of true src ≡ Front.Record → 0 < length src
is_some src e = elim (ℕ_discrete (length src) 0) [
  | yes n ↦ let clash : Front.Over ≡ Front.Record =
      ap (λ (b : Bool). cond b Front.Over Front.Record) (sym (eq-eqb (length src) 0 n)) ∙ e in
      let z : ◌≡◌ {A = ℕ} 0 1 = cc in absurd (omega arith)
  | no n ↦ omega (arith, n)
]

pub is-settled : (src : List ℕ) → front_of false src ≡ Front.Record → settled src ≡ true
is-settled src e = by (settled src) e
  where
    by : (b : Bool) → cond b Front.Record Front.Short ≡ Front.Record → b ≡ true
    by true q = refl
    by false q = let z : ◌≡◌ {A = ℕ} 0 1 = cc in absurd (omega arith)

pub is_open : (ended : Bool) (src : List ℕ) → front_of ended src ≡ Front.Short → (ended ≡ false) × (settled src ≡ false)
is_open true src e = by (eqb (length src) 0) e
  where
    by : (b : Bool) → cond b Front.Over Front.Record ≡ Front.Short → (true ≡ false) × (settled src ≡ false)
    by true q = let z : ◌≡◌ {A = ℕ} 0 1 = cc in absurd (omega arith)
    by false q = let z : ◌≡◌ {A = ℕ} 0 1 = cc in absurd (omega arith)
is_open false src e = (refl, by (settled src) e)
  where
    by : (b : Bool) → cond b Front.Record Front.Short ≡ Front.Short → b ≡ false
    by true q = let z : ◌≡◌ {A = ℕ} 0 1 = cc in absurd (omega arith)
    by false q = refl
