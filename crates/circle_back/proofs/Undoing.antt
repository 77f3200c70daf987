-- The step back by stores: y is the leftmost 0, x the beat after the zeros there; v and u are the same of what follows
-- the second beat.
--     Came, came            a schedule by its second beat: ones alone; two ones and zeros; or 1, 0 and a schedule
--     Second, rest-form     1, 0 and a schedule that is not empty, where the second beat is a 0 and not the last
--     undo-turn, undo-dip, undo-plain, undo-level, undo-low, undo-alone     each plan of the code leaves the previous
--                           form
-- Assumes nothing.
use mathlib.Core.Bool.{true, false≢true}
use mathlib.Core.List.{List, [], ◌∷◌}
use mathlib.Core.Path.{◌≡◌, refl, ◌∙◌, ap, sym, subst}
use Prim.Native.Nat.{ℕ, zero, suc, pred, ◌+◌, ◌-◌, ◌≤◌, ◌<◌}
use native.Mathlib.Omega.{arith}
use lib.ListN.{length, drop, set}
use Rattle.schedule.proofs.Hand.{plays, schedule-plays, plays-schedule}
use Rattle.circle.specs.declared.Move.{Move}
use Rattle.circle.specs.Walk.{changed}
use Rattle.circle.specs.Back.{previous}
use Rattle.circle.specs.Plan.{Form, Inside, changes}
use Rattle.circle.proofs.Shape.{
  ups,
  downs,
  plays-shape,
  shape-plays,
  shape-short,
  shape-length,
  ups-snoc,
  downs-snoc,
}
use Rattle.circle.proofs.Work.{changed-self, changed-sym, turn_two, swap-two, dip-four}
use Rattle.circle.proofs.Undone.{
  Ends,
  end,
  rise,
  previous-stays,
  previous-turns,
  previous-dips,
  previous-low,
}
use Rattle.circle.proofs.Stores.{Found, flat, rising, set-ups, set-downs}
use Rattle.circle_back.specs.Undo.{Undoes, unmade}

pub data Came (b : List ℕ) (y x : ℕ) : Type 0 where
  plain : (p : ℕ) → b ≡ ups p [] → y ≡ p → x ≡ p → Came b y x
  low : (p q : ℕ) (z : List ℕ) → b ≡ ups (suc (suc p)) (downs (suc q) z) → Ends z → y ≡ suc (suc p)
      → x ≡ suc (suc p) + suc q → Came b y x
  second : (d : List ℕ) → b ≡ 1 ∷ 0 ∷ d → plays 0 d ≡ true → y ≡ 1 → x ≡ 2 → Came b y x

-- after one 1 there is one 0
alone : (q : ℕ) (c : List ℕ) → plays 0 (ups 1 (downs (suc q) c)) ≡ true → (q ≡ 0) × (plays 0 c ≡ true)
alone q c o =
    let hand = plays-shape 1 (suc q) c o in
    let empty : hand.0 ≡ 0 = omega (arith, hand.1) in
    (omega (arith, hand.1), ap (λ (k : ℕ). plays k c) (sym empty) ∙ hand.2)

pub came : {b : List ℕ} {y x : ℕ} → Form b → Found b y x → Came b y x
came {b} {y} {x} f (flat p q e ey ex) = by p q e ey ex (subst (λ (l : List ℕ). plays 0 l ≡ true) e (schedule-plays f))
  where
    by : (p q : ℕ) → b ≡ ups p (downs q []) → y ≡ p → x ≡ p + q → plays 0 (ups p (downs q [])) ≡ true → Came b y x
    by p zero e ey ex o = plain p e ey (omega arith)
    by zero (suc q) e ey ex o = unfold plays in absurd (false≢true o)
    by (suc zero) (suc q) e ey ex o =
        let one = alone q [] o in
        second [] (e ∙ ap (λ (k : ℕ). 1 ∷ 0 ∷ downs k []) one.0) one.1 ey (omega (arith, one.0))
    by (suc (suc p)) (suc q) e ey ex o = low p q [] e end ey ex
came {b} {y} {x} f (rising p q z e ey ex) =
    by p e ey ex (subst (λ (l : List ℕ). plays 0 l ≡ true) e (schedule-plays f))
  where
    by : (p : ℕ) → b ≡ ups (suc p) (downs (suc q) (1 ∷ z)) → y ≡ suc p → x ≡ suc p + suc q
        → plays 0 (ups (suc p) (downs (suc q) (1 ∷ z))) ≡ true → Came b y x
    by zero e ey ex o =
        let one = alone q (1 ∷ z) o in
        second (1 ∷ z) (e ∙ ap (λ (k : ℕ). 1 ∷ 0 ∷ downs k (1 ∷ z)) one.0) one.1 ey (omega (arith, one.0))
    by (suc p) e ey ex o = low p q (1 ∷ z) e (rise z) ey ex

-- stores, by the shape
unswapped : (p q : ℕ) (z : List ℕ)
    → set (set (ups (suc p) (downs (suc q) z)) p 0) (p + suc q) 1 ≡ ups p (downs (suc q) (1 ∷ z))
unswapped p q z =
    ap (λ (l : List ℕ). set (set l p 0) (p + suc q) 1) (sym (ups-snoc p (downs (suc q) z)))
    ∙ ap (λ (l : List ℕ). set l (p + suc q) 1) (set-ups p 0 p (1 ∷ downs (suc q) z) 0 (omega arith))
    ∙ set-ups p (suc q) (p + suc q) (0 ∷ downs (suc q) z) 1 refl
    ∙ ap (λ (l : List ℕ). ups p (set l (suc q) 1)) (sym (downs-snoc (suc q) z))
    ∙ ap (ups p) (set-downs (suc q) 0 (suc q) (0 ∷ z) 1 (omega arith))

unturned : (p q : ℕ)
    → set (set (1 ∷ 0 ∷ ups (suc p) (downs q [])) (suc (suc p)) 0) 1 1 ≡ ups (suc (suc p)) (downs (suc q) [])
unturned p q =
    ap (λ (l : List ℕ). set (1 ∷ 0 ∷ l) 1 1)
    (ap (λ (l : List ℕ). set l p 0) (sym (ups-snoc p (downs q []))) ∙ set-ups p 0 p (1 ∷ downs q []) 0 (omega arith))

undipped : (p q : ℕ) (a : List ℕ) (x k : ℕ) → x ≡ suc (suc (p + suc q)) → k ≡ suc x
    → set (set (set (set (1 ∷ 0 ∷ ups (suc p) (downs (suc q) (1 ∷ a))) (suc (suc p)) 0) x 1) 1 1) k 0
    ≡ ups (suc (suc p)) (downs (suc q) (1 ∷ 0 ∷ a))
undipped p q a x k ex ek =
    rw (ek, ex)
    (ap (λ (l : List ℕ). 1 ∷ 1 ∷ set l (suc (p + suc q)) 0) (unswapped p q (1 ∷ a))
    ∙ ap (λ (l : List ℕ). 1 ∷ 1 ∷ l)
    (set-ups p (suc (suc q)) (suc (p + suc q)) (downs (suc q) (1 ∷ 1 ∷ a)) 0 (omega arith)
    ∙ ap (ups p) (set-downs (suc q) 1 (suc (suc q)) (1 ∷ 1 ∷ a) 0 (omega arith))))

-- the found 1 may have stood after the zeros, if they left something in hand
stood-behind : (p q k : ℕ) (z : List ℕ) → suc (suc p) ≡ suc q + k → k ≡ suc (pred k) → plays k z ≡ true
    → plays 0 (ups (suc p) (downs (suc q) (1 ∷ z))) ≡ true
unfolding plays
stood-behind p q k z e some o =
    shape-plays (suc p) (suc q) (pred k) (1 ∷ z) (omega arith) ∙ ap (λ (j : ℕ). plays j z) (sym some) ∙ o

-- a plan for a list by its shape c, which the rule makes of d
undone : {b c d : List ℕ} (m : Move) → b ≡ c → Inside m (length c) → unmade m c ≡ d → previous c ≡ d
    → changed d c ≡ changes m → Undoes b m
undone {b} {c} {d} m e inside makes is counts =
    subst (λ (l : List ℕ). Undoes l m) (sym e)
    (record {
      inside = inside;
      makes = makes ∙ sym is;
      counts = sym counts ∙ changed-sym d c ∙ ap (changed c) (sym is);
    })

-- after 1 and 0, beats with no 01, and beats that have one
module _ {d : List ℕ} {v u : ℕ} where
  pub undo-turn : Form d → 1 ≤ length d → Found d v u → u ≡ length d → Undoes (1 ∷ 0 ∷ d) (Move.Swaps (v + 1) 1)
  undo-turn f some (rising p q z e ev eu) h =
      absurd (omega (arith, ap length e, shape-length (suc p) (suc q) (1 ∷ z)))
  undo-turn f some (flat p q e ev eu) h =
      by p q e ev (subst (λ (l : List ℕ). plays 0 l ≡ true) e (schedule-plays f))
    where
      by : (p q : ℕ) → d ≡ ups p (downs q []) → v ≡ p → plays 0 (ups p (downs q [])) ≡ true
          → Undoes (1 ∷ 0 ∷ d) (Move.Swaps (v + 1) 1)
      by zero zero e ev o = absurd (omega (arith, ap length e))
      by zero (suc q) e ev o = unfold plays in absurd (false≢true o)
      by (suc p) q e ev o =
          let n = shape-length (suc p) q [] in
          let up : v + 1 ≡ suc (suc p) = omega arith in
          rw up
          (undone (Move.Swaps (suc (suc p)) 1) (ap (λ (l : List ℕ). 1 ∷ 0 ∷ l) e) (omega arith, omega arith)
          (unturned p q) (previous-turns (suc p) q) (turn_two p q refl refl))

  pub undo-dip : Found d v u → (u ≡ length d → ⊥) → Undoes (1 ∷ 0 ∷ d) (Move.Dips (v + 1) (u + 1))
  undo-dip (flat p q e ev eu) h = absurd (h (omega (arith, ap length e, shape-length p q [])))
  undo-dip (rising p q a e ev eu) h =
      let n = shape-length (suc p) (suc q) (1 ∷ a) in
      let up : v + 1 ≡ suc (suc p) = omega arith in
      let found : u + 1 ≡ suc (suc (p + suc q)) = omega arith in
      rw (up, found)
      (undone {c = 1 ∷ 0 ∷ ups (suc p) (downs (suc q) (1 ∷ a))} (Move.Dips (suc (suc p)) (suc (suc (p + suc q))))
      (ap (λ (l : List ℕ). 1 ∷ 0 ∷ l) e)
      (omega arith, omega arith, omega arith)
      (undipped p q a (suc (suc (p + suc q))) (suc (suc (p + suc q)) + 1) refl (omega arith))
      (previous-dips (suc p) q a) (dip-four p q a refl refl))

-- 1, 0 and a schedule that is not empty
pub record Second (b : List ℕ) : Type 0 where
  pub long : 2 ≤ length b
  pub split : 1 ∷ 0 ∷ drop 2 b ≡ b
  pub form : Form (drop 2 b)
  pub some : 1 ≤ length (drop 2 b)

-- each return of the code
module _ {b : List ℕ} {y x : ℕ} (f : Form b) where
  pub undo-plain : Came b y x → y ≡ length b → Undoes b Move.Stays
  undo-plain (plain p e ey ex) h =
      undone Move.Stays e (omega arith) refl (previous-stays p) (changed-self (ups p []))
  undo-plain (low p q z e ends ey ex) h = absurd (omega (arith, ap length e, shape-length (suc (suc p)) (suc q) z))
  undo-plain (second d e o ey ex) h = absurd (omega (arith, ap length e))

  module _ (more : (y ≡ length b) → ⊥) where
    pub undo-level : Came b y x → 1 < y → x - y ≡ y → Undoes b (Move.Swaps (y - 1) (x - 2))
    undo-level (plain p e ey ex) h k = absurd (more (omega (arith, ap length e, shape-length p 0 [])))
    undo-level (second d e o ey ex) h k = absurd (omega arith)
    undo-level (low p q z e ends ey ex) h k =
        let all : q ≡ suc p = omega arith in
        let shape : b ≡ ups (suc (suc p)) (downs (suc p) (0 ∷ z)) =
        e ∙ ap (λ (j : ℕ). ups (suc (suc p)) (downs (suc j) z)) all
        ∙ ap (ups (suc (suc p))) (sym (downs-snoc (suc p) z)) in
        let up : y - 1 ≡ suc p = omega arith in
        let back : x - 2 ≡ suc p + suc p = omega arith in
        rw (up, back)
        (undone (Move.Swaps (suc p) (suc p + suc p)) shape (
          omega (arith, shape-length (suc (suc p)) (suc p) (0 ∷ z)),
          omega (arith, shape-length (suc (suc p)) (suc p) (0 ∷ z)),
        )
        (unswapped (suc p) p (0 ∷ z))
        (ap (λ (l : List ℕ). previous (ups (suc (suc p)) l)) (downs-snoc (suc p) z)
        ∙ previous-low p (suc p) ends
        ∙ rw (shape-short (suc p) (suc (suc p)) (1 ∷ z) (omega arith)))
        (swap-two p p (0 ∷ z) refl refl))

    pub undo-low : Came b y x → 1 < y → (x - y ≡ y → ⊥) → Undoes b (Move.Swaps (y - 1) (x - 1))
    undo-low (plain p e ey ex) h k = absurd (more (omega (arith, ap length e, shape-length p 0 [])))
    undo-low (second d e o ey ex) h k = absurd (omega arith)
    undo-low (low p q z e ends ey ex) h k =
        let o = subst (λ (l : List ℕ). plays 0 l ≡ true) e (schedule-plays f) in
        let hand = plays-shape (suc (suc p)) (suc q) z o in
        let some : hand.0 ≡ suc (pred hand.0) = omega (arith, hand.1) in
        let up : y - 1 ≡ suc p = omega arith in
        let back : x - 1 ≡ suc p + suc q = omega arith in
        rw (up, back)
        (undone (Move.Swaps (suc p) (suc p + suc q)) e
        (omega (arith, shape-length (suc (suc p)) (suc q) z), omega (arith, shape-length (suc (suc p)) (suc q) z))
        (unswapped (suc p) q z)
        (previous-low p q ends ∙ rw (stood-behind p q hand.0 z hand.1 some hand.2))
        (swap-two p q z refl refl))

    module _ (one : y ≤ 1) where
      pub undo-alone : Came b y x → x ≡ length b → Undoes b Move.Stays
      undo-alone (plain p e ey ex) h = absurd (more (omega (arith, ap length e, shape-length p 0 [])))
      undo-alone (low p q z e ends ey ex) h = absurd (omega arith)
      undo-alone (second [] e o ey ex) h =
          undone Move.Stays e (omega arith) refl (previous-turns 0 0) (changed-self (1 ∷ 0 ∷ []))
      undo-alone (second (v ∷ d) e o ey ex) h = absurd (omega (arith, ap length e))

      pub rest-form : ((x ≡ length b) → ⊥) → Came b y x → Second b
      rest-form rises (plain p e ey ex) = absurd (more (omega (arith, ap length e, shape-length p 0 [])))
      rest-form rises (low p q z e ends ey ex) = absurd (omega arith)
      rest-form rises (second d e o ey ex) =
          subst Second (sym e)
          (record {
            long = omega arith;
            split = refl;
            form = plays-schedule o refl refl;
            some = omega (arith, ap length e);
          })
