-- The changed beats of one step, by the shape of the schedule.
--     changed-self, changed-same    a list differs from itself nowhere, and lists of one length that
--                                   differ nowhere are equal
--     changed-sym                   it is the same both ways
--     changed-le                    there are no more changed beats than beats
--     Work b c                      how many beats a step from b to c changes, and what says so
--     next-work                     the work of the next form
-- Assumes nothing.
use mathlib.Core.Bool.{Bool, true, false, false≢true, cond}
use mathlib.Core.List.{List, [], ◌∷◌}
use mathlib.Core.Logic.{◌⊎◌, inl, inr}
use mathlib.Core.Path.{◌≡◌, refl, ◌∙◌, ap, sym}
use Prim.Native.Nat.{ℕ, zero, suc, ◌+◌, ◌≤◌}
use native.Mathlib.Omega.{arith}
use native.Mathlib.Decide.{ℕ_discrete}
use borrow.Author.Tests.{eq-eqb, ne_eqb, eqb-true}
use lib.Dec.{eqb}
use lib.ListN.{length}
use Rattle.schedule.specs.Schedule.{ones, zeros}
use Rattle.schedule.proofs.Hand.{plays}
use Rattle.circle.specs.Step.{next}
use Rattle.circle.specs.Walk.{changed}
use Rattle.circle.proofs.Shape.{ups, downs, shape-zeros, ups-snoc, downs-snoc}
use Rattle.circle.proofs.Moves.{Moved, stays, turns, closes, lifts, levels, dips, next-moves}

pub changed-self : (b : List ℕ) → changed b b ≡ 0
unfolding changed
changed-self [] = refl
changed-self (x ∷ b) = simp (eq-eqb x x refl) (omega (arith, changed-self b))

pub changed-same : (b c : List ℕ) → length b ≡ length c → changed b c ≡ 0 → b ≡ c
unfolding changed
changed-same [] [] n e = refl
changed-same [] (y ∷ c) n e = absurd (omega arith)
changed-same (x ∷ b) [] n e = absurd (omega arith)
changed-same (x ∷ b) (y ∷ c) n e = by (eqb x y) refl e (changed-same b c (omega arith))
  where
    by : (t : Bool) → eqb x y ≡ t → cond t 0 1 + changed b c ≡ 0 → (changed b c ≡ 0 → b ≡ c) → x ∷ b ≡ y ∷ c
    by true q d tail = let same = eqb-true x y q in let rest = tail (omega arith) in cc
    by false q d tail = absurd (omega arith)

pub changed-sym : (b c : List ℕ) → changed b c ≡ changed c b
unfolding changed
changed-sym [] [] = refl
changed-sym [] (y ∷ c) = refl
changed-sym (x ∷ b) [] = refl
changed-sym (x ∷ b) (y ∷ c) = omega (arith, beat-sym, changed-sym b c)
  where
    beat-sym : cond {A = ℕ} (eqb x y) 0 1 ≡ cond (eqb y x) 0 1
    beat-sym = elim (ℕ_discrete x y) [
      | yes e ↦ rw e
      | no n ↦ simp (ne_eqb x y n, ne_eqb y x (λ e. n (sym e)))
    ]

changed-le : (b c : List ℕ) → changed b c ≤ length b
unfolding changed
changed-le [] c = omega arith
changed-le (x ∷ b) [] = omega arith
changed-le (x ∷ b) (y ∷ c) = by (eqb x y) (changed-le b c)
  where
    by : (t : Bool) → changed b c ≤ length b → cond t 0 1 + changed b c ≤ suc (length b)
    by true h = omega arith
    by false h = omega arith

-- a common front does not count
changed-ups : (p : ℕ) (c d : List ℕ) → changed (ups p c) (ups p d) ≡ changed c d
unfolding changed
changed-ups zero c d = refl
changed-ups (suc p) c d = omega (arith, changed-ups p c d)

changed-downs : (q : ℕ) (c d : List ℕ) → changed (downs q c) (downs q d) ≡ changed c d
unfolding changed
changed-downs zero c d = refl
changed-downs (suc q) c d = omega (arith, changed-downs q c d)

-- the 1 after q zeros and the zero in front of them change places
past-zeros : (q : ℕ) (z : List ℕ) → changed (downs q (1 ∷ z)) (0 ∷ downs q z) ≡ 1
unfolding changed
past-zeros q z =
    ap (changed (downs q (1 ∷ z))) (sym (downs-snoc q z))
    ∙ changed-downs q (1 ∷ z) (0 ∷ z)
    ∙ omega (arith, changed-self z)

changed-swap : (p q : ℕ) (z : List ℕ) → changed (ups p (downs (suc q) (1 ∷ z))) (ups (suc p) (downs (suc q) z)) ≡ 2
unfolding changed
changed-swap p q z =
    ap (changed (ups p (downs (suc q) (1 ∷ z)))) (sym (ups-snoc p (downs (suc q) z)))
    ∙ changed-ups p (downs (suc q) (1 ∷ z)) (1 ∷ downs (suc q) z)
    ∙ omega (arith, past-zeros q z)

changed-turn : (p q : ℕ) → changed (ups (suc (suc p)) (downs (suc q) [])) (1 ∷ 0 ∷ ups (suc p) (downs q [])) ≡ 2
unfolding changed
changed-turn p q =
    let rest =
    ap (changed (ups p (downs (suc q) []))) (sym (ups-snoc p (downs q [])))
    ∙ changed-ups p (downs (suc q) []) (1 ∷ downs q []) in
    omega (arith, rest, changed-self (downs q []))

changed-dip : (p q : ℕ) (a : List ℕ)
    → changed (ups (suc (suc p)) (downs (suc q) (1 ∷ 0 ∷ a))) (1 ∷ 0 ∷ ups (suc p) (downs (suc q) (1 ∷ a))) ≡ 4
unfolding changed
changed-dip p q a =
    let front =
    ap (changed (ups p (downs (suc q) (1 ∷ 0 ∷ a)))) (sym (ups-snoc p (downs (suc q) (1 ∷ a))))
    ∙ changed-ups p (downs (suc q) (1 ∷ 0 ∷ a)) (1 ∷ downs (suc q) (1 ∷ a)) in
    let behind =
    ap (changed (downs q (1 ∷ 0 ∷ a))) (sym (downs-snoc q (1 ∷ a)))
    ∙ changed-downs q (1 ∷ 0 ∷ a) (0 ∷ 1 ∷ a) in
    omega (arith, front, behind, changed-self a)

-- how many beats a step from b to c changes
pub data Work (b c : List ℕ) : Type 0 where
  -- one form only: it stays
  idle : b ≡ c → (ones b ≤ 1) ⊎ (zeros b ≡ 0) → Work b c
  -- from t ones then s zeros, t at least 2: the last beat comes to the second place
  turn : (p q : ℕ) → b ≡ ups (suc (suc p)) (downs (suc q) []) → c ≡ 1 ∷ 0 ∷ ups (suc p) (downs q []) → Work b c
  -- a 0 and a 1 change places, and the form begins with two ones
  swap : (p q : ℕ) (z : List ℕ) → b ≡ ups (suc p) (downs (suc q) (1 ∷ z)) → c ≡ ups (suc (suc p)) (downs (suc q) z)
      → Work b c
  -- two of each do, and the form sets down at its second beat
  dip : (p q : ℕ) (a : List ℕ) → b ≡ ups (suc (suc p)) (downs (suc q) (1 ∷ 0 ∷ a))
      → c ≡ 1 ∷ 0 ∷ ups (suc p) (downs (suc q) (1 ∷ a)) → Work b c

moved-work : {b c : List ℕ} → Moved b c → plays 0 b ≡ true → Work b c
unfolding plays ones zeros
moved-work (stays p) o = idle refl (inr (shape-zeros p 0 []))
moved-work (turns zero zero) o = idle refl (inl (omega arith))
moved-work (turns zero (suc q)) o = absurd (false≢true o)
moved-work (turns (suc p) q) o = turn p q refl refl
moved-work (closes zero q) o = absurd (false≢true o)
moved-work (closes (suc p) q) o = swap p q [] refl refl
moved-work (lifts zero q a) o = absurd (false≢true o)
moved-work (lifts (suc p) q a) o = swap p q (1 ∷ a) refl refl
moved-work (levels zero q a e) o = absurd (omega arith)
moved-work (levels (suc p) q a e) o = swap p q (0 ∷ a) refl refl
moved-work (dips zero q a h) o = absurd (omega arith)
moved-work (dips (suc p) q a h) o = dip p q a refl refl

pub next-work : (b : List ℕ) → plays 0 b ≡ true → Work b (next b)
next-work b o = moved-work (next-moves b o) o

pub turn_two : {b c : List ℕ} (p q : ℕ) → b ≡ ups (suc (suc p)) (downs (suc q) [])
    → c ≡ 1 ∷ 0 ∷ ups (suc p) (downs q []) → changed b c ≡ 2
turn_two p q e f = rw (e, f) (changed-turn p q)

pub swap-two : {b c : List ℕ} (p q : ℕ) (z : List ℕ) → b ≡ ups (suc p) (downs (suc q) (1 ∷ z))
    → c ≡ ups (suc (suc p)) (downs (suc q) z) → changed b c ≡ 2
swap-two p q z e f = rw (e, f) (changed-swap (suc p) q z)

pub dip-four : {b c : List ℕ} (p q : ℕ) (a : List ℕ) → b ≡ ups (suc (suc p)) (downs (suc q) (1 ∷ 0 ∷ a))
    → c ≡ 1 ∷ 0 ∷ ups (suc p) (downs (suc q) (1 ∷ a)) → changed b c ≡ 4
dip-four p q a e f = rw (e, f) (changed-dip p q a)
