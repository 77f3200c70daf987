-- The rule undone, by the shape of the schedule.
--     unshift-shape     the symbol at position 2 goes back behind ones, zeros and what follows them
--     Ends              a list before which zeros end: nothing, or a 1 and the rest
--     previous-stays, previous-turns, previous-dips, previous-low     the previous form of each shape
--     previous-moved    it is the form that the rule made the schedule of
-- Assumes nothing.
use mathlib.Core.Bool.{Bool, true, false≢true, cond}
use mathlib.Core.List.{List, [], ◌∷◌, ◌++◌}
use mathlib.Core.Path.{◌≡◌, ◌∙◌, ap, sym}
use Prim.Native.Nat.{ℕ, zero, suc, pred, ◌+◌}
use native.Mathlib.Omega.{arith}
use borrow.Author.Tests.{lt-ltb}
use lib.ListN.{length}
use lib.Seq.{take-append_seam, drop-append_seam}
use Rattle.schedule.specs.Schedule.{ones, zeros}
use Rattle.schedule.proofs.Hand.{plays}
use Rattle.circle.specs.Step.{found}
use Rattle.circle.specs.Back.{unshift, after_found, before_found, fits, previous}
use Rattle.circle.proofs.Shape.{
  ups,
  downs,
  plays-shape,
  shape-short,
  shape-ones,
  shape-zeros,
  shape-length,
  shape-append,
  downs-snoc,
}
use Rattle.circle.proofs.Moves.{
  Moved,
  stays,
  turns,
  closes,
  lifts,
  levels,
  dips,
  has01-none,
  has01-some,
  found_some,
  is_schedule-plays,
}

-- a shift undone: w stands between position 2 and the position to which its symbol goes
unshift-at : (w : List ℕ) (x : ℕ) (d : List ℕ) → unshift (suc (suc (length w))) (1 ∷ x ∷ (w ++ d)) ≡ 1 ∷ (w ++ x ∷ d)
unfolding unshift
unshift-at w x d = simp (take-append_seam, drop-append_seam)

unshift-shape : (p q : ℕ) (w d : List ℕ) (x k : ℕ) → k ≡ suc (suc (p + q + length w))
    → unshift k (1 ∷ x ∷ ups p (downs q (w ++ d))) ≡ ups (suc p) (downs q (w ++ x ∷ d))
unshift-shape p q w d x k e =
    let front = ups p (downs q w) in
    let long : k ≡ suc (suc (length front)) = omega (arith, shape-length p q w) in
    ap (λ (l : List ℕ). unshift k (1 ∷ x ∷ l)) (sym (shape-append p q w d))
    ∙ ap (λ (n : ℕ). unshift n (1 ∷ x ∷ (front ++ d))) long
    ∙ unshift-at front x d
    ∙ ap (λ (l : List ℕ). 1 ∷ l) (shape-append p q w (x ∷ d))

-- no zeros
pub previous-stays : (p : ℕ) → previous (ups p []) ≡ ups p []
unfolding previous zeros
previous-stays p = simp (shape-zeros p 0 [])

-- a 0 at position 2
module _ (p q : ℕ) where
  pub previous-turns : previous (1 ∷ 0 ∷ ups p (downs q [])) ≡ ups (suc p) (downs (suc q) [])
  unfolding previous after_found zeros
  previous-turns =
      simp (has01-none (suc p) q, lt-ltb 0 (suc (zeros (ups p (downs q [])))) (omega arith))
      (unshift-shape p q [] [] 0 (suc (suc (length (ups p (downs q []))))) (omega (arith, shape-length p q []))
      ∙ ap (ups (suc p)) (downs-snoc q []))

  pub previous-dips : (a : List ℕ)
      → previous (1 ∷ 0 ∷ ups p (downs (suc q) (1 ∷ a))) ≡ ups (suc p) (downs (suc q) (1 ∷ 0 ∷ a))
  unfolding previous after_found zeros
  previous-dips a =
      simp (has01-some (suc p) q a, lt-ltb 0 (suc (zeros (ups p (downs (suc q) (1 ∷ a))))) (omega arith))
      (unshift-shape p (suc q) (1 ∷ []) a 0 (suc (found (ups (suc p) (downs (suc q) (1 ∷ a)))))
      (omega (arith, found_some (suc p) q a)))

-- a 1 at position 2
pub data Ends : List ℕ → Type 0 where
  end : Ends []
  rise : (a : List ℕ) → Ends (1 ∷ a)

both : {t u : Bool} {a b c d : List ℕ} → t ≡ u → a ≡ c → b ≡ d → cond t a b ≡ cond u c d
both e f g = rw (e, f, g)

module _ (p q : ℕ) where
  before-low : {z : List ℕ} → Ends z → before_found (1 ∷ 1 ∷ ups p (downs (suc q) z)) ≡ suc (suc (p + suc q))
  unfolding before_found
  before-low end = simp (has01-none (suc p) (suc q)) (omega (arith, shape-length p (suc q) []))
  before-low (rise a) = simp (has01-some (suc p) q a) (omega (arith, found_some (suc p) q a))

  module _ {z : List ℕ} (e : Ends z) where
    -- the symbol goes back behind the zeros, or before the last of them
    past-zeros : unshift (suc (suc (p + suc q))) (1 ∷ 1 ∷ ups p (downs (suc q) z)) ≡ ups (suc p) (downs (suc q) (1 ∷ z))
    past-zeros = unshift-shape p (suc q) [] z 1 (suc (suc (p + suc q))) (omega arith)

    past-others : unshift (suc (p + suc q)) (1 ∷ 1 ∷ ups p (downs (suc q) z)) ≡ ups (suc p) (downs q (1 ∷ 0 ∷ z))
    past-others =
        ap (λ (l : List ℕ). unshift (suc (p + suc q)) (1 ∷ 1 ∷ ups p l)) (sym (downs-snoc q z))
        ∙ unshift-shape p q [] (0 ∷ z) 1 (suc (p + suc q)) (omega arith)

    fits_low : fits (1 ∷ 1 ∷ ups p (downs (suc q) z)) ≡ plays 0 (ups (suc p) (downs (suc q) (1 ∷ z)))
    unfolding fits ones zeros
    fits_low =
        let b : List ℕ = ups (suc (suc p)) (downs (suc q) z) in
        let c : List ℕ = ups (suc p) (downs (suc q) (1 ∷ z)) in
        rw (before-low e, past-zeros)
        (is_schedule-plays (ones b) (zeros b) c
        (omega (arith, shape-ones (suc p) (suc q) (1 ∷ z), shape-ones (suc (suc p)) (suc q) z))
        (omega (arith, shape-zeros (suc p) (suc q) (1 ∷ z), shape-zeros (suc (suc p)) (suc q) z)))

    pub previous-low : previous (ups (suc (suc p)) (downs (suc q) z))
        ≡ cond (plays 0 (ups (suc p) (downs (suc q) (1 ∷ z)))) (ups (suc p) (downs (suc q) (1 ∷ z)))
        (ups (suc p) (downs q (1 ∷ 0 ∷ z)))
    unfolding previous
    previous-low =
        let b : List ℕ = ups (suc (suc p)) (downs (suc q) z) in
        simp (lt-ltb 0 (zeros b) (omega (arith, shape-zeros (suc (suc p)) (suc q) z)))
        (both fits_low
        (ap (λ (k : ℕ). unshift k b) (before-low e) ∙ past-zeros)
        (ap (λ (k : ℕ). unshift (pred k) b) (before-low e) ∙ past-others))

-- after a 0 that leaves nothing in hand a schedule ends, or goes on with a 1
empty-ends : (a : List ℕ) → plays 0 a ≡ true → Ends a
unfolding plays
empty-ends [] o = end
empty-ends (zero ∷ a) o = absurd (false≢true o)
empty-ends (suc zero ∷ a) o = rise a
empty-ends (suc (suc x) ∷ a) o = absurd (false≢true o)

-- as many ones as zeros: the 1 had stood before a 0 that could not move
previous-levels : (p q : ℕ) (a : List ℕ) → p ≡ q → plays 0 (ups (suc p) (downs (suc q) (1 ∷ 0 ∷ a))) ≡ true
    → previous (ups (suc (suc p)) (downs (suc q) (0 ∷ a))) ≡ ups (suc p) (downs (suc q) (1 ∷ 0 ∷ a))
unfolding plays
previous-levels p q a e o =
    let hand = plays-shape (suc p) (suc q) (1 ∷ 0 ∷ a) o in
    let empty : hand.0 ≡ 0 = omega (arith, hand.1) in
    let ends = empty-ends a (ap (λ (k : ℕ). plays k a) (sym empty) ∙ hand.2) in
    ap (λ (l : List ℕ). previous (ups (suc (suc p)) l)) (downs-snoc (suc q) a)
    ∙ previous-low p (suc q) ends
    ∙ rw (shape-short (suc p) (suc (suc q)) (1 ∷ a) (omega arith))

pub previous-moved : {c b : List ℕ} → Moved c b → plays 0 c ≡ true → previous b ≡ c
unfolding plays
previous-moved (stays p) o = previous-stays p
previous-moved (turns p q) o = previous-turns p q
previous-moved (closes zero q) o = absurd (false≢true o)
previous-moved (closes (suc p) q) o = previous-low p q end ∙ rw o
previous-moved (lifts zero q a) o = absurd (false≢true o)
previous-moved (lifts (suc p) q a) o = previous-low p q (rise a) ∙ rw o
previous-moved (levels zero q a e) o = absurd (omega arith)
previous-moved (levels (suc p) q a e) o = previous-levels p q a (omega arith) o
previous-moved (dips p q a h) o = previous-dips p q a
