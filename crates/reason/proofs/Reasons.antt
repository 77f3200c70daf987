-- Each return of `reason_of` is the explanation, by the shape of the schedule: y is the leftmost 0, x the 1 of the
-- leftmost 0 followed by 1.
--     many                                 a schedule of which a step changes something has more than one form
--     one-said, last-said, next-said, found-said     the explanation by the tests that lead to it
--     tell_none, tell-alone, tell-last     with no 01
--     tell-lifts, tell-dips                the beat after the found 1 moves, a 1 or a 0
--     tell-levels, tell-closes             the found 1 moves: the beat after it may not, or there is none
-- Assumes nothing.
use mathlib.Core.Bool.{true, false, false≢true}
use mathlib.Core.List.{List, [], ◌∷◌}
use mathlib.Core.Logic.{◌⊎◌, inl, inr}
use mathlib.Core.Path.{◌≡◌, ◌∙◌, ap, ap₂, sym, subst}
use Prim.Native.Nat.{ℕ, zero, suc, pred, ◌+◌, ◌-◌, ◌≤◌, ◌<◌}
use native.Mathlib.Omega.{arith}
use borrow.Author.Tests.{eq-eqb, ne_eqb}
use lib.ListN.{length, get_or}
use Rattle.triangle.specs.Count.{N}
use Rattle.schedule.specs.Schedule.{ones, zeros}
use Rattle.schedule.proofs.Hand.{plays, schedule-plays, schedule-le}
use Rattle.circle.specs.Step.{found, has01, moves_next, next}
use Rattle.circle.specs.Walk.{steps}
use Rattle.circle.specs.Plan.{Form}
use Rattle.circle.proofs.Shape.{
  ups,
  downs,
  plays-shape,
  shape-plays,
  shape-short,
  shape-ones,
  shape-zeros,
  shape-length,
}
use Rattle.circle.proofs.Moves.{found_some, has01-none, has01-some, moves-last, moves-behind}
use Rattle.circle.proofs.Moves.{next-turns, next-closes, next-behind}
use Rattle.circle.proofs.Circle.{round}
use Rattle.circle.proofs.Theorems.{N-one}
use Rattle.circle.proofs.Stores.{Found, flat, rising, behind}
use Rattle.reason.specs.declared.Places.{Places}
use Rattle.reason.specs.declared.Reason.{Reason}
use Rattle.reason.specs.Explanation.{Explanation, says, differing, explanation_of, values_of}
use Rattle.reason.proofs.Differing.{differing-self, differing-swap, differing-turn, differing-dip}

module _ (b : List ℕ) where
  pub many : Form b → {k : ℕ} {l : List ℕ} → differing b (next b) ≡ k ∷ l → N (ones b) (zeros b) ≡ 1 → ⊥
  unfolding steps
  many f {k} {l} d one =
      let stays : next b ≡ b = ap (λ (n : ℕ). steps n b) (sym one) ∙ round f in
      omega (arith, ap length (sym d ∙ ap (differing b) stays ∙ differing-self b))

  -- the explanation by the tests that lead to it
  pub one-said : N (ones b) (zeros b) ≡ 1 → explanation_of b ≡ says 1 [] [] []
  unfolding explanation_of
  one-said e = simp (eq-eqb (N (ones b) (zeros b)) 1 e)

  module _ (more : N (ones b) (zeros b) ≡ 1 → ⊥) where
    pub last-said : has01 b ≡ false
        → explanation_of b ≡ says 2 [] (pred (length b) ∷ []) (differing b (next b))
    unfolding explanation_of
    last-said h = simp (ne_eqb (N (ones b) (zeros b)) 1 more, h)

    pub next-said : has01 b ≡ true → moves_next b ≡ true
        → explanation_of b ≡ says 3 (pred (found b) ∷ []) (suc (pred (found b)) ∷ []) (differing b (next b))
    unfolding explanation_of
    next-said h m = simp (ne_eqb (N (ones b) (zeros b)) 1 more, h, m)

    pub found-said : has01 b ≡ true → moves_next b ≡ false
        → explanation_of b ≡ says 4 (pred (found b) ∷ []) (pred (found b) ∷ []) (differing b (next b))
    unfolding explanation_of
    found-said h m = simp (ne_eqb (N (ones b) (zeros b)) 1 more, h, m)

-- with no 01
one-form-of : {b : List ℕ} → Form b → (ones b ≤ 1) ⊎ (zeros b ≡ 0) → says 1 [] [] [] ≡ explanation_of b
one-form-of {b} f few = sym (one-said b (N-one (ones b) (zeros b) (schedule-le f) few))

last_of : (p q : ℕ) → Form (ups (suc (suc p)) (downs (suc q) [])) → (at y : ℕ)
    → suc at ≡ length (ups (suc (suc p)) (downs (suc q) [])) → y ≡ suc (suc p)
    → says 2 [] (at ∷ []) (1 ∷ y ∷ []) ≡ explanation_of (ups (suc (suc p)) (downs (suc q) []))
last_of p q f at y e ey =
    let b = ups (suc (suc p)) (downs (suc q) []) in
    let places : differing b (next b) ≡ 1 ∷ y ∷ [] =
    ap (differing b) (next-turns (suc p) q) ∙ differing-turn p q y ey in
    let last : at ≡ pred (length b) = omega arith in
    sym (last-said b (many b f places) (has01-none (suc (suc p)) (suc q))
    ∙ ap₂ (λ (i : ℕ) (c : List ℕ). says 2 [] (i ∷ []) c) (sym last) places)

-- at a 01, by what stands after the found 1
module _ (p q : ℕ) (z : List ℕ) (f : Form (ups (suc p) (downs (suc q) (1 ∷ z)))) (y x : ℕ) (ey : y ≡ suc p)
    (ex : x ≡ suc p + suc q) where
  abbrev b : List ℕ
  b = ups (suc p) (downs (suc q) (1 ∷ z))

  at-found : pred (found b) ≡ x
  at-found = omega (arith, found_some (suc p) q z)

  next_of : {k : ℕ} {l : List ℕ} → moves_next b ≡ true → differing b (next b) ≡ k ∷ l
      → says 3 (x ∷ []) (suc x ∷ []) (k ∷ l) ≡ explanation_of b
  next_of m d =
      sym (next-said b (many b f d) (has01-some (suc p) q z) m
      ∙ ap₂ (λ (i : ℕ) (c : List ℕ). says 3 (i ∷ []) (suc i ∷ []) c) at-found d)

  found_of : {k : ℕ} {l : List ℕ} → moves_next b ≡ false → differing b (next b) ≡ k ∷ l
      → says 4 (x ∷ []) (x ∷ []) (k ∷ l) ≡ explanation_of b
  found_of m d =
      sym (found-said b (many b f d) (has01-some (suc p) q z) m
      ∙ ap₂ (λ (i : ℕ) (c : List ℕ). says 4 (i ∷ []) (i ∷ []) c) at-found d)

closes-of : (p q : ℕ) → Form (ups (suc p) (downs (suc q) (1 ∷ []))) → (y x : ℕ) → y ≡ suc p → x ≡ suc p + suc q
    → says 4 (x ∷ []) (x ∷ []) (y ∷ x ∷ []) ≡ explanation_of (ups (suc p) (downs (suc q) (1 ∷ [])))
closes-of p q f y x ey ex =
    found_of p q [] f y x ey ex (moves-last p q)
    (ap (differing (ups (suc p) (downs (suc q) (1 ∷ [])))) (next-closes p q) ∙ differing-swap (suc p) q y x [] ey ex)

lifts-of : (p q : ℕ) (a : List ℕ) → Form (ups (suc p) (downs (suc q) (1 ∷ 1 ∷ a))) → (y x : ℕ) → y ≡ suc p
    → x ≡ suc p + suc q
    → says 3 (x ∷ []) (suc x ∷ []) (y ∷ x ∷ []) ≡ explanation_of (ups (suc p) (downs (suc q) (1 ∷ 1 ∷ a)))
unfolding plays
lifts-of p q a f y x ey ex =
    let r = plays-shape (suc p) (suc q) (1 ∷ 1 ∷ a) (schedule-plays f) in
    let play : plays 0 (1 ∷ 1 ∷ ups p (downs (suc q) (1 ∷ a))) ≡ true =
    shape-plays (suc (suc p)) (suc q) (suc r.0) (1 ∷ a) (omega (arith, r.1)) ∙ r.2 in
    next_of p q (1 ∷ a) f y x ey ex (moves-behind p q 1 a ∙ play)
    (ap (differing (ups (suc p) (downs (suc q) (1 ∷ 1 ∷ a)))) (next-behind p q 1 a ∙ rw play)
    ∙ differing-swap (suc p) q y x (1 ∷ a) ey ex)

levels-of : (p q : ℕ) (a : List ℕ) → p ≤ q → Form (ups (suc p) (downs (suc q) (1 ∷ 0 ∷ a))) → (y x : ℕ) → y ≡ suc p
    → x ≡ suc p + suc q
    → says 4 (x ∷ []) (x ∷ []) (y ∷ x ∷ []) ≡ explanation_of (ups (suc p) (downs (suc q) (1 ∷ 0 ∷ a)))
unfolding plays
levels-of p q a h f y x ey ex =
    let play : plays 0 (1 ∷ 0 ∷ ups p (downs (suc q) (1 ∷ a))) ≡ false = shape-short p (suc q) (1 ∷ a) (omega arith) in
    found_of p q (0 ∷ a) f y x ey ex (moves-behind p q 0 a ∙ play)
    (ap (differing (ups (suc p) (downs (suc q) (1 ∷ 0 ∷ a)))) (next-behind p q 0 a ∙ rw play)
    ∙ differing-swap (suc p) q y x (0 ∷ a) ey ex)

dips-of : (p q : ℕ) (a : List ℕ) → q < suc p → Form (ups (suc (suc p)) (downs (suc q) (1 ∷ 0 ∷ a))) → (y x : ℕ)
    → y ≡ suc (suc p) → x ≡ suc (suc p) + suc q
    → says 3 (x ∷ []) (suc x ∷ []) (1 ∷ y ∷ x ∷ suc x ∷ [])
    ≡ explanation_of (ups (suc (suc p)) (downs (suc q) (1 ∷ 0 ∷ a)))
unfolding plays
dips-of p q a h f y x ey ex =
    let r = plays-shape (suc (suc p)) (suc q) (1 ∷ 0 ∷ a) (schedule-plays f) in
    let some_left : suc (pred r.0) ≡ r.0 = omega (arith, r.1) in
    let play : plays 0 (1 ∷ 0 ∷ ups (suc p) (downs (suc q) (1 ∷ a))) ≡ true =
    shape-plays (suc p) (suc q) (pred r.0) (1 ∷ a) (omega (arith, r.1))
    ∙ ap (λ (j : ℕ). plays j a) some_left ∙ r.2 in
    next_of (suc p) q (0 ∷ a) f y x ey ex (moves-behind (suc p) q 0 a ∙ play)
    (ap (differing (ups (suc (suc p)) (downs (suc q) (1 ∷ 0 ∷ a)))) (next-behind (suc p) q 0 a ∙ rw play)
    ∙ differing-dip p q y x a ey ex)

-- the explanation of a list by that of its shape
by_shape : {b c : List ℕ} {e : Explanation} → b ≡ c → e ≡ explanation_of c → e ≡ explanation_of b
by_shape e h = h ∙ ap explanation_of (sym e)

-- each return of the code
module _ {b : List ℕ} {y x : ℕ} (f : Form b) where
  pub tell_none : Found b y x → x ≡ length b → y ≡ length b → values_of Reason.OneForm ≡ explanation_of b
  unfolding zeros
  tell_none (flat p q e ey ex) hx hy =
      one-form-of f (inr (omega (arith, ap length e, ap zeros e, shape-zeros p q [], shape-length p q [])))
  tell_none (rising p q z e ey ex) hx hy = absurd (omega (arith, ap length e, shape-length (suc p) (suc q) (1 ∷ z)))

  pub tell-alone : Found b y x → x ≡ length b → y ≡ 1 → values_of Reason.OneForm ≡ explanation_of b
  unfolding ones
  tell-alone (flat p q e ey ex) hx hy = one-form-of f (inl (omega (arith, ap ones e, shape-ones p q [])))
  tell-alone (rising p q z e ey ex) hx hy = absurd (omega (arith, ap length e, shape-length (suc p) (suc q) (1 ∷ z)))

  pub tell-last : Found b y x → x ≡ length b → ((y ≡ length b) → ⊥) → ((y ≡ 1) → ⊥)
      → values_of (Reason.LastMoves (length b - 1) (Places.Two 1 y)) ≡ explanation_of b
  tell-last (flat p q e ey ex) hx some two = by p q e ey
    where
      by : (p q : ℕ) → b ≡ ups p (downs q []) → y ≡ p
          → values_of (Reason.LastMoves (length b - 1) (Places.Two 1 y)) ≡ explanation_of b
      by p zero e ey = absurd (some (omega (arith, ap length e, shape-length p 0 [])))
      by zero (suc q) e ey =
          absurd (omega (
            arith,
            (plays-shape 0 (suc q) []
                (subst (λ (l : List ℕ). plays 0 l ≡ true) e (schedule-plays f))).1,
          ))
      by (suc zero) (suc q) e ey = absurd (two ey)
      by (suc (suc p)) (suc q) e ey =
          by_shape e
          (last_of p q (subst Form e f) (length b - 1) y
          (omega (arith, ap length e, shape-length (suc (suc p)) (suc q) [])) ey)
  tell-last (rising p q z e ey ex) hx some two =
      absurd (omega (arith, ap length e, shape-length (suc p) (suc q) (1 ∷ z)))

  module _ (rises : (x ≡ length b) → ⊥) where
    pub tell-closes : Found b y x → (x + 1 < length b → ⊥)
        → values_of (Reason.FoundMoves x (Places.Two y x)) ≡ explanation_of b
    tell-closes (flat p q e ey ex) h = absurd (rises (omega (arith, ap length e, shape-length p q [])))
    tell-closes (rising p q [] e ey ex) h = by_shape e (closes-of p q (subst Form e f) y x ey ex)
    tell-closes (rising p q (v ∷ z) e ey ex) h =
        absurd (h (omega (arith, ap length e, shape-length (suc p) (suc q) (1 ∷ v ∷ z))))

    module _ (inside : x + 1 < length b) where
      pub tell-lifts : Found b y x → get_or b (x + 1) 0 ≡ 1
          → values_of (Reason.NextMoves x (x + 1) (Places.Two y x)) ≡ explanation_of b
      tell-lifts (flat p q e ey ex) one = absurd (rises (omega (arith, ap length e, shape-length p q [])))
      tell-lifts (rising p q z e ey ex) one = by z e (sym (behind b x p q z e ex) ∙ one)
        where
          by : (z : List ℕ) → b ≡ ups (suc p) (downs (suc q) (1 ∷ z)) → get_or z 0 0 ≡ 1
              → values_of (Reason.NextMoves x (x + 1) (Places.Two y x)) ≡ explanation_of b
          by [] e one = absurd (omega arith)
          by (zero ∷ a) e one = absurd (omega arith)
          by (suc zero ∷ a) e one =
              ap (λ (i : ℕ). says 3 (x ∷ []) (i ∷ []) (y ∷ x ∷ [])) (omega arith)
              ∙ by_shape e (lifts-of p q a (subst Form e f) y x ey ex)
          by (suc (suc v) ∷ a) e one = absurd (omega arith)

      module _ (down : (get_or b (x + 1) 0 ≡ 1) → ⊥) where
        -- the beat after the found 1 is there and is no 1, so it is a 0
        zero-after : (A : Type 0) (p q : ℕ) (z : List ℕ) → b ≡ ups (suc p) (downs (suc q) (1 ∷ z)) → y ≡ suc p
            → x ≡ suc p + suc q
            → ((a : List ℕ) → b ≡ ups (suc p) (downs (suc q) (1 ∷ 0 ∷ a)) → A) → A
        zero-after A p q [] e ey ex k =
            absurd (omega (arith, inside, ap length e, shape-length (suc p) (suc q) (1 ∷ [])))
        zero-after A p q (zero ∷ a) e ey ex k = k a e
        zero-after A p q (suc zero ∷ a) e ey ex k = absurd (down (behind b x p q (1 ∷ a) e ex))
        zero-after A p q (suc (suc v) ∷ a) e ey ex k =
            absurd (false≢true (unfold plays in
            (plays-shape (suc p) (suc q) (1 ∷ suc (suc v) ∷ a)
            (subst (λ (l : List ℕ). plays 0 l ≡ true) e (schedule-plays f))).2))

        pub tell-levels : Found b y x → ((x - y < y) → ⊥)
            → values_of (Reason.FoundMoves x (Places.Two y x)) ≡ explanation_of b
        tell-levels (flat p q e ey ex) h = absurd (rises (omega (arith, ap length e, shape-length p q [])))
        tell-levels (rising p q z e ey ex) h =
            zero-after _ p q z e ey ex
            (λ a g. by_shape g (levels-of p q a (omega arith) (subst Form g f) y x ey ex))

        pub tell-dips : Found b y x → x - y < y
            → values_of (Reason.NextMoves x (x + 1) (Places.Four 1 y x (x + 1))) ≡ explanation_of b
        tell-dips (flat p q e ey ex) h = absurd (rises (omega (arith, ap length e, shape-length p q [])))
        tell-dips (rising p q z e ey ex) h = by p z e ey ex
          where
            by : (p : ℕ) (z : List ℕ) → b ≡ ups (suc p) (downs (suc q) (1 ∷ z)) → y ≡ suc p → x ≡ suc p + suc q
                → values_of (Reason.NextMoves x (x + 1) (Places.Four 1 y x (x + 1))) ≡ explanation_of b
            by zero z e ey ex = absurd (omega arith)
            by (suc p) z e ey ex =
                zero-after _ (suc p) q z e ey ex
                (λ a g.
                ap (λ (i : ℕ). says 3 (x ∷ []) (i ∷ []) (1 ∷ y ∷ x ∷ i ∷ [])) (omega arith)
                ∙ by_shape g (dips-of p q a (omega arith) (subst Form g f) y x ey ex))
