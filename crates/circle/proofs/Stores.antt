-- The step by stores: y is the leftmost 0, x the 1 of the leftmost 0 followed by 1.
--     find, found-order         what the two scans of the step find, by the shape
--     found_one                 no second two places of a schedule are found [P11]
--     led_one                   two moves that lead the same way store the same, and change as many beats [P11]
--     set-ups, set-downs        a store behind ones, or behind zeros
--     behind                    the beat after the found 1, by the shape
--     plan-stays, plan-alone, plan-turns, plan-swaps, plan-dips     each plan of the code is the rule's next form
-- Assumes nothing.
use mathlib.Core.Bool.{Bool, true, false, false≢true, cond}
use mathlib.Core.List.{List, [], ◌∷◌}
use mathlib.Core.Logic.{◌≢◌}
use mathlib.Core.Path.{◌≡◌, refl, ◌∙◌, ap, ap₂, sym, subst}
use Prim.Native.Nat.{ℕ, zero, suc, pred, ◌+◌, ◌-◌, ◌≤◌, ◌<◌}
use native.Mathlib.Omega.{arith}
use lib.ListN.{length, get_or, set}
use Rattle.schedule.specs.Skip.{skipped}
use Rattle.schedule.proofs.Hand.{plays, schedule-plays}
use Rattle.schedule.proofs.Skipping.{Skips, skipped-skips, skips-unique}
use Rattle.circle.specs.declared.Move.{Move}
use Rattle.circle.specs.Step.{next}
use Rattle.circle.specs.Walk.{changed}
use Rattle.circle.specs.Plan.{Form, Inside, Leads, Plans, applied, changes}
pub use Rattle.circle.specs.Found.{Found, flat, rising}
use Rattle.circle.proofs.Shape.{
  ups,
  downs,
  View,
  none,
  some,
  view,
  plays-shape,
  shape-plays,
  shape-short,
  shape-length,
  ups-snoc,
  downs-snoc,
  get-ups,
  get-downs,
  get-up,
  get-down,
}
use Rattle.circle.proofs.Moves.{next-stays, next-turns, next-closes, next-behind}
use Rattle.circle.proofs.Work.{changed-self, turn_two, swap-two, dip-four}

-- what the scans find in each shape
skips-ups : (p : ℕ) (c : List ℕ) → (0 < length c → get_or c 0 0 ≢ 1) → Skips (ups p c) 0 1 p
skips-ups p c n =
    record {
      low = omega arith;
      high = omega (arith, shape-length p 0 c);
      run = λ k l m. get-up p k c m;
      stop = λ h e. n (omega (arith, shape-length p 0 c)) (sym (get-ups p 0 p c (omega arith)) ∙ e);
    }

skips-downs : (p q : ℕ) (c : List ℕ) → (0 < length c → get_or c 0 0 ≢ 0) → Skips (ups p (downs q c)) p 0 (p + q)
skips-downs p q c n =
    record {
      low = omega arith;
      high = omega (arith, shape-length p q c);
      run = λ k l m. get-ups p (k - p) k (downs q c) (omega arith) ∙ get-down q (k - p) c (omega arith);
      stop = λ h e.
          n (omega (arith, shape-length p q c))
          (sym (get-ups p q (p + q) (downs q c) refl ∙ get-downs q 0 q c (omega arith)) ∙ e);
    }

find-view : {b : List ℕ} (y x : ℕ) → View b → plays 0 b ≡ true → Skips b 0 1 y → Skips b y 0 x → Found b y x
unfolding plays
find-view y x (none p q) o sy sx =
    let ey = skips-unique sy (skips-ups p (downs q []) (head q)) in
    flat p q refl ey
    (skips-unique (subst (λ (k : ℕ). Skips (ups p (downs q [])) k 0 x) ey sx)
    (skips-downs p q [] (λ h. absurd (omega arith))))
  where
    head : (q : ℕ) → 0 < length (downs q []) → get_or (downs q []) 0 0 ≢ 1
    head zero h e = omega arith
    head (suc q) h e = omega arith
find-view y x (some zero q z) o sy sx = absurd (false≢true o)
find-view y x (some (suc p) q z) o sy sx =
    let ey = skips-unique sy (skips-ups (suc p) (downs (suc q) (1 ∷ z)) (λ h e. omega arith)) in
    rising p q z refl ey
    (skips-unique (subst (λ (k : ℕ). Skips (ups (suc p) (downs (suc q) (1 ∷ z))) k 0 x) ey sx)
    (skips-downs (suc p) (suc q) (1 ∷ z) (λ h e. omega arith)))

pub find : {b : List ℕ} {y x : ℕ} → Form b → y ≡ skipped b 0 1 → x ≡ skipped b y 0 → Found b y x
find {b} {y} {x} f ey ex =
    let inside : 0 ≤ length b = omega arith in
    let sy = skipped-skips inside ey in
    find-view y x (view 0 b (schedule-plays f)) (schedule-plays f) sy (skipped-skips sy.high ex)

pub found-order : {b : List ℕ} {y x : ℕ} → Found b y x → (y ≤ x) × (x ≤ length b)
found-order (flat p q e ey ex) = (omega arith, omega (arith, ap length e, shape-length p q []))
found-order (rising p q z e ey ex) = (omega arith, omega (arith, ap length e, shape-length (suc p) (suc q) (1 ∷ z)))

-- what is found is what the scans find, which is one place each
found-first : {b : List ℕ} {y x : ℕ} → Found b y x → Skips b 0 1 y
found-first (flat p q e ey ex) = rw (e, ey) (skips-ups p (downs q []) (head q))
  where
    head : (q : ℕ) → 0 < length (downs q []) → get_or (downs q []) 0 0 ≢ 1
    head zero h e = omega arith
    head (suc q) h e = omega arith
found-first (rising p q z e ey ex) = rw (e, ey) (skips-ups (suc p) (downs (suc q) (1 ∷ z)) (λ h e. omega arith))

found-second : {b : List ℕ} {y x : ℕ} → Found b y x → Skips b y 0 x
found-second (flat p q e ey ex) = rw (e, ey, ex) (skips-downs p q [] (λ h. absurd (omega arith)))
found-second (rising p q z e ey ex) = rw (e, ey, ex) (skips-downs (suc p) (suc q) (1 ∷ z) (λ h e. omega arith))

pub found_one : {b : List ℕ} {y x v u : ℕ} → Found b y x → Found b v u → (y ≡ v) × (x ≡ u)
found_one {b} {y} {x} {v} {u} f g =
    let same = skips-unique (found-first f) (found-first g) in
    (same, skips-unique (subst (λ (k : ℕ). Skips b k 0 x) same (found-second f)) (found-second g))

pub led_one : {step : List ℕ → List ℕ} {stores : Move → List ℕ → List ℕ} {b : List ℕ} {m n : Move}
    → Leads step stores b m → Leads step stores b n → (stores m b ≡ stores n b) × (changes m ≡ changes n)
led_one l r = (l.makes ∙ sym r.makes, l.counts ∙ sym r.counts)

-- stores, by the shape
pub set-ups : (p i k : ℕ) (c : List ℕ) (v : ℕ) → k ≡ p + i → set (ups p c) k v ≡ ups p (set c i v)
set-ups zero i k c v e = ap (λ (j : ℕ). set c j v) (omega arith)
set-ups (suc p) i zero c v e = absurd (omega arith)
set-ups (suc p) i (suc k) c v e = ap (λ (l : List ℕ). 1 ∷ l) (set-ups p i k c v (omega arith))

pub set-downs : (q i k : ℕ) (c : List ℕ) (v : ℕ) → k ≡ q + i → set (downs q c) k v ≡ downs q (set c i v)
set-downs zero i k c v e = ap (λ (j : ℕ). set c j v) (omega arith)
set-downs (suc q) i zero c v e = absurd (omega arith)
set-downs (suc q) i (suc k) c v e = ap (λ (l : List ℕ). 0 ∷ l) (set-downs q i k c v (omega arith))

swapped : (p q : ℕ) (z : List ℕ)
    → set (set (ups p (downs (suc q) (1 ∷ z))) p 1) (p + suc q) 0 ≡ ups (suc p) (downs (suc q) z)
swapped p q z =
    ap (λ (l : List ℕ). set l (p + suc q) 0) (set-ups p 0 p (downs (suc q) (1 ∷ z)) 1 (omega arith))
    ∙ set-ups p (suc q) (p + suc q) (1 ∷ downs q (1 ∷ z)) 0 refl
    ∙ ap (λ (l : List ℕ). ups p (1 ∷ l)) (set-downs q 0 q (1 ∷ z) 0 (omega arith) ∙ downs-snoc q z)
    ∙ ups-snoc p (downs (suc q) z)

turned : (p q : ℕ) → set (set (ups (suc p) (downs (suc q) [])) (suc p) 1) 1 0 ≡ 1 ∷ 0 ∷ ups p (downs q [])
turned p q =
    ap (λ (l : List ℕ). set (1 ∷ l) 1 0) (set-ups p 0 p (downs (suc q) []) 1 (omega arith) ∙ ups-snoc p (downs q []))

dipped : (p q : ℕ) (a : List ℕ) (k : ℕ) → k ≡ suc (suc (p + suc q))
    → set (1 ∷ 0 ∷ ups p (downs (suc q) (0 ∷ a))) k 1 ≡ 1 ∷ 0 ∷ ups p (downs (suc q) (1 ∷ a))
dipped p q a k e =
    ap (λ (j : ℕ). set (1 ∷ 0 ∷ ups p (downs (suc q) (0 ∷ a))) j 1) e
    ∙ ap (λ (l : List ℕ). 1 ∷ 0 ∷ l)
    (set-ups p (suc q) (p + suc q) (downs (suc q) (0 ∷ a)) 1 refl
    ∙ ap (ups p) (set-downs (suc q) 0 (suc q) (0 ∷ a) 1 (omega arith)))

-- where the rule swaps, and where it dips
next-swaps : (p q : ℕ) (z : List ℕ) → plays 0 (ups (suc p) (downs (suc q) (1 ∷ z))) ≡ true
    → (0 < length z → get_or z 0 0 ≡ 0 → p ≤ q)
    → next (ups (suc p) (downs (suc q) (1 ∷ z))) ≡ ups (suc (suc p)) (downs (suc q) z)
unfolding plays
next-swaps p q [] o k = next-closes p q
next-swaps p q (zero ∷ a) o k =
    next-behind p q 0 a ∙ rw (shape-short p (suc q) (1 ∷ a) (omega (arith, k (omega arith) refl)))
next-swaps p q (suc zero ∷ a) o k = next-behind p q 1 a ∙ either (plays 0 (ups (suc (suc p)) (downs (suc q) (1 ∷ a))))
  where
    either : (t : Bool)
        → cond t (ups (suc (suc p)) (downs (suc q) (1 ∷ a))) (ups (suc (suc p)) (downs (suc q) (1 ∷ a)))
        ≡ ups (suc (suc p)) (downs (suc q) (1 ∷ a))
    either true = refl
    either false = refl
next-swaps p q (suc (suc x) ∷ a) o k = absurd (false≢true (plays-shape (suc p) (suc q) (1 ∷ suc (suc x) ∷ a) o).2)

next-dips : (p q : ℕ) (a : List ℕ) → plays 0 (ups (suc p) (downs (suc q) (1 ∷ 0 ∷ a))) ≡ true → q < p
    → next (ups (suc p) (downs (suc q) (1 ∷ 0 ∷ a))) ≡ 1 ∷ 0 ∷ ups p (downs (suc q) (1 ∷ a))
unfolding plays
next-dips p q a o h =
    let r = plays-shape (suc p) (suc q) (1 ∷ 0 ∷ a) o in
    let some_left : suc (pred r.0) ≡ r.0 = omega (arith, r.1) in
    next-behind p q 0 a
    ∙ rw (shape-plays p (suc q) (pred r.0) (1 ∷ a) (omega (arith, r.1)), ap (λ (j : ℕ). plays j a) some_left ∙ r.2)

-- a plan for a list by its shape c, and the form d that the rule makes of it
planned : {b c d : List ℕ} (m : Move) → b ≡ c → Inside m (length c) → applied m c ≡ d → next c ≡ d
    → changes m ≡ changed c d → Plans b m
planned {b} {c} {d} m e inside makes is counts =
    subst (λ (l : List ℕ). Plans l m) (sym e)
    (record { inside = inside; makes = makes ∙ sym is; counts = counts ∙ ap (changed c) (sym is) })

-- the beat after the found 1
pub behind : (b : List ℕ) (x p q : ℕ) (z : List ℕ) → b ≡ ups (suc p) (downs (suc q) (1 ∷ z)) → x ≡ suc p + suc q
    → get_or b (x + 1) 0 ≡ get_or z 0 0
behind b x p q z e ex =
    ap (λ (l : List ℕ). get_or l (x + 1) 0) e
    ∙ get-ups (suc p) (suc (suc q)) (x + 1) (downs (suc q) (1 ∷ z)) (omega arith)
    ∙ get-downs (suc q) 1 (suc (suc q)) (1 ∷ z) (omega arith)

-- each return of the code
module _ {b : List ℕ} {y x : ℕ} (f : Form b) where
  pub plan-stays : Found b y x → x ≡ length b → y ≡ length b → Plans b Move.Stays
  plan-stays (flat p q e ey ex) hx hy =
      let none-down : q ≡ 0 = omega (arith, ap length e, shape-length p q []) in
      planned Move.Stays (e ∙ ap (λ (k : ℕ). ups p (downs k [])) none-down) (omega arith) refl (next-stays p)
      (sym (changed-self (ups p [])))
  plan-stays (rising p q z e ey ex) hx hy = absurd (omega (arith, ap length e, shape-length (suc p) (suc q) (1 ∷ z)))

  module _ (more : (y ≡ length b) → ⊥) where
    pub plan-alone : Found b y x → x ≡ length b → y ≡ 1 → Plans b Move.Stays
    plan-alone (flat p q e ey ex) hx hy =
        let one_up : p ≡ 1 = omega arith in
        let one_down : q ≡ 1 = omega (
          arith,
          ap length e,
          shape-length p q [],
          (plays-shape p q [] (subst (λ (l : List ℕ). plays 0 l ≡ true) e (schedule-plays f))).1,
        ) in
        planned Move.Stays (e ∙ ap₂ (λ (u d : ℕ). ups u (downs d [])) one_up one_down) (omega arith) refl
        (next-turns 0 0) (sym (changed-self (1 ∷ 0 ∷ [])))
    plan-alone (rising p q z e ey ex) hx hy = absurd (omega (arith, ap length e, shape-length (suc p) (suc q) (1 ∷ z)))

    pub plan-turns : Found b y x → x ≡ length b → ((y ≡ 1) → ⊥) → Plans b (Move.Swaps y 1)
    plan-turns (flat p q e ey ex) hx two =
        by p q e ey
        (omega (arith, (plays-shape p q [] (subst (λ (l : List ℕ). plays 0 l ≡ true) e (schedule-plays f))).1))
      where
        by : (p q : ℕ) → b ≡ ups p (downs q []) → y ≡ p → q ≤ p → Plans b (Move.Swaps y 1)
        by p zero e ey h = absurd (more (omega (arith, ap length e, shape-length p 0 [])))
        by zero (suc q) e ey h = absurd (omega arith)
        by (suc zero) (suc q) e ey h = absurd (two ey)
        by (suc (suc p)) (suc q) e ey h =
            rw ey
            (planned (Move.Swaps (suc (suc p)) 1) e
            (omega (arith, shape-length (suc (suc p)) (suc q) []), omega (arith, shape-length (suc (suc p)) (suc q) []))
            (turned (suc p) q) (next-turns (suc p) q) (sym (turn_two p q refl refl)))
    plan-turns (rising p q z e ey ex) hx two = absurd (omega (arith, ap length e, shape-length (suc p) (suc q) (1 ∷ z)))

  module _ (rises : (x ≡ length b) → ⊥) where
    pub plan-swaps : Found b y x → (x + 1 < length b → get_or b (x + 1) 0 ≡ 0 → y ≤ x - y) → Plans b (Move.Swaps y x)
    plan-swaps (flat p q e ey ex) h = absurd (rises (omega (arith, ap length e, shape-length p q [])))
    plan-swaps (rising p q z e ey ex) h =
        let n = shape-length (suc p) (suc q) (1 ∷ z) in
        let o = subst (λ (l : List ℕ). plays 0 l ≡ true) e (schedule-plays f) in
        rw (ey, ex)
        (planned (Move.Swaps (suc p) (suc p + suc q)) e (omega arith, omega arith) (swapped (suc p) q z)
        (next-swaps p q z o
        (λ some down. omega (arith, ey, ex, h (omega (arith, ap length e)) (behind b x p q z e ex ∙ down))))
        (sym (swap-two p q z refl refl)))

    pub plan-dips : Found b y x → x + 1 < length b → get_or b (x + 1) 0 ≡ 0 → x - y < y → Plans b (Move.Dips y x)
    plan-dips (flat p q e ey ex) m k h = absurd (rises (omega (arith, ap length e, shape-length p q [])))
    plan-dips (rising p q z e ey ex) m k h = by p z e ey ex (sym (behind b x p q z e ex) ∙ k)
      where
        by : (p : ℕ) (z : List ℕ) → b ≡ ups (suc p) (downs (suc q) (1 ∷ z)) → y ≡ suc p → x ≡ suc p + suc q
            → get_or z 0 0 ≡ 0 → Plans b (Move.Dips y x)
        by p [] e ey ex down = absurd (omega (arith, ap length e, shape-length (suc p) (suc q) (1 ∷ [])))
        by p (suc v ∷ a) e ey ex down = absurd (omega arith)
        by zero (zero ∷ a) e ey ex down = absurd (omega arith)
        by (suc p) (zero ∷ a) e ey ex down =
            let n = shape-length (suc (suc p)) (suc q) (1 ∷ 0 ∷ a) in
            let o = subst (λ (l : List ℕ). plays 0 l ≡ true) e (schedule-plays f) in
            rw (ey, ex)
            (planned (Move.Dips (suc (suc p)) (suc (suc p) + suc q)) e (omega arith, omega arith, omega arith)
            (ap (λ (l : List ℕ). set (set l 1 0) (suc (suc p) + suc q + 1) 1) (swapped (suc (suc p)) q (0 ∷ a))
            ∙ dipped (suc p) q a (suc (suc p) + suc q + 1) (omega arith))
            (next-dips (suc p) q a o (omega arith)) (sym (dip-four p q a refl refl)))
