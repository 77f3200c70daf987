-- What the rule does to a schedule, by its shape.
--     Moved b c       c is what the rule makes of b, one constructor for each shape
--     found_some      where the found 1 is, by the shape
--     has01-none, has01-some     ones and zeros alone have no 01, and with a 1 after them they have
--     is_schedule-plays     a list of these counts is a schedule exactly if it plays
--     moves-last, moves-behind     whether the beat after the found 1 moves: not where there is none, and else exactly
--                     if what it leads to plays
--     next-moves      the next form of a schedule is what the rule makes of it
-- Assumes nothing.
use mathlib.Core.Bool.{Bool, true, false, false≢true, cond, and-eq-true_iff}
use mathlib.Core.List.{List, [], ◌∷◌, ◌++◌, append_assoc, append-nil}
use mathlib.Core.Path.{◌≡◌, refl, ◌∙◌, ap, sym}
use Prim.Native.Nat.{ℕ, zero, suc, ◌+◌, ◌-◌, ◌≤◌, ◌<◌}
use native.Mathlib.Omega.{arith}
use native.Mathlib.Decide.{dec_lt}
use borrow.Author.Tests.{lt-ltb, le-leb, lt-leb, eq-eqb, eqb-true}
use lib.Dec.{eqb}
use lib.ListN.{length, get_or, drop, length-append}
use lib.Seq.{get_or-append_seam, take-append_seam}
use Rattle.bounded.specs.Bounded.{first}
use Rattle.bounded.proofs.First.{first-is, first-none}
use Rattle.schedule.specs.Schedule.{ones, zeros, is_schedule}
use Rattle.schedule.proofs.Hand.{plays, plays-schedule, schedule-plays}
use Rattle.schedule.proofs.Tally.{ones-append, zeros-append}
use Rattle.schedule.proofs.Theorems.{is_schedule-true, true-is_schedule}
use Rattle.circle.specs.Step.{shift, is01, found, has01, moves_next, next}
use Rattle.circle.proofs.Shape.{
  ups,
  downs,
  View,
  none,
  some,
  view,
  plays-shape,
  shape-plays,
  shape-short,
  shape-zeros,
  shape-length,
  shape-join,
  downs-snoc,
  get-ups,
  get-downs,
  get-up,
  get-down,
}

pub data Moved : List ℕ → List ℕ → Type 0 where
  -- no 01: nothing to move, or the last beat moves to the second place
  stays : (p : ℕ) → Moved (ups p []) (ups p [])
  turns : (p q : ℕ) → Moved (ups (suc p) (downs (suc q) [])) (1 ∷ 0 ∷ ups p (downs q []))
  -- the found 1 changes places with the leftmost 0: at the end, before a 1, or before a 0 that may not move
  closes : (p q : ℕ) → Moved (ups p (downs (suc q) (1 ∷ []))) (ups (suc p) (downs (suc q) []))
  lifts : (p q : ℕ) (a : List ℕ) → Moved (ups p (downs (suc q) (1 ∷ 1 ∷ a))) (ups (suc p) (downs (suc q) (1 ∷ a)))
  levels : (p q : ℕ) (a : List ℕ) → p ≡ suc q
      → Moved (ups p (downs (suc q) (1 ∷ 0 ∷ a))) (ups (suc p) (downs (suc q) (0 ∷ a)))
  -- the 0 after it moves to the second place
  dips : (p q : ℕ) (a : List ℕ) → suc q ≤ p
      → Moved (ups (suc p) (downs (suc q) (1 ∷ 0 ∷ a))) (1 ∷ 0 ∷ ups p (downs (suc q) (1 ∷ a)))

-- the shifts
drop_past : (w : List ℕ) (x : ℕ) (b : List ℕ) → drop (suc (length w)) (w ++ x ∷ b) ≡ b
drop_past [] x b = refl
drop_past (y ∷ w) x b = drop_past w x b

shift-at : (w : List ℕ) (x : ℕ) (b : List ℕ) → shift (suc (suc (length w))) (1 ∷ (w ++ x ∷ b)) ≡ 1 ∷ x ∷ (w ++ b)
unfolding shift
shift-at w x b = simp (get_or-append_seam, take-append_seam, drop_past)

shift_behind : (w : List ℕ) (x : ℕ) (b : List ℕ)
    → shift (suc (suc (suc (length w)))) (1 ∷ (w ++ 1 ∷ x ∷ b)) ≡ 1 ∷ x ∷ (w ++ 1 ∷ b)
shift_behind w x b =
    ap (λ (l : List ℕ). shift (suc (suc (suc (length w)))) (1 ∷ l)) (sym (append_assoc w (1 ∷ []) (x ∷ b)))
    ∙ ap (λ (n : ℕ). shift (suc (suc n)) (1 ∷ ((w ++ (1 ∷ [])) ++ x ∷ b))) (omega (arith, length-append w (1 ∷ [])))
    ∙ shift-at (w ++ (1 ∷ [])) x b
    ∙ ap (λ (l : List ℕ). 1 ∷ x ∷ l) (append_assoc w (1 ∷ []) b)

-- the leftmost 01
not-01 : (b : List ℕ) (i : ℕ) → (get_or b i 0 ≡ 0 → get_or b (suc i) 0 ≡ 1 → ⊥) → is01 b i ≡ false
not-01 b i n = by (is01 b i) refl
  where
    by : (t : Bool) → is01 b i ≡ t → is01 b i ≡ false
    by false e = e
    by true e =
        let both = (and-eq-true_iff (eqb (get_or b i 0) 0) (eqb (get_or b (suc i) 0) 1)).0 e in
        absurd (n (eqb-true (get_or b i 0) 0 both.0) (eqb-true (get_or b (suc i) 0) 1 both.1))

module _ (p q : ℕ) where
  -- among ones, and among zeros, there is none
  early : (c : List ℕ) (j : ℕ) → j < p + q → is01 (ups p (downs (suc q) c)) j ≡ false
  early c j h =
      not-01 (ups p (downs (suc q) c)) j
      (λ z o. elim (dec_lt j p) [ yes l ↦ omega (arith, z, get-up p j (downs (suc q) c) l) | no l ↦ zero-behind l o ])
    where
      zero-behind : (j < p → ⊥) → get_or (ups p (downs (suc q) c)) (suc j) 0 ≡ 1 → ⊥
      zero-behind l o =
          let i : ℕ = suc j - p in
          omega (arith, o, get-ups p i (suc j) (downs (suc q) c) (omega arith), get-down (suc q) i c (omega arith))

  pub found_some : (z : List ℕ) → found (ups p (downs (suc q) (1 ∷ z))) ≡ suc (suc (p + q))
  unfolding found
  found_some z =
      let b = ups p (downs (suc q) (1 ∷ z)) in
      let zero-at : get_or b (p + q) 0 ≡ 0 =
      get-ups p q (p + q) (downs (suc q) (1 ∷ z)) refl ∙ get-down (suc q) q (1 ∷ z) (omega arith) in
      let one_at : get_or b (suc (p + q)) 0 ≡ 1 =
      get-ups p (suc q) (suc (p + q)) (downs (suc q) (1 ∷ z)) (omega arith)
      ∙ get-downs (suc q) 0 (suc q) (1 ∷ z) (omega arith) in
      ap (λ (i : ℕ). suc (suc i))
      (first-is (is01 b) (length b) (p + q) (omega (arith, shape-length p (suc q) (1 ∷ z)))
      ((and-eq-true_iff (eqb (get_or b (p + q) 0) 0) (eqb (get_or b (suc (p + q)) 0) 1)).1
      (eq-eqb (get_or b (p + q) 0) 0 zero-at, eq-eqb (get_or b (suc (p + q)) 0) 1 one_at))
      (early (1 ∷ z)))

-- ones and zeros alone have no 01
alone : (p q j : ℕ) → get_or (ups p (downs q [])) j 0 ≡ 0 → get_or (ups p (downs q [])) (suc j) 0 ≡ 1 → ⊥
alone zero zero j z o = omega (arith, o)
alone zero (suc q) zero z o = absurd (omega (arith, alone-zero q 0, o))
  where
    alone-zero : (q k : ℕ) → get_or (downs q []) k 0 ≡ 0
    alone-zero zero k = refl
    alone-zero (suc q) zero = refl
    alone-zero (suc q) (suc k) = alone-zero q k
alone zero (suc q) (suc j) z o = alone zero q j z o
alone (suc p) q zero z o = omega (arith, z)
alone (suc p) q (suc j) z o = alone p q j z o

pub has01-none : (p q : ℕ) → has01 (ups p (downs q [])) ≡ false
unfolding has01 found
has01-none p q =
    let b = ups p (downs q []) in
    lt-leb (suc (suc (first (is01 b) (length b)))) (length b)
    (omega (arith, first-none (is01 b) (length b) (λ j h. not-01 b j (alone p q j))))

pub has01-some : (p q : ℕ) (z : List ℕ) → has01 (ups p (downs (suc q) (1 ∷ z))) ≡ true
unfolding has01
has01-some p q z =
    le-leb (found (ups p (downs (suc q) (1 ∷ z)))) (length (ups p (downs (suc q) (1 ∷ z))))
    (omega (arith, found_some p q z, shape-length p (suc q) (1 ∷ z)))

-- the next form with no 01
pub next-stays : (p : ℕ) → next (ups p []) ≡ ups p []
unfolding next zeros
next-stays p = simp (has01-none p 0, shape-zeros p 0 [])

pub next-turns : (p q : ℕ) → next (ups (suc p) (downs (suc q) [])) ≡ 1 ∷ 0 ∷ ups p (downs q [])
unfolding next
next-turns p q =
    let b = ups (suc p) (downs (suc q) []) in
    simp (has01-none (suc p) (suc q), lt-ltb 0 (zeros b) (omega (arith, shape-zeros (suc p) (suc q) [])))
    (ap (λ (n : ℕ). shift n b) (omega (arith, shape-length (suc p) (suc q) [], shape-length p q []))
    ∙ ap (λ (l : List ℕ). shift (suc (suc (length (ups p (downs q []))))) (1 ∷ l))
    (ap (ups p) (sym (downs-snoc q [])) ∙ sym (shape-join p q (0 ∷ [])))
    ∙ shift-at (ups p (downs q [])) 0 []
    ∙ ap (λ (l : List ℕ). 1 ∷ 0 ∷ l) (append-nil (ups p (downs q []))))

-- the test of a shift: its counts are those of the schedule, so it is a schedule if it plays
same_test : (x y : Bool) → (x ≡ true → y ≡ true) → (y ≡ true → x ≡ true) → x ≡ y
same_test true y f g = sym (f refl)
same_test false true f g = absurd (false≢true (g refl))
same_test false false f g = refl

pub is_schedule-plays : (t s : ℕ) (c : List ℕ) → ones c ≡ t → zeros c ≡ s → is_schedule t s c ≡ plays 0 c
is_schedule-plays t s c o z =
    same_test (is_schedule t s c) (plays 0 c) (λ e. schedule-plays (true-is_schedule t s c e))
    (λ e. is_schedule-true t s c (plays-schedule e o z))

-- the next form at a 01: w stands between the first beat and the found 1
module _ (w : List ℕ) where
  next_last : found (1 ∷ (w ++ 1 ∷ [])) ≡ suc (suc (length w)) → next (1 ∷ (w ++ 1 ∷ [])) ≡ 1 ∷ 1 ∷ w
  unfolding next has01 moves_next
  next_last e =
      let n = length-append w (1 ∷ []) in
      rw (e, shift-at w 1 [], append-nil w)
      (simp (
        le-leb (suc (suc (length w))) (suc (length (w ++ 1 ∷ []))) (omega arith),
        lt-leb (suc (suc (suc (length w)))) (suc (length (w ++ 1 ∷ []))) (omega arith),
      ))

  -- a beat moved within the list keeps the counts
  moved-ones : (x : ℕ) (a : List ℕ) → ones (1 ∷ x ∷ (w ++ 1 ∷ a)) ≡ ones (1 ∷ (w ++ 1 ∷ x ∷ a))
  unfolding ones
  moved-ones zero a = omega (arith, ones-append w (1 ∷ a), ones-append w (1 ∷ 0 ∷ a))
  moved-ones (suc zero) a = omega (arith, ones-append w (1 ∷ a), ones-append w (1 ∷ 1 ∷ a))
  moved-ones (suc (suc x)) a = omega (arith, ones-append w (1 ∷ a), ones-append w (1 ∷ suc (suc x) ∷ a))

  moved-zeros : (x : ℕ) (a : List ℕ) → zeros (1 ∷ x ∷ (w ++ 1 ∷ a)) ≡ zeros (1 ∷ (w ++ 1 ∷ x ∷ a))
  unfolding zeros
  moved-zeros zero a = omega (arith, zeros-append w (1 ∷ a), zeros-append w (1 ∷ 0 ∷ a))
  moved-zeros (suc x) a = omega (arith, zeros-append w (1 ∷ a), zeros-append w (1 ∷ suc x ∷ a))

  moves-mid : (x : ℕ) (a : List ℕ) → found (1 ∷ (w ++ 1 ∷ x ∷ a)) ≡ suc (suc (length w))
      → moves_next (1 ∷ (w ++ 1 ∷ x ∷ a)) ≡ plays 0 (1 ∷ x ∷ (w ++ 1 ∷ a))
  unfolding moves_next
  moves-mid x a e =
      let b : List ℕ = 1 ∷ (w ++ 1 ∷ x ∷ a) in
      let n = length-append w (1 ∷ x ∷ a) in
      rw (
        e,
        shift_behind w x a,
        is_schedule-plays (ones b) (zeros b) (1 ∷ x ∷ (w ++ 1 ∷ a)) (moved-ones x a) (moved-zeros x a),
      )
      (simp (le-leb (suc (suc (suc (length w)))) (suc (length (w ++ 1 ∷ x ∷ a))) (omega arith)))

  next-mid : (x : ℕ) (a : List ℕ) → found (1 ∷ (w ++ 1 ∷ x ∷ a)) ≡ suc (suc (length w))
      → next (1 ∷ (w ++ 1 ∷ x ∷ a))
      ≡ cond (plays 0 (1 ∷ x ∷ (w ++ 1 ∷ a))) (1 ∷ x ∷ (w ++ 1 ∷ a)) (1 ∷ 1 ∷ (w ++ x ∷ a))
  unfolding next has01
  next-mid x a e =
      let n = length-append w (1 ∷ x ∷ a) in
      rw (moves-mid x a e, e, shift-at w 1 (x ∷ a), shift_behind w x a)
      (simp (le-leb (suc (suc (length w))) (suc (length (w ++ 1 ∷ x ∷ a))) (omega arith)))

-- the same, by the shape
module _ (p q : ℕ) where
  found_front : (z : List ℕ)
      → found (1 ∷ (ups p (downs (suc q) []) ++ 1 ∷ z)) ≡ suc (suc (length (ups p (downs (suc q) []))))
  found_front z =
      ap (λ (l : List ℕ). found (1 ∷ l)) (shape-join p (suc q) (1 ∷ z))
      ∙ omega (arith, found_some (suc p) q z, shape-length p (suc q) [])

  pub moves-last : moves_next (ups (suc p) (downs (suc q) (1 ∷ []))) ≡ false
  unfolding moves_next
  moves-last =
      let b = ups (suc p) (downs (suc q) (1 ∷ [])) in
      simp (lt-leb (suc (found b)) (length b) (omega (
        arith,
        found_some (suc p) q [],
        shape-length (suc p) (suc q) (1 ∷ []),
      )))

  pub moves-behind : (x : ℕ) (a : List ℕ)
      → moves_next (ups (suc p) (downs (suc q) (1 ∷ x ∷ a))) ≡ plays 0 (1 ∷ x ∷ ups p (downs (suc q) (1 ∷ a)))
  moves-behind x a =
      ap (λ (l : List ℕ). moves_next (1 ∷ l)) (sym (shape-join p (suc q) (1 ∷ x ∷ a)))
      ∙ moves-mid (ups p (downs (suc q) [])) x a (found_front (x ∷ a))
      ∙ simp shape-join

  pub next-closes : next (ups (suc p) (downs (suc q) (1 ∷ []))) ≡ ups (suc (suc p)) (downs (suc q) [])
  next-closes =
      ap (λ (l : List ℕ). next (1 ∷ l)) (sym (shape-join p (suc q) (1 ∷ [])))
      ∙ next_last (ups p (downs (suc q) [])) (found_front [])

  pub next-behind : (x : ℕ) (a : List ℕ) → next (ups (suc p) (downs (suc q) (1 ∷ x ∷ a)))
      ≡ cond (plays 0 (1 ∷ x ∷ ups p (downs (suc q) (1 ∷ a)))) (1 ∷ x ∷ ups p (downs (suc q) (1 ∷ a)))
      (ups (suc (suc p)) (downs (suc q) (x ∷ a)))
  next-behind x a =
      ap (λ (l : List ℕ). next (1 ∷ l)) (sym (shape-join p (suc q) (1 ∷ x ∷ a)))
      ∙ next-mid (ups p (downs (suc q) [])) x a (found_front (x ∷ a))
      ∙ simp shape-join

-- each schedule but the empty one begins with a 1, and the rule goes by the shape
moves-some : (p q : ℕ) (z : List ℕ) (h : ℕ) → p ≡ q + h → plays (suc h) z ≡ true
    → Moved (ups (suc p) (downs (suc q) (1 ∷ z))) (next (ups (suc p) (downs (suc q) (1 ∷ z))))
unfolding plays
moves-some p q [] h e o = rw (next-closes p q) (closes (suc p) q)
moves-some p q (suc (suc x) ∷ a) h e o = absurd (false≢true o)
moves-some p q (suc zero ∷ a) h e o =
    rw (next-behind p q 1 a) (either (plays 0 (ups (suc (suc p)) (downs (suc q) (1 ∷ a)))))
  where
    either : (t : Bool)
        → Moved (ups (suc p) (downs (suc q) (1 ∷ 1 ∷ a)))
        (cond t (ups (suc (suc p)) (downs (suc q) (1 ∷ a))) (ups (suc (suc p)) (downs (suc q) (1 ∷ a))))
    either true = lifts (suc p) q a
    either false = lifts (suc p) q a
moves-some p q (zero ∷ a) zero e o =
    rw (next-behind p q 0 a, shape-short p (suc q) (1 ∷ a) (omega arith)) (levels (suc p) q a (omega arith))
moves-some p q (zero ∷ a) (suc h) e o =
    rw (next-behind p q 0 a, shape-plays p (suc q) h (1 ∷ a) (omega arith), o) (dips p q a (omega arith))

moves-view : {b : List ℕ} → View b → plays 0 b ≡ true → Moved b (next b)
unfolding plays
moves-view (none p zero) o = rw (next-stays p) (stays p)
moves-view (none zero (suc q)) o = absurd (false≢true o)
moves-view (none (suc p) (suc q)) o = rw (next-turns p q) (turns p q)
moves-view (some zero q z) o = absurd (false≢true o)
moves-view (some (suc p) q z) o =
    let r = plays-shape (suc p) (suc q) (1 ∷ z) o in moves-some p q z r.0 (omega (arith, r.1)) r.2

pub next-moves : (b : List ℕ) → plays 0 b ≡ true → Moved b (next b)
next-moves b o = moves-view (view 0 b o) o
