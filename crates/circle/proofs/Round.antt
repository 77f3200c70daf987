-- The changed beats of a whole round: how many forms set down at their second beat, and that a
-- round arrives at each once.
--     ring n b          where the steps 1 to n from b arrive
--     Second t s c      c is a schedule of t, s that sets down at its second beat
--     second-lists      they are the schedules of t−1, s−1 after a 1 and a 0, so N(t−1, s−1) of them
--     round-dips        a round has N(t−1, s−1) − 1 dips
--     round-worked      a round changes 2·N(t, s) + 2·N(t−1, s−1) − 2 beats
-- Assumes nothing.
use mathlib.Core.Bool.{Bool, true, false, true≢false, false≢true, and-eq-true_iff}
use mathlib.Core.List.Memᴰ
use mathlib.Core.List.{
  List,
  [],
  ◌∷◌,
  map,
  Memᴰ,
}
use mathlib.Core.Logic.{⊎_elim}
use mathlib.Core.Path.{◌≡◌, refl, ◌∙◌, ap, sym}
use Prim.Native.Nat.{ℕ, zero, suc, ◌+◌, ◌-◌, ◌*◌, ◌≤◌}
use native.Mathlib.Omega.{arith}
use native.Mathlib.Decide.{dec_le}
use borrow.Author.Tests.{eqb-true, eq-eqb, ltb-false}
use lib.Dec.{eqb, ltb}
use lib.ListN.{get_or, length-map}
use Rattle.triangle.specs.Count.{N}
use Rattle.schedule.specs.Schedule.{ones, zeros, Schedule, Lists}
use Rattle.schedule.proofs.Hand.{plays, plays-schedule, schedule-plays, schedule-zeros, schedule-le}
use Rattle.schedule.proofs.Pigeonhole.{lists_length}
use Rattle.schedule.proofs.Distinct.{
  Distinct,
  nothing,
  more,
  distinct-lists,
  keep,
  tally,
  keep-length,
  keep-mem,
  mem-keep,
  keep-distinct,
}
use Rattle.schedule.proofs.Listing.{map-lists, schedules, schedules-length, schedules-lists}
use Rattle.circle.specs.Step.{next, top}
use Rattle.circle.specs.Walk.{steps, changed, worked, is_dip, dips}
use Rattle.circle.proofs.Shape.{top-shape}
use Rattle.circle.proofs.Moves.{next-turns}
use Rattle.circle.proofs.Circle.{next-schedule, steps-schedule, reaches, once, top-schedule}
use Rattle.circle.proofs.Work.{changed-same}
use Rattle.circle.proofs.Dips.{not-other, worked-dips}

ring : ℕ → List ℕ → List (List ℕ)
ring zero b = []
ring (suc n) b = steps (suc n) b ∷ ring n b

ring-mem : (n : ℕ) (b x : List ℕ) → Memᴰ x (ring n b) → (j : ℕ) × (1 ≤ j) × (j ≤ n) × (x ≡ steps j b)
unfolding ring
ring-mem zero b x m = absurd (Memᴰ.not-nil m)
ring-mem (suc n) b x m =
    ⊎_elim (λ here. (suc n, omega arith, omega arith, here)) (λ later. wider (ring-mem n b x later))
    (Memᴰ.cases_cons m)
  where
    wider : (j : ℕ) × (1 ≤ j) × (j ≤ n) × (x ≡ steps j b) → (j : ℕ) × (1 ≤ j) × (j ≤ suc n) × (x ≡ steps j b)
    wider w = (w.0, w.1, omega (arith, w.2), w.3)

mem-ring : (n j : ℕ) (b : List ℕ) → 1 ≤ j → j ≤ n → Memᴰ (steps j b) (ring n b)
unfolding ring
mem-ring zero j b h k = absurd (omega arith)
mem-ring (suc n) j b h k = by (dec_le j n) (mem-ring n j b h)
  where
    by : Dec (j ≤ n) → (j ≤ n → Memᴰ (steps j b) (ring n b)) → Memᴰ (steps j b) (steps (suc n) b ∷ ring n b)
    by (yes l) below = Memᴰ.tail (below l)
    by (no l) below = let last : j ≡ suc n = omega arith in Memᴰ.head (ap (λ (k : ℕ). steps k b) last)

tally-ring : (t s n : ℕ) (b : List ℕ) → tally (is_dip t s) (ring n b) ≡ dips t s n b
unfolding ring tally dips
tally-ring t s zero b = refl
tally-ring t s (suc n) b = omega (arith, tally-ring t s n b)

module _ {t s : ℕ} {b : List ℕ} (p : Schedule t s b) where
  ring-distinct : (n : ℕ) → n ≤ N t s → Distinct (ring n b)
  unfolding ring
  ring-distinct zero h = nothing
  ring-distinct (suc n) h =
      more (λ (m : Memᴰ (steps (suc n) b) (ring n b)).
      let w = ring-mem n b (steps (suc n) b) m in
      omega (arith, once (suc n) w.0 p (omega arith) h w.1 (omega (arith, w.2)) w.3, w.2))
      (ring-distinct n (omega arith))

  ring-sound : (x : List ℕ) → Memᴰ x (ring (N t s) b) → Schedule t s x
  ring-sound x m = let w = ring-mem (N t s) b x m in rw w.3 (steps-schedule w.0 p)

  ring-complete : (x : List ℕ) → Schedule t s x → Memᴰ x (ring (N t s) b)
  ring-complete x q = let w = reaches p q in Memᴰ.cast (sym w.3) (mem-ring (N t s) w.0 b w.1 w.2)

record Second (t s : ℕ) (c : List ℕ) : Type 0 where
  form : Schedule t s c
  sets_down : get_or c 1 0 ≡ 0

module _ (t s : ℕ) where
  -- a schedule of t, s after a 1 and a 0
  behind : (d : List ℕ) → Schedule t s d → Second (suc t) (suc s) (1 ∷ 0 ∷ d)
  unfolding plays ones zeros
  behind d p =
      record {
        form = plays-schedule (schedule-plays p) (omega (arith, p.taken)) (omega (arith, schedule-zeros p));
        sets_down = refl;
      }

  from-behind : (c : List ℕ) → Second (suc t) (suc s) c → (d : List ℕ) × Schedule t s d × (1 ∷ 0 ∷ d ≡ c)
  from-behind c q = by c (schedule-plays q.form) q.form.taken (schedule-zeros q.form) q.sets_down
    where
      by : (c : List ℕ) → plays 0 c ≡ true → ones c ≡ suc t → zeros c ≡ suc s → get_or c 1 0 ≡ 0
          → (d : List ℕ) × Schedule t s d × (1 ∷ 0 ∷ d ≡ c)
      by [] o u z e = unfold ones in absurd (omega arith)
      by (zero ∷ c) o u z e = unfold plays in absurd (false≢true o)
      by (suc (suc x) ∷ c) o u z e = unfold plays in absurd (false≢true o)
      by (suc zero ∷ []) o u z e = unfold zeros in absurd (omega arith)
      by (suc zero ∷ suc x ∷ c) o u z e = absurd (omega arith)
      by (suc zero ∷ zero ∷ c) o u z e = unfold plays ones zeros in
          (c, plays-schedule o (omega arith) (omega arith), refl)

  second-lists : Lists (Second (suc t) (suc s)) (map (λ (d : List ℕ). 1 ∷ 0 ∷ d) (schedules t s))
  second-lists =
      map-lists (Schedule t s) (Second (suc t) (suc s)) (λ (d : List ℕ). 1 ∷ 0 ∷ d) behind from-behind (λ x y e. cc)
      (schedules t s) (schedules-lists t s)

-- the form after t ones and s zeros sets down at its second beat
after-top : (t s : ℕ) → get_or (next (top (suc t) (suc s))) 1 0 ≡ 0
after-top t s = ap (λ (l : List ℕ). get_or l 1 0) (ap next (top-shape (suc t) (suc s)) ∙ next-turns t s)

module _ (t s : ℕ) {b : List ℕ} (p : Schedule (suc t) (suc s) b) where
  abbrev first : List ℕ
  first = next (top (suc t) (suc s))

  abbrev dipping : List (List ℕ)
  dipping = keep (is_dip (suc t) (suc s)) (ring (N (suc t) (suc s)) b)

  first-second : Second (suc t) (suc s) first
  first-second = record {
    form = next-schedule (top-schedule (suc t) (suc s) (schedule-le p));
    sets_down = after-top t s;
  }

  -- what sets down at its second beat is a dip, or is the form after t ones and s zeros
  dip-or-first : (x : List ℕ) → Second (suc t) (suc s) x → Memᴰ x (first ∷ dipping)
  unfolding is_dip
  dip-or-first x q = by (ltb 0 (changed x first)) refl
    where
      by : (other : Bool) → ltb 0 (changed x first) ≡ other → Memᴰ x (first ∷ dipping)
      by true e =
          Memᴰ.tail (mem-keep (is_dip (suc t) (suc s)) (ring (N (suc t) (suc s)) b) x (ring-complete p x q.form)
          ((and-eq-true_iff (eqb (get_or x 1 0) 0) (ltb 0 (changed x first))).1
          (eq-eqb (get_or x 1 0) 0 q.sets_down, e)))
      by false e =
          Memᴰ.head
          (changed-same x first (q.form.size ∙ sym first-second.form.size)
          (omega (arith, ltb-false 0 (changed x first) e)))

  dipping-second : (x : List ℕ) → Memᴰ x (first ∷ dipping) → Second (suc t) (suc s) x
  unfolding is_dip
  dipping-second x m =
      ⊎_elim (λ here. rw here first-second)
      (λ later. kept (keep-mem (is_dip (suc t) (suc s)) (ring (N (suc t) (suc s)) b) x later)) (Memᴰ.cases_cons m)
    where
      kept : Memᴰ x (ring (N (suc t) (suc s)) b) × (is_dip (suc t) (suc s) x ≡ true) → Second (suc t) (suc s) x
      kept w =
          record {
            form = ring-sound p x w.0;
            sets_down =
                eqb-true (get_or x 1 0) 0 ((and-eq-true_iff (eqb (get_or x 1 0) 0) (ltb 0 (changed x first))).0 w.1).0;
          }

  first-once : Memᴰ first dipping → ⊥
  first-once m =
      true≢false
      (sym (keep-mem (is_dip (suc t) (suc s)) (ring (N (suc t) (suc s)) b) first m).1
      ∙ not-other (suc t) (suc s) first (after-top t s) refl)

  round-dips : suc (dips (suc t) (suc s) (N (suc t) (suc s)) b) ≡ N t s
  round-dips =
      let listed =
      distinct-lists (Second (suc t) (suc s)) (first ∷ dipping)
      (more first-once (keep-distinct (is_dip (suc t) (suc s)) (ring-distinct p (N (suc t) (suc s)) (omega arith))))
      dipping-second dip-or-first in
      ap suc
      (sym (keep-length (is_dip (suc t) (suc s)) (ring (N (suc t) (suc s)) b)
      ∙ tally-ring (suc t) (suc s) (N (suc t) (suc s)) b))
      ∙ lists_length (Second (suc t) (suc s)) (first ∷ dipping) (map (λ (d : List ℕ). 1 ∷ 0 ∷ d) (schedules t s)) listed
      (second-lists t s)
      ∙ length-map (schedules t s) (λ (d : List ℕ). 1 ∷ 0 ∷ d)
      ∙ schedules-length t s

  pub round-worked : 2 ≤ suc t → worked (N (suc t) (suc s)) b ≡ 2 * N (suc t) (suc s) + 2 * N t s - 2
  round-worked two = omega (arith, worked-dips two (omega arith) (N (suc t) (suc s)) p, round-dips)
