-- The circle: steps from a schedule go through all schedules of its counts and come back.
--     rank_lt, same_rank            the rank is below N(t, s), and says which schedule of t, s it is
--     next-schedule, steps-schedule the next form of a schedule is one of the same counts, and so on
--     next-rank                     a step adds one to the rank, or goes from the last rank to 0
--     At, walk-rank                 where k ≤ N steps from a rank lead
--     round                         N steps come back
--     reaches, once                 some number of steps from 1 to N leads from one schedule to
--                                   another, and only one does
--     top-schedule, top-rank        t ones then s zeros is a schedule, of rank 0
-- Assumes nothing.
use mathlib.Core.List.{List, [], reverse, reverse-reverse}
use mathlib.Core.Logic.{◌⊎◌, inl, inr}
use mathlib.Core.Path.{◌≡◌, ◌∙◌, ap, sym}
use Prim.Native.Nat.{ℕ, zero, suc, ◌+◌, ◌-◌, ◌≤◌, ◌<◌}
use native.Mathlib.Omega.{arith}
use native.Mathlib.Decide.{dec_lt}
use Rattle.triangle.specs.Count.{N}
use Rattle.schedule.specs.Schedule.{ones, zeros, Schedule}
use Rattle.schedule.proofs.Hand.{
  plays,
  Turned,
  start,
  turned,
  ones-turn,
  zeros-turn,
  schedule-plays,
  schedule-zeros,
  plays-schedule,
}
use Rattle.circle.specs.Step.{next, top}
use Rattle.circle.specs.Walk.{steps}
use Rattle.circle.proofs.Shape.{shape-plays, shape-ones, shape-zeros, top-shape}
use Rattle.circle.proofs.Rank.{rank_of, rank_below, rank_same}
use Rattle.circle.proofs.Advance.{next-advances, rank-flat, flat-rank}

-- where k steps from rank n lead on a circle of c: to rank m
pub data At (c n k m : ℕ) : Type 0 where
  before : n + k < c → m ≡ n + k → At c n k m
  past : c ≤ n + k → m + c ≡ n + k → At c n k m

at_more : (c n k m w : ℕ) → n < c → k < c → w < c → At c n k m → (w ≡ suc m) ⊎ ((w ≡ 0) × (suc m ≡ c))
    → At c n (suc k) w
at_more c n k m w d l i (before h a) (inl e) = before (omega arith) (omega arith)
at_more c n k m w d l i (before h a) (inr e) = past (omega arith) (omega arith)
at_more c n k m w d l i (past h a) (inl e) = past (omega arith) (omega arith)
at_more c n k m w d l i (past h a) (inr e) = absurd (omega arith)

at_once : (c n j k m : ℕ) → 1 ≤ j → j ≤ c → 1 ≤ k → k ≤ c → At c n j m → At c n k m → j ≡ k
at_once c n j k m f g h l (before x a) (before y b) = omega arith
at_once c n j k m f g h l (before x a) (past y b) = omega arith
at_once c n j k m f g h l (past x a) (before y b) = omega arith
at_once c n j k m f g h l (past x a) (past y b) = omega arith

module _ {t s : ℕ} where
  back : {b : List ℕ} → Schedule t s b → Turned (reverse b)
  unfolding ones zeros
  back {b} p = turned 0 b [] (omega arith) start (schedule-plays p)

  back-ones : {b : List ℕ} → Schedule t s b → ones (reverse b) ≡ t
  unfolding ones
  back-ones {b} p = omega (arith, ones-turn b [], p.taken)

  back-zeros : {b : List ℕ} → Schedule t s b → zeros (reverse b) ≡ s
  unfolding zeros
  back-zeros {b} p = omega (arith, zeros-turn b [], schedule-zeros p)

  pub rank_lt : {b : List ℕ} → Schedule t s b → rank_of b < N t s
  rank_lt {b} p = rw (back-ones p, back-zeros p) at (rank_below (back p))

  pub same_rank : {b c : List ℕ} → Schedule t s b → Schedule t s c → rank_of b ≡ rank_of c → b ≡ c
  same_rank {b} {c} p q e =
      sym (reverse-reverse b)
      ∙ ap reverse (rank_same (back p) (back q) (back-ones p ∙ sym (back-ones q)) (back-zeros p ∙ sym (back-zeros q)) e)
      ∙ reverse-reverse c

  pub next-schedule : {b : List ℕ} → Schedule t s b → Schedule t s (next b)
  next-schedule {b} p =
      let a = next-advances b (schedule-plays p) in
      plays-schedule a.good (a.same-ones ∙ p.taken) (a.same-zeros ∙ schedule-zeros p)

  pub next-rank : {b : List ℕ} → Schedule t s b
      → (rank_of (next b) ≡ suc (rank_of b)) ⊎ ((rank_of (next b) ≡ 0) × (suc (rank_of b) ≡ N t s))
  next-rank {b} p = rw (p.taken, schedule-zeros p) at (next-advances b (schedule-plays p)).ranks

  pub steps-schedule : {b : List ℕ} (k : ℕ) → Schedule t s b → Schedule t s (steps k b)
  unfolding steps
  steps-schedule zero p = p
  steps-schedule (suc k) p = next-schedule (steps-schedule k p)

  pub walk-rank : {b : List ℕ} (k : ℕ) → Schedule t s b → k ≤ N t s → At (N t s) (rank_of b) k (rank_of (steps k b))
  unfolding steps
  walk-rank {b} zero p l = before (omega (arith, rank_lt p)) (omega arith)
  walk-rank {b} (suc k) p l =
      at_more (N t s) (rank_of b) k (rank_of (steps k b)) (rank_of (next (steps k b))) (rank_lt p) l
      (rank_lt (next-schedule (steps-schedule k p)))
      (walk-rank k p (omega arith)) (next-rank (steps-schedule k p))

  -- k steps from rank n lead to the schedule of rank m, if m is where they should lead
  leads : {b c : List ℕ} (k : ℕ) → Schedule t s b → Schedule t s c → k ≤ N t s → At (N t s) (rank_of b) k (rank_of c)
      → steps k b ≡ c
  leads {b} {c} k p q l a = same_rank (steps-schedule k p) q (same (walk-rank k p l) a)
    where
      same : {m w : ℕ} → At (N t s) (rank_of b) k m → At (N t s) (rank_of b) k w → m ≡ w
      same (before x e) (before y f) = omega arith
      same (before x e) (past y f) = absurd (omega arith)
      same (past x e) (before y f) = absurd (omega arith)
      same (past x e) (past y f) = omega arith

  pub round : {b : List ℕ} → Schedule t s b → steps (N t s) b ≡ b
  round {b} p = leads (N t s) p p (omega arith) (past (omega arith) (omega arith))

  pub reaches : {b c : List ℕ} → Schedule t s b → Schedule t s c → (k : ℕ) × (1 ≤ k) × (k ≤ N t s) × (steps k b ≡ c)
  reaches {b} {c} p q = elim (dec_lt (rank_of b) (rank_of c)) [ yes h ↦ ahead h | no h ↦ around h ]
    where
      ahead : rank_of b < rank_of c → (k : ℕ) × (1 ≤ k) × (k ≤ N t s) × (steps k b ≡ c)
      ahead h =
          let k = rank_of c - rank_of b in (
            k,
            omega arith,
            omega (arith, rank_lt q),
            leads k p q (omega (arith, rank_lt q)) (before (omega (arith, rank_lt q)) (omega arith)),
          )

      around : (rank_of b < rank_of c → ⊥) → (k : ℕ) × (1 ≤ k) × (k ≤ N t s) × (steps k b ≡ c)
      around h =
          let k = N t s - rank_of b + rank_of c in (
            k,
            omega (arith, rank_lt p),
            omega (arith, rank_lt p),
            leads k p q (omega (arith, rank_lt p)) (past (omega (arith, rank_lt p)) (omega (arith, rank_lt p))),
          )

  pub once : {b : List ℕ} (j k : ℕ) → Schedule t s b → 1 ≤ j → j ≤ N t s → 1 ≤ k → k ≤ N t s → steps j b ≡ steps k b
      → j ≡ k
  once {b} j k p f g h l e =
      at_once (N t s) (rank_of b) j k (rank_of (steps j b)) f g h l (walk-rank j p g) (rw e (walk-rank k p l))

pub top-schedule : (t s : ℕ) → s ≤ t → Schedule t s (top t s)
unfolding plays ones zeros
top-schedule t s h =
    rw (top-shape t s)
    (plays-schedule (shape-plays t s (t - s) [] (omega arith)) (omega (arith, shape-ones t s []))
    (omega (arith, shape-zeros t s [])))

pub top-rank : (t s : ℕ) → rank_of (top t s) ≡ 0
top-rank t s = ap rank_of (top-shape t s) ∙ rank-flat t s [] ∙ flat-rank t s
