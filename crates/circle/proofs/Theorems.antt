-- The circle and the work of its steps: the letter, demand 3, and the manual, "The step". Each once over t and s.
--     next-form             the next form of a schedule of t, s is a schedule of t, s [O1a]
--     no-01-top             with no 0 followed by 1 a schedule is t ones and then s zeros [S3]
--     circle                for every two forms there is that one number of steps [D3b]
--     circle-start-last     from a form to itself it is N(t, s): the start is met last [D3c]
--     dip-means, means-dip  a dip sets down at its second beat and is not the form after t ones and s zeros [D3e]
--     step-changes          from two ones and one zero on, a step changes 2 beats, and 4 exactly if it
--                           arrives at a dip [D3d] [O1b]
--     N-one                 with at most one 1 or no zeros N(t, s) is 1, so that [O1c]
--     one_form              there is one form, and [O1c]
--     one-form-changes      a step changes none [O1c]
--     stretch-changes       k steps change 2k beats and two more for each dip [D3e]
--     round-changes         a round changes 2·N(t, s) + 2·N(t−1, s−1) − 2 beats [D3f]
-- Assumes nothing.
use mathlib.Core.Bool.{Bool, true, false, cond, false≢true, and-eq-true_iff}
use mathlib.Core.List.{List, []}
use mathlib.Core.Logic.{◌⊎◌, inl, inr}
use mathlib.Core.Path.{◌≡◌, refl, ◌∙◌, ap, ap₂, sym}
use Prim.Native.Nat.{ℕ, zero, suc, ◌+◌, ◌-◌, ◌*◌, ◌≤◌}
use native.Mathlib.Numerals.{sub-one}
use native.Mathlib.Omega.{arith}
use borrow.Author.Tests.{eqb-true, ltb-true}
use lib.Dec.{eqb, ltb}
use lib.ListN.{length, get_or}
use Rattle.triangle.specs.Count.{N}
use Rattle.triangle.proofs.Count.{N-zero, N-over, N-add, N-pos}
use Rattle.schedule.specs.Schedule.{Schedule, ones}
use Rattle.schedule.proofs.Hand.{schedule-le, schedule-plays}
use Rattle.circle.specs.Step.{has01, next, top}
use Rattle.circle.specs.Walk.{steps, changed, worked, is_dip, dips, OneWay}
use Rattle.circle.proofs.Shape.{ups, downs, View, none, some, view, shape-ones, shape-length, top-shape}
use Rattle.circle.proofs.Moves.{has01-some}
use Rattle.circle.proofs.Circle.{next-schedule, round, reaches, once}
use Rattle.circle.proofs.Work.{changed-self}
use Rattle.circle.proofs.Dips.{is-dip, next-changed, worked-dips, idle-changed}
use Rattle.circle.proofs.Round.{round-worked}

pub next-form : {t s : ℕ} {b : List ℕ} → Schedule t s b → Schedule t s (next b)
next-form = next-schedule

pub no-01-top : {t s : ℕ} {b : List ℕ} → Schedule t s b → has01 b ≡ false → b ≡ top t s
unfolding ones
no-01-top {t} {s} {b} p e = by (view 0 b (schedule-plays p)) p e
  where
    by : {c : List ℕ} → View c → Schedule t s c → has01 c ≡ false → c ≡ top t s
    by (none u d) q f =
        let up : u ≡ t = omega (arith, shape-ones u d [], q.taken) in
        let down : d ≡ s = omega (arith, shape-length u d [], q.size, up) in
        ap₂ (λ (i j : ℕ). ups i (downs j [])) up down ∙ sym (top-shape t s)
    by (some u d z) q f = absurd (false≢true (sym f ∙ has01-some u d z))

module _ {t s : ℕ} {a : List ℕ} (p : Schedule t s a) where
  pub circle : {b : List ℕ} → Schedule t s b → OneWay steps t s a b
  circle q =
      let way = reaches p q in
      record {
        count = way.0;
        from = way.1;
        to = way.2;
        leads = way.3;
        only = λ k h l e. once k way.0 p h l way.1 way.2 (e ∙ sym way.3);
      }

  pub circle-start-last : (circle p).count ≡ N t s
  circle-start-last = sym ((circle p).only (N t s) (N-pos t s (schedule-le p)) (omega arith) (round p))

pub dip-means : (t s : ℕ) (c : List ℕ) → is_dip t s c ≡ true → (get_or c 1 0 ≡ 0) × (c ≡ next (top t s) → ⊥)
unfolding is_dip
dip-means t s c e =
    let both = (and-eq-true_iff (eqb (get_or c 1 0) 0) (ltb 0 (changed c (next (top t s))))).0 e in (
      eqb-true (get_or c 1 0) 0 both.0,
      λ same.
          omega (arith, ltb-true 0 (changed c (next (top t s))) both.1, ap (changed c) (sym same), changed-self c),
    )

pub means-dip : (t s : ℕ) (c : List ℕ) → length c ≡ length (next (top t s)) → get_or c 1 0 ≡ 0
    → (c ≡ next (top t s) → ⊥)
    → is_dip t s c ≡ true
means-dip t s c n z e = is-dip t s c z n e

module _ {t s : ℕ} (two : 2 ≤ t) (one : 1 ≤ s) where
  module _ {b : List ℕ} (p : Schedule t s b) where
    pub step-changes : ((changed b (next b) ≡ 4) × (is_dip t s (next b) ≡ true))
        ⊎ ((changed b (next b) ≡ 2) × (is_dip t s (next b) ≡ false))
    step-changes = by (is_dip t s (next b)) refl (next-changed two one p)
      where
        by : (d : Bool) → is_dip t s (next b) ≡ d → changed b (next b) ≡ 2 + 2 * cond (is_dip t s (next b)) 1 0
            → ((changed b (next b) ≡ 4) × (is_dip t s (next b) ≡ true))
            ⊎ ((changed b (next b) ≡ 2) × (is_dip t s (next b) ≡ false))
        by true e q = inl (q ∙ rw e, e)
        by false e q = inr (q ∙ rw e, e)

    pub stretch-changes : (k : ℕ) → worked k b ≡ 2 * k + 2 * dips t s k b
    stretch-changes k = worked-dips two one k p

    pub round-changes : worked (N t s) b ≡ 2 * N t s + 2 * N (t - 1) (s - 1) - 2
    round-changes = by t s two one p
      where
        by : (t s : ℕ) → 2 ≤ t → 1 ≤ s → Schedule t s b → worked (N t s) b ≡ 2 * N t s + 2 * N (t - 1) (s - 1) - 2
        by zero s h k q = absurd (omega arith)
        by (suc t) zero h k q = absurd (omega arith)
        by (suc t) (suc s) h k q = rw (sub-one (suc t), sub-one (suc s)) (round-worked t s q h)

pub N-one : (t s : ℕ) → s ≤ t → (t ≤ 1) ⊎ (s ≡ 0) → N t s ≡ 1
N-one t zero h k = N-zero t
N-one zero (suc s) h k = absurd (omega arith)
N-one (suc zero) (suc zero) h k =
    N-add 0 0 (omega arith) ∙ ap₂ (λ (x y : ℕ). x + y) (N-over 0 1 (omega arith)) (N-zero 1)
N-one (suc zero) (suc (suc s)) h k = absurd (omega arith)
N-one (suc (suc t)) (suc s) h (inl few) = absurd (omega arith)
N-one (suc (suc t)) (suc s) h (inr empty) = absurd (omega arith)

pub one_form : {t s : ℕ} {a b : List ℕ} → Schedule t s a → Schedule t s b → (t ≤ 1) ⊎ (s ≡ 0) → a ≡ b
one_form {t} {s} {a} p q k =
    let one = N-one t s (schedule-le p) k in
    let there = circle p q in
    let back = circle p p in
    let same : back.count ≡ there.count = omega (arith, one, there.from, there.to, back.from, back.to) in
    sym back.leads ∙ ap (λ (n : ℕ). steps n a) same ∙ there.leads

pub one-form-changes : {t s : ℕ} {b : List ℕ} → Schedule t s b → (t ≤ 1) ⊎ (s ≡ 0) → changed b (next b) ≡ 0
one-form-changes = idle-changed
