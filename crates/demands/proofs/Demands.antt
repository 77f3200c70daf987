-- The demands of the letter hold: each part of specs/Demands.antt by the law that it cites.
--     accepts, leaves, single     what an accepted call answers, and the one list that it leaves
--     demands     all of them [D1f] [D2h] [D3h]
-- Assumes nothing.
use mathlib.Core.List.Memᴰ
use mathlib.Core.List.{List, [], ◌∷◌}
use mathlib.Core.Logic.{⊎_elim, inl, inr}
use mathlib.Core.Path.{◌≡◌, refl, ◌∙◌, ap, sym, subst}
use Prim.Native.Nat.{ℕ, ◌+◌, ◌%◌, ◌≤◌, ◌<◌}
use native.Mathlib.Nat.{mod-lt}
use native.Mathlib.Omega.{arith}
use borrow.Author.Tests.{ltb-false}
use lib.Dec.{ltb}
use lib.ListN.{length, get_or}
use Rattle.std.proofs.Common.{Ok}
use Rattle.form.specs.Answers.{form_left}
use Rattle.refusal.specs.declared.Refusal.TheVariants.{RunTooLong}
use Rattle.refusal.specs.Answer.{Verdict, answer, value, left}
use Rattle.refusal.specs.Rows.{◌⇒◌, judge}
use Rattle.refusal.proofs.Rows.{judge-back}
use Rattle.refusal.proofs.Theorems.{accepted-none, refused-number}
use Rattle.triangle.specs.Count.{N}
use Rattle.triangle.proofs.Count.{N-pos}
use Rattle.counts.specs.Counts.{Allowed}
use Rattle.counts.proofs.Sizes.{allowed-counts}
use Rattle.schedule.specs.Schedule.{Schedule}
use Rattle.schedule.specs.Check.{check_rows, checked}
use Rattle.schedule.proofs.Theorems.{accepted-schedule, schedule-accepted, N-schedules, lists-N}
use Rattle.circle.specs.Answers.{most_steps, run_rows, run_left}
use Rattle.circle.specs.Walk.{worked}
use Rattle.circle.proofs.Forms.{run-taken}
use Rattle.circle.proofs.Theorems.{circle, circle-start-last, step-changes, round-changes}
use Rattle.number.specs.Number.{Fewest, start, number_of, form_of}
use Rattle.number.specs.Groups.{S}
use Rattle.number.specs.Answers.{number_answer}
use Rattle.number.proofs.Numbers.{form-schedule}
use Rattle.number.proofs.Theorems.{number-fewest, number-below, S-number}
use Rattle.form.proofs.Verdicts.{form-allowed}
use Rattle.form.proofs.Agreement.{form-accepted, asked-numbered, numbered-asked, walked-asked}
use Rattle.demands.specs.Calls.{number, form, move, run, Gives}
use Rattle.demands.specs.Demands.{Demand1, Demand2, Demand3, Demand3All, Demands}
use Rattle.demands.proofs.Calls.{call-unchanged, call-silent, call-one}
use Rattle.demands.proofs.Accepted.{taken, call-refused}
use Rattle.demands.proofs.Answered.{call-answered}
use Rattle.demands.proofs.Handed.{says}

demand-1 : Demand1
demand-1 = record {
  by_number = refused-number;
  refused = call-refused;
  unchanged = call-unchanged;
  silent = call-silent;
  answered = call-answered;
  one_answer = call-one;
}

-- what an accepted call answers, and what it leaves
pub accepts : (v : Verdict) → v ≡ Ok tt → (n : ℕ) → Ok n ≡ answer v n
accepts v e n = ap (λ (x : Verdict). answer x n) (sym e)

pub leaves : (v : Verdict) → v ≡ Ok tt → (done lent : List ℕ) → done ∷ [] ≡ left v done lent ∷ []
leaves v e done lent = ap (λ (x : Verdict). left x done lent ∷ []) (sym e)

pub single : {x y : List ℕ} → ◌≡◌ {A = List (List ℕ)} (x ∷ []) (y ∷ []) → x ≡ y
single e = ap (λ (l : List (List ℕ)). get_or l 0 []) e

module _ (t s : ℕ) (a : Allowed t s) where
  -- what an accepted number says
  number-meant : (b : List ℕ) (n : ℕ) → Gives (number t s b) (Ok tt) (n ∷ []) (b ∷ [])
      → Schedule t s b × (n ≡ number_of t s b)
  number-meant b n g =
      let e = taken (checked t s b) (number_of t s b) g.0.0 in
      let said : n ∷ [] ≡ number_of t s b ∷ [] =
      g.0.1 ∙ ap (λ (v : Verdict). value (answer v (number_of t s b)) ∷ []) e in
      ((accepted-schedule t s b e).1, ap (λ (l : List ℕ). get_or l 0 0) said)

  -- a run that was taken is not too long
  run_short : (b : List ℕ) (k : ℕ) → judge (run_rows t s b k) ≡ Ok tt → k ≤ most_steps
  run_short b k e =
      let row = (ltb most_steps k ⇒ RunTooLong) ∷ [] in
      ltb-false most_steps k (accepted-none row (judge-back (check_rows t s b) row e) _ (Memᴰ.head refl))

  demand-2 : Demand2 t s
  demand-2 =
      record {
        next-form = λ b p. let e = schedule-accepted t s b a p in (says _ _ (accepts _ e _), leaves _ e _ b);
        number-given = λ b p. (number_of t s b, (says _ _ (accepts _ (schedule-accepted t s b a p) _), refl));
        number-fewest = λ b n g.
            let said = number-meant b n g in
            subst (Fewest (start t s) b) (sym said.1) (number-fewest said.0);
        number-listed = λ b n g.
            let said = number-meant b n g in
            ap (λ (m : ℕ). get_or (S t s) m []) said.1 ∙ S-number said.0;
        form-given = λ n out h long. (
          form_of t s n,
          form-schedule a.1 n,
          ((sym (form-accepted t s a n out h long), refl), leaves _ (form-accepted t s a n out h long) _ out),
        );
        form-number = λ n out b g.
            (says _ _ (sym (ap (number_answer t s) (single g.1) ∙ asked-numbered t s n out (sym g.0.0))), refl);
        number-form = asks;
        walking-asking = walks;
      }
    where
      asks : (n : ℕ) (out b : List ℕ) → Gives (number t s b) (Ok tt) (n ∷ []) (b ∷ []) → length out ≡ t + s
          → Gives (form t s n out) (Ok tt) [] (b ∷ [])
      asks n out b g long =
          let said = number-meant b n g in
          let below : n < N t s = omega (arith, said.1, number-below said.0) in
          let answered =
          sym (accepts (checked t s b) (schedule-accepted t s b a said.0) (number_of t s b))
          ∙ ap Ok (sym said.1) in (
            (sym (form-accepted t s a n out below long), refl),
            ap (λ (l : List ℕ). l ∷ []) (sym (numbered-asked t s b n answered out long)),
          )

      walks : (n k : ℕ) (out a' b m : List ℕ) → Gives (form t s n out) (Ok tt) [] (a' ∷ [])
          → Gives (move (run k) t s a') (Ok tt) m (b ∷ [])
          → Gives (form t s ((n + k) % N t s) out) (Ok tt) [] (b ∷ [])
      walks n k out a' b m g h =
          let long = (form-allowed t s n out (sym g.0.0)).1 in
          let short = run_short a' k (taken (judge (run_rows t s a' k)) (worked k a') h.0.0) in
          let walked : b ≡ form_left t s ((n + k) % N t s) out =
          single h.1
          ∙ ap (λ (c : List ℕ). run_left t s c k) (single g.1)
          ∙ walked-asked t s n k out (sym g.0.0) short in (
            (sym (form-accepted t s a ((n + k) % N t s) out (mod-lt (n + k) (N-pos t s a.1)) long), refl),
            ap (λ (l : List ℕ). l ∷ []) walked,
          )

  demand-3 : 2 ≤ t → 1 ≤ s → Demand3 t s
  demand-3 two one =
      record {
        every-form-once = λ b c p q. circle p q;
        start-last = λ b p. circle-start-last p;
        step-changes = λ b p. ⊎_elim (λ four. inr four.0) (λ change. inl change.0) (step-changes two one p);
        round-changes = λ b p. round-changes two one p;
      }

  demand-3-all : Demand3All t s
  demand-3-all =
      record {
        how-many = λ l p. lists-N t s l p;
        counted = (says _ _ (accepts _ (allowed-counts t s a) _), refl);
        all_listed = let l = N-schedules t s in (l.0, l.1);
        run-given = λ b k p h.
            let e = run-taken t s b k (schedule-accepted t s b a p) h in
            (says _ _ (accepts _ e _), leaves _ e _ b);
      }

pub demands : Demands
demands = record {
  first = demand-1;
  second = demand-2;
  third = λ t s a two one. demand-3 t s a two one;
  third-all = demand-3-all;
}
