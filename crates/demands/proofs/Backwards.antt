-- The press run backwards: each part of specs/Backwards.antt by the law that it cites.
--     backwards     all of them [V13]
-- Assumes nothing.
use mathlib.Core.List.{List, [], ◌∷◌}
use mathlib.Core.Path.{◌≡◌, ◌∙◌, ap, sym}
use Prim.Native.Nat.{ℕ}
use Rattle.refusal.specs.Answer.{Verdict, Answer, verdict, value}
use Rattle.counts.specs.Counts.{Allowed}
use Rattle.schedule.proofs.Theorems.{schedule-accepted}
use Rattle.circle.specs.Back as back
use Rattle.circle.specs.Answers.{next_answer, next_left, run_answer, run_left}
use Rattle.circle.proofs.Forms.{run-taken}
use Rattle.circle.proofs.Backwards.{previous-precedes, circle-back, circle-back-start-last, round-back-changes}
use Rattle.circle_back.specs.Answers.{previous_answer, previous_left, run_back_answer, run_back_left}
use Rattle.circle_back.proofs.Theorems.{next-undone, previous-undone, run-undone, run-back-undone}
use Rattle.demands.specs.Calls.{Says}
use Rattle.demands.specs.Backwards.{Backwards}
use Rattle.demands.proofs.Handed.{says}
use Rattle.demands.proofs.Demands.{accepts, leaves, single}

-- a call that gives a, and leaves c, undone by one that answers and leaves by f and g
undone : {a : Answer} {l b c : List ℕ} {v : Verdict} {m : List ℕ} (f : List ℕ → Answer) (g : List ℕ → List ℕ)
    → (f l ≡ a) × (g l ≡ b) → Says a v m × (c ∷ [] ≡ l ∷ []) → Says (f c) v m × (b ∷ [] ≡ g c ∷ [])
undone f g same given =
    let lent = single given.1 in
    let answered = sym (ap f lent ∙ same.0) in (
      (given.0.0 ∙ ap verdict answered, given.0.1 ∙ ap (λ (x : Answer). value x ∷ []) answered),
      ap (λ (w : List ℕ). w ∷ []) (sym (ap g lent ∙ same.1)),
    )

pub backwards : (t s : ℕ) → Allowed t s → Backwards t s
backwards t s a =
    record {
      previous-given = λ b p.
          let e = schedule-accepted t s b a p in
          (back.previous b, previous-precedes p, (says _ _ (accepts _ e _), leaves _ e _ b));
      run-back-given = λ b k p h.
          let e = run-taken t s b k (schedule-accepted t s b a p) h in
          (says _ _ (accepts _ e _), leaves _ e _ b);
      every-form-once = λ b c p q. circle-back p q;
      start-last = λ b p. circle-back-start-last p;
      round-changes = λ b p. round-back-changes p;
      next-undone = λ b c v m. undone (previous_answer t s) (previous_left t s) (next-undone t s b);
      previous-undone = λ b c v m. undone (next_answer t s) (next_left t s) (previous-undone t s b);
      run-undone = λ b c k v m.
          undone (λ l. run_back_answer t s l k) (λ l. run_back_left t s l k) (run-undone t s b k);
      run-back-undone = λ b c k v m. undone (λ l. run_answer t s l k) (λ l. run_left t s l k) (run-back-undone t s b k);
    }
