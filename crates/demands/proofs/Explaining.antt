-- What the calls answer of why a beat moves, for all counts.
--     explaining     it holds of every pair of counts that is allowed [X12]
-- Assumes nothing.
use mathlib.Core.List.{List, [], ◌∷◌}
use mathlib.Core.Path.{◌≡◌, refl, ◌∙◌, ap, sym}
use Prim.Native.Nat.{ℕ}
use lib.ListN.{get_or}
use Rattle.std.proofs.Common.{Ok, Err}
use Rattle.refusal.specs.declared.Refusal.{Refusal}
use Rattle.refusal.specs.Answer.{Verdict, answer, left, value}
use Rattle.refusal.proofs.Theorems.{verdict-answer}
use Rattle.counts.specs.Counts.{Allowed}
use Rattle.schedule.specs.Check.{checked}
use Rattle.schedule.proofs.Theorems.{accepted-schedule, schedule-accepted}
use Rattle.circle.specs.Plan.{Form}
use Rattle.circle.specs.Step as rule
use Rattle.circle.specs.Walk as walk
use Rattle.circle.proofs.Forms.{own-counts}
use Rattle.reason.specs.Explanation.{explanation_of}
use Rattle.reason.specs.Answers.{unless-refused, numbers}
use Rattle.reason.proofs.Theorems.{explains, explains-one, moving-next, changing-next, changed-count}
use Rattle.demands.specs.Calls.{move, next, explain, Gives}
use Rattle.demands.specs.Explaining.{Explaining}

-- what an accepted step says
module _ (t s : ℕ) (b : List ℕ) {c m : List ℕ} (g : Gives (move next t s b) (Ok tt) m (c ∷ [])) where
  passed : checked t s b ≡ Ok tt
  passed = sym (g.0.0 ∙ verdict-answer (checked t s b) (walk.changed b (rule.next b)))

  form : Form b
  form = own-counts (accepted-schedule t s b passed).1

  leaves : rule.next b ≡ c
  leaves =
      ap (λ (v : Verdict). left v (rule.next b) b) (sym passed)
      ∙ sym (ap (λ (l : List (List ℕ)). get_or l 0 []) g.1)

  answers : walk.changed b (rule.next b) ≡ get_or m 0 0
  answers =
      ap (λ (v : Verdict). value (answer v (walk.changed b (rule.next b)))) (sym passed)
      ∙ sym (ap (λ (l : List ℕ). get_or l 0 0) g.0.1)

pub explaining : (t s : ℕ) → Allowed t s → Explaining t s
explaining t s a = record {
  told = λ b q.
      let passed = schedule-accepted t s b a q in (
        explanation_of b,
        explains (own-counts q),
        (
          (sym passed, ap (λ (v : Verdict). numbers (unless-refused v (explanation_of b))) (sym passed)),
          refl,
        ),
      );
  only = λ b e d q x y. explains-one (own-counts q) x ∙ sym (explains-one (own-counts q) y);
  moving-gives = λ b c e m x g. moving-next (form t s b g) x ∙ leaves t s b g;
  changing-gives = λ b c e m x g. changing-next (form t s b g) x ∙ leaves t s b g;
  changed-counted = λ b c e n x g. changed-count (form t s b g) x ∙ answers t s b g;
  refused-alike = alike;
}
  where
    alike : (b : List ℕ) (why : Refusal) (m : List ℕ) → Gives (move next t s b) (Err why) m (b ∷ [])
        → Gives (explain t s b) (Err why) m (b ∷ [])
    alike b why m g =
        let n = walk.changed b (rule.next b) in
        let same = g.0.0 ∙ verdict-answer (checked t s b) n in (
          (
            same,
            g.0.1
                ∙ ap (λ (v : Verdict). value (answer v n) ∷ []) (sym same)
                ∙ ap (λ (v : Verdict). numbers (unless-refused v (explanation_of b))) same,
          ),
          refl,
        )
