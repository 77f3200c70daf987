-- What holds of every call, by the words of its contract: the parts of demand 1.
--     call-unchanged     a refused call leaves all that was lent as it was [D1d] [R7]
--     call-silent        and answers 0 for every number but the bytes that a read record takes [R7]
--     call-one           no second verdict, number or content fits the contract [P2]
-- Assumes nothing.
use mathlib.Core.List.{List, [], ◌∷◌}
use mathlib.Core.Path.{◌≡◌, refl, ◌∙◌, ap, sym}
use Prim.Native.Nat.{ℕ, zero, suc}
use native.Mathlib.Omega.{arith}
use lib.ListN.{length, get_or, take}
use Rattle.std.proofs.Common.{Ok, Err}
use Rattle.refusal.specs.Answer.{Verdict, Answer, answer, verdict, left}
use Rattle.refusal.specs.declared.Refusal.{Refusal}
use Rattle.refusal.specs.Rows.{judge}
use Rattle.refusal.proofs.Theorems.{verdict-answer}
use Rattle.counts.specs.Counts.{counting}
use Rattle.schedule.specs.Check.{checked}
use Rattle.circle.specs.Answers.{run_rows}
use Rattle.circle.specs.Step as rule
use Rattle.circle.specs.Walk as walk
use Rattle.circle.specs.Back as back
use Rattle.reason.specs.Explanation.{explanation_of}
use Rattle.reason.specs.Answers.{unless-refused, numbers}
use Rattle.number.specs.Answers.{number_answer}
use Rattle.tree.specs.Table.{Treed, filled, kept}
use Rattle.tree.proofs.Theorems.{treed-one}
use Rattle.tree_back.specs.Back.{Untreed, found, none, unfit}
use Rattle.tree_back.proofs.Theorems.{untreed-one}
use Rattle.outline.specs.Text.{printed}
use Rattle.outline.specs.Answers.{outline_rows, outline_answer}
use Rattle.outline_back.specs.Back.{Back}
use Rattle.outline_back.specs.Back as outlined
use Rattle.outline_back.proofs.Theorems.{back_one}
use Rattle.record.specs.Record.{record_of, write_rows, write_answer, read_rows}
use Rattle.record.specs.Parts.{Reading}
use Rattle.reader.specs.Answers.{read_answer}
use Rattle.record.specs.Parts as said
use Rattle.reader.proofs.Verdicts.{told-verdict}
use Rattle.demands.specs.Calls.{
  Call,
  count,
  check,
  next,
  previous,
  run,
  run-back,
  move_answer,
  move,
  changed,
  explain,
  number,
  form,
  form-on-sheet,
  tree,
  schedule-of-tree,
  outline,
  schedule-of-outline,
  read,
  write,
  lent,
  Says,
  Gives,
  silenced,
}

-- a refused call leaves what was lent
still : {why : Refusal} (v : Verdict) → Err why ≡ v → (done lent : List ℕ) → left v done lent ≡ lent
still (Ok unit) e done l = let z : ◌≡◌ {A = ℕ} 0 1 = cc in absurd (omega arith)
still (Err why) e done l = refl

-- and so does one that answers a number by its verdict, and works in one list
stayed : {why : Refusal} {x : List (List ℕ)} (v : Verdict) (n : ℕ) (done b : List ℕ)
    → Err why ≡ verdict (answer v n) → x ≡ left v done b ∷ [] → x ≡ b ∷ []
stayed v n done b e f = f ∙ ap (λ (l : List ℕ). l ∷ []) (still v (e ∙ verdict-answer v n) done b)

tree-kept : {n : ℕ} {b l r p x y z : List ℕ} {why : Refusal} (v : Verdict) → Err why ≡ v
    → Treed n b l r p v x y z → (x ≡ l) × (y ≡ r) × (z ≡ p)
tree-kept v e (filled a q) = let z : ◌≡◌ {A = ℕ} 0 1 = cc in absurd (omega arith)
tree-kept v e (kept a) = (refl, refl, refl)

back-kept : {n : ℕ} {l r p b c : List ℕ} {why : Refusal} (v : Verdict) → Err why ≡ v → Untreed n l r p b v c
    → c ≡ b
back-kept v e (found a q) = let z : ◌≡◌ {A = ℕ} 0 1 = cc in absurd (omega arith)
back-kept v e (none a q) = refl
back-kept v e (unfit a) = refl

outline-kept : {n : ℕ} {text b c : List ℕ} {why : Refusal} (v : Verdict) → Err why ≡ v → Back n text b v c
    → c ≡ b
outline-kept v e (outlined.found o a q i) = let z : ◌≡◌ {A = ℕ} 0 1 = cc in absurd (omega arith)
outline-kept v e (outlined.none a q w) = refl
outline-kept v e (outlined.unfit a) = refl

pub call-unchanged : (c : Call) (why : Refusal) (m : List ℕ) (x : List (List ℕ)) → Gives c (Err why) m x
    → x ≡ lent c
call-unchanged (count t s) why m x g = g.1
call-unchanged (check t s b) why m x g = g.1
call-unchanged (move next t s b) why m x g =
    stayed (checked t s b) (walk.changed b (rule.next b)) (rule.next b) b g.0.0 g.1
call-unchanged (move previous t s b) why m x g =
    stayed (checked t s b) (walk.changed b (back.previous b)) (back.previous b) b g.0.0 g.1
call-unchanged (move (run k) t s b) why m x g =
    stayed (judge (run_rows t s b k)) (walk.worked k b) (walk.steps k b) b g.0.0 g.1
call-unchanged (move (run-back k) t s b) why m x g =
    stayed (judge (run_rows t s b k)) (back.worked_back k b) (back.steps_back k b) b g.0.0 g.1
call-unchanged (changed way t s b) why m x g = g.1
call-unchanged (explain t s b) why m x g = g.1
call-unchanged (number t s b) why m x g = g.1
call-unchanged (form t s n out) why m x g = g.1 ∙ ap (λ (l : List ℕ). l ∷ []) (still _ g.0.0 _ out)
call-unchanged (form-on-sheet t s n sheet column) why m x g =
    g.1 ∙ ap (λ (l : List ℕ). l ∷ []) (still _ g.0.0 _ sheet)
call-unchanged (tree n b l r p) why m x g =
    let same = tree-kept (Err why) refl g.3 in
    g.5
    ∙ ap (λ (w : List ℕ). b ∷ w ∷ g.1 ∷ g.2 ∷ []) same.0
    ∙ ap (λ (w : List ℕ). b ∷ l ∷ w ∷ g.2 ∷ []) same.1
    ∙ ap (λ (w : List ℕ). b ∷ l ∷ r ∷ w ∷ []) same.2
call-unchanged (schedule-of-tree n l r p out) why m x g =
    g.3 ∙ ap (λ (w : List ℕ). l ∷ r ∷ p ∷ w ∷ []) (back-kept (Err why) refl g.1)
call-unchanged (outline t s b text) why m x g =
    let v = judge (outline_rows t s b (length text)) in
    g.1 ∙ ap (λ (w : List ℕ). b ∷ w ∷ []) (still v (g.0.0 ∙ verdict-answer v (length (printed b))) _ text)
call-unchanged (schedule-of-outline n text out) why m x g =
    g.3 ∙ ap (λ (w : List ℕ). text ∷ w ∷ []) (outline-kept (Err why) refl g.1)
call-unchanged (read src out) why m x g =
    let v = judge (read_rows (length out) src) in
    g.1 ∙ ap (λ (w : List ℕ). src ∷ w ∷ []) (still v (g.0.0 ∙ told-verdict _ _ _ _ v) _ out)
call-unchanged (write kind t s b out) why m x g =
    let v = judge (write_rows kind t s b out) in
    g.1 ∙ ap (λ (w : List ℕ). b ∷ w ∷ []) (still v (g.0.0 ∙ verdict-answer v (length (record_of kind t s b))) _ out)

-- a refused call answers 0
no_value : (a : Answer) (why : Refusal) (m : List ℕ) → Says a (Err why) m → (i : ℕ) → get_or m i 0 ≡ 0
no_value (Ok n) why m q i = let z : ◌≡◌ {A = ℕ} 0 1 = let e = q.0 in cc in absurd (omega arith)
no_value (Err r) why m q i = ap (λ (l : List ℕ). get_or l i 0) q.1 ∙ zeros i
  where
    zeros : (i : ℕ) → ◌≡◌ {A = ℕ} (get_or (0 ∷ []) i 0) 0
    zeros zero = refl
    zeros (suc i) = refl

no-numbers : (m : List ℕ) → m ≡ [] → (i : ℕ) → get_or m i 0 ≡ 0
no-numbers m e i = ap (λ (l : List ℕ). get_or l i 0) e

pub call-silent : (c : Call) (why : Refusal) (m : List ℕ) (x : List (List ℕ)) → Gives c (Err why) m x
    → (i : ℕ) → get_or (silenced c m) i 0 ≡ 0
call-silent (count t s) why m x g i = no_value (counting t s) why m g.0 i
call-silent (check t s b) why m x g i = no-numbers m g.0.1 i
call-silent (move way t s b) why m x g i = no_value (move_answer way t s b) why m g.0 i
call-silent (changed way t s b) why m x g i = no_value (move_answer way t s b) why m g.0 i
call-silent (explain t s b) why m x g i = by (checked t s b) g.0.0 g.0.1
  where
    zeros : (i : ℕ) → ◌≡◌ {A = ℕ} (get_or (0 ∷ []) i 0) 0
    zeros zero = refl
    zeros (suc i) = refl

    by : (v : Verdict) → Err why ≡ v → m ≡ numbers (unless-refused v (explanation_of b)) → get_or m i 0 ≡ 0
    by (Ok unit) e f = let z : ◌≡◌ {A = ℕ} 0 1 = cc in absurd (omega arith)
    by (Err r) e f = ap (λ (l : List ℕ). get_or l i 0) f ∙ zeros i
call-silent (number t s b) why m x g i = no_value (number_answer t s b) why m g.0 i
call-silent (form t s n out) why m x g i = no-numbers m g.0.1 i
call-silent (form-on-sheet t s n sheet column) why m x g i = no-numbers m g.0.1 i
call-silent (tree n b l r p) why m x g i = no-numbers m g.4 i
call-silent (schedule-of-tree n l r p out) why m x g i = no-numbers m g.2 i
call-silent (outline t s b text) why m x g i = no_value (outline_answer t s b text) why m g.0 i
call-silent (schedule-of-outline n text out) why m x g i = no-numbers m g.2 i
call-silent (read src out) why m x g i = by (read_answer src out) g.0.0 g.0.1
  where
    zeros : (i : ℕ) → ◌≡◌ {A = ℕ} (get_or (0 ∷ 0 ∷ 0 ∷ []) i 0) 0
    zeros zero = refl
    zeros (suc zero) = refl
    zeros (suc (suc zero)) = refl
    zeros (suc (suc (suc i))) = refl

    by : (a : Reading) → Err why ≡ said.verdict a
        → m ≡ said.t a ∷ said.s a ∷ said.number a ∷ said.consumed a ∷ [] → get_or (take 3 m) i 0 ≡ 0
    by (Ok o) e f = let z : ◌≡◌ {A = ℕ} 0 1 = cc in absurd (omega arith)
    by (Err u) e f = ap (λ (l : List ℕ). get_or (take 3 l) i 0) f ∙ zeros i
call-silent (write kind t s b out) why m x g i = no_value (write_answer kind t s b out) why m g.0 i

-- no second answer
same : {v w a : Verdict} {m k n : List ℕ} {x y z : List (List ℕ)} → ((v ≡ a) × (m ≡ n)) × (x ≡ z)
    → ((w ≡ a) × (k ≡ n)) × (y ≡ z) → (v ≡ w) × (m ≡ k) × (x ≡ y)
same g h = (g.0.0 ∙ sym h.0.0, g.0.1 ∙ sym h.0.1, g.1 ∙ sym h.1)

pub call-one : (c : Call) (v w : Verdict) (m k : List ℕ) (x y : List (List ℕ)) → Gives c v m x → Gives c w k y
    → (v ≡ w) × (m ≡ k) × (x ≡ y)
call-one (count t s) v w m k x y g h = same g h
call-one (check t s b) v w m k x y g h = same g h
call-one (move way t s b) v w m k x y g h = same g h
call-one (changed way t s b) v w m k x y g h = same g h
call-one (explain t s b) v w m k x y g h = same g h
call-one (number t s b) v w m k x y g h = same g h
call-one (form t s n out) v w m k x y g h = same g h
call-one (form-on-sheet t s n sheet column) v w m k x y g h = same g h
call-one (tree n b l r p) v w m k x y g h =
    let same = treed-one g.3 h.3 in (
      same.0,
      g.4 ∙ sym h.4,
      g.5
          ∙ ap (λ (a : List ℕ). b ∷ a ∷ g.1 ∷ g.2 ∷ []) same.1
          ∙ ap (λ (a : List ℕ). b ∷ h.0 ∷ a ∷ g.2 ∷ []) same.2
          ∙ ap (λ (a : List ℕ). b ∷ h.0 ∷ h.1 ∷ a ∷ []) same.3
          ∙ sym h.5,
    )
call-one (schedule-of-tree n l r p out) v w m k x y g h =
    let same = untreed-one g.1 h.1 in
    (same.0, g.2 ∙ sym h.2, g.3 ∙ ap (λ (a : List ℕ). l ∷ r ∷ p ∷ a ∷ []) same.1 ∙ sym h.3)
call-one (outline t s b text) v w m k x y g h = same g h
call-one (schedule-of-outline n text out) v w m k x y g h =
    let same = back_one g.1 h.1 in
    (same.0, g.2 ∙ sym h.2, g.3 ∙ ap (λ (a : List ℕ). text ∷ a ∷ []) same.1 ∙ sym h.3)
call-one (read src out) v w m k x y g h = same g h
call-one (write kind t s b out) v w m k x y g h = same g h
