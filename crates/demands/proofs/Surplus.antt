-- Every call that answers 6 says how far the ones are off, and no other answer says anything of them.
--     passes_on     it holds of every call [Q8]
--     off-by-none   so no call is refused 6 with a surplus of 0 [Q9]
--     off-1010      and the check of 1010 for (3,1) says −1 and nothing else: not 1, which a sign exchanged, the
--                   magnitude alone and the zeros over s would give [Q9]
-- Assumes nothing.
use mathlib.Core.Bool.{true, not}
use mathlib.Core.List.{List, [], ◌∷◌}
use mathlib.Core.Path.{◌≡◌, refl, ◌∙◌, ap, subst, sym}
use Prim.Native.Nat.{ℕ}
use native.Mathlib.Omega.{arith}
use lib.Dec.{eqb, ltb}
use lib.IntN.{ℤ, pos, negsuc}
use lib.ListN.{length}
use Rattle.std.proofs.Common.{Err}
use Rattle.refusal.specs.declared.Refusal.TheVariants.{WrongTakeUps, NoRoom, RunTooLong, NotClosed}
use Rattle.refusal.specs.Answer.{Verdict, refusal, surplus, verdict, answer}
use Rattle.refusal.specs.Rows.{Row, ◌⇒◌, judge}
use Rattle.refusal.proofs.Rows.{All, all_join}
use Rattle.refusal.proofs.Theorems.{Six, six-given, sixless, sixless-all, surplus-else, verdict-answer}
use Rattle.triangle.specs.Count.{N}
use Rattle.counts.specs.Counts.{count_rows}
use Rattle.schedule.specs.Check.{check_rows, play_rows}
use Rattle.schedule.specs.Meaning.{Off}
use Rattle.schedule.proofs.Cases.{checked-1010}
use Rattle.schedule.proofs.Surplus.{play-sixes, check-sixes}
use Rattle.circle.specs.Answers.{most_steps, run_rows}
use Rattle.form.specs.Answers.{form_rows, sheet_rows}
use Rattle.tree.specs.Table.{Treed, filled, kept, tree_rows, lent_rows}
use Rattle.tree_back.specs.Back.{Untreed, found, none, unfit}
use Rattle.outline.specs.Text.{printed}
use Rattle.outline.specs.Answers.{closed_rows, outline_rows}
use Rattle.outline_back.specs.Back.{Back, back_rows}
use Rattle.outline_back.specs.Back as outlined
use Rattle.record.specs.Record.{read_rows, room_row, record_of, write_rows}
use Rattle.reader.proofs.Sixes.{read-sixes}
use Rattle.reader.proofs.Verdicts.{told-verdict}
use Rattle.demands.specs.Calls.{
  Call,
  count,
  check,
  Move,
  next,
  previous,
  run,
  run-back,
  move_answer,
  move,
  changed,
  explain,
  number,
  form,
  form-on-sheet,
  tree,
  schedule-of-tree,
  outline,
  schedule-of-outline,
  read,
  write,
  Gives,
  of-check,
  of-move,
  of-changed,
  of-explain,
  of_number,
  of_tree,
  of-outline,
  of-write,
  in-check,
  in-move,
  in-changed,
  in-explain,
  in-number,
  in_tree,
  in-outline,
  in-write,
}
use Rattle.demands.specs.Surplus.{About, lent-to, packed, Passes}

-- what a call says whose verdict is that of an order in which every 6 says how far the ones of some beats are off
module _ {c : Call} {t : ℕ} {b : List ℕ} (about : About c t b) (rows : List Row)
    (sixes : All (Six (Off t b)) rows) where
  says : {v : Verdict} → v ≡ judge rows → refusal v ≡ 6 → (u : ℕ) × (a : List ℕ) × About c u a × Off u a (surplus v)
  says e six =
      let off = six-given (Off t b) rows sixes (ap refusal (sym e) ∙ six) in
      (t, b, about, subst (λ (w : Verdict). Off t b (surplus w)) (sym e) off)

  -- the same of one that answers a number by that verdict
  answers : {v : Verdict} (n : ℕ) → v ≡ verdict (answer (judge rows) n) → refusal v ≡ 6
      → (u : ℕ) × (a : List ℕ) × About c u a × Off u a (surplus v)
  answers n e = says (e ∙ verdict-answer (judge rows) n)

-- an order with no 6 gives none
never : {A : Type 0} (rows : List Row) → sixless rows ≡ true → {v : Verdict} → v ≡ judge rows → refusal v ≡ 6 → A
never rows free e six =
    absurd (six-given (λ z. ⊥) rows (sixless-all (λ z. ⊥) rows free) (ap refusal (sym e) ∙ six))

-- of what the order of each call says, the 6 is of the check's last row
run-sixes : (t s : ℕ) (b : List ℕ) (k : ℕ) → All (Six (Off t b)) (run_rows t s b k)
run-sixes t s b k =
    let long = (ltb most_steps k ⇒ RunTooLong) ∷ [] in
    all_join (Six (Off t b)) (check_rows t s b) long (check-sixes t b s) (sixless-all (Off t b) long refl)

move-six : {c : Call} (way : Move) (t s : ℕ) (b : List ℕ) → About c t b → {v : Verdict}
    → v ≡ verdict (move_answer way t s b) → refusal v ≡ 6 → (u : ℕ) × (a : List ℕ) × About c u a × Off u a (surplus v)
move-six next t s b about = answers about (check_rows t s b) (check-sixes t b s) _
move-six previous t s b about = answers about (check_rows t s b) (check-sixes t b s) _
move-six (run k) t s b about = answers about (run_rows t s b k) (run-sixes t s b k) _
move-six (run-back k) t s b about = answers about (run_rows t s b k) (run-sixes t s b k) _

write-sixes : (kind t s : ℕ) (b out : List ℕ) → All (Six (Off t b)) (write_rows kind t s b out)
write-sixes kind t s b out =
    let short = room_row (record_of kind t s b) out ∷ [] in
    let known = sixless-all (Off t b) short refl in
    (λ so six. absurd (omega arith), all_join (Six (Off t b)) (check_rows t s b) short (check-sixes t b s) known)

outline-sixes : (t s : ℕ) (b : List ℕ) (room : ℕ) → All (Six (Off t b)) (outline_rows t s b room)
outline-sixes t s b room =
    let unclosed = (not (eqb t s) ⇒ NotClosed) ∷ [] in
    let short = (ltb room (length (printed b)) ⇒ NoRoom) ∷ [] in
    let free = sixless-all (Off t b) unclosed refl in
    let closed = all_join (Six (Off t b)) (check_rows t s b) unclosed (check-sixes t b s) free in
    all_join (Six (Off t b)) (closed_rows t s b) short closed (sixless-all (Off t b) short refl)

tree-sixes : (n : ℕ) (b l r p : List ℕ) → All (Six (Off n b)) (tree_rows n b l r p)
tree-sixes n b l r p =
    let sizes = lent_rows n b l r p in
    all_join (Six (Off n b)) sizes (play_rows n b) (sixless-all (Off n b) sizes refl) (play-sixes n b)

tree-six : {n : ℕ} {b l r p l' r' p' : List ℕ} {v : Verdict} → Treed n b l r p v l' r' p' → refusal v ≡ 6
    → (t : ℕ) × (a : List ℕ) × About (tree n b l r p) t a × Off t a (surplus v)
tree-six (filled e q) six = absurd (omega arith)
tree-six {n} {b} {l} {r} {p} (kept e) six =
    says (lent-to of_tree in_tree) (tree_rows n b l r p) (tree-sixes n b l r p) (sym e) six

back-six : {A : Type 0} {n : ℕ} {l r p b b' : List ℕ} {v : Verdict} → Untreed n l r p b v b' → refusal v ≡ 6 → A
back-six (found e q) six = absurd (omega arith)
back-six (none e q) six = absurd (omega arith)
back-six {n = n} {l = l} {r = r} {p = p} {b = b} (unfit e) six =
    never (lent_rows n b l r p) refl (sym e) six

outline-six : {A : Type 0} {n : ℕ} {text b b' : List ℕ} {v : Verdict} → Back n text b v b' → refusal v ≡ 6 → A
outline-six (outlined.found o e q i) six = absurd (omega arith)
outline-six (outlined.none e q w) six = absurd (omega arith)
outline-six {n = n} {b = b} (outlined.unfit e) six = never (back_rows n (length b)) refl (sym e) six

passes-six : (c : Call) (v : Verdict) (m : List ℕ) (x : List (List ℕ)) → Gives c v m x → refusal v ≡ 6
    → (t : ℕ) × (b : List ℕ) × About c t b × Off t b (surplus v)
passes-six (count t s) v m x g =
    never (count_rows t s) refl (g.0.0 ∙ verdict-answer (judge (count_rows t s)) (N t s))
passes-six (check t s b) v m x g = says (lent-to of-check in-check) (check_rows t s b) (check-sixes t b s) g.0.0
passes-six (move way t s b) v m x g = move-six way t s b (lent-to of-move in-move) g.0.0
passes-six (changed way t s b) v m x g = move-six way t s b (lent-to of-changed in-changed) g.0.0
passes-six (explain t s b) v m x g =
    says (lent-to of-explain in-explain) (check_rows t s b) (check-sixes t b s) g.0.0
passes-six (number t s b) v m x g =
    answers (lent-to of_number in-number) (check_rows t s b) (check-sixes t b s) _ g.0.0
passes-six (form t s n out) v m x g = never (form_rows t s n out) refl g.0.0
passes-six (form-on-sheet t s n sheet column) v m x g = never (sheet_rows t s n sheet column) refl g.0.0
passes-six (tree n b l r p) v m x g = tree-six g.3
passes-six (schedule-of-tree n l r p out) v m x g = back-six g.1
passes-six (outline t s b text) v m x g =
    answers (lent-to of-outline in-outline) (outline_rows t s b (length text)) (outline-sixes t s b (length text)) _
    g.0.0
passes-six (schedule-of-outline n text out) v m x g = outline-six g.1
passes-six (read src out) v m x g =
    let rows = read_rows (length out) src in
    says packed rows (read-sixes (length out) src) (g.0.0 ∙ told-verdict _ _ _ _ (judge rows))
passes-six (write kind t s b out) v m x g =
    answers (lent-to of-write in-write) (write_rows kind t s b out) (write-sixes kind t s b out) _ g.0.0

pub passes_on : (c : Call) → Passes c
passes_on c = record { six = passes-six c; other = λ v m x g. surplus-else v }

pub off-by-none : (c : Call) (m : List ℕ) (x : List (List ℕ)) → Gives c (Err (WrongTakeUps (pos 0))) m x → ⊥
off-by-none c m x g = ((passes_on c).six _ m x g refl).3.some refl

pub off-1010 : (z : ℤ) (m : List ℕ) (x : List (List ℕ))
    → Gives (check 3 1 (1 ∷ 0 ∷ 1 ∷ 0 ∷ [])) (Err (WrongTakeUps z)) m x → z ≡ negsuc 0
off-1010 z m x g = ap surplus (g.0.0 ∙ checked-1010)
