-- What an accepted call has been asked: allowed counts, schedules, lists of the right length. So nothing wrong is
-- accepted, the first part of demand 1.
--     taken             the verdict that an answer was made from
--     accepted-counts   the counts of an accepted call are allowed
--     accepted-beats    and the beats that it was asked about are a schedule of them
--     accepted-owed     and what was lent is as long as it has to be
--     call-refused      so what the letter wants refused is not accepted [D1b] [D1e] [D1c]
-- Assumes nothing.
use mathlib.Core.Bool.{true≢false, not}
use mathlib.Core.List.Memᴰ
use mathlib.Core.List.{List, [], ◌∷◌}
use mathlib.Core.Path.{◌≡◌, refl, ◌∙◌, sym, subst}
use Prim.Native.Nat.{ℕ, ◌+◌, ◌≤◌}
use native.Mathlib.Omega.{arith}
use borrow.Author.Tests.{ltb-false}
use lib.Dec.{eqb, ltb}
use lib.ListN.{length}
use Rattle.std.proofs.Common.{Ok}
use Rattle.form.specs.Answers.{number_rows, sheet_verdict}
use Rattle.refusal.specs.declared.Refusal.TheVariants.{UnknownKind, NoRoom, RunTooLong, NotClosed}
use Rattle.refusal.specs.Answer.{Verdict, answer, verdict}
use Rattle.refusal.specs.Rows.{◌⇒◌, judge}
use Rattle.refusal.proofs.Rows.{judge-front, judge-back}
use Rattle.refusal.proofs.Theorems.{verdict-answer, accepted-none}
use Rattle.triangle.specs.Count.{N, largest}
use Rattle.counts.specs.Counts.{Allowed}
use Rattle.counts.proofs.Sizes.{counts-allowed}
use Rattle.schedule.specs.Schedule.{Schedule}
use Rattle.schedule.specs.Check.{check_rows, checked}
use Rattle.schedule.proofs.Theorems.{accepted-schedule}
use Rattle.circle.specs.Answers.{most_steps, run_rows}
use Rattle.form.proofs.Verdicts.{number-allowed, form-allowed}
use Rattle.tree.specs.Table.{Treed, filled, kept}
use Rattle.tree.proofs.Sizes.{sizes-right}
use Rattle.tree.proofs.Theorems.{tree-accepts}
use Rattle.tree_back.specs.Back.{Untreed, found, none, unfit}
use Rattle.outline.specs.Answers.{outline_rows}
use Rattle.outline.proofs.Verdicts.{room-closed}
use Rattle.outline_back.specs.Back.{Back}
use Rattle.outline_back.specs.Back as back
use Rattle.outline_back.proofs.Sizes as back-sizes
use Rattle.record.specs.declared.layout.Layout.{Layout}
use Rattle.record.specs.Bytes.{bytes_for, value_of}
use Rattle.record.specs.Layout.{layout_of, counts_at, is_unwritten}
use Rattle.record.specs.Record.{record_of, room_row, write_rows, known_rows, kind_rows, long, ups_at, downs_at, body_at}
use Rattle.reader.proofs.Heads.{whole_long, body-size}
use Rattle.reader.proofs.Verdicts.{told-verdict}
use Rattle.reader.proofs.Parts.{read-facts}
use Rattle.reader.proofs.Meaning.{numbered-facts, beaten-facts, read-means}
use Rattle.demands.specs.Calls.{Move, next, previous, run, run-back, move_answer, Call, Gives}
use Rattle.demands.specs.Calls.{
  CountsOf,
  of-count,
  of-check,
  of-move,
  of-changed,
  of-explain,
  of_number,
  of-form,
  of-form-on-sheet,
  of_tree,
  of-schedule-of-tree,
  of-outline,
  of-schedule-of-outline,
  of-read,
  of-write,
}
use Rattle.demands.specs.Calls.{
  BeatsOf,
  in-check,
  in-move,
  in-changed,
  in-explain,
  in-number,
  in_tree,
  in-outline,
  in-write,
}
use Rattle.demands.specs.Calls.{
  Owed,
  beats,
  formed,
  left,
  right,
  parent,
  from-left,
  from-right,
  from-parent,
  schedule,
  outlined,
}
use Rattle.demands.specs.Demands.{
  Wrong,
  counts-above,
  more-down,
  bad-beat,
  wrong-length,
  no-form,
  no-form-on-sheet,
  no-form-in-record,
}
use Rattle.demands.specs.Demands.{
  sheet-short,
  places-few,
  room-short,
  text-short,
  size-tiny,
  size-numbered,
  size-beaten,
  cut_record,
}

pub taken : (v : Verdict) (n : ℕ) → (Ok tt) ≡ verdict (answer v n) → v ≡ Ok tt
taken v n e = sym (e ∙ verdict-answer v n)

run-checked : (t s : ℕ) (b : List ℕ) (k : ℕ) → judge (run_rows t s b k) ≡ Ok tt
    → checked t s b ≡ Ok tt
run-checked t s b k e = judge-front (check_rows t s b) ((ltb most_steps k ⇒ RunTooLong) ∷ []) e

move-checked : (way : Move) (t s : ℕ) (b : List ℕ) → (Ok tt) ≡ verdict (move_answer way t s b)
    → checked t s b ≡ Ok tt
move-checked next t s b e = taken _ _ e
move-checked previous t s b e = taken _ _ e
move-checked (run k) t s b e = run-checked t s b k (taken _ _ e)
move-checked (run-back k) t s b e = run-checked t s b k (taken _ _ e)

write_checked : (kind t s : ℕ) (b out : List ℕ) → judge (write_rows kind t s b out) ≡ Ok tt
    → checked t s b ≡ Ok tt
write_checked kind t s b out e =
    let known = (is_unwritten (layout_of kind) ⇒ UnknownKind) ∷ [] in
    let bytes = record_of kind t s b in
    judge-front (check_rows t s b) (room_row bytes out ∷ []) (judge-back known (known_rows t s b bytes out) e)

form-counts : (t s n : ℕ) → judge (number_rows t s n) ≡ Ok tt → Allowed t s
form-counts t s n e = let a = number-allowed t s n e in (a.0, a.1)

sheet-number : (t s n : ℕ) (sheet : List ℕ) (column : ℕ) → sheet_verdict t s n sheet column ≡ Ok tt
    → judge (number_rows t s n) ≡ Ok tt
sheet-number t s n sheet column e =
    judge-front (number_rows t s n) ((ltb (length sheet) (column + t + s) ⇒ NoRoom) ∷ []) e

tree-sized : {n : ℕ} {b l r p x y z : List ℕ} (v : Verdict) → (Ok tt) ≡ v → Treed n b l r p v x y z
    → ((n ≤ largest) × (length b ≡ n + n) × (length l ≡ n) × (length r ≡ n) × (length p ≡ n)) × Schedule n n b
tree-sized {n} {b} {l} {r} {p} v e (filled a q) = tree-accepts n b l r p a
tree-sized v e (kept a) = let z : ◌≡◌ {A = ℕ} 0 1 = cc in absurd (omega arith)

back-sized : {n : ℕ} {l r p b c : List ℕ} (v : Verdict) → (Ok tt) ≡ v → Untreed n l r p b v c
    → (n ≤ largest) × (length b ≡ n + n) × (length l ≡ n) × (length r ≡ n) × (length p ≡ n)
back-sized {n} {l} {r} {p} {b} v e (found a q) = sizes-right n (length b) (length l) (length r) (length p) a
back-sized v e (none a q) = let z : ◌≡◌ {A = ℕ} 0 1 = cc in absurd (omega arith)
back-sized v e (unfit a) = let z : ◌≡◌ {A = ℕ} 0 1 = cc in absurd (omega arith)

outline-checked : (t s : ℕ) (b text : List ℕ) → judge (outline_rows t s b (length text)) ≡ Ok tt
    → checked t s b ≡ Ok tt
outline-checked t s b text e =
    judge-front (check_rows t s b) ((not (eqb t s) ⇒ NotClosed) ∷ []) (room-closed t s b (length text) e).0

outline-sized : {n : ℕ} {text b c : List ℕ} (v : Verdict) → (Ok tt) ≡ v → Back n text b v c
    → (n ≤ largest) × (length b ≡ n + n)
outline-sized {n} {text} {b} v e (back.found o a q i) = back-sizes.sizes-right n (length b) a
outline-sized v e (back.none a q w) = let z : ◌≡◌ {A = ℕ} 0 1 = cc in absurd (omega arith)
outline-sized v e (back.unfit a) = let z : ◌≡◌ {A = ℕ} 0 1 = cc in absurd (omega arith)

pub accepted-counts : {c : Call} {t s : ℕ} (m : List ℕ) (x : List (List ℕ)) → CountsOf c t s
    → Gives c (Ok tt) m x → Allowed t s
accepted-counts m x (of-count {t} {s}) g = counts-allowed t s (taken _ _ g.0.0)
accepted-counts m x (of-check {t} {s} {b}) g = (accepted-schedule t s b (sym g.0.0)).0
accepted-counts m x (of-move {way} {t} {s} {b}) g = (accepted-schedule t s b (move-checked way t s b g.0.0)).0
accepted-counts m x (of-changed {way} {t} {s} {b}) g = (accepted-schedule t s b (move-checked way t s b g.0.0)).0
accepted-counts m x (of-explain {t} {s} {b}) g = (accepted-schedule t s b (sym g.0.0)).0
accepted-counts m x (of_number {t} {s} {b}) g = (accepted-schedule t s b (taken _ _ g.0.0)).0
accepted-counts m x (of-form {t} {s} {n} {out}) g = form-counts t s n (form-allowed t s n out (sym g.0.0)).0
accepted-counts m x (of-form-on-sheet {t} {s} {n} {sheet} {column}) g =
    form-counts t s n (sheet-number t s n sheet column (sym g.0.0))
accepted-counts m x of_tree g = ((tree-sized _ refl g.3).0.0, omega arith)
accepted-counts m x of-schedule-of-tree g = ((back-sized _ refl g.1).0, omega arith)
accepted-counts m x (of-outline {t} {s} {b} {text}) g =
    (accepted-schedule t s b (outline-checked t s b text (taken _ _ g.0.0))).0
accepted-counts m x of-schedule-of-outline g = ((outline-sized _ refl g.1).0, omega arith)
accepted-counts m x (of-read {src} {out}) g =
    (read-means src (length out) (sym (g.0.0 ∙ told-verdict _ _ _ _ _))).allowed
accepted-counts m x (of-write {kind} {t} {s} {b} {out}) g =
    (accepted-schedule t s b (write_checked kind t s b out (taken _ _ g.0.0))).0

pub accepted-beats : {c : Call} {t s : ℕ} {b : List ℕ} (m : List ℕ) (x : List (List ℕ)) → CountsOf c t s → BeatsOf c b
    → Gives c (Ok tt) m x → Schedule t s b
accepted-beats m x (of-check {t} {s} {b}) in-check g = (accepted-schedule t s b (sym g.0.0)).1
accepted-beats m x (of-move {way} {t} {s} {b}) in-move g =
    (accepted-schedule t s b (move-checked way t s b g.0.0)).1
accepted-beats m x (of-changed {way} {t} {s} {b}) in-changed g =
    (accepted-schedule t s b (move-checked way t s b g.0.0)).1
accepted-beats m x (of-explain {t} {s} {b}) in-explain g = (accepted-schedule t s b (sym g.0.0)).1
accepted-beats m x (of_number {t} {s} {b}) in-number g = (accepted-schedule t s b (taken _ _ g.0.0)).1
accepted-beats m x of_tree in_tree g = (tree-sized _ refl g.3).1
accepted-beats m x (of-outline {t} {s} {b} {text}) in-outline g =
    (accepted-schedule t s b (outline-checked t s b text (taken _ _ g.0.0))).1
accepted-beats m x (of-write {kind} {t} {s} {b} {out}) in-write g =
    (accepted-schedule t s b (write_checked kind t s b out (taken _ _ g.0.0))).1
accepted-beats m x of-count about g = elim about [ ]
accepted-beats m x of-form about g = elim about [ ]
accepted-beats m x of-form-on-sheet about g = elim about [ ]
accepted-beats m x of-schedule-of-tree about g = elim about [ ]
accepted-beats m x of-schedule-of-outline about g = elim about [ ]
accepted-beats m x of-read about g = elim about [ ]

-- the counts of a call that is asked about beats
asked-counts : {c : Call} {b : List ℕ} → BeatsOf c b → (t : ℕ) × (s : ℕ) × CountsOf c t s
asked-counts in-check = (_, _, of-check)
asked-counts in-move = (_, _, of-move)
asked-counts in-changed = (_, _, of-changed)
asked-counts in-explain = (_, _, of-explain)
asked-counts in-number = (_, _, of_number)
asked-counts in_tree = (_, _, of_tree)
asked-counts in-outline = (_, _, of-outline)
asked-counts in-write = (_, _, of-write)

pub accepted-owed : {c : Call} {l : List ℕ} {n : ℕ} (m : List ℕ) (x : List (List ℕ)) → Owed c l n
    → Gives c (Ok tt) m x → length l ≡ n
accepted-owed m x (beats cs bs) g = (accepted-beats m x cs bs g).size
accepted-owed m x (formed {t} {s} {n} {out}) g = (form-allowed t s n out (sym g.0.0)).1
accepted-owed m x left g = (tree-sized _ refl g.3).0.2
accepted-owed m x right g = (tree-sized _ refl g.3).0.3
accepted-owed m x parent g = (tree-sized _ refl g.3).0.4
accepted-owed m x from-left g = (back-sized _ refl g.1).2
accepted-owed m x from-right g = (back-sized _ refl g.1).3
accepted-owed m x from-parent g = (back-sized _ refl g.1).4
accepted-owed m x schedule g = (back-sized _ refl g.1).1
accepted-owed m x outlined g = (outline-sized _ refl g.1).1

pub call-refused : (c : Call) (m : List ℕ) (x : List (List ℕ)) → Wrong c → Gives c (Ok tt) m x → ⊥
call-refused c m x (counts-above cs h) g = omega (arith, (accepted-counts m x cs g).0)
call-refused c m x (more-down cs h) g = omega (arith, (accepted-counts m x cs g).1)
call-refused c m x (bad-beat bs k h w) g = omega (arith, (accepted-beats m x (asked-counts bs).2 bs g).beats k h)
call-refused c m x (wrong-length o d) g = d (accepted-owed m x o g)
call-refused c m x (no-form {t} {s} {n} {out} h) g =
    omega (arith, (number-allowed t s n (form-allowed t s n out (sym g.0.0)).0).2)
call-refused c m x (no-form-on-sheet {t} {s} {n} {sheet} {column} h) g =
    omega (arith, (number-allowed t s n (sheet-number t s n sheet column (sym g.0.0))).2)
call-refused c m x (no-form-in-record {src} {out} {at} {by} k h) g =
    let rows = (read-facts (length out) src (sym (g.0.0 ∙ told-verdict _ _ _ _ _))).4 in
    let above : N (ups_at at src) (downs_at at src) ≤ value_of (body_at at src) =
    subst (λ (j : Layout). N (ups_at (counts_at j) src) (downs_at (counts_at j) src) ≤ value_of
    (body_at (counts_at j) src)) k
    h in
    omega (
      arith,
      above,
      (numbered-facts at src by (subst (λ (j : Layout). judge (kind_rows j src) ≡ Ok tt) k rows)).2,
    )
call-refused c m x (sheet-short {t} {s} {n} {sheet} {column} h) g =
    let row = ltb (length sheet) (column + t + s) ⇒ NoRoom in
    let fits =
    accepted-none (row ∷ []) (judge-back (number_rows t s n) (row ∷ []) (sym g.0.0)) row (Memᴰ.head refl) in
    omega (arith, ltb-false (length sheet) (column + t + s) fits)
call-refused c m x (places-few {src} {out} h) g =
    omega (arith, (read-facts (length out) src (sym (g.0.0 ∙ told-verdict _ _ _ _ _))).0)
call-refused c m x (room-short {kind} {t} {s} {b} {out} h) g =
    let bytes = record_of kind t s b in
    let row = room_row bytes out in
    let known = (is_unwritten (layout_of kind) ⇒ UnknownKind) ∷ [] in
    let rows = judge-back known (known_rows t s b bytes out) (taken _ _ g.0.0) in
    let last = judge-back (check_rows t s b) (row ∷ []) rows in
    omega (
      arith,
      ltb-false (length out) (length (record_of kind t s b)) (accepted-none (row ∷ []) last row (Memᴰ.head refl)),
    )
call-refused c m x (text-short {t} {s} {b} {text} h) g =
    omega (arith, (room-closed t s b (length text) (taken _ _ g.0.0)).1)
call-refused c m x (size-tiny {src} {out} h) g =
    omega (arith, (read-facts (length out) src (sym (g.0.0 ∙ told-verdict _ _ _ _ _))).2)
call-refused c m x (size-numbered {src} {out} {at} {by} k d) g =
    let rows = (read-facts (length out) src (sym (g.0.0 ∙ told-verdict _ _ _ _ _))).4 in
    d (numbered-facts at src by (subst (λ (j : Layout). judge (kind_rows j src) ≡ Ok tt) k rows)).0
call-refused c m x (size-beaten {src} {out} {at} k d) g =
    let facts = read-facts (length out) src (sym (g.0.0 ∙ told-verdict _ _ _ _ _)) in
    let fit = beaten-facts at src (subst (λ (j : Layout). judge (kind_rows j src) ≡ Ok tt) k facts.4) in
    let size = body-size src at fit.reaches (whole_long src facts.1).1 in
    let exact : long src ≡ at + bytes_for (ups_at at src + downs_at at src) =
    omega (arith, size, fit.exact, fit.reaches) in
    d
    (subst (λ (j : Layout). long src ≡ at + bytes_for (ups_at (counts_at j) src + downs_at (counts_at j) src)) (sym k)
    exact)
call-refused c m x (cut_record {src} {out} h) g =
    true≢false (sym h ∙ (read-facts (length out) src (sym (g.0.0 ∙ told-verdict _ _ _ _ _))).1)
