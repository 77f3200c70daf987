-- What the calls answer and leave of outlines, as specs/Outlines.antt has it.
--     outlines     all of it [H17]
-- Assumes nothing.
use mathlib.Core.List.{List, [], ◌∷◌, ◌++◌}
use mathlib.Core.Path.{◌≡◌, refl, ◌∙◌, ap, sym, subst}
use Prim.Native.Nat.{ℕ, ◌+◌, ◌≤◌}
use native.Mathlib.Omega.{arith}
use lib.ListN.{length, get_or, take, drop}
use lib.Seq.{take_at}
use Rattle.std.proofs.Common.{Ok, Err}
use Rattle.refusal.specs.declared.Refusal.{Refusal}
use Rattle.refusal.specs.declared.Refusal.TheVariants.{NoSuchOutline}
use Rattle.refusal.specs.Answer.{Verdict, answer, value, left}
use Rattle.refusal.specs.Rows.{judge}
use Rattle.refusal.proofs.Rows.{both}
use Rattle.triangle.specs.Count.{largest}
use Rattle.schedule.specs.Schedule.{Schedule}
use Rattle.schedule.proofs.Theorems.{schedule-accepted}
use Rattle.tree.specs.Parse.{grow, parse, foremost, tree_of}
use Rattle.outline.specs.Outline.{Outline, headings, schedule, planted, outline_of}
use Rattle.outline.specs.Text.{lines, text, printed}
use Rattle.outline.specs.Answers.{outline_rows, outline_answer, outline_left}
use Rattle.outline.proofs.Schedules.{schedule-closed, outline-schedule, outline-size}
use Rattle.outline.proofs.Verdicts.{closed-refused, closed-open, closed-closed, closed-schedule}
use Rattle.outline.proofs.Verdicts.{room-refused, room-short, room-closed}
use Rattle.outline_back.specs.Back.{back_rows, Back, found, none, unfit, Wrong}
use Rattle.outline_back.proofs.Sizes.{right-length}
use Rattle.outline_back.proofs.Sizes as sizes
use Rattle.outline_back.proofs.Theorems.{way-there, back-and-there}
use Rattle.demands.specs.Calls.{outline, schedule-of-outline, Gives}
use Rattle.demands.specs.Outlines.{Writes, Outlines}
use Rattle.demands.proofs.Accepted.{taken}
use Rattle.demands.proofs.Handed.{says, behind}

-- the second of two lists
second : {b c x y : List ℕ} → ◌≡◌ {A = List (List ℕ)} (b ∷ x ∷ []) (c ∷ y ∷ []) → x ≡ y
second e = ap (λ (l : List (List ℕ)). get_or l 1 []) e

-- a call that answers and leaves so
gives : (t s : ℕ) (b text done : List ℕ) (n : ℕ)
    → (outline_answer t s b text ≡ Ok n) × (outline_left t s b text ≡ done)
    → Gives (outline t s b text) (Ok tt) (n ∷ []) (b ∷ done ∷ [])
gives t s b text done n e = (says _ _ (sym e.0), behind b _ _ (sym e.1))

-- a call that is refused so
refuses : (t s : ℕ) (b text : List ℕ) {why : Refusal} → judge (outline_rows t s b (length text)) ≡ Err why
    → Gives (outline t s b text) (Err why) (0 ∷ []) (b ∷ text ∷ [])
refuses t s b text {why} e =
    let all = printed b ++ drop (length (printed b)) text in (
      says (Err why) _ (sym (ap (λ (v : Verdict). answer v (length (printed b))) e)),
      behind b _ _ (sym (ap (λ (v : Verdict). left v all text) e)),
    )

-- the empty schedule
nothing : (lent : List ℕ) → Gives (outline 0 0 [] lent) (Ok tt) (0 ∷ []) ([] ∷ lent ∷ [])
unfolding headings schedule grow parse foremost tree_of planted lines text
nothing lent =
    gives 0 0 [] lent lent 0 (way-there (omega arith) (schedule-closed Outline.none) lent (omega arith))

-- what an accepted call has written
module _ (t s n : ℕ) (b text after : List ℕ)
    (g : Gives (outline t s b text) (Ok tt) (n ∷ []) (b ∷ after ∷ [])) where
  passed : judge (outline_rows t s b (length text)) ≡ Ok tt
  passed = taken _ _ g.0.0

  closed : (t ≡ s) × (t ≤ largest) × Schedule t t b
  closed = closed-schedule t s b (room-closed t s b (length text) passed).0

  long : n ≡ length (printed b)
  long =
      ap (λ (l : List ℕ). get_or l 0 0) g.0.1
      ∙ ap (λ (v : Verdict). value (answer v (length (printed b)))) passed

  front : take n after ≡ printed b
  front =
      let all = printed b ++ drop (length (printed b)) text in
      ap (take n) (second g.1 ∙ ap (λ (v : Verdict). left v all text) passed)
      ∙ take_at (printed b) _ n (sym long)

-- the text of a closed schedule is read
reads : {n : ℕ} {b : List ℕ} (x out : List ℕ) → n ≤ largest → Schedule n n b → x ≡ printed b → length out ≡ n + n
    → Gives (schedule-of-outline n x out) (Ok tt) [] (x ∷ b ∷ [])
reads {n} {b} x out few q e fit =
    let it = found (outline_of b) (right-length n (length out) few fit) (outline-size q) e in
    (b, subst (Back n x out (Ok tt)) (outline-schedule q) it, refl, refl)

-- what the reader left
left_so : {n : ℕ} {x out y b : List ℕ} {v : Verdict} {m : List ℕ}
    → Gives (schedule-of-outline n x out) v m (y ∷ b ∷ []) → Back n x out v b
left_so {n} {x} {out} {y} {b} {v} g = subst (Back n x out v) (sym (second g.3)) g.1

-- what the reader says of a text that it does not take
unread : {n : ℕ} {x out c : List ℕ} {why : Refusal} (v : Verdict) → v ≡ Err why
    → judge (back_rows n (length out)) ≡ Ok tt → Back n x out v c
    → (k : ℕ) × (why ≡ NoSuchOutline k) × Wrong n x k
unread v e fit (found o a size q) = let z : ◌≡◌ {A = ℕ} 0 1 = cc in absurd (omega arith)
unread {why = why} v e fit (none {k = k} a other wrong) =
    let same : why ≡ NoSuchOutline k = cc in
    (k, same, wrong)
unread v e fit (unfit a) = both fit a

pub outlines : Outlines
outlines = record {
  written = λ n b text few q room. gives n n b text _ _ (way-there few q text room);
  empty = nothing;
  refused-alike = λ t s b text why g.
      refuses t s b text (room-refused t s b (length text) (closed-refused t s b (sym g.0.0)));
  not-closed = λ t s b text a q other.
      refuses t s b text
      (room-refused t s b (length text) (closed-open t s b (schedule-accepted t s b a q) other));
  no_room = λ n b text few q short.
      let closed = closed-closed n n b (schedule-accepted n n b (few, omega arith) q) refl in
      refuses n n b text (room-short n n b (length text) closed short);
  outline-undone = λ t s n b text after out g fit.
      let c = closed t s n b text after g in
      reads (take n after) out c.1 c.2 (front t s n b text after g) (omega (arith, c.0));
  schedule-undone = λ n x out b text g room. gives n n b text _ _ (back-and-there (left_so g) text room);
  read-writes = writes;
  writes-read = λ n x out b w fit.
      let after = x ++ w.rest in
      let c = closed n n (length x) b w.text after w.given in
      let e = front n n (length x) b w.text after w.given in
      reads x out c.1 c.2 (sym (take_at x _ (length x) refl) ∙ e) fit;
  too_many = λ n x out h. (out, unfit (sizes.too_many n (length out) h), refl, refl);
  wrong-length = λ n x out few other. (out, unfit (sizes.wrong-length n (length out) few other), refl, refl);
  not-read = λ n x out why few fit g. unread _ refl (right-length n (length out) few fit) g.1;
}
  where
    writes : (n : ℕ) (x out b : List ℕ) → Gives (schedule-of-outline n x out) (Ok tt) [] (x ∷ b ∷ [])
        → Writes n b x
    writes n x out b g =
        let given = gives n n b x _ _ (back-and-there (left_so g) x (omega arith)) in
        record { text = x; rest = drop (length x) x; given = given }
