-- What the way back is, and that the two ways undo each other, the manual, "The outline", once over n.
--     back_one            no second answer and no second content of what is lent fits the contract [P11]
--     back-accepts        the way back accepts the text of an outline of n lines, and writes its schedule
--     way-there           what the way there answers and leaves for a closed schedule with room for its text
--     there_and_back, back-and-there     the two ways undo each other on what they accept [H13]
--     read-exactly        sizes fitting, a text is read exactly if the way there could have written it [H14]
-- Which line of a text is wrong is in Faults. Assumes nothing.
use mathlib.Core.List.{List, ◌++◌}
use mathlib.Core.Path.{◌≡◌, refl, sym, ◌∙◌, ap, subst}
use Prim.Native.Nat.{ℕ, ◌+◌, ◌≤◌}
use native.Mathlib.Omega.{arith}
use lib.ListN.{length, take, drop}
use lib.Seq.{take_at}
use Rattle.std.proofs.Common.{Ok, Err}
use Rattle.refusal.specs.declared.Refusal.TheVariants.{NoSuchOutline}
use Rattle.refusal.specs.Answer.{Verdict, answer, left}
use Rattle.refusal.specs.Rows.{judge}
use Rattle.refusal.proofs.Rows.{both}
use Rattle.triangle.specs.Count.{largest}
use Rattle.schedule.specs.Schedule.{Schedule}
use Rattle.schedule.proofs.Theorems.{schedule-accepted}
use Rattle.outline.specs.Outline.{schedule, outline_of}
use Rattle.outline.specs.Text.{outline_text, printed}
use Rattle.outline.specs.Answers.{outline_rows, outline_answer, outline_left}
use Rattle.outline.proofs.Below.{one-text}
use Rattle.outline.proofs.Schedules.{schedule-closed, schedule-outline, outline-schedule, outline-size}
use Rattle.outline.proofs.Verdicts.{closed-closed, closed-schedule, room-enough, room-closed}
use Rattle.outline_back.specs.Back.{Back, found, none, unfit}
use Rattle.outline_back.proofs.Sizes.{right-length, sizes-right}

pub back_one : {n : ℕ} {x out : List ℕ} {v w : Verdict} {c d : List ℕ}
    → Back n x out v c → Back n x out w d → (v ≡ w) × (c ≡ d)
back_one (found o e size q) (found p f length u) = (refl, ap schedule (one-text o p (sym q ∙ u)))
back_one (found o e size q) (none f other wrong) = absurd (other o size q)
back_one (found o e size q) (unfit f) = both e f
back_one (none e other wrong) (found p f size u) = absurd (other p size u)
back_one (none {k = k} e other wrong) (none {k = j} f another also) =
    let same : k ≡ j = omega (arith, wrong.most j also.leads, also.most k wrong.leads) in
    (ap (λ (i : ℕ). Err (NoSuchOutline i)) same, refl)
back_one (none e other wrong) (unfit f) = both e f
back_one (unfit e) (found p f size u) = both f e
back_one (unfit e) (none f other wrong) = both f e
back_one (unfit e) (unfit f) = (sym e ∙ f, refl)

-- the text of a closed schedule
module _ {n : ℕ} {b : List ℕ} (few : n ≤ largest) (q : Schedule n n b) where
  pub back-accepts : {x out c : List ℕ} {v : Verdict} → length out ≡ n + n → x ≡ printed b → Back n x out v c
      → (v ≡ Ok tt) × (c ≡ b)
  back-accepts {x} {out} fit e u =
      let s = back_one u (found (outline_of b) (right-length n (length out) few fit) (outline-size q) e) in
      (s.0, s.1 ∙ outline-schedule q)

  pub way-there : (lent : List ℕ) → length (printed b) ≤ length lent
      → (outline_answer n n b lent ≡ Ok (length (printed b)))
      × (outline_left n n b lent ≡ printed b ++ drop (length (printed b)) lent)
  way-there lent room =
      let long = length (printed b) in
      let closed = closed-closed n n b (schedule-accepted n n b (few, omega arith) q) refl in
      let taken = room-enough n n b (length lent) closed room in
      (ap (λ (v : Verdict). answer v long) taken, ap (λ (v : Verdict). left v (printed b ++ drop long lent) lent) taken)

-- what is known where the way there has answered
written : (t s : ℕ) (b lent : List ℕ) {m : ℕ} → outline_answer t s b lent ≡ Ok m
    → (t ≤ largest) × Schedule t t b × (take m (outline_left t s b lent) ≡ printed b)
written t s b lent {m} e = by (judge (outline_rows t s b (length lent))) refl e
  where
    by : (v : Verdict) → judge (outline_rows t s b (length lent)) ≡ v → answer v (length (printed b)) ≡ Ok m
        → (t ≤ largest) × Schedule t t b × (take m (outline_left t s b lent) ≡ printed b)
    by (Ok unit) f g =
        let long : length (printed b) ≡ m = cc in
        let q = closed-schedule t s b (room-closed t s b (length lent) f).0 in
        let all = printed b ++ drop (length (printed b)) lent in
        (q.1, q.2, ap (λ (v : Verdict). take m (left v all lent)) f ∙ take_at (printed b) _ m long)
    by (Err why) f g = let z : ◌≡◌ {A = ℕ} 0 1 = cc in absurd (omega arith)

-- the way back from the text that the way there wrote
pub there_and_back : (t s : ℕ) (b lent : List ℕ) {m : ℕ} {out c : List ℕ} {v : Verdict}
    → outline_answer t s b lent ≡ Ok m → length out ≡ t + t
    → Back t (take m (outline_left t s b lent)) out v c
    → (v ≡ Ok tt) × (c ≡ b)
there_and_back t s b lent e fit u =
    let w = written t s b lent e in
    back-accepts w.0 w.1 fit w.2 u

-- the way there from the schedule that the way back wrote
pub back-and-there : {n : ℕ} {x out b : List ℕ} → Back n x out (Ok tt) b
    → (lent : List ℕ) → length x ≤ length lent
    → (outline_answer n n b lent ≡ Ok (length x)) × (outline_left n n b lent ≡ x ++ drop (length x) lent)
back-and-there {n} {x} {out} (found o e size q) lent room =
    let b = schedule o in
    let closed = subst (λ (k : ℕ). Schedule k k b) size (schedule-closed o) in
    let same : printed b ≡ x = ap outline_text (schedule-outline o) ∙ sym q in
    let w = way-there (sizes-right n (length out) e).0 closed lent (omega (arith, ap length same)) in (
      w.0 ∙ ap (λ (y : List ℕ). Ok (length y)) same,
      w.1 ∙ ap (λ (y : List ℕ). y ++ drop (length y) lent) same,
    )

-- the way there writes x for some schedule into some text lent to it
abbrev pub Writable : ℕ → List ℕ → Type 0
Writable n x =
    (b : List ℕ) × (lent : List ℕ)
    × (outline_answer n n b lent ≡ Ok (length x)) × (take (length x) (outline_left n n b lent) ≡ x)

read-writable : {n : ℕ} {x out c : List ℕ} → Back n x out (Ok tt) c → Writable n x
read-writable {n} {x} {out} {c} u =
    let w = back-and-there u x (omega arith) in
    (c, x, w.0, ap (take (length x)) w.1 ∙ take_at x _ (length x) refl)

pub read-exactly : {n : ℕ} {x out c : List ℕ} {v : Verdict} → length out ≡ n + n → Back n x out v c
    → (v ≡ Ok tt → Writable n x) × (Writable n x → v ≡ Ok tt)
read-exactly {n} {x} {out} {c} {v} fit u = (
  λ e. read-writable (subst (λ (w : Verdict). Back n x out w c) e u),
  λ w. (there_and_back n n w.0 w.1 w.2 fit (subst (λ (y : List ℕ). Back n y out v c) (sym w.3) u)).0,
)
