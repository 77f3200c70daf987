-- What the definitions of specs/ say, the manual, "Refusal numbers".
--     Given               a row of the order holds and names the refusal, and no row before it holds
--     refused-given, given-refused     an order refuses so exactly if that is given [R11]
--     accepted-none, none-accepted     it accepts exactly if no row holds [R11]
--     refused-number      a refusal's number is 1 to 15, so 0 is left for an accepted call [R2]
--     accepted-zero       a verdict that answers 0 accepts; that one which accepts answers 0 is
--                         `accepted-refusal` of Cases [R8]
--     same-refusal        number, place and surplus say which refusal it is [R2]
--     Six, six-given      where every row that refuses 6 has a surplus of which P holds, so has the verdict
--     sixless, sixless-all     an order without such a row, which a test tells
--     past-sixless        so where an order refuses 6, none of its first rows that are without such a row holds
--     surplus-else        a verdict that does not answer 6 has the surplus 0 [Q2]
--     verdict_self        a verdict is the verdict of itself
--     verdict-answer      an answer has the verdict that it was made from
--     answer-refused, answer-value     what an answer says of the verdict that it was made from
-- Assumes nothing.
use mathlib.Core.Bool.{Bool, true, false, not, ◌&&◌, true≢false, and-eq-true_iff}
use mathlib.Core.List.Memᴰ
use mathlib.Core.List.{
  List,
  [],
  ◌∷◌,
  ◌++◌,
  Memᴰ,
}
use mathlib.Core.Logic.{⊎_elim}
use mathlib.Core.Path.{◌≡◌, refl, ◌∙◌, ap, ap₂, sym}
use Prim.Native.Nat.{ℕ, ◌≤◌}
use native.Mathlib.Omega.{arith}
use borrow.Author.Tests.{eq-eqb}
use lib.Dec.{eqb}
use lib.IntN.{ℤ, pos}
use lib.ListN.{get_or}
use Rattle.std.proofs.Common.{Ok, Err}
use Rattle.refusal.specs.declared.Refusal.{Refusal}
use Rattle.refusal.specs.declared.Refusal.TheVariants.{
  TooManyTasks,
  MoreDownThanUp,
  WrongLength,
  BadBeat,
  EmptyHand,
  WrongTakeUps,
  NoSuchNumber,
  NoSuchTables,
  CutShort,
  UnknownKind,
  WrongSize,
  NoRoom,
  RunTooLong,
  NotClosed,
  NoSuchOutline,
}
use Rattle.refusal.specs.Refusal.{refusal_number, refusal_place, refusal_surplus}
use Rattle.refusal.specs.Answer.{Verdict, refusal, surplus, verdict, answer}
use Rattle.refusal.specs.Rows.{Row, ◌⇒◌, judge, test}
use Rattle.refusal.proofs.Rows.{judge-refused, All, given}

pub record Given (l : List Row) (why : Refusal) : Type 0 where
  pub front : List Row
  pub back : List Row
  pub split : l ≡ front ++ (true ⇒ why) ∷ back
  pub before : (r : Row) → Memᴰ r front → test r ≡ false

pub refused-given : (l : List Row) (why : Refusal) → judge l ≡ Err why → Given l why
refused-given [] why e = let z : ◌≡◌ {A = ℕ} 0 1 = cc in absurd (omega arith)
refused-given ((true ⇒ first) ∷ l) why e =
    let same : first ≡ why = cc in
    record {
      front = [];
      back = l;
      split = ap (λ (r : Refusal). (true ⇒ r) ∷ l) same;
      before = λ r m. absurd (Memᴰ.not-nil m);
    }
refused-given ((false ⇒ first) ∷ l) why e =
    let g = refused-given l why e in
    record {
      front = (false ⇒ first) ∷ g.front;
      back = g.back;
      split = ap (λ (rows : List Row). (false ⇒ first) ∷ rows) g.split;
      before = λ r m. ⊎_elim (λ here. ap test here) (λ later. g.before r later) (Memᴰ.cases_cons m);
    }

front-passed : (front back : List Row) (why : Refusal) → ((r : Row) → Memᴰ r front → test r ≡ false)
    → judge (front ++ (true ⇒ why) ∷ back) ≡ Err why
front-passed [] back why f = refl
front-passed ((true ⇒ first) ∷ front) back why f = absurd (true≢false (f (true ⇒ first) (Memᴰ.head refl)))
front-passed ((false ⇒ first) ∷ front) back why f = front-passed front back why (λ r m. f r (Memᴰ.tail m))

pub given-refused : (l : List Row) (why : Refusal) → Given l why → judge l ≡ Err why
given-refused l why g = ap judge g.split ∙ front-passed g.front g.back why g.before

pub accepted-none : (l : List Row) → judge l ≡ Ok tt → (r : Row) → Memᴰ r l → test r ≡ false
accepted-none [] e r m = absurd (Memᴰ.not-nil m)
accepted-none ((true ⇒ first) ∷ l) e r m = let z : ◌≡◌ {A = ℕ} 0 1 = cc in absurd (omega arith)
accepted-none ((false ⇒ first) ∷ l) e r m =
    ⊎_elim (λ here. ap test here) (λ later. accepted-none l e r later) (Memᴰ.cases_cons m)

pub none-accepted : (l : List Row) → ((r : Row) → Memᴰ r l → test r ≡ false) → judge l ≡ Ok tt
none-accepted [] f = refl
none-accepted ((true ⇒ first) ∷ l) f = absurd (true≢false (f (true ⇒ first) (Memᴰ.head refl)))
none-accepted ((false ⇒ first) ∷ l) f = none-accepted l (λ r m. f r (Memᴰ.tail m))

-- the refusal that a number, a place and a surplus name, by the rows of the table in their order
named : ℕ → ℕ → ℤ → Refusal
named n at off =
    get_or
    (TooManyTasks ∷ TooManyTasks ∷ MoreDownThanUp ∷ WrongLength ∷ BadBeat at ∷ EmptyHand at ∷ WrongTakeUps off ∷
    NoSuchNumber ∷ NoSuchTables ∷ CutShort ∷ UnknownKind ∷ WrongSize ∷ NoRoom ∷ RunTooLong ∷
    NotClosed ∷ NoSuchOutline at ∷ [])
    n
    TooManyTasks

named_back : (why : Refusal)
    → (named (refusal_number why) (refusal_place why) (refusal_surplus why) ≡ why)
    × (1 ≤ refusal_number why) × (refusal_number why ≤ 15)
    × ((refusal_number why ≡ 6 → ⊥) → refusal_surplus why ≡ pos 0)
unfolding named
named_back TooManyTasks = (refl, omega arith, omega arith, λ other. refl)
named_back MoreDownThanUp = (refl, omega arith, omega arith, λ other. refl)
named_back WrongLength = (refl, omega arith, omega arith, λ other. refl)
named_back (BadBeat at) = (refl, omega arith, omega arith, λ other. refl)
named_back (EmptyHand at) = (refl, omega arith, omega arith, λ other. refl)
named_back (WrongTakeUps off) = (refl, omega arith, omega arith, λ other. absurd (other refl))
named_back NoSuchNumber = (refl, omega arith, omega arith, λ other. refl)
named_back NoSuchTables = (refl, omega arith, omega arith, λ other. refl)
named_back CutShort = (refl, omega arith, omega arith, λ other. refl)
named_back UnknownKind = (refl, omega arith, omega arith, λ other. refl)
named_back WrongSize = (refl, omega arith, omega arith, λ other. refl)
named_back NoRoom = (refl, omega arith, omega arith, λ other. refl)
named_back RunTooLong = (refl, omega arith, omega arith, λ other. refl)
named_back NotClosed = (refl, omega arith, omega arith, λ other. refl)
named_back (NoSuchOutline line) = (refl, omega arith, omega arith, λ other. refl)

pub refused-number : (why : Refusal) → (1 ≤ refusal_number why) × (refusal_number why ≤ 15)
refused-number why = ((named_back why).1, (named_back why).2)

pub same-refusal : (p q : Refusal) → refusal_number p ≡ refusal_number q → refusal_place p ≡ refusal_place q
    → refusal_surplus p ≡ refusal_surplus q → p ≡ q
same-refusal p q n a z =
    sym (named_back p).0
    ∙ ap (named (refusal_number p) (refusal_place p)) z
    ∙ ap₂ (λ (k at : ℕ). named k at (refusal_surplus q)) n a
    ∙ (named_back q).0

abbrev pub Six : (ℤ → Type 0) → Refusal → Type 0
Six P why = refusal_number why ≡ 6 → P (refusal_surplus why)

pub six-given : (P : ℤ → Type 0) (rows : List Row) → All (Six P) rows → refusal (judge rows) ≡ 6
    → P (surplus (judge rows))
six-given P rows a = by (judge rows) refl
  where
    by : (v : Verdict) → judge rows ≡ v → refusal v ≡ 6 → P (surplus v)
    by (Ok unit) e six = absurd (omega arith)
    by (Err why) e six = given (Six P) rows a e six

abbrev pub sixless : List Row → Bool
sixless [] = true
sixless ((holds ⇒ why) ∷ rows) = not (eqb (refusal_number why) 6) && sixless rows

pub sixless-all : (P : ℤ → Type 0) (rows : List Row) → sixless rows ≡ true → All (Six P) rows
sixless-all P [] e = tt
sixless-all P ((holds ⇒ why) ∷ rows) e =
    let both = (and-eq-true_iff (not (eqb (refusal_number why) 6)) (sixless rows)).0 e in
    let other : refusal_number why ≡ 6 → ⊥ =
    λ six. true≢false (sym both.0 ∙ ap not (eq-eqb (refusal_number why) 6 six)) in
    (λ so six. absurd (other six), sixless-all P rows both.1)

pub past-sixless : (l m : List Row) → sixless l ≡ true → refusal (judge (l ++ m)) ≡ 6 → judge l ≡ Ok tt
past-sixless l m free six = by (judge l) refl
  where
    by : (v : Verdict) → judge l ≡ v → judge l ≡ Ok tt
    by (Ok unit) e = e
    by (Err why) e =
        let none = sixless-all (λ z. ⊥) l free in
        absurd (six-given (λ z. ⊥) l none (ap refusal (e ∙ sym (judge-refused l m why e)) ∙ six))

pub surplus-else : (v : Verdict) → (refusal v ≡ 6 → ⊥) → surplus v ≡ pos 0
surplus-else (Ok unit) other = refl
surplus-else (Err why) other = (named_back why).3 other

pub accepted-zero : (v : Verdict) → refusal v ≡ 0 → v ≡ Ok tt
accepted-zero (Ok unit) e = refl
accepted-zero (Err why) e = absurd (omega (arith, (named_back why).1))

pub verdict_self : (v : Verdict) → verdict v ≡ v
verdict_self (Ok unit) = refl
verdict_self (Err why) = refl

pub verdict-answer : (v : Verdict) (n : ℕ) → verdict (answer v n) ≡ v
verdict-answer (Ok unit) n = refl
verdict-answer (Err why) n = refl

pub answer-refused : (v : Verdict) (n : ℕ) {why : Refusal} → answer v n ≡ Err why → v ≡ Err why
answer-refused (Ok unit) n e = let z : ◌≡◌ {A = ℕ} 0 1 = cc in absurd (omega arith)
answer-refused (Err first) n e = cc

pub answer-value : (v : Verdict) (n : ℕ) {m : ℕ} → answer v n ≡ Ok m → (v ≡ Ok tt) × (m ≡ n)
answer-value (Ok unit) n e = (refl, cc)
answer-value (Err first) n e = let z : ◌≡◌ {A = ℕ} 0 1 = cc in absurd (omega arith)
