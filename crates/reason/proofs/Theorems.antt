-- What the explanation of a schedule means: the manual, "Why a beat moves". Each once over t and s.
--     explains         the explanation of a schedule explains it, and [X6]
--     explains-one     no other does [X6]
--     reasons          the reason given is the one that holds: 1 exactly if the counts have one form only, 2 exactly if
--                      there is else no 0 followed by 1, 3 exactly if there is one, and the beat after the found 1 is
--                      inside and moving it gives a schedule, 4 exactly otherwise [X6]
--     moving-next      moving the moved beat to the second place gives the next form [X7]
--     changing-next    and so does changing the beats at the changed places, and no other [X7]
--     changed-count    there are as many as the step answers [X8]
--     values_one       no two reasons say the same, so a call has one answer [X4]
-- Assumes nothing.
use mathlib.Core.Bool.{true≢false}
use mathlib.Core.List.{List, [], ◌∷◌}
use mathlib.Core.Path.{◌≡◌, refl, ◌∙◌, ap, ap₂, sym, subst}
use Prim.Native.Nat.{ℕ, suc, pred, ◌<◌}
use native.Mathlib.Omega.{arith}
use lib.ListN.{length, get_or}
use Rattle.triangle.specs.Count.{N}
use Rattle.schedule.specs.Meaning.{First, Nowhere}
use Rattle.schedule.specs.Schedule.{ones, zeros}
use Rattle.circle.specs.Plan.{Form}
use Rattle.circle.specs.Step.{shift, found, next}
use Rattle.circle.specs.Walk.{changed}
use Rattle.circle.proofs.Theorems.{next-form}
use Rattle.reason.specs.declared.Places.{Places}
use Rattle.reason.specs.declared.Reason.{Reason}
use Rattle.reason.specs.Explanation.{Explanation, says, differing, explanation_of, places_of, values_of}
use Rattle.reason.specs.Meaning.{
  OneForm,
  Rises,
  MayMove,
  Holds,
  only-form,
  last-beat,
  next-beat,
  found-one,
  Changes,
  Explains,
  moving,
  changing,
  Reasons,
}
use Rattle.reason.proofs.Differing.{differing-self}
use Rattle.reason.proofs.Reasons.{one-said, last-said, next-said, found-said}
use Rattle.reason.proofs.Changing.{differing-changed, differing-changes, changes-one, changing-differing}
use Rattle.reason.proofs.Rules.{
  counts-one-form,
  one-form-counts,
  no-rise,
  nowhere-none,
  found_first,
  first_found,
  moves-may,
  may-moves,
  may-not,
  Tests,
  only,
  last,
  after,
  itself,
  tests,
  last-next,
  next-next,
  found-next,
}

-- what holds where a case is given
given-one : {b : List ℕ} {k : ℕ} {at moved : List ℕ} → Holds b k at moved → k ≡ 1 → OneForm b
given-one (only-form one) e = one
given-one (last-beat more none n) e = absurd (omega arith)
given-one (next-beat more p may) e = absurd (omega arith)
given-one (found-one more p stays) e = absurd (omega arith)

given-two : {b : List ℕ} {k : ℕ} {at moved : List ℕ} → Holds b k at moved → k ≡ 2
    → (OneForm b → ⊥) × Nowhere (Rises b) (length b)
given-two (only-form one) e = absurd (omega arith)
given-two (last-beat more none n) e = (more, none)
given-two (next-beat more p may) e = absurd (omega arith)
given-two (found-one more p stays) e = absurd (omega arith)

given-three : {b : List ℕ} {k : ℕ} {at moved : List ℕ} → Holds b k at moved → k ≡ 3
    → (OneForm b → ⊥) × ((i : ℕ) × First (Rises b) (length b) i × MayMove b (suc (suc i)))
given-three (only-form one) e = absurd (omega arith)
given-three (last-beat more none n) e = absurd (omega arith)
given-three (next-beat {i} more p may) e = (more, (i, p, may))
given-three (found-one more p stays) e = absurd (omega arith)

given-four : {b : List ℕ} {k : ℕ} {at moved : List ℕ} → Holds b k at moved → k ≡ 4
    → (OneForm b → ⊥) × ((i : ℕ) × First (Rises b) (length b) i × (MayMove b (suc (suc i)) → ⊥))
given-four (only-form one) e = absurd (omega arith)
given-four (last-beat more none n) e = absurd (omega arith)
given-four (next-beat more p may) e = absurd (omega arith)
given-four (found-one {i} more p stays) e = (more, (i, p, stays))

module _ {b : List ℕ} (f : Form b) where
  -- the step keeps the length
  same_length : length b ≡ length (next b)
  same_length = f.size ∙ sym (next-form f).size

  changes-next : Changes b (next b) (differing b (next b))
  changes-next = differing-changes b (next b) same_length

  -- with one form only nothing changes
  nothing-changes : OneForm b → differing b (next b) ≡ []
  nothing-changes one = ap (differing b) (one (next b) (next-form f)) ∙ differing-self b

  -- with more there is a beat
  some-beat : (OneForm b → ⊥) → 0 < length b
  some-beat more = by b refl
    where
      by : (c : List ℕ) → b ≡ c → 0 < length b
      by [] e = absurd (more (λ c q. nil c (q.size ∙ sym f.size ∙ ap length e) ∙ sym e))
        where
          nil : (c : List ℕ) → length c ≡ 0 → c ≡ []
          nil [] n = refl
          nil (x ∷ c) n = absurd (omega arith)
      by (x ∷ c) e = omega (arith, ap length e)

  -- where more than one form has the counts
  more-than : (N (ones b) (zeros b) ≡ 1 → ⊥) → OneForm b → ⊥
  more-than more one = more (one-form-counts f one)

  -- the reason by which the tests went
  held : Tests b → Explains b (explanation_of b)
  held (only one) =
      let form = counts-one-form f one in
      subst (Explains b) (sym (one-said b one))
      (record { reason = only-form form; changes = subst (Changes b (next b)) (nothing-changes form) changes-next })
  held (last more h) =
      let some = some-beat (more-than more) in
      subst (Explains b) (sym (last-said b more h))
      (record { reason = last-beat (more-than more) (no-rise b h) (omega arith); changes = changes-next })
  held (after more h m) =
      let rise = found_first b h in
      let at : pred (found b) ≡ suc rise.0 = omega (arith, rise.1) in
      let may = subst (MayMove b) rise.1 (moves-may b m) in
      subst (Explains b)
      (sym (next-said b more h m ∙ ap (λ (k : ℕ). says 3 (k ∷ []) (suc k ∷ []) (differing b (next b))) at))
      (record { reason = next-beat (more-than more) rise.2 may; changes = changes-next })
  held (itself more h m) =
      let rise = found_first b h in
      let at : pred (found b) ≡ suc rise.0 = omega (arith, rise.1) in
      subst (Explains b)
      (sym (found-said b more h m ∙ ap (λ (k : ℕ). says 4 (k ∷ []) (k ∷ []) (differing b (next b))) at))
      (record {
        reason =
            found-one (more-than more) rise.2
            (λ may. true≢false (sym (may-moves b (subst (MayMove b) (sym rise.1) may)) ∙ m));
        changes = changes-next;
      })

  pub explains : Explains b (explanation_of b)
  explains = held (tests b)

  -- what a reason that holds says
  said : {k : ℕ} {at moved : List ℕ} → Holds b k at moved → says k at moved (differing b (next b)) ≡ explanation_of b
  said (only-form one) =
      ap (says 1 [] []) (nothing-changes one) ∙ sym (one-said b (one-form-counts f one))
  said (last-beat {k} more none e) =
      let at : k ≡ pred (length b) = omega arith in
      ap (λ (j : ℕ). says 2 [] (j ∷ []) (differing b (next b))) at
      ∙ sym (last-said b (λ one. more (counts-one-form f one)) (nowhere-none b none))
  said (next-beat {i} more p may) =
      let rise = first_found b p in
      let at : suc i ≡ pred (found b) = omega (arith, rise.0) in
      ap (λ (j : ℕ). says 3 (j ∷ []) (suc j ∷ []) (differing b (next b))) at
      ∙ sym (next-said b (λ one. more (counts-one-form f one)) rise.1
      (may-moves b (subst (MayMove b) (sym rise.0) may)))
  said (found-one {i} more p stays) =
      let rise = first_found b p in
      let at : suc i ≡ pred (found b) = omega (arith, rise.0) in
      ap (λ (j : ℕ). says 4 (j ∷ []) (j ∷ []) (differing b (next b))) at
      ∙ sym (found-said b (λ one. more (counts-one-form f one)) rise.1
      (may-not b (λ may. stays (subst (MayMove b) rise.0 may))))

  pub explains-one : {e : Explanation} → Explains b e → e ≡ explanation_of b
  explains-one {e} p =
      ap (says e.case e.found e.moved) (changes-one p.changes changes-next) ∙ said p.reason

  -- the case of an explanation that fits, and of a reason that holds
  case-of : {e : Explanation} {k : ℕ} {at moved : List ℕ} → Explains b e → Holds b k at moved → e.case ≡ k
  case-of p h = ap (λ (x : Explanation). x.case) (explains-one p ∙ sym (said h))

  module _ {e : Explanation} (p : Explains b e) where
    pub reasons : Reasons b e.case
    reasons = record {
      one = (given-one p.reason, λ one. case-of p (only-form one));
      two = (given-two p.reason, λ h. case-of p (last-beat h.0 h.1 (last-place h.0)));
      three = (given-three p.reason, λ h. case-of p (next-beat h.0 h.1.1 h.1.2));
      four = (given-four p.reason, λ h. case-of p (found-one h.0 h.1.1 h.1.2));
    }
      where
        last-place : (OneForm b → ⊥) → suc (pred (length b)) ≡ length b
        last-place more = omega (arith, some-beat more)

    pub moving-next : moving e.moved b ≡ next b
    moving-next = ap (λ (x : Explanation). moving x.moved b) (explains-one p) ∙ by (tests b)
      where
        by : Tests b → moving (explanation_of b).moved b ≡ next b
        by (only one) =
            ap (λ (x : Explanation). moving x.moved b) (one-said b one)
            ∙ sym (counts-one-form f one (next b) (next-form f))
        by (last more h) =
            let whole : suc (pred (length b)) ≡ length b = omega (arith, some-beat (more-than more)) in
            ap (λ (x : Explanation). moving x.moved b) (last-said b more h)
            ∙ ap (λ (k : ℕ). shift k b) whole ∙ sym (last-next b more h)
        by (after more h m) =
            let at : suc (suc (pred (found b))) ≡ suc (found b) = omega (arith, (found_first b h).1) in
            ap (λ (x : Explanation). moving x.moved b) (next-said b more h m)
            ∙ ap (λ (k : ℕ). shift k b) at ∙ sym (next-next b h m)
        by (itself more h m) =
            let at : suc (pred (found b)) ≡ found b = omega (arith, (found_first b h).1) in
            ap (λ (x : Explanation). moving x.moved b) (found-said b more h m)
            ∙ ap (λ (k : ℕ). shift k b) at ∙ sym (found-next b h m)

    -- the changed places are those that differ
    places-are : e.changed ≡ differing b (next b)
    places-are = changes-one p.changes changes-next

    pub changing-next : changing e.changed b ≡ next b
    changing-next =
        ap (λ (l : List ℕ). changing l b) places-are
        ∙ changing-differing b (next b) same_length f.beats (next-form f).beats

    pub changed-count : length e.changed ≡ changed b (next b)
    changed-count = ap length places-are ∙ differing-changed b (next b)

places-one : (p q : Places) → places_of p ≡ places_of q → p ≡ q
places-one (Places.Two a b) (Places.Two c d) e =
    ap₂ Places.Two (ap (λ (l : List ℕ). get_or l 0 0) e) (ap (λ (l : List ℕ). get_or l 1 0) e)
places-one (Places.Two a b) (Places.Four c d x y) e = absurd (omega (arith, ap length e))
places-one (Places.Four a b x y) (Places.Two c d) e = absurd (omega (arith, ap length e))
places-one (Places.Four a b x y) (Places.Four c d z w) e =
    let h0 = ap (λ (l : List ℕ). get_or l 0 0) e in
    let h1 = ap (λ (l : List ℕ). get_or l 1 0) e in
    let h2 = ap (λ (l : List ℕ). get_or l 2 0) e in
    let h3 = ap (λ (l : List ℕ). get_or l 3 0) e in
    cc

pub values_one : (r q : Reason) → values_of r ≡ values_of q → r ≡ q
values_one r q e = by r q (ap (λ (x : Explanation). x.case) e) (ap (λ (x : Explanation). x.found) e)
    (ap (λ (x : Explanation). x.moved) e) (ap (λ (x : Explanation). x.changed) e)
  where
    by : (r q : Reason) → (values_of r).case ≡ (values_of q).case → (values_of r).found ≡ (values_of q).found
        → (values_of r).moved ≡ (values_of q).moved → (values_of r).changed ≡ (values_of q).changed → r ≡ q
    by Reason.OneForm Reason.OneForm c g m d = refl
    by Reason.OneForm (Reason.LastMoves at l) c g m d = absurd (omega arith)
    by Reason.OneForm (Reason.NextMoves at n l) c g m d = absurd (omega arith)
    by Reason.OneForm (Reason.FoundMoves at l) c g m d = absurd (omega arith)
    by (Reason.LastMoves at l) Reason.OneForm c g m d = absurd (omega arith)
    by (Reason.LastMoves at l) (Reason.LastMoves to k) c g m d =
        ap₂ Reason.LastMoves (ap (λ (x : List ℕ). get_or x 0 0) m) (places-one l k d)
    by (Reason.LastMoves at l) (Reason.NextMoves to n k) c g m d = absurd (omega arith)
    by (Reason.LastMoves at l) (Reason.FoundMoves to k) c g m d = absurd (omega arith)
    by (Reason.NextMoves at n l) Reason.OneForm c g m d = absurd (omega arith)
    by (Reason.NextMoves at n l) (Reason.LastMoves to k) c g m d = absurd (omega arith)
    by (Reason.NextMoves at n l) (Reason.NextMoves to o k) c g m d =
        let found = ap (λ (x : List ℕ). get_or x 0 0) g in
        let moved = ap (λ (x : List ℕ). get_or x 0 0) m in
        let places = places-one l k d in
        cc
    by (Reason.NextMoves at n l) (Reason.FoundMoves to k) c g m d = absurd (omega arith)
    by (Reason.FoundMoves at l) Reason.OneForm c g m d = absurd (omega arith)
    by (Reason.FoundMoves at l) (Reason.LastMoves to k) c g m d = absurd (omega arith)
    by (Reason.FoundMoves at l) (Reason.NextMoves to n k) c g m d = absurd (omega arith)
    by (Reason.FoundMoves at l) (Reason.FoundMoves to k) c g m d =
        ap₂ Reason.FoundMoves (ap (λ (x : List ℕ). get_or x 0 0) m) (places-one l k d)
