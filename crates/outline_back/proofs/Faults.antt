-- Which line of a text is wrong, for the faults that the manual, "The outline", names.
--     surplus-wrong     anything after n good lines is wrong at n [H12]
--     nothing-wrong     where no line is to come, any byte is wrong at 0 [H12]
--     short-wrong       a text that ends after k good lines, or in a line without its line feed, is wrong at k [H12]
--     odd-wrong         a line that is no dotted number is wrong at its place: an empty one, one with a leading zero, a
--                       carriage return or a space, see Dotted of `outline` [H12]
-- Assumes nothing.
use mathlib.Core.List.{List, [], ◌∷◌, ◌++◌, append_assoc, append-nil}
use mathlib.Core.Path.{◌≡◌, refl, sym, ◌∙◌, ap, subst}
use Prim.Native.Nat.{ℕ, zero, suc, ◌+◌, ◌≤◌, ◌<◌}
use native.Mathlib.Decide.{dec_lt}
use native.Mathlib.Omega.{arith}
use lib.ListN.{length, get_or, take, drop, length-append, take-append-drop}
use lib.Seq.{take_all, drop-cons, length-take-le, get_or_at, get_or-take}
use Rattle.std.proofs.Common.{Err}
use Rattle.refusal.specs.declared.Refusal.TheVariants.{NoSuchOutline}
use Rattle.refusal.specs.Answer.{Verdict}
use Rattle.triangle.specs.Count.{largest}
use Rattle.outline.specs.Outline.{Outline, headings}
use Rattle.outline.specs.Text.{lines, text, outline_text}
use Rattle.outline.proofs.Lines.{length-lines, Without, Each, each_append, each_at, lines-clean}
use Rattle.outline.proofs.Lines.{text-join, same_line, same_text}
use Rattle.outline.proofs.Dotted.{Dotted, lines-dotted}
use Rattle.outline_back.specs.Back.{Leads, Wrong, Back, none}
use Rattle.outline_back.proofs.Sizes.{right-length}
use Rattle.outline_back.proofs.Complete.{same_rest}
use Rattle.outline_back.proofs.Theorems.{back_one}

-- where an outline of n lines is not the whole text, it is not another's
no-rest : (o p : Outline) (y : List ℕ) → headings o ≡ headings p → outline_text o ++ y ≡ outline_text p → y ≡ []
no-rest o p y size e = same_rest o p [] 1 y [] tt size (e ∙ sym (append-nil (outline_text p)))

pub surplus-wrong : {n : ℕ} {out c : List ℕ} {v : Verdict} (o : Outline) (z : ℕ) (y : List ℕ) → headings o ≡ n
    → n ≤ largest → length out ≡ n + n → Back n (outline_text o ++ z ∷ y) out v c
    → (v ≡ Err (NoSuchOutline n)) × (c ≡ out)
surplus-wrong {n} {out} o z y size few fit u = back_one u (none (right-length n (length out) few fit) other wrong)
  where
    other : (p : Outline) → headings p ≡ n → outline_text o ++ z ∷ y ≡ outline_text p → ⊥
    other p also e = let n = no-rest o p (z ∷ y) (omega arith) e in omega (arith, ap length n)

    wrong : Wrong n (outline_text o ++ z ∷ y) n
    wrong =
        let all = take_all n (lines o [] 1) (omega (arith, length-lines o [] 1)) in
        record {
          leads =
              record {
                outline = o;
                size = size;
                within = omega arith;
                rest = z ∷ y;
                begins = ap (λ (l : List (List ℕ)). text l ++ z ∷ y) (sym all);
              };
          most = λ j q. q.within;
        }

pub nothing-wrong : {out c : List ℕ} {v : Verdict} (z : ℕ) (y : List ℕ) → length out ≡ 0 → Back 0 (z ∷ y) out v c
    → (v ≡ Err (NoSuchOutline 0)) × (c ≡ out)
unfolding headings lines text
nothing-wrong z y fit u = surplus-wrong Outline.none z y refl (omega arith) fit u

each_take : (P : List ℕ → Type 0) (a : List (List ℕ)) (k : ℕ) → Each P a → Each P (take k a)
each_take P [] zero q = tt
each_take P [] (suc k) q = tt
each_take P (l ∷ a) zero q = tt
each_take P (l ∷ a) (suc k) q = (q.0, each_take P a k q.1)

-- a list without c is not cut by c
without-cut : (c : ℕ) (l h z : List ℕ) → Without c l → l ≡ h ++ c ∷ z → ⊥
without-cut c [] [] z q e = omega (arith, ap length e)
without-cut c [] (y ∷ h) z q e = omega (arith, ap length e)
without-cut c (x ∷ l) [] z q e = let same : x ≡ c = cc in q.0 same
without-cut c (x ∷ l) (y ∷ h) z q e = let rest : l ≡ h ++ c ∷ z = cc in without-cut c l h z q.1 rest

-- k good lines, and then a piece without a line feed, which may be empty
module _ {n : ℕ} (o : Outline) (k : ℕ) (l : List ℕ) (size : headings o ≡ n) (few : k < n) (clean : Without 10 l) where
  abbrev front : List (List ℕ)
  front = take k (lines o [] 1)

  front_length : length front ≡ k
  front_length = length-take-le k (lines o [] 1) (omega (arith, length-lines o [] 1))

  -- an outline with more of its lines would have a line feed in that piece
  short-line : (j : ℕ) → Leads n (text front ++ l) j → k < j → ⊥
  unfolding text
  short-line j q h =
      let all = lines q.outline [] 1 in
      let long : j ≤ length all = omega (arith, length-lines q.outline [] 1, q.size, q.within) in
      let taken = take j all in
      let many = length-take-le j all long in
      let more = drop-cons taken k [] (omega arith) in
      let Clean-All = each_take (Without 10) all j (lines-clean q.outline [] 1 tt) in
      let cut : text taken ++ q.rest ≡ text (take k taken) ++ (text (drop k taken) ++ q.rest) =
      ap (λ (a : List (List ℕ)). text a ++ q.rest) (sym (take-append-drop k taken))
      ∙ text-join (take k taken) (drop k taken) q.rest in
      let piece =
      same_text front (take k taken) l (text (drop k taken) ++ q.rest)
      (each_take (Without 10) (lines o [] 1) k (lines-clean o [] 1 tt))
      (each_take (Without 10) taken k Clean-All)
      (q.begins ∙ cut)
      (omega (arith, front_length, length-take-le k taken (omega arith))) in
      let line = get_or taken k [] in
      without-cut 10 l line (text (drop (suc k) taken) ++ q.rest) clean
      (piece.1 ∙ ap (λ (a : List (List ℕ)). text a ++ q.rest) more
      ∙ append_assoc line (10 ∷ text (drop (suc k) taken)) q.rest)

  short-most : (j : ℕ) → Leads n (text front ++ l) j → j ≤ k
  short-most j q = elim (dec_lt k j) [ yes h ↦ absurd (short-line j q h) | no h ↦ omega arith ]

  short-other : (p : Outline) → headings p ≡ n → text front ++ l ≡ outline_text p → ⊥
  short-other p also e =
      let all = take_all n (lines p [] 1) (omega (arith, length-lines p [] 1)) in
      let whole = e ∙ sym (append-nil (outline_text p)) ∙ ap (λ (a : List (List ℕ)). text a ++ []) (sym all) in
      let most = short-most n (record { outline = p; size = also; within = omega arith; rest = []; begins = whole }) in
      omega arith

  pub short-wrong : {out c : List ℕ} {v : Verdict} → n ≤ largest → length out ≡ n + n → Back n (text front ++ l) out v c
      → (v ≡ Err (NoSuchOutline k)) × (c ≡ out)
  short-wrong {out} allowed fit u =
      back_one u
      (none (right-length n (length out) allowed fit) short-other
      (record {
        leads = record { outline = o; size = size; within = omega arith; rest = l; begins = refl };
        most = short-most;
      }))

-- k good lines, and then a line that is no number
module _ {n : ℕ} (o : Outline) (k : ℕ) (l y : List ℕ) (size : headings o ≡ n) (few : k < n)
    (clean : Without 10 l) (odd : Dotted l → ⊥) where
  abbrev good : List (List ℕ)
  good = take k (lines o [] 1)

  abbrev broken : List ℕ
  broken = text good ++ (l ++ 10 ∷ y)

  good_length : length good ≡ k
  good_length = length-take-le k (lines o [] 1) (omega (arith, length-lines o [] 1))

  with-line : broken ≡ text (good ++ l ∷ []) ++ y
  unfolding text
  with-line =
      ap (λ (x : List ℕ). text good ++ x) (sym (append_assoc l (10 ∷ []) y)) ∙ sym (text-join good (l ∷ []) y)

  good-clean : Each (Without 10) (good ++ l ∷ [])
  good-clean =
      each_append (Without 10) good (l ∷ [])
      (each_take (Without 10) (lines o [] 1) k (lines-clean o [] 1 tt))
      (clean, tt)

  -- an outline with more of its lines would have that line
  odd-line : (j : ℕ) (q : Leads n broken j) → k < j → l ≡ get_or (lines q.outline [] 1) k []
  odd-line j q h =
      let all = lines q.outline [] 1 in
      let long : j ≤ length all = omega (arith, length-lines q.outline [] 1, q.size, q.within) in
      sym (get_or_at good l [] [] k good_length)
      ∙ same_line (good ++ l ∷ []) (take j all) y q.rest k
      good-clean
      (each_take (Without 10) all j (lines-clean q.outline [] 1 tt))
      (sym with-line ∙ q.begins)
      (omega (arith, length-append good (l ∷ []), good_length))
      (omega (arith, length-take-le j all long))
      ∙ get_or-take j all k [] h

  odd-most : (j : ℕ) → Leads n broken j → j ≤ k
  odd-most j q =
      elim (dec_lt k j) [
        | yes h ↦
            let all = lines q.outline [] 1 in
            let some : k < length all = omega (arith, length-lines q.outline [] 1, q.size) in
            let number = each_at Dotted all k some (lines-dotted q.outline) in
            absurd (odd (subst Dotted (sym (odd-line j q h)) number))
        | no h ↦ omega arith
      ]

  odd-other : (p : Outline) → headings p ≡ n → broken ≡ outline_text p → ⊥
  odd-other p also e =
      let all = take_all n (lines p [] 1) (omega (arith, length-lines p [] 1)) in
      let whole = e ∙ sym (append-nil (outline_text p)) ∙ ap (λ (a : List (List ℕ)). text a ++ []) (sym all) in
      let most = odd-most n (record { outline = p; size = also; within = omega arith; rest = []; begins = whole }) in
      omega arith

  pub odd-wrong : {out c : List ℕ} {v : Verdict} → n ≤ largest → length out ≡ n + n → Back n broken out v c
      → (v ≡ Err (NoSuchOutline k)) × (c ≡ out)
  odd-wrong {out} allowed fit u =
      back_one u
      (none (right-length n (length out) allowed fit) odd-other
      (record {
        leads = record { outline = o; size = size; within = omega arith; rest = l ++ 10 ∷ y; begins = refl };
        most = odd-most;
      }))
