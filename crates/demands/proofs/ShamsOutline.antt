-- The shams of Shams.antt, of the two calls of the outline, and the wrong writers and readers that W-205 names: each at
-- an input where what it answers or leaves is not what the contract gives, whatever else it answers and leaves.
--     outline-refusing, schedule-of-outline-refusing     refuses everything [P3]
--     outline-fixed                     answers one fixed number [P5]
--     outline-fixed-text, schedule-of-outline-fixed      leaves one fixed text, or one fixed schedule [P6d]
--     outline-open-taken                a schedule that is not closed taken [H18]
--     outline-numbered-on               a sister numbered on from the last level [H18]
--     outline-level-open                a level that is not closed [H18]
--     outline-past-end                  a byte after the text changed [H18]
--     taken-1                           of one line the reader takes 1 and its line feed, and nothing else
--     reading-leading-zero, reading-surplus, reading-unfed, reading-returned     a leading zero, a surplus line, a text
--                                       without its last line feed or with a carriage return before it taken [H18]
--     reading-another                   another schedule of the same size left [H18]
--     reading-place-from-one, reading-place-fixed        the wrong line counted from 1, or always the first [H18]
-- Assumes nothing.
use mathlib.Core.List.{List, [], ◌∷◌}
use mathlib.Core.Logic.{◌≢◌}
use mathlib.Core.Path.{◌≡◌, refl, sym, ◌∙◌, ap}
use Prim.Native.Nat.{ℕ}
use native.Mathlib.Omega.{arith}
use lib.ListN.{length}
use Rattle.std.proofs.Common.{Ok, Err}
use Rattle.bounded.specs.Bounded.{first_from}
use Rattle.refusal.specs.declared.Refusal.{Refusal}
use Rattle.refusal.specs.declared.Refusal.TheVariants.{NoSuchOutline}
use Rattle.refusal.specs.Answer.{Verdict, place}
use Rattle.schedule.specs.Schedule.{ones, zeros}
use Rattle.tree.specs.Parse.{grow, parse, foremost, tree_of}
use Rattle.text.specs.Decimal.{digits, decimal}
use Rattle.outline.specs.Outline.{Outline, none, ◌then◌, heading, headings, below, schedule, beats, planted}
use Rattle.outline.specs.Text.{stem, lines, lines_of, text, outline_text}
use Rattle.outline_back.specs.Back.{Back}
use Rattle.outline_back.specs.Back as back
use Rattle.outline_back.proofs.Theorems.{back_one}
use Rattle.outline_back.proofs.Faults.{surplus-wrong}
use Rattle.demands.specs.Calls.{outline, schedule-of-outline, Gives}
use Rattle.demands.proofs.Shams.{room, never}

-- closed schedules, and the texts of their outlines: 1; 1, 1.1; 1, 2
abbrev form-10 : List ℕ
form-10 = 1 ∷ 0 ∷ []

abbrev form-1100 : List ℕ
form-1100 = 1 ∷ 1 ∷ 0 ∷ 0 ∷ []

abbrev form-1010 : List ℕ
form-1010 = 1 ∷ 0 ∷ 1 ∷ 0 ∷ []

abbrev text-10 : List ℕ
text-10 = 49 ∷ 10 ∷ []

abbrev text-1100 : List ℕ
text-1100 = 49 ∷ 10 ∷ 49 ∷ 46 ∷ 49 ∷ 10 ∷ []

abbrev text-1010 : List ℕ
text-1010 = 49 ∷ 10 ∷ 50 ∷ 10 ∷ []

-- what the reader gives for the last two
read-1100 : Back 2 text-1100 (room 4) (Ok tt) form-1100
unfolding headings below schedule beats lines lines_of text stem decimal digits
read-1100 = back.found (heading (heading none then none) then none) refl refl refl

read-1010 : Back 2 text-1010 (room 4) (Ok tt) form-1010
unfolding headings below schedule beats lines lines_of text stem decimal digits
read-1010 = back.found (heading none then heading none then none) refl refl refl

-- [P3] refuses everything
module _ (why : Refusal) (m : List ℕ) (x : List (List ℕ)) where
  pub outline-refusing : Gives (outline 1 1 form-10 (room 2)) (Err why) m x → ⊥
  unfolding first_from ones zeros grow parse foremost tree_of planted lines lines_of text stem decimal digits
  outline-refusing g = never g.0.0

  pub schedule-of-outline-refusing :
      Gives (schedule-of-outline 2 text-1100 (room 4)) (Err why) m x → ⊥
  schedule-of-outline-refusing g = never (back_one g.1 read-1100).0

-- [P5] answers one fixed number n: the text of 1100 has six bytes, and that of 1010 four
pub outline-fixed : (v w : Verdict) (n : ℕ) (x y : List (List ℕ)) → Gives (outline 2 2 form-1100 (room 6)) v (n ∷ []) x
    → Gives (outline 2 2 form-1010 (room 6)) w (n ∷ []) y → ⊥
unfolding first_from ones zeros grow parse foremost tree_of planted lines lines_of text stem decimal digits
outline-fixed v w n x y g h = let z : ◌≡◌ {A = ℕ} 6 4 = cc (g.0.1, h.0.1) in omega arith

-- [P6d] leaves one fixed text or schedule l: at one place the right ones differ, as the proof says
module _ (v w : Verdict) (m k l b c : List ℕ) where
  pub outline-fixed-text : Gives (outline 2 2 form-1100 (room 6)) v m (b ∷ l ∷ [])
      → Gives (outline 2 2 form-1010 (room 6)) w k (c ∷ l ∷ []) → ⊥
  unfolding first_from ones zeros grow parse foremost tree_of planted lines lines_of text stem decimal digits
  outline-fixed-text g h = let z : ◌≡◌ {A = ℕ} 49 50 = cc (g.1, h.1) in omega arith

  pub schedule-of-outline-fixed : Gives (schedule-of-outline 2 text-1100 (room 4)) v m (b ∷ l ∷ [])
      → Gives (schedule-of-outline 2 text-1010 (room 4)) w k (c ∷ l ∷ []) → ⊥
  schedule-of-outline-fixed g h =
      let e = (back_one g.1 read-1100).1 in
      let f = (back_one h.1 read-1010).1 in
      let z : ◌≡◌ {A = ℕ} 1 0 = cc (e, f, g.3, h.3) in
      omega arith

-- [H18] the writer: 110 takes up more than it sets down; the last line of 11010010 is 2, and not 3, and that of 110010
-- is 2, and not 1.2; after the text of 10 the third byte stays 7
pub outline-open-taken : (m : List ℕ) (x : List (List ℕ))
    → Gives (outline 2 1 (1 ∷ 1 ∷ 0 ∷ []) (room 6)) (Ok tt) m x → ⊥
unfolding first_from ones zeros
outline-open-taken m x g = never (sym g.0.0)

module _ (v : Verdict) (m b : List ℕ) where
  pub outline-numbered-on : Gives (outline 4 4 (1 ∷ 1 ∷ 0 ∷ 1 ∷ 0 ∷ 0 ∷ 1 ∷ 0 ∷ []) (room 12)) v m
      (b ∷ (49 ∷ 10 ∷ 49 ∷ 46 ∷ 49 ∷ 10 ∷ 49 ∷ 46 ∷ 50 ∷ 10 ∷ 51 ∷ 10 ∷ []) ∷ []) → ⊥
  unfolding first_from ones zeros grow parse foremost tree_of planted lines lines_of text stem decimal digits
  outline-numbered-on g = let z : ◌≡◌ {A = ℕ} 51 50 = cc g.1 in omega arith

  pub outline-level-open : (l : List ℕ) → Gives (outline 3 3 (1 ∷ 1 ∷ 0 ∷ 0 ∷ 1 ∷ 0 ∷ []) (room 10)) v m
      (b ∷ (49 ∷ 10 ∷ 49 ∷ 46 ∷ 49 ∷ 10 ∷ 49 ∷ 46 ∷ l) ∷ []) → ⊥
  unfolding first_from ones zeros grow parse foremost tree_of planted lines lines_of text stem decimal digits
  outline-level-open l g = let z : ◌≡◌ {A = ℕ} 49 50 = cc g.1 in omega arith

  pub outline-past-end : (z : ℕ) → z ≢ 7
      → Gives (outline 1 1 form-10 (room 3)) v m (b ∷ (49 ∷ 10 ∷ z ∷ []) ∷ []) → ⊥
  unfolding first_from ones zeros grow parse foremost tree_of planted lines lines_of text stem decimal digits
  outline-past-end z other g = let same : z ≡ 7 = cc g.1 in other same

-- [H18] the reader
only-1 : (o : Outline) → headings o ≡ 1 → outline_text o ≡ text-10
unfolding headings below lines lines_of text stem decimal digits
only-1 none e = absurd (omega (arith, e))
only-1 (heading none then none) e = refl
only-1 (heading none then (heading p then r)) e = absurd (omega (arith, e))
only-1 (heading (heading p then q) then r) e = absurd (omega (arith, e))

pub taken-1 : {x out c : List ℕ} (v : Verdict) → v ≡ Ok tt → Back 1 x out v c → x ≡ text-10
taken-1 v e (back.found o a size q) = q ∙ only-1 o size
taken-1 v e (back.none a other wrong) = absurd (never e)
taken-1 v e (back.unfit a) = absurd (never e)

module _ (m : List ℕ) (x : List (List ℕ)) where
  pub reading-leading-zero : Gives (schedule-of-outline 1 (48 ∷ 49 ∷ 10 ∷ []) (room 2)) (Ok tt) m x → ⊥
  reading-leading-zero g = omega (arith, ap length (taken-1 _ refl g.1))

  pub reading-surplus : Gives (schedule-of-outline 1 text-1010 (room 2)) (Ok tt) m x → ⊥
  reading-surplus g = omega (arith, ap length (taken-1 _ refl g.1))

  pub reading-unfed : Gives (schedule-of-outline 1 (49 ∷ []) (room 2)) (Ok tt) m x → ⊥
  reading-unfed g = omega (arith, ap length (taken-1 _ refl g.1))

  pub reading-returned : Gives (schedule-of-outline 1 (49 ∷ 13 ∷ 10 ∷ []) (room 2)) (Ok tt) m x → ⊥
  reading-returned g = omega (arith, ap length (taken-1 _ refl g.1))

pub reading-another : (v : Verdict) (m b : List ℕ)
    → Gives (schedule-of-outline 2 text-1100 (room 4)) v m (b ∷ form-1010 ∷ []) → ⊥
reading-another v m b g =
    let e = (back_one g.1 read-1100).1 in
    let z : ◌≡◌ {A = ℕ} 0 1 = cc (e, g.3) in
    omega arith

-- of 1, 2 as one line the line 1 is wrong
wrong-1 : {v : Verdict} {c : List ℕ} → Back 1 text-1010 (room 2) v c → place v ≡ 1
unfolding headings below lines lines_of text stem decimal digits
wrong-1 u = ap place (surplus-wrong (heading none then none) 50 (10 ∷ []) refl (omega arith) refl u).0

module _ (m : List ℕ) (x : List (List ℕ)) where
  pub reading-place-from-one :
      Gives (schedule-of-outline 1 text-1010 (room 2)) (Err (NoSuchOutline 2)) m x → ⊥
  reading-place-from-one g = omega (arith, wrong-1 g.1)

  pub reading-place-fixed :
      Gives (schedule-of-outline 1 text-1010 (room 2)) (Err (NoSuchOutline 0)) m x → ⊥
  reading-place-fixed g = omega (arith, wrong-1 g.1)
