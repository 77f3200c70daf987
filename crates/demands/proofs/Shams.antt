-- The manual's five shams ("Proving what was asked"), each at an input where what it answers or leaves is not what the
-- contract gives, in the words of `Gives` and by computing it. A refused edit of docs/SHAMS.md shows that the written
-- proof does not fit the wrong code; a theorem here, that no proof can: what meets the contract does not answer so.
-- What is not the sham's own is left open: any verdict, any numbers, any content of what was lent. Those of the calls
-- back are in ShamsBack.antt, of explaining in ShamsExplain.antt and of outlines in ShamsOutline.antt; what goes by
-- another numbering is in ShamsCatalogue.antt.
--     never     a refusal is not an acceptance
--     Refuses everything [P3]: no refusal fits a call that has to be accepted.
--     count-refusing, check-refusing, next-refusing, changed-refusing, run-refusing, run-changed-refusing [P3]
--     number-refusing, form-refusing, form-on-sheet-refusing, tree-refusing, schedule-of-tree-refusing [P3]
--     read-refusing, read-from-top-refusing, read-beaten-refusing, write-refusing, write-beaten-refusing [P3]
--     Answers one fixed number [P5]: none fits both of two calls.
--     count-fixed, next-fixed, changed-fixed, run-fixed, run-changed-fixed, number-fixed, read-fixed, write-fixed [P5]
--     Leaves one fixed form, record or table [P6d]: none fits both of two calls.
--     next-fixed-form, run-fixed-form, form-fixed, form-on-sheet-fixed, tree-fixed, schedule-of-tree-fixed [P6d]
--     read-fixed-form, write-fixed-record [P6d]
--     The next form is the form that was given, whatever is answered; or no beat is said to change [P6a].
--     next-still, run-still, changed-still, run-changed-still [P6a]
--     A run makes its first step only, however it counts the rest; or it counts that step only [P6b].
--     run-first-step, run-changed-first-step [P6b]
--     A run reports twice its length, whatever it leaves [P6c].
--     run-twice, run-changed-twice [P6c]
-- Assumes nothing.
use mathlib.Core.List.{List, [], ◌∷◌}
use mathlib.Core.Path.{◌≡◌, refl}
use Prim.Native.Nat.{ℕ, ◌*◌}
use native.Mathlib.Omega.{arith}
use lib.ListN.{replicate}
use Rattle.std.proofs.Common.{Ok, Err}
use Rattle.bounded.specs.Bounded.{every, first_from}
use Rattle.refusal.specs.declared.Refusal.{Refusal}
use Rattle.refusal.specs.Answer.{Verdict}
use Rattle.triangle.specs.Count.{N, most_beats}
use Rattle.schedule.specs.Schedule.{ones, zeros, is_schedule}
use Rattle.circle.specs.Step.{shift, found, has01, moves_next}
use Rattle.circle.specs.Step as rule
use Rattle.circle.specs.Walk.{steps, worked}
use Rattle.circle.specs.Walk as walk
use Rattle.tree.specs.Tree.{leaf, node, size, word, root, lefts, rights, parents}
use Rattle.tree.specs.Table.{Has, Treed, filled}
use Rattle.tree.proofs.Theorems.{treed-one}
use Rattle.tree_back.specs.Back.{Untreed}
use Rattle.tree_back.specs.Back as back
use Rattle.tree_back.proofs.Theorems.{untreed-one}
use Rattle.record.specs.Bytes.{low_first, value_of, tabulate}
use Rattle.demands.specs.Calls.{count, check, move, next, run, changed, number, form, form-on-sheet, Gives}
use Rattle.demands.specs.Calls.{tree, schedule-of-tree, read, write}

-- forms of (3,2), the two of (2,2), what is lent to be written into, and a record of (3,2) that holds a number
abbrev pub form-11100 : List ℕ
form-11100 = 1 ∷ 1 ∷ 1 ∷ 0 ∷ 0 ∷ []

abbrev pub form-10110 : List ℕ
form-10110 = 1 ∷ 0 ∷ 1 ∷ 1 ∷ 0 ∷ []

abbrev form-11010 : List ℕ
form-11010 = 1 ∷ 1 ∷ 0 ∷ 1 ∷ 0 ∷ []

abbrev form-1100 : List ℕ
form-1100 = 1 ∷ 1 ∷ 0 ∷ 0 ∷ []

abbrev form-1010 : List ℕ
form-1010 = 1 ∷ 0 ∷ 1 ∷ 0 ∷ []

abbrev pub room : ℕ → List ℕ
room n = replicate n 7

abbrev pub record_of_kind : ℕ → ℕ → List ℕ
record_of_kind kind n = 12 ∷ 0 ∷ kind ∷ 0 ∷ 3 ∷ 2 ∷ n ∷ 0 ∷ 0 ∷ 0 ∷ 0 ∷ 0 ∷ 0 ∷ 0 ∷ []

-- the tables of 1100 and of 1010, there and back
has-1100 : Has 2 form-1100 (2 ∷ 0 ∷ []) (0 ∷ 0 ∷ []) (0 ∷ 1 ∷ [])
unfolding size word root lefts rights parents
has-1100 =
    record { tree = node (node leaf leaf) leaf; nodes = refl; beats = refl; left = refl; right = refl; parent = refl }

has-1010 : Has 2 form-1010 (0 ∷ 0 ∷ []) (2 ∷ 0 ∷ []) (0 ∷ 1 ∷ [])
unfolding size word root lefts rights parents
has-1010 =
    record { tree = node leaf (node leaf leaf); nodes = refl; beats = refl; left = refl; right = refl; parent = refl }

treed-1100 : Treed 2 form-1100 (room 2) (room 2) (room 2) (Ok tt) (2 ∷ 0 ∷ []) (0 ∷ 0 ∷ []) (0 ∷ 1 ∷ [])
unfolding first_from ones zeros
treed-1100 = filled refl has-1100

treed-1010 : Treed 2 form-1010 (room 2) (room 2) (room 2) (Ok tt) (0 ∷ 0 ∷ []) (2 ∷ 0 ∷ []) (0 ∷ 1 ∷ [])
unfolding first_from ones zeros
treed-1010 = filled refl has-1010

untreed-1100 : Untreed 2 (2 ∷ 0 ∷ []) (0 ∷ 0 ∷ []) (0 ∷ 1 ∷ []) (room 4) (Ok tt) form-1100
untreed-1100 = back.found refl has-1100

untreed-1010 : Untreed 2 (0 ∷ 0 ∷ []) (2 ∷ 0 ∷ []) (0 ∷ 1 ∷ []) (room 4) (Ok tt) form-1010
untreed-1010 = back.found refl has-1010

-- [P3] refuses everything: by any refusal, whatever is answered and left beside it
pub never : {why : Refusal} → ◌≡◌ {A = Verdict} (Err why) (Ok tt) → ⊥
never e = let z : ◌≡◌ {A = ℕ} 0 1 = cc in omega arith

module _ (why : Refusal) (m : List ℕ) (x : List (List ℕ)) where
  pub count-refusing : Gives (count 3 2) (Err why) m x → ⊥
  count-refusing g = never g.0.0

  pub check-refusing : Gives (check 3 2 form-11100) (Err why) m x → ⊥
  unfolding first_from ones zeros
  check-refusing g = never g.0.0

  pub next-refusing : Gives (move next 3 2 form-11100) (Err why) m x → ⊥
  unfolding first_from ones zeros
  next-refusing g = never g.0.0

  pub changed-refusing : Gives (changed next 3 2 form-11100) (Err why) m x → ⊥
  unfolding first_from ones zeros
  changed-refusing g = never g.0.0

  pub run-refusing : Gives (move (run 2) 3 2 form-11100) (Err why) m x → ⊥
  unfolding first_from ones zeros
  run-refusing g = never g.0.0

  pub run-changed-refusing : Gives (changed (run 2) 3 2 form-11100) (Err why) m x → ⊥
  unfolding first_from ones zeros
  run-changed-refusing g = never g.0.0

  pub number-refusing : Gives (number 3 2 form-11100) (Err why) m x → ⊥
  unfolding first_from ones zeros
  number-refusing g = never g.0.0

  pub form-refusing : Gives (form 3 2 1 (room 5)) (Err why) m x → ⊥
  unfolding N
  form-refusing g = never g.0.0

  pub form-on-sheet-refusing : Gives (form-on-sheet 3 2 1 (room 7) 1) (Err why) m x → ⊥
  unfolding N
  form-on-sheet-refusing g = never g.0.0

  pub tree-refusing : Gives (tree 2 form-1100 (room 2) (room 2) (room 2)) (Err why) m x → ⊥
  tree-refusing g = never (treed-one g.3 treed-1100).0

  pub schedule-of-tree-refusing :
      Gives (schedule-of-tree 2 (2 ∷ 0 ∷ []) (0 ∷ 0 ∷ []) (0 ∷ 1 ∷ []) (room 4)) (Err why) m x → ⊥
  schedule-of-tree-refusing g = never (untreed-one g.1 untreed-1100).0

  pub read-refusing : Gives (read (record_of_kind 3 2) (room most_beats)) (Err why) m x → ⊥
  unfolding N value_of
  read-refusing g = never g.0.0

  pub read-from-top-refusing : Gives (read (record_of_kind 1 2) (room most_beats)) (Err why) m x → ⊥
  unfolding N value_of
  read-from-top-refusing g = never g.0.0

  pub read-beaten-refusing : Gives (read (5 ∷ 0 ∷ 2 ∷ 0 ∷ 3 ∷ 2 ∷ 168 ∷ []) (room most_beats)) (Err why) m x
      → ⊥
  unfolding first_from ones zeros value_of tabulate
  read-beaten-refusing g = never g.0.0

  pub write-refusing : Gives (write 3 3 2 form-11100 (room 14)) (Err why) m x → ⊥
  unfolding first_from ones zeros low_first
  write-refusing g = never g.0.0

  pub write-beaten-refusing : Gives (write 2 3 2 form-11100 (room 7)) (Err why) m x → ⊥
  unfolding first_from ones zeros low_first tabulate
  write-beaten-refusing g = never g.0.0

-- [P5] answers one fixed number n: the right ones, which stand in the proof, differ
module _ (v w : Verdict) (n : ℕ) (x y : List (List ℕ)) where
  pub count-fixed : Gives (count 5 3) v (n ∷ []) x → Gives (count 8 5) w (n ∷ []) y → ⊥
  unfolding N
  count-fixed g h = let z : ◌≡◌ {A = ℕ} 28 572 = cc (g.0.1, h.0.1) in omega arith

  pub next-fixed : Gives (move next 3 2 form-11100) v (n ∷ []) x → Gives (move next 3 2 form-11010) w (n ∷ []) y → ⊥
  unfolding every first_from ones zeros is_schedule shift found has01 moves_next rule.next walk.changed
  next-fixed g h = let z : ◌≡◌ {A = ℕ} 2 4 = cc (g.0.1, h.0.1) in omega arith

  pub changed-fixed :
      Gives (changed next 3 2 form-11100) v (n ∷ []) x → Gives (changed next 3 2 form-11010) w (n ∷ []) y → ⊥
  unfolding every first_from ones zeros is_schedule shift found has01 moves_next rule.next walk.changed
  changed-fixed g h = let z : ◌≡◌ {A = ℕ} 2 4 = cc (g.0.1, h.0.1) in omega arith

  pub run-fixed :
      Gives (move (run 1) 3 2 form-11100) v (n ∷ []) x → Gives (move (run 2) 3 2 form-11100) w (n ∷ []) y → ⊥
  unfolding every first_from ones zeros is_schedule shift found has01 moves_next rule.next walk.changed steps worked
  run-fixed g h = let z : ◌≡◌ {A = ℕ} 2 4 = cc (g.0.1, h.0.1) in omega arith

  pub run-changed-fixed :
      Gives (changed (run 1) 3 2 form-11100) v (n ∷ []) x → Gives (changed (run 2) 3 2 form-11100) w (n ∷ []) y → ⊥
  unfolding every first_from ones zeros is_schedule shift found has01 moves_next rule.next walk.changed steps worked
  run-changed-fixed g h = let z : ◌≡◌ {A = ℕ} 2 4 = cc (g.0.1, h.0.1) in omega arith

  pub number-fixed : Gives (number 3 2 form-11100) v (n ∷ []) x → Gives (number 3 2 form-10110) w (n ∷ []) y → ⊥
  unfolding N every first_from ones zeros is_schedule shift found has01 moves_next rule.next walk.changed steps
  number-fixed g h = let z : ◌≡◌ {A = ℕ} 4 0 = cc (g.0.1, h.0.1) in omega arith

  pub read-fixed : (t s c t' s' c' : ℕ) → Gives (read (record_of_kind 3 2) (room most_beats)) v (t ∷ s ∷ n ∷ c ∷ []) x
      → Gives (read (record_of_kind 3 3) (room most_beats)) w (t' ∷ s' ∷ n ∷ c' ∷ []) y → ⊥
  unfolding N value_of every first_from ones zeros is_schedule shift found has01 moves_next rule.next walk.changed steps
  read-fixed t s c t' s' c' g h = let z : ◌≡◌ {A = ℕ} 2 3 = cc (g.0.1, h.0.1) in omega arith

  pub write-fixed :
      Gives (write 3 3 2 form-11100 (room 14)) v (n ∷ []) x → Gives (write 2 3 2 form-11100 (room 14)) w (n ∷ []) y → ⊥
  unfolding first_from ones zeros low_first tabulate
  write-fixed g h = let z : ◌≡◌ {A = ℕ} 14 7 = cc (g.0.1, h.0.1) in omega arith

-- [P6d] leaves one fixed form l, or l in its table or record: at one place the right ones differ, as the proof says
module _ (v w : Verdict) (m k l : List ℕ) where
  pub next-fixed-form :
      Gives (move next 3 2 form-11100) v m (l ∷ []) → Gives (move next 3 2 form-10110) w k (l ∷ []) → ⊥
  unfolding every first_from ones zeros is_schedule shift found has01 moves_next rule.next
  next-fixed-form g h = let z : ◌≡◌ {A = ℕ} 0 1 = cc (g.1, h.1) in omega arith

  pub run-fixed-form :
      Gives (move (run 1) 3 2 form-11100) v m (l ∷ []) → Gives (move (run 2) 3 2 form-11100) w k (l ∷ []) → ⊥
  unfolding every first_from ones zeros is_schedule shift found has01 moves_next rule.next steps
  run-fixed-form g h = let z : ◌≡◌ {A = ℕ} 0 1 = cc (g.1, h.1) in omega arith

  pub form-fixed : Gives (form 3 2 0 (room 5)) v m (l ∷ []) → Gives (form 3 2 1 (room 5)) w k (l ∷ []) → ⊥
  unfolding N every first_from ones zeros is_schedule shift found has01 moves_next rule.next steps
  form-fixed g h = let z : ◌≡◌ {A = ℕ} 0 1 = cc (g.1, h.1) in omega arith

  pub form-on-sheet-fixed :
      Gives (form-on-sheet 3 2 0 (room 7) 1) v m (l ∷ []) → Gives (form-on-sheet 3 2 1 (room 7) 1) w k (l ∷ []) → ⊥
  unfolding N every first_from ones zeros is_schedule shift found has01 moves_next rule.next steps
  form-on-sheet-fixed g h = let z : ◌≡◌ {A = ℕ} 0 1 = cc (g.1, h.1) in omega arith

  pub tree-fixed : (r p b c : List ℕ) → Gives (tree 2 form-1100 (room 2) (room 2) (room 2)) v m (b ∷ l ∷ r ∷ p ∷ [])
      → Gives (tree 2 form-1010 (room 2) (room 2) (room 2)) w k (c ∷ l ∷ r ∷ p ∷ []) → ⊥
  tree-fixed r p b c g h =
      let e = (treed-one g.3 treed-1100).1 in
      let f = (treed-one h.3 treed-1010).1 in
      let z : ◌≡◌ {A = ℕ} 2 0 = cc (e, f, g.5, h.5) in
      omega arith

  pub schedule-of-tree-fixed : (a b c a' b' c' : List ℕ)
      → Gives (schedule-of-tree 2 (2 ∷ 0 ∷ []) (0 ∷ 0 ∷ []) (0 ∷ 1 ∷ []) (room 4)) v m (a ∷ b ∷ c ∷ l ∷ [])
      → Gives (schedule-of-tree 2 (0 ∷ 0 ∷ []) (2 ∷ 0 ∷ []) (0 ∷ 1 ∷ []) (room 4)) w k (a' ∷ b' ∷ c' ∷ l ∷ []) → ⊥
  schedule-of-tree-fixed a b c a' b' c' g h =
      let e = (untreed-one g.1 untreed-1100).1 in
      let f = (untreed-one h.1 untreed-1010).1 in
      let z : ◌≡◌ {A = ℕ} 1 0 = cc (e, f, g.3, h.3) in
      omega arith

  pub read-fixed-form : (b c : List ℕ) → Gives (read (record_of_kind 3 0) (room most_beats)) v m (b ∷ l ∷ [])
      → Gives (read (record_of_kind 3 1) (room most_beats)) w k (c ∷ l ∷ []) → ⊥
  unfolding N value_of every first_from ones zeros is_schedule shift found has01 moves_next rule.next steps
  read-fixed-form b c g h = let z : ◌≡◌ {A = ℕ} 0 1 = cc (g.1, h.1) in omega arith

  pub write-fixed-record : (b c : List ℕ) → Gives (write 3 3 2 form-11100 (room 14)) v m (b ∷ l ∷ [])
      → Gives (write 3 3 2 form-10110 (room 14)) w k (c ∷ l ∷ []) → ⊥
  unfolding N low_first every first_from ones zeros is_schedule shift found has01 moves_next rule.next walk.changed
      steps
  write-fixed-record b c g h = let z : ◌≡◌ {A = ℕ} 4 0 = cc (g.1, h.1) in omega arith

-- [P6a] the next form is the form that was given, and so no beat changes: after 11100 comes 10110, and two beats change
module _ (v : Verdict) (m : List ℕ) (x : List (List ℕ)) where
  pub next-still : Gives (move next 3 2 form-11100) v m (form-11100 ∷ []) → ⊥
  unfolding every first_from ones zeros is_schedule shift found has01 moves_next rule.next
  next-still g = let z : ◌≡◌ {A = ℕ} 1 0 = cc g.1 in omega arith

  pub run-still : Gives (move (run 1) 3 2 form-11100) v m (form-11100 ∷ []) → ⊥
  unfolding every first_from ones zeros is_schedule shift found has01 moves_next rule.next steps
  run-still g = let z : ◌≡◌ {A = ℕ} 1 0 = cc g.1 in omega arith

  pub changed-still : Gives (changed next 3 2 form-11100) v (0 ∷ []) x → ⊥
  unfolding every first_from ones zeros is_schedule shift found has01 moves_next rule.next walk.changed
  changed-still g = let z : ◌≡◌ {A = ℕ} 0 2 = cc g.0.1 in omega arith

  pub run-changed-still : Gives (changed (run 1) 3 2 form-11100) v (0 ∷ []) x → ⊥
  unfolding every first_from ones zeros is_schedule shift found has01 moves_next rule.next walk.changed steps worked
  run-changed-still g = let z : ◌≡◌ {A = ℕ} 0 2 = cc g.0.1 in omega arith

  -- [P6b] of two steps the first alone: that leaves 10110, and not 11010, and changes 2 beats, and not 4
  pub run-first-step : Gives (move (run 2) 3 2 form-11100) v m (rule.next form-11100 ∷ []) → ⊥
  unfolding every first_from ones zeros is_schedule shift found has01 moves_next rule.next steps
  run-first-step g = let z : ◌≡◌ {A = ℕ} 0 1 = cc g.1 in omega arith

  pub run-changed-first-step :
      Gives (changed (run 2) 3 2 form-11100) v (walk.changed form-11100 (rule.next form-11100) ∷ []) x → ⊥
  unfolding every first_from ones zeros is_schedule shift found has01 moves_next rule.next walk.changed steps worked
  run-changed-first-step g = let z : ◌≡◌ {A = ℕ} 2 4 = cc g.0.1 in omega arith

  -- [P6c] twice its length: one step from 11010 changes 4 beats, and not 2
  pub run-twice : Gives (move (run 1) 3 2 form-11010) v (2 * 1 ∷ []) x → ⊥
  unfolding every first_from ones zeros is_schedule shift found has01 moves_next rule.next walk.changed steps worked
  run-twice g = let z : ◌≡◌ {A = ℕ} 2 4 = cc g.0.1 in omega arith

  pub run-changed-twice : Gives (changed (run 1) 3 2 form-11010) v (2 * 1 ∷ []) x → ⊥
  unfolding every first_from ones zeros is_schedule shift found has01 moves_next rule.next walk.changed steps worked
  run-changed-twice g = let z : ◌≡◌ {A = ℕ} 2 4 = cc g.0.1 in omega arith
