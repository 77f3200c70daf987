-- The library's entry points as calls, and what each of them answers and leaves, by the words of its contract;
-- src/lib.rt proves that of each function. Those that are not here answer a part of these: each C function but
-- gv_version one number of one of them, by the same definition, and the functions that take a list of counts the same;
-- the lines of the lists are `lists`'. Definitions only.
--     Move            a step or a run of k steps, on or back
--     move_answer     the beats that a move changes, or its refusal
--     move_left       the schedule that it leaves
--     Call            an entry point with its numbers and with what is lent to it; `changed` asks what a move would
--                     change, and writes nothing
--     lent            what is lent to a call, list by list
--     Says            an answer that is one number, or a refusal
--     Gives           what the contract says of a call: its verdict, the numbers that it answers, and what it leaves in
--                     all that was lent [D1f] [D1g] [P2]
--     silenced        the numbers that are 0 after a refusal: all but the bytes that a read record takes
--     CountsOf        the counts that a call names
--     BeatsOf         the beats that a call is asked about
--     Owed            a lent list, and how long it has to be
use Rattle.std.specs.Prelude.{List, [], ◌∷◌, ◌≡◌, ℕ, ◌+◌, take}
use Rattle.form.specs.Answers.{form_verdict, form_left, sheet_verdict, sheet_left}
use Rattle.refusal.specs.Answer.{Verdict, Answer, verdict, value}
use Rattle.counts.specs.Counts.{counting}
use Rattle.schedule.specs.Check.{checked}
use Rattle.circle.specs.Answers.{next_answer, next_left, run_answer, run_left}
use Rattle.circle_back.specs.Answers.{previous_answer, previous_left, run_back_answer, run_back_left}
use Rattle.reason.specs.Answers.{explained, numbers}
use Rattle.number.specs.Answers.{number_answer}
use Rattle.tree.specs.Table.{Treed}
use Rattle.tree_back.specs.Back.{Untreed}
use Rattle.outline.specs.Answers.{outline_answer, outline_left}
use Rattle.outline_back.specs.Back.{Back}
use Rattle.record.specs.Record.{ups, downs, write_answer, write_left}
use Rattle.reader.specs.Answers.{read_answer, read_left}
use Rattle.record.specs.Parts as said

pub data Move : Type 0 where
  next : Move
  previous : Move
  run : (k : ℕ) → Move
  run-back : (k : ℕ) → Move

abbrev pub move_answer : Move → ℕ → ℕ → List ℕ → Answer
move_answer next t s b = next_answer t s b
move_answer previous t s b = previous_answer t s b
move_answer (run k) t s b = run_answer t s b k
move_answer (run-back k) t s b = run_back_answer t s b k

abbrev pub move_left : Move → ℕ → ℕ → List ℕ → List ℕ
move_left next t s b = next_left t s b
move_left previous t s b = previous_left t s b
move_left (run k) t s b = run_left t s b k
move_left (run-back k) t s b = run_back_left t s b k

pub data Call : Type 0 where
  count : (t s : ℕ) → Call
  check : (t s : ℕ) (beats : List ℕ) → Call
  move : (way : Move) (t s : ℕ) (beats : List ℕ) → Call
  changed : (way : Move) (t s : ℕ) (beats : List ℕ) → Call
  explain : (t s : ℕ) (beats : List ℕ) → Call
  number : (t s : ℕ) (beats : List ℕ) → Call
  form : (t s n : ℕ) (out : List ℕ) → Call
  form-on-sheet : (t s n : ℕ) (sheet : List ℕ) (column : ℕ) → Call
  tree : (n : ℕ) (beats left right parent : List ℕ) → Call
  schedule-of-tree : (n : ℕ) (left right parent out : List ℕ) → Call
  outline : (t s : ℕ) (beats text : List ℕ) → Call
  schedule-of-outline : (n : ℕ) (text out : List ℕ) → Call
  read : (src out : List ℕ) → Call
  write : (kind t s : ℕ) (beats out : List ℕ) → Call

abbrev pub lent : Call → List (List ℕ)
lent (count t s) = []
lent (check t s b) = b ∷ []
lent (move way t s b) = b ∷ []
lent (changed way t s b) = b ∷ []
lent (explain t s b) = b ∷ []
lent (number t s b) = b ∷ []
lent (form t s n out) = out ∷ []
lent (form-on-sheet t s n sheet column) = sheet ∷ []
lent (tree n b l r p) = b ∷ l ∷ r ∷ p ∷ []
lent (schedule-of-tree n l r p out) = l ∷ r ∷ p ∷ out ∷ []
lent (outline t s b text) = b ∷ text ∷ []
lent (schedule-of-outline n text out) = text ∷ out ∷ []
lent (read src out) = src ∷ out ∷ []
lent (write kind t s b out) = b ∷ out ∷ []

abbrev pub Says : Answer → Verdict → List ℕ → Type 0
Says a v m = (v ≡ verdict a) × (m ≡ value a ∷ [])

abbrev pub Gives : Call → Verdict → List ℕ → List (List ℕ) → Type 0
Gives (count t s) v m x = Says (counting t s) v m × (x ≡ [])
Gives (check t s b) v m x = ((v ≡ checked t s b) × (m ≡ [])) × (x ≡ b ∷ [])
Gives (move way t s b) v m x = Says (move_answer way t s b) v m × (x ≡ move_left way t s b ∷ [])
Gives (changed way t s b) v m x = Says (move_answer way t s b) v m × (x ≡ b ∷ [])
Gives (explain t s b) v m x = ((v ≡ checked t s b) × (m ≡ numbers (explained t s b))) × (x ≡ b ∷ [])
Gives (number t s b) v m x = Says (number_answer t s b) v m × (x ≡ b ∷ [])
Gives (form t s n out) v m x = ((v ≡ form_verdict t s n out) × (m ≡ [])) × (x ≡ form_left t s n out ∷ [])
Gives (form-on-sheet t s n sheet column) v m x = ((v ≡ sheet_verdict t s n sheet column) × (m ≡ []))
    × (x ≡ sheet_left t s n sheet column ∷ [])
Gives (tree n b l r p) v m x =
    (l' : List ℕ) × (r' : List ℕ) × (p' : List ℕ) × Treed n b l r p v l' r' p' × (m ≡ []) × (x ≡ b ∷ l' ∷ r' ∷ p' ∷ [])
Gives (schedule-of-tree n l r p out) v m x =
    (b' : List ℕ) × Untreed n l r p out v b' × (m ≡ []) × (x ≡ l ∷ r ∷ p ∷ b' ∷ [])
Gives (outline t s b text) v m x = Says (outline_answer t s b text) v m × (x ≡ b ∷ outline_left t s b text ∷ [])
Gives (schedule-of-outline n text out) v m x =
    (b' : List ℕ) × Back n text out v b' × (m ≡ []) × (x ≡ text ∷ b' ∷ [])
Gives (read src out) v m x =
    let a = read_answer src out in
    ((v ≡ said.verdict a) × (m ≡ said.t a ∷ said.s a ∷ said.number a ∷ said.consumed a ∷ []))
    × (x ≡ src ∷ read_left src out ∷ [])
Gives (write kind t s b out) v m x = Says (write_answer kind t s b out) v m × (x ≡ b ∷ write_left kind t s b out ∷ [])

abbrev pub silenced : Call → List ℕ → List ℕ
silenced (read src out) m = take 3 m
silenced (count t s) m = m
silenced (check t s b) m = m
silenced (move way t s b) m = m
silenced (changed way t s b) m = m
silenced (explain t s b) m = m
silenced (number t s b) m = m
silenced (form t s n out) m = m
silenced (form-on-sheet t s n sheet column) m = m
silenced (tree n b l r p) m = m
silenced (schedule-of-tree n l r p out) m = m
silenced (outline t s b text) m = m
silenced (schedule-of-outline n text out) m = m
silenced (write kind t s b out) m = m

pub data CountsOf : Call → ℕ → ℕ → Type 0 where
  of-count : {t s : ℕ} → CountsOf (count t s) t s
  of-check : {t s : ℕ} {b : List ℕ} → CountsOf (check t s b) t s
  of-move : {way : Move} {t s : ℕ} {b : List ℕ} → CountsOf (move way t s b) t s
  of-changed : {way : Move} {t s : ℕ} {b : List ℕ} → CountsOf (changed way t s b) t s
  of-explain : {t s : ℕ} {b : List ℕ} → CountsOf (explain t s b) t s
  of_number : {t s : ℕ} {b : List ℕ} → CountsOf (number t s b) t s
  of-form : {t s n : ℕ} {out : List ℕ} → CountsOf (form t s n out) t s
  of-form-on-sheet : {t s n : ℕ} {sheet : List ℕ} {column : ℕ} → CountsOf (form-on-sheet t s n sheet column) t s
  of_tree : {n : ℕ} {b l r p : List ℕ} → CountsOf (tree n b l r p) n n
  of-schedule-of-tree : {n : ℕ} {l r p out : List ℕ} → CountsOf (schedule-of-tree n l r p out) n n
  of-outline : {t s : ℕ} {b text : List ℕ} → CountsOf (outline t s b text) t s
  of-schedule-of-outline : {n : ℕ} {text out : List ℕ} → CountsOf (schedule-of-outline n text out) n n
  of-read : {src out : List ℕ} → CountsOf (read src out) (ups src) (downs src)
  of-write : {kind t s : ℕ} {b out : List ℕ} → CountsOf (write kind t s b out) t s

pub data BeatsOf : Call → List ℕ → Type 0 where
  in-check : {t s : ℕ} {b : List ℕ} → BeatsOf (check t s b) b
  in-move : {way : Move} {t s : ℕ} {b : List ℕ} → BeatsOf (move way t s b) b
  in-changed : {way : Move} {t s : ℕ} {b : List ℕ} → BeatsOf (changed way t s b) b
  in-explain : {t s : ℕ} {b : List ℕ} → BeatsOf (explain t s b) b
  in-number : {t s : ℕ} {b : List ℕ} → BeatsOf (number t s b) b
  in_tree : {n : ℕ} {b l r p : List ℕ} → BeatsOf (tree n b l r p) b
  in-outline : {t s : ℕ} {b text : List ℕ} → BeatsOf (outline t s b text) b
  in-write : {kind t s : ℕ} {b out : List ℕ} → BeatsOf (write kind t s b out) b

pub data Owed : Call → List ℕ → ℕ → Type 0 where
  beats : {c : Call} {t s : ℕ} {b : List ℕ} → CountsOf c t s → BeatsOf c b → Owed c b (t + s)
  formed : {t s n : ℕ} {out : List ℕ} → Owed (form t s n out) out (t + s)
  left : {n : ℕ} {b l r p : List ℕ} → Owed (tree n b l r p) l n
  right : {n : ℕ} {b l r p : List ℕ} → Owed (tree n b l r p) r n
  parent : {n : ℕ} {b l r p : List ℕ} → Owed (tree n b l r p) p n
  from-left : {n : ℕ} {l r p out : List ℕ} → Owed (schedule-of-tree n l r p out) l n
  from-right : {n : ℕ} {l r p out : List ℕ} → Owed (schedule-of-tree n l r p out) r n
  from-parent : {n : ℕ} {l r p out : List ℕ} → Owed (schedule-of-tree n l r p out) p n
  schedule : {n : ℕ} {l r p out : List ℕ} → Owed (schedule-of-tree n l r p out) out (n + n)
  outlined : {n : ℕ} {text out : List ℕ} → Owed (schedule-of-outline n text out) out (n + n)
