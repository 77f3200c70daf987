-- The three demands of the letter, about the definitions and about what the functions answer and leave (Calls.antt).
-- proofs/Demands.antt proves each. That every call ends and takes every input is what the contracts say by having no
-- `requires`. Definitions only.
--     Wrong                what the letter wants refused: counts above the largest, bad beats, wrong lengths, numbers
--                          beyond the last form, cut records. A wrong length is each of these: a lent list of another
--                          length than the counts ask for, a sheet that is too short, fewer places than reading needs,
--                          too little room to write into, and an L that is wrong for its record [D1b] [D1e] [D1f]
--     Demand1              a call does its work or refuses by number: there is an answer, and no second one; a refusal
--                          changes nothing [D1f]
--     Demand2 t s          the next form, the number and the form of allowed counts [D2h]
--     Demand3 t s          the circle of t, s, and its work [D3h]
--     Demand3All t s       how many forms there are, and runs [D3h]
--     Demands              all of them
use Rattle.std.specs.Prelude.{true, List, [], ◌∷◌, ◌≢◌, ◌⊎◌, ◌≡◌, ℕ, ◌+◌, ◌-◌, ◌*◌, ◌%◌, ◌≤◌, ◌<◌, length, get_or}
use Rattle.std.specs.Prelude.{Ok, Err}
use Rattle.refusal.specs.declared.Refusal.{Refusal}
use Rattle.refusal.specs.Answer.{Verdict}
use Rattle.refusal.specs.Refusal.{refusal_number}
use Rattle.triangle.specs.Count.{N, largest, most_beats}
use Rattle.counts.specs.Counts.{Allowed}
use Rattle.schedule.specs.Schedule.{Schedule, Lists}
use Rattle.circle.specs.Step as rule
use Rattle.circle.specs.Walk.{steps, worked, OneWay}
use Rattle.circle.specs.Walk as walk
use Rattle.circle.specs.Answers.{most_steps}
use Rattle.number.specs.Number.{Fewest, start}
use Rattle.number.specs.Groups.{S}
use Rattle.outline.specs.Text.{printed}
use Rattle.record.specs.Bytes.{value_of, bytes_for}
use Rattle.record.specs.declared.layout.Layout.{Layout}
use Rattle.record.specs.declared.layout.Numbering.{Numbering}
use Rattle.record.specs.Layout.{number_bytes}
use Rattle.record.specs.Record.{record_of, long, layout_in, ups, downs, body, cut}
use Rattle.demands.specs.Calls.{Call, count, move, next, run, number, form, form-on-sheet, outline}
use Rattle.demands.specs.Calls.{read, write, lent, Gives, silenced, CountsOf, BeatsOf, Owed}

pub data Wrong : Call → Type 0 where
  counts-above : {c : Call} {t s : ℕ} → CountsOf c t s → largest < t → Wrong c
  more-down : {c : Call} {t s : ℕ} → CountsOf c t s → t < s → Wrong c
  bad-beat : {c : Call} {b : List ℕ} → BeatsOf c b → (k : ℕ) → k < length b → 1 < get_or b k 0 → Wrong c
  wrong-length : {c : Call} {l : List ℕ} {n : ℕ} → Owed c l n → length l ≢ n → Wrong c
  no-form : {t s n : ℕ} {out : List ℕ} → N t s ≤ n → Wrong (form t s n out)
  no-form-on-sheet : {t s n : ℕ} {sheet : List ℕ} {column : ℕ} → N t s ≤ n → Wrong (form-on-sheet t s n sheet column)
  no-form-in-record : {src out : List ℕ} {at : ℕ} {by : Numbering} → layout_in src ≡ Layout.Numbered at by
      → N (ups src) (downs src) ≤ value_of (body src) → Wrong (read src out)
  sheet-short : {t s n : ℕ} {sheet : List ℕ} {column : ℕ} → length sheet < column + t + s
      → Wrong (form-on-sheet t s n sheet column)
  places-few : {src out : List ℕ} → length out < most_beats → Wrong (read src out)
  room-short : {kind t s : ℕ} {b out : List ℕ} → length out < length (record_of kind t s b)
      → Wrong (write kind t s b out)
  text-short : {t s : ℕ} {b text : List ℕ} → length text < length (printed b) → Wrong (outline t s b text)
  size-tiny : {src out : List ℕ} → long src < 2 → Wrong (read src out)
  size-numbered : {src out : List ℕ} {at : ℕ} {by : Numbering} → layout_in src ≡ Layout.Numbered at by
      → long src ≢ at + number_bytes → Wrong (read src out)
  size-beaten : {src out : List ℕ} {at : ℕ} → layout_in src ≡ Layout.Beaten at
      → long src ≢ at + bytes_for (ups src + downs src) → Wrong (read src out)
  cut_record : {src out : List ℕ} → cut src ≡ true → Wrong (read src out)

-- demand 1: a call takes whatever it is given, and has one answer; what is wrong is refused by a number, and a refused
-- call leaves all that was lent to it as it was
pub record Demand1 : Type 0 where
  pub by_number : (why : Refusal) → (1 ≤ refusal_number why) × (refusal_number why ≤ 15)
  pub refused : (c : Call) (m : List ℕ) (x : List (List ℕ)) → Wrong c → Gives c (Ok tt) m x → ⊥
  pub unchanged : (c : Call) (why : Refusal) (m : List ℕ) (x : List (List ℕ)) → Gives c (Err why) m x
      → x ≡ lent c
  pub silent : (c : Call) (why : Refusal) (m : List ℕ) (x : List (List ℕ)) → Gives c (Err why) m x
      → (i : ℕ) → get_or (silenced c m) i 0 ≡ 0
  pub answered : (c : Call) → ((v : Verdict) (m : List ℕ) (x : List (List ℕ)) → Gives c v m x → ⊥) → ⊥
  pub one_answer : (c : Call) (v w : Verdict) (m k : List ℕ) (x y : List (List ℕ)) → Gives c v m x → Gives c w k y
      → (v ≡ w) × (m ≡ k) × (x ≡ y)

-- demand 2: the step is CoolCat's; a number is the fewest steps from the form after the one that takes all tasks up
-- first, and so the place in list S of source 000, from 0; number and form undo each other, for all counts that are
-- allowed. And what all this is for: walking to a form and asking for it by number give the same schedule
pub record Demand2 (t s : ℕ) : Type 0 where
  pub next-form : (b : List ℕ) → Schedule t s b
      → Gives (move next t s b) (Ok tt) (walk.changed b (rule.next b) ∷ []) (rule.next b ∷ [])
  pub number-given : (b : List ℕ) → Schedule t s b → (n : ℕ) × Gives (number t s b) (Ok tt) (n ∷ []) (b ∷ [])
  pub number-fewest : (b : List ℕ) (n : ℕ) → Gives (number t s b) (Ok tt) (n ∷ []) (b ∷ [])
      → Fewest (start t s) b n
  pub number-listed : (b : List ℕ) (n : ℕ) → Gives (number t s b) (Ok tt) (n ∷ []) (b ∷ [])
      → get_or (S t s) n [] ≡ b
  pub form-given : (n : ℕ) (out : List ℕ) → n < N t s → length out ≡ t + s
      → (b : List ℕ) × Schedule t s b × Gives (form t s n out) (Ok tt) [] (b ∷ [])
  pub form-number : (n : ℕ) (out b : List ℕ) → Gives (form t s n out) (Ok tt) [] (b ∷ [])
      → Gives (number t s b) (Ok tt) (n ∷ []) (b ∷ [])
  pub number-form : (n : ℕ) (out b : List ℕ) → Gives (number t s b) (Ok tt) (n ∷ []) (b ∷ [])
      → length out ≡ t + s
      → Gives (form t s n out) (Ok tt) [] (b ∷ [])
  pub walking-asking : (n k : ℕ) (out a b : List ℕ) (m : List ℕ) → Gives (form t s n out) (Ok tt) [] (a ∷ [])
      → Gives (move (run k) t s a) (Ok tt) m (b ∷ [])
      → Gives (form t s ((n + k) % N t s) out) (Ok tt) [] (b ∷ [])

-- demand 3: as many steps as there are forms meet each form once and come back last to where they began; a step changes
-- two or four beats, and the whole round 2·N(t, s) + 2·N(t−1, s−1) − 2
pub record Demand3 (t s : ℕ) : Type 0 where
  pub every-form-once : (a b : List ℕ) → Schedule t s a → Schedule t s b → OneWay steps t s a b
  pub start-last : (a : List ℕ) (p : Schedule t s a) → (every-form-once a a p p).count ≡ N t s
  pub step-changes : (b : List ℕ) → Schedule t s b
      → (walk.changed b (rule.next b) ≡ 2) ⊎ (walk.changed b (rule.next b) ≡ 4)
  pub round-changes : (b : List ℕ) → Schedule t s b → worked (N t s) b ≡ 2 * N t s + 2 * N (t - 1) (s - 1) - 2

-- and, of all allowed counts: how many forms there are; that a run leaves the form so many steps on and answers the
-- beats that its steps change
pub record Demand3All (t s : ℕ) : Type 0 where
  pub how-many : (l : List (List ℕ)) → Lists (Schedule t s) l → length l ≡ N t s
  pub counted : Gives (count t s) (Ok tt) (N t s ∷ []) []
  pub all_listed : (l : List (List ℕ)) × Lists (Schedule t s) l
  pub run-given : (b : List ℕ) (k : ℕ) → Schedule t s b → k ≤ most_steps
      → Gives (move (run k) t s b) (Ok tt) (worked k b ∷ []) (steps k b ∷ [])

-- all of it: t from 0 to the largest count and s from 0 to t, but t from 2 and s from 1 for the round
pub record Demands : Type 0 where
  pub first : Demand1
  pub second : (t s : ℕ) → Allowed t s → Demand2 t s
  pub third : (t s : ℕ) → Allowed t s → 2 ≤ t → 1 ≤ s → Demand3 t s
  pub third-all : (t s : ℕ) → Allowed t s → Demand3All t s
