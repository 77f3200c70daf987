-- What an explanation says of a schedule, in the words of the rule, and how it is applied. Places count from 0.
-- proofs/Theorems.antt shows that exactly one explanation fits each schedule, and that whoever applies it gets the next
-- form. Definitions only.
--     OneForm b         the counts of b have no other form
--     Rises b i         a 0 stands at place i and a 1 after it: the 1 of the first such place is the found 1
--     MayMove b k       place k is inside, and moving its beat to the second place gives a schedule
--     Holds b           when each case of the rule holds, and the places of the found 1 and of the moved beat: the
--                       counts have one form only; else no 0 is followed by 1, and the last beat moves; else the beat
--                       after the found 1 may move, and does; else the found 1 moves [X6]
--     Among l k         k is one of the places l
--     Ascending k l     the places l ascend, from k on
--     Changes b c l     l has exactly the places at which b and c differ, ascending [X8]
--     Explains b e      e says of b which case holds and which places it names, and which places the step changes [X6]
--     moving l b        b after the beat at a place is moved to the second place; b itself where there is no place
--     changing l b      b after the beats at these places are changed, from 0 to 1 and from 1 to 0
--     Reasons b k       the case k is given exactly when its reason holds [X6]
use Rattle.std.specs.Prelude.{List, [], ◌∷◌, ◌≢◌, ◌⊎◌, ◌↔◌, ◌≡◌, ℕ, suc, ◌-◌, ◌≤◌, ◌<◌, length, get_or, set}
use Rattle.schedule.specs.Meaning.{First, Nowhere}
use Rattle.schedule.specs.Schedule.{ones, zeros, Schedule}
use Rattle.circle.specs.Step.{shift, next}
use Rattle.reason.specs.Explanation.{Explanation}

abbrev pub OneForm : List ℕ → Type 0
OneForm b = (c : List ℕ) → Schedule (ones b) (zeros b) c → c ≡ b

abbrev pub Rises : List ℕ → ℕ → Type 0
Rises b i = (get_or b i 0 ≡ 0) × (get_or b (suc i) 0 ≡ 1)

abbrev pub MayMove : List ℕ → ℕ → Type 0
MayMove b k = (k < length b) × Schedule (ones b) (zeros b) (shift (suc k) b)

pub data Holds (b : List ℕ) : ℕ → List ℕ → List ℕ → Type 0 where
  only-form : OneForm b → Holds b 1 [] []
  last-beat : {k : ℕ} → (OneForm b → ⊥) → Nowhere (Rises b) (length b) → suc k ≡ length b → Holds b 2 [] (k ∷ [])
  next-beat : {i : ℕ} → (OneForm b → ⊥) → First (Rises b) (length b) i → MayMove b (suc (suc i))
      → Holds b 3 (suc i ∷ []) (suc (suc i) ∷ [])
  found-one : {i : ℕ} → (OneForm b → ⊥) → First (Rises b) (length b) i → (MayMove b (suc (suc i)) → ⊥)
      → Holds b 4 (suc i ∷ []) (suc i ∷ [])

abbrev pub Among : List ℕ → ℕ → Type 0
Among [] k = ⊥
Among (x ∷ l) k = (k ≡ x) ⊎ Among l k

abbrev pub Ascending : ℕ → List ℕ → Type 0
Ascending k [] = Unit {0}
Ascending k (x ∷ l) = (k ≤ x) × Ascending (suc x) l

pub record Changes (b c l : List ℕ) : Type 0 where
  pub ascending : Ascending 0 l
  pub just : (k : ℕ) → Among l k ↔ ((k < length b) × (get_or b k 0 ≢ get_or c k 0))

pub record Explains (b : List ℕ) (e : Explanation) : Type 0 where
  pub reason : Holds b e.case e.found e.moved
  pub changes : Changes b (next b) e.changed

abbrev pub moving : List ℕ → List ℕ → List ℕ
moving [] b = b
moving (k ∷ l) b = shift (suc k) b

unfoldable pub changing : List ℕ → List ℕ → List ℕ
changing [] b = b
changing (k ∷ l) b = changing l (set b k (1 - get_or b k 0))

pub record Reasons (b : List ℕ) (case : ℕ) : Type 0 where
  pub one : (case ≡ 1) ↔ OneForm b
  pub two : (case ≡ 2) ↔ ((OneForm b → ⊥) × Nowhere (Rises b) (length b))
  pub three : (case ≡ 3) ↔
      ((OneForm b → ⊥) × ((i : ℕ) × First (Rises b) (length b) i × MayMove b (suc (suc i))))
  pub four : (case ≡ 4) ↔
      ((OneForm b → ⊥) × ((i : ℕ) × First (Rises b) (length b) i × (MayMove b (suc (suc i)) → ⊥)))
