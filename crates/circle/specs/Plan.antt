-- What a step stores, for the contracts of a move and of what a way finds and makes. proofs/Stores.antt shows that a
-- plan is the rule's next form, so nothing here has to be believed. Definitions only.
--     Form b            b is a schedule of its own counts
--     stored up down    the schedule after the stores of a move: a swap puts up at y and down at x; a dip also puts
--                       down at the second place and up at the place after x
--     applied           the schedule after the stores of a move made: a swap puts a 1 at y and a 0 at x; a dip also
--                       moves a 0 from the place after x to the second place
--     changes           how many beats a move changes
--     Inside            the places of a move are inside a list of n beats
--     Leads             m, stored so, leads from b where a step leads
--     Plans b m         m makes the next form of b
use Rattle.std.specs.Prelude.{List, ◌≡◌, ℕ, ◌+◌, ◌≤◌, ◌<◌, length, set}
use Rattle.schedule.specs.Schedule.{ones, zeros, Schedule}
use Rattle.circle.specs.declared.Move.{Move}
use Rattle.circle.specs.Step.{next}
use Rattle.circle.specs.Walk.{changed}

abbrev pub Form : List ℕ → Type 0
Form b = Schedule (ones b) (zeros b) b

abbrev pub stored : ℕ → ℕ → Move → List ℕ → List ℕ
stored up down Move.Stays b = b
stored up down (Move.Swaps y x) b = set (set b y up) x down
stored up down (Move.Dips y x) b = set (set (set (set b y up) x down) 1 down) (x + 1) up

abbrev pub applied : Move → List ℕ → List ℕ
applied = stored 1 0

abbrev pub changes : Move → ℕ
changes Move.Stays = 0
changes (Move.Swaps y x) = 2
changes (Move.Dips y x) = 4

abbrev pub Inside : Move → ℕ → Type 0
Inside Move.Stays n = 0 ≤ n
Inside (Move.Swaps y x) n = (y < n) × (x < n)
Inside (Move.Dips y x) n = (y < n) × (1 < n) × (x + 1 < n)

pub record Leads (step : List ℕ → List ℕ) (stores : Move → List ℕ → List ℕ) (b : List ℕ) (m : Move) : Type 0 where
  pub inside : Inside m (length b)
  pub makes : stores m b ≡ step b
  pub counts : changes m ≡ changed b (step b)

abbrev pub Plans : List ℕ → Move → Type 0
Plans = Leads next applied
