-- Parts of the way from a form to its number, for the contracts of private functions. Nothing here has to be believed.
-- Definitions only.
--     is_sized t s b           the counts are allowed, and the beats are as many as they say
--     is_level t p q           p ones and then q zeros may begin a schedule of t ones
--     goes_on t p q beat       the beat may stand after p ones and q zeros of a schedule of t ones
--     Ranks t s b whole n      whole exactly if b is a schedule of allowed counts, and then n is its number
use Rattle.std.specs.Prelude.{Bool, true, false, ◌&&◌, List, ◌≡◌, ℕ, ◌+◌, eqb, leb, ltb, length}
use Rattle.triangle.specs.Count.{largest}
use Rattle.counts.specs.Counts.{Allowed}
use Rattle.schedule.specs.Schedule.{Schedule}
use Rattle.number.specs.Number.{number_of}

abbrev pub is_sized : ℕ → ℕ → List ℕ → Bool
is_sized t s b = leb t largest && leb s t && eqb (length b) (t + s)

abbrev pub is_level : ℕ → ℕ → ℕ → Bool
is_level t p q = leb p t && leb q p

abbrev pub goes_on : ℕ → ℕ → ℕ → ℕ → Bool
goes_on t p q beat = leb beat 1 && leb (p + beat) t && ltb q (p + beat)

abbrev pub Ranks : ℕ → ℕ → List ℕ → Bool → ℕ → Type 0
Ranks t s b true n = Allowed t s × Schedule t s b × (n ≡ number_of t s b)
Ranks t s b false n = Allowed t s → Schedule t s b → ⊥
