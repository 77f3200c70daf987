-- The wrong numberings and readings that W-204 names: each at an input where what it answers is not what the contract
-- gives, whatever else it answers and leaves.
--     number-from-top      t ones then s zeros as number 0 [K10]
--     number-shifted       the numbering shifted the other way, so that the first form has the last number [K10]
--     read-1-as-3          the number of a record of kind 1 taken for the catalogue's [K9]
--     read-3-as-1          and the other way [K9]
--     write-1-taken        kind 1 still written [K3]
-- Assumes nothing.
use mathlib.Core.List.{List, [], ◌∷◌}
use mathlib.Core.Path.{◌≡◌, sym}
use Prim.Native.Nat.{ℕ}
use native.Mathlib.Omega.{arith}
use Rattle.std.proofs.Common.{Ok}
use Rattle.bounded.specs.Bounded.{every, first_from}
use Rattle.refusal.specs.Answer.{Verdict}
use Rattle.triangle.specs.Count.{N, most_beats}
use Rattle.schedule.specs.Schedule.{ones, zeros, is_schedule}
use Rattle.circle.specs.Step.{shift, found, has01, moves_next, next}
use Rattle.circle.specs.Walk.{steps, changed}
use Rattle.record.specs.Bytes.{value_of}
use Rattle.demands.specs.Calls.{number, read, write, Gives}
use Rattle.demands.proofs.Shams.{form-11100, form-10110, room, record_of_kind, never}

module _ (v : Verdict) (x : List (List ℕ)) where
  pub number-from-top : Gives (number 3 2 form-11100) v (0 ∷ []) x → ⊥
  unfolding N every first_from ones zeros is_schedule shift found has01 moves_next next steps changed
  number-from-top g = let z : ◌≡◌ {A = ℕ} 0 4 = cc g.0.1 in omega arith

  pub number-shifted : Gives (number 3 2 form-10110) v (4 ∷ []) x → ⊥
  unfolding N every first_from ones zeros is_schedule shift found has01 moves_next next steps changed
  number-shifted g = let z : ◌≡◌ {A = ℕ} 4 0 = cc g.0.1 in omega arith

  pub read-1-as-3 : (t s c : ℕ) → Gives (read (record_of_kind 1 2) (room most_beats)) v (t ∷ s ∷ 2 ∷ c ∷ []) x → ⊥
  unfolding N value_of every first_from ones zeros is_schedule shift found has01 moves_next next steps changed
  read-1-as-3 t s c g = let z : ◌≡◌ {A = ℕ} 2 1 = cc g.0.1 in omega arith

  pub read-3-as-1 : (t s c : ℕ) → Gives (read (record_of_kind 3 2) (room most_beats)) v (t ∷ s ∷ 1 ∷ c ∷ []) x → ⊥
  unfolding N value_of every first_from ones zeros is_schedule shift found has01 moves_next next steps changed
  read-3-as-1 t s c g = let z : ◌≡◌ {A = ℕ} 1 2 = cc g.0.1 in omega arith

pub write-1-taken : (m : List ℕ) (x : List (List ℕ))
    → Gives (write 1 3 2 form-11100 (room 14)) (Ok tt) m x → ⊥
write-1-taken m x g = never (sym g.0.0)
