-- How far the ones are off, about what the calls answer (Calls.antt): the manual, "Refusal numbers".
-- proofs/Surplus.antt proves it of every call. Definitions only.
--     About c t b     the call c is about the beats b as a schedule of t ones: those that are lent to it, or those that
--                     the record holds that it reads
--     Passes          a call that answers 6 is about some beats, and says how far their ones are off; every other
--                     answer has the surplus 0. So a call that is about no beats never answers 6 [Q8]
use Rattle.std.specs.Prelude.{List, ◌≡◌, ℕ, ◌+◌, pos}
use Rattle.refusal.specs.Answer.{Verdict, refusal, surplus}
use Rattle.schedule.specs.Meaning.{Off}
use Rattle.record.specs.Bytes.{unpacked}
use Rattle.record.specs.Record.{ups, downs, body}
use Rattle.demands.specs.Calls.{Call, read, Gives, CountsOf, BeatsOf}

pub data About : Call → ℕ → List ℕ → Type 0 where
  lent-to : {c : Call} {t s : ℕ} {b : List ℕ} → CountsOf c t s → BeatsOf c b → About c t b
  packed : {src out : List ℕ} → About (read src out) (ups src) (unpacked (ups src + downs src) (body src))

pub record Passes (c : Call) : Type 0 where
  pub six : (v : Verdict) (m : List ℕ) (x : List (List ℕ)) → Gives c v m x → refusal v ≡ 6
      → (t : ℕ) × (b : List ℕ) × About c t b × Off t b (surplus v)
  pub other : (v : Verdict) (m : List ℕ) (x : List (List ℕ)) → Gives c v m x → (refusal v ≡ 6 → ⊥)
      → surplus v ≡ pos 0
