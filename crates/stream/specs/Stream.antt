-- The list of a stream of order records, the manual, "The packing list": what a program prints of an input, by
-- the line that it prints of each record. Definitions only.
--     verdict_on       the verdict on the record that a slice starts with, read with room for the longest schedule
--     passing, passed  the bytes to pass over, after a verdict and of a record
--     ending, ends     the list ends after the line of a 9 [E4]
--     list_from        the list of at most so many records
--     list_of          the whole list of an input: the line of the record that it starts with and, where that is no 9,
--                      the list of what follows; of no bytes, nothing. Each record takes a byte at least, so that as
--                      many records as bytes are enough [E14]
--     settled          the record is judged the same whatever follows: it is whole, or its length is above the longest
--     front_of         what stands at the front of the unread bytes: a record that can be listed, one that waits for
--                      more input or, at the end of the input, nothing more
--     front_number     a number for each, as a C host is told it [E18]
--     Own              the line of a record depends on no byte after it
use Rattle.std.specs.Prelude.{Bool, true, false, cond, ◌&&◌, ◌||◌, List, [], ◌∷◌, ◌++◌, ◌≡◌, ℕ, zero, suc, ◌+◌, eqb}
use Rattle.std.specs.Prelude.{Ok, Err}
use Rattle.std.specs.Prelude.{leb, ltb, length, drop}
use Rattle.refusal.specs.Answer.{Verdict}
use Rattle.refusal.specs.Refusal.{refusal_number}
use Rattle.refusal.specs.Rows.{judge}
use Rattle.triangle.specs.Count.{most_beats}
use Rattle.record.specs.Record.{long, longest, read_rows, eaten}
use Rattle.stream.specs.declared.Front.{Front}

abbrev pub verdict_on : List ℕ → Verdict
verdict_on src = judge (read_rows most_beats src)

abbrev pub passing : List ℕ → Verdict → ℕ
passing src (Ok unit) = 2 + long src
passing src (Err why) = eaten why (long src)

abbrev pub passed : List ℕ → ℕ
passed src = passing src (verdict_on src)

abbrev pub ending : Verdict → Bool
ending (Ok unit) = false
ending (Err why) = eqb (refusal_number why) 9

abbrev pub ends : List ℕ → Bool
ends src = ending (verdict_on src)

unfoldable pub list_from : (List ℕ → List ℕ) → ℕ → List ℕ → List ℕ
list_from line zero src = []
list_from line (suc k) [] = []
list_from line (suc k) (x ∷ rest) =
    let src = x ∷ rest in line src ++ cond (ends src) [] (list_from line k (drop (passed src) src))

abbrev pub list_of : (List ℕ → List ℕ) → List ℕ → List ℕ
list_of line src = list_from line (length src) src

abbrev pub settled : List ℕ → Bool
settled src = leb 2 (length src) && (ltb longest (long src) || leb (2 + long src) (length src))

abbrev pub front_of : Bool → List ℕ → Front
front_of ended src =
    cond ended (cond (eqb (length src) 0) Front.Over Front.Record) (cond (settled src) Front.Record Front.Short)

abbrev pub front_number : Front → ℕ
front_number Front.Record = 0
front_number Front.Short = 1
front_number Front.Over = 2

abbrev pub Own : (List ℕ → List ℕ) → Type 0
Own line = (src more : List ℕ) → settled src ≡ true → line (src ++ more) ≡ line src
