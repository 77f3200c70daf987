-- The lists that the programs print of a stream of records, the manual, "The packing list", "The explanations" and "The
-- list of outlines". Definitions only. The verdict on a record, the bytes to pass over and where a list ends are in
-- specs/Stream of the crate `stream`.
--     form_in          the form that an accepted record means
--     ones_in          how many ones there are among the beats that a record packs
--     apart            the line of a refusal and an empty line, where outlines are listed [I6]
--     outlined_text    the outline of a form, or the refusal 14 where it is not closed, and an empty line [I6]
--     accepted_text    the lines of an accepted record, by the list: t, s, number and beats; the explanation; or the
--                      outline [E4] [X9] [I6]
--     refused_in       the lines of a refused record, by the list: "refused", the refusal's number, the place and the
--                      surplus; where beats are explained, for 6 then also the ones asked for and found; where outlines
--                      are listed, an empty line after it [E4] [X11] [I6]
--     text             the lines after a verdict
--     line_of          the lines of the record that a slice starts with
--     widest           the bytes that the lines of any record fit into
--     packing_list     the whole packing list of an input [E14]
--     explanations     the whole list of explanations of an input [X10]
--     outlines         the whole list of outlines of an input [I6]
--     Buffers          the buffers are large enough: for any record, and for the beats of any schedule
--     Turned           what a turn of a program does, in its buffers
--     ended_by         what a run answers, by the end of its list: where none has come, it has not read to the end
--     status_of        what listing answered, as a number
use Rattle.std.specs.Prelude.{cond, List, [], ◌∷◌, ◌++◌, ◌≡◌, ℕ, suc, ◌+◌, ◌*◌, ◌≤◌, eqb, length, Result, Ok, Err}
use Rattle.std.specs.Prelude.{Some, None}
use Rattle.refusal.specs.declared.Refusal.{Refusal}
use Rattle.refusal.specs.declared.Refusal.TheVariants.{NotClosed}
use Rattle.refusal.specs.Answer.{Verdict}
use Rattle.refusal.specs.Refusal.{refusal_number}
use Rattle.triangle.specs.Count.{largest, most_beats}
use Rattle.schedule.specs.Schedule.{ones}
use Rattle.reason.specs.Explanation.{explanation_of}
use Rattle.record.specs.Bytes.{unpacked}
use Rattle.record.specs.Record.{longest, layout_in, ups, downs, body, meant, meant_number}
use Rattle.outline.specs.Text.{printed}
use Rattle.line.specs.Line.{accepted_line, refused_line}
use Rattle.reason_line.specs.Line.{explained_line, counted_line}
use Rattle.stream.specs.declared.Failure.{Failure}
use Rattle.stream.specs.declared.Stream.{Stream}
use Rattle.stream.specs.Stream.{verdict_on, list_of}
use Rattle.stream.specs.Exchange.{window, End, Inside}
use Rattle.stream.specs.Pass.{Turns}
use Rattle.lists.specs.declared.Which.{Which}

abbrev pub form_in : List ℕ → List ℕ
form_in src = meant (layout_in src) (ups src) (downs src) (body src)

abbrev pub ones_in : List ℕ → ℕ
ones_in src = ones (unpacked (ups src + downs src) (body src))

abbrev pub apart : Refusal → List ℕ
apart why = refused_line why ++ 10 ∷ []

abbrev pub outlined_text : ℕ → ℕ → List ℕ → List ℕ
outlined_text t s b = cond (eqb t s) (printed b ++ 10 ∷ []) (apart NotClosed)

abbrev pub accepted_text : Which → ℕ → ℕ → ℕ → List ℕ → List ℕ
accepted_text Which.Packing t s n b = accepted_line t s n b
accepted_text Which.Explaining t s n b = explained_line (explanation_of b)
accepted_text Which.Outlining t s n b = outlined_text t s b

abbrev pub refused_in : Which → List ℕ → Refusal → List ℕ
refused_in Which.Packing src why = refused_line why
refused_in Which.Explaining src why =
    cond (eqb (refusal_number why) 6) (counted_line why (ups src) (ones_in src)) (refused_line why)
refused_in Which.Outlining src why = apart why

abbrev pub text : Which → List ℕ → Verdict → List ℕ
text which src (Ok unit) =
    accepted_text which (ups src) (downs src) (meant_number (layout_in src) (ups src) (downs src) (body src))
    (form_in src)
text which src (Err why) = refused_in which src why

abbrev pub line_of : Which → List ℕ → List ℕ
line_of which src = text which src (verdict_on src)

abbrev pub widest : ℕ
widest = suc (largest * (largest + 1))

abbrev pub packing_list : List ℕ → List ℕ
packing_list input = list_of (line_of Which.Packing) input

abbrev pub explanations : List ℕ → List ℕ
explanations input = list_of (line_of Which.Explaining) input

abbrev pub outlines : List ℕ → List ℕ
outlines input = list_of (line_of Which.Outlining) input

abbrev pub ended_by : End → Result Unit Failure
ended_by None = Err Failure.Unread
ended_by (Some end) = end

abbrev pub status_of : Result Unit Failure → ℕ
status_of (Ok unit) = 0
status_of (Err Failure.Unread) = 1
status_of (Err Failure.Unwritten) = 2

pub record Buffers (input room : List ℕ) : Type 0 where
  pub any-record : 2 + longest ≤ length input
  pub any-beats : length room ≡ most_beats

pub record Turned (which : Which) (input lent : List ℕ) (stream : Stream) (after : List ℕ) (next : Stream)
    : Type 0 where
  pub inside : Inside after next
  pub turns : Turns (line_of which) widest (length lent) (window input stream) stream (window after next) next
