-- The parts of what reading answers, the manual, "Order record". Definitions only.
--     Reading          an answer: what the record says; or why it is refused, and the bytes to pass over
--     unread why n     the answer that refuses so and passes over n bytes
--     verdict, t, s, number, consumed     after a refusal every number but the bytes consumed is 0 [R22] [F5]
use Rattle.std.specs.Prelude.{ℕ, Result, Ok, Err}
use Rattle.refusal.specs.declared.Refusal.{Refusal}
use Rattle.refusal.specs.Answer.{Verdict}
use Rattle.record.specs.declared.reading.Order.{Order}
use Rattle.record.specs.declared.reading.Unread.{Unread}

abbrev pub Reading : Type 0
Reading = Result Order Unread

abbrev pub unread : Refusal → ℕ → Reading
unread why n = Err (record { why = why; consumed = n })

abbrev pub verdict : Reading → Verdict
verdict (Ok o) = Ok tt
verdict (Err u) = Err u.why

abbrev pub t : Reading → ℕ
t (Ok o) = o.t
t (Err u) = 0

abbrev pub s : Reading → ℕ
s (Ok o) = o.s
s (Err u) = 0

abbrev pub number : Reading → ℕ
number (Ok o) = o.number
number (Err u) = 0

abbrev pub consumed : Reading → ℕ
consumed (Ok o) = o.consumed
consumed (Err u) = u.consumed
