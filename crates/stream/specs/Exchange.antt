-- What becomes of the window when lines are written and more is read. Definitions only.
--     between          the bytes of a list from one index up to another
--     window           the unread bytes
--     End              the end of a list, where it has come: all was listed, or how listing failed
--     begun            where a program stands before it has read anything
--     Inside           the unread bytes lie within what was read, and that within the input buffer
--     Room             so, and once they are moved to the front there is room after them to read into
--     Ready            what is owed before an exchange: the pass lies within the window and its lines within the text,
--                      and where it stopped at a record that waits for more input, there is room for that
--     Fed              what a read brings: bytes after the unread ones; or the end of the input, or a failure, and then
--                      the unread bytes are as they were
--     Refilled         the same of the buffer
--     Onward           an exchange passes over what was listed and keeps the rest; it ends where the list is over, or a
--                      call failed
--     Exchanged        the same of the buffer [E16]
use Rattle.std.specs.Prelude.{Bool, true, false, List, ◌++◌, ◌≡◌, ℕ, ◌+◌, ◌-◌, ◌≤◌, ◌<◌, length, take, drop}
use Rattle.std.specs.Prelude.{Option, None, Some, Result, Ok, Err}
use Rattle.stream.specs.declared.Failure.{Failure}
use Rattle.stream.specs.declared.Front.{Front}
use Rattle.stream.specs.declared.Pass.{Pass}
use Rattle.stream.specs.declared.Stream.{Stream}

abbrev pub between : List ℕ → ℕ → ℕ → List ℕ
between l from to = take (to - from) (drop from l)

abbrev pub window : List ℕ → Stream → List ℕ
window input stream = between input stream.at stream.have

abbrev pub End : Type 0
End = Option (Result Unit Failure)

abbrev pub begun : Stream
begun = record { at = 0; have = 0; ended = false; end = None }

pub record Inside (input : List ℕ) (stream : Stream) : Type 0 where
  pub unread : stream.at ≤ stream.have
  pub held : stream.have ≤ length input

pub record Room (input : List ℕ) (at have : ℕ) : Type 0 where
  pub unread : at ≤ have
  pub held : have ≤ length input
  pub some : have - at < length input

pub record Ready (input text : List ℕ) (stream : Stream) (pass : Pass) : Type 0 where
  pub inside : Inside input stream
  pub whole : stream.at + pass.consumed ≤ stream.have
  pub lines : pass.bytes ≤ length text
  pub some : pass.front ≡ Front.Short → stream.have - (stream.at + pass.consumed) < length input

pub data Fed (left : List ℕ) : List ℕ → Bool → End → Type 0 where
  came : (more : List ℕ) → 0 < length more → Fed left (left ++ more) false None
  finished : Fed left left true None
  unread : Fed left left false (Some (Err Failure.Unread))

pub record Refilled (before : List ℕ) (at have : ℕ) (after : List ℕ) (stream : Stream) : Type 0 where
  pub inside : Inside after stream
  pub fed : Fed (between before at have) (window after stream) stream.ended stream.end

pub data Onward (src : List ℕ) (ended : Bool) (pass : Pass) : List ℕ → Bool → End → Type 0 where
  unwritten : Onward src ended pass (drop pass.consumed src) ended (Some (Err Failure.Unwritten))
  over : pass.front ≡ Front.Over → Onward src ended pass (drop pass.consumed src) ended (Some (Ok tt))
  again : pass.front ≡ Front.Record → Onward src ended pass (drop pass.consumed src) ended None
  fed : {left : List ℕ} {e : Bool} {end : End} → pass.front ≡ Front.Short
      → Fed (drop pass.consumed src) left e end
      → Onward src ended pass left e end

pub record Exchanged (before : List ℕ) (stream : Stream) (pass : Pass) (after : List ℕ) (next : Stream) : Type 0 where
  pub inside : Inside after next
  pub onward : Onward (window before stream) stream.ended pass (window after next)
      next.ended next.end
