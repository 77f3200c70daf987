-- How a program lists the records of its window, pass by pass. Definitions only. `line` is what the program prints of a
-- record, and no line is longer than `widest`.
--     Prints           what a function that prints a record answers and leaves: its line at the start of the lent
--                      bytes, and after it what was there
--     Lines            the lines that a pass makes of a window in a room, the unread bytes that it leaves, and what it
--                      stops at: records are listed one after the other, until the next waits for more input, or has
--                      no room for its line, or the list is over
--     Passes           what a function that makes a pass answers and leaves: whole records are passed over, their lines
--                      stand at the start of the lent text, and after them what was there [E16]
--     Turns            what a turn does with a window: a pass, and then an exchange
--     joined           texts one after the other
--     Listing          how a window and the input after it are listed, pass by pass. After a pass that stops at a
--                      record that waits, more is read, any number of bytes at a time, until nothing is left to read;
--                      a pass that stops for want of room is followed by another; and one ends the list
use Rattle.std.specs.Prelude.{Bool, true, false, List, [], ◌∷◌, ◌++◌, ◌≡◌, ℕ, ◌-◌, ◌≤◌, ◌<◌, length, drop}
use Rattle.stream.specs.declared.Front.{Front}
use Rattle.stream.specs.declared.Pass.{Pass}
use Rattle.stream.specs.declared.Printed.{Printed}
use Rattle.stream.specs.declared.Stream.{Stream}
use Rattle.stream.specs.Stream.{passed, ends, front_of}
use Rattle.stream.specs.Exchange.{Onward}

pub record Prints (line : List ℕ → List ℕ) (src out : List ℕ) (printed : Printed) (after : List ℕ) : Type 0 where
  pub record-size : printed.consumed ≡ passed src
  pub line-size : printed.bytes ≡ length (line src)
  pub ending : printed.last ≡ ends src
  pub written : after ≡ line src ++ drop (length (line src)) out

pub data Lines (line : List ℕ → List ℕ) (widest : ℕ) (ended : Bool) : ℕ → List ℕ → List ℕ → List ℕ → Front
    → Type 0 where
  rests : {room : ℕ} {src : List ℕ} {front : Front}
      → front_of ended src ≡ front
      → (front ≡ Front.Record → room < widest)
      → Lines line widest ended room src [] src front
  last : {room : ℕ} {src : List ℕ}
      → front_of ended src ≡ Front.Record
      → widest ≤ room
      → ends src ≡ true
      → Lines line widest ended room src (line src) src Front.Over
  more : {room : ℕ} {src text left : List ℕ} {front : Front}
      → front_of ended src ≡ Front.Record
      → widest ≤ room
      → ends src ≡ false
      → Lines line widest ended (room - length (line src)) (drop (passed src) src) text left front
      → Lines line widest ended room src (line src ++ text) left front

pub record Passes (line : List ℕ → List ℕ) (widest : ℕ) (ended : Bool) (src out : List ℕ) (pass : Pass)
    (after : List ℕ) : Type 0 where
  pub text : List ℕ
  pub lines : Lines line widest ended (length out) src text (drop pass.consumed src) pass.front
  pub within : pass.consumed ≤ length src
  pub size : pass.bytes ≡ length text
  pub written : after ≡ text ++ drop (length text) out

pub record Turns (line : List ℕ → List ℕ) (widest room : ℕ) (src : List ℕ) (at : Stream) (left : List ℕ)
    (next : Stream) : Type 0 where
  pub text : List ℕ
  pub pass : Pass
  pub lines : Lines line widest at.ended room src text (drop pass.consumed src) pass.front
  pub onward : Onward src at.ended pass left next.ended next.end

unfoldable pub joined : List (List ℕ) → List ℕ
joined [] = []
joined (text ∷ texts) = text ++ joined texts

pub data Listing (line : List ℕ → List ℕ) (widest room : ℕ) : Bool → List ℕ → List ℕ → List (List ℕ) → Type 0 where
  done : {ended : Bool} {src input text left : List ℕ}
      → Lines line widest ended room src text left Front.Over
      → Listing line widest room ended src input (text ∷ [])
  again : {ended : Bool} {src input text left : List ℕ} {texts : List (List ℕ)}
      → Lines line widest ended room src text left Front.Record
      → Listing line widest room ended left input texts
      → Listing line widest room ended src input (text ∷ texts)
  came : {src text left : List ℕ} (piece input : List ℕ) {texts : List (List ℕ)}
      → Lines line widest false room src text left Front.Short
      → Listing line widest room false (left ++ piece) input texts
      → Listing line widest room false src (piece ++ input) (text ∷ texts)
  end : {src text left : List ℕ} {texts : List (List ℕ)}
      → Lines line widest false room src text left Front.Short
      → Listing line widest room true left [] texts
      → Listing line widest room false src [] (text ∷ texts)
