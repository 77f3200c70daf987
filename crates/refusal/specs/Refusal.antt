-- The table of refusals, the manual, "Refusal numbers". Definitions only.
--     refusal_number    the number of a refusal's row [R1] [F5]
--     refusal_place     the place that goes with it: the beat or the line that the case names, and 0 where the table's
--                       place is 0 [R1] [F5]
--     refusal_surplus   the surplus of ones that goes with it: what 6 says, and 0 for every other [Q2] [R1] [F5]
use Rattle.std.specs.Prelude.{ℕ, ℤ, pos}
use Rattle.refusal.specs.declared.Refusal.{Refusal}
use Rattle.refusal.specs.declared.Refusal.TheVariants.{
  TooManyTasks,
  MoreDownThanUp,
  WrongLength,
  BadBeat,
  EmptyHand,
  WrongTakeUps,
  NoSuchNumber,
  NoSuchTables,
  CutShort,
  UnknownKind,
  WrongSize,
  NoRoom,
  RunTooLong,
  NotClosed,
  NoSuchOutline,
}

abbrev pub refusal_number : Refusal → ℕ
refusal_number TooManyTasks = 1
refusal_number MoreDownThanUp = 2
refusal_number WrongLength = 3
refusal_number (BadBeat at) = 4
refusal_number (EmptyHand at) = 5
refusal_number (WrongTakeUps surplus) = 6
refusal_number NoSuchNumber = 7
refusal_number NoSuchTables = 8
refusal_number CutShort = 9
refusal_number UnknownKind = 10
refusal_number WrongSize = 11
refusal_number NoRoom = 12
refusal_number RunTooLong = 13
refusal_number NotClosed = 14
refusal_number (NoSuchOutline line) = 15

abbrev pub refusal_place : Refusal → ℕ
refusal_place TooManyTasks = 0
refusal_place MoreDownThanUp = 0
refusal_place WrongLength = 0
refusal_place (BadBeat at) = at
refusal_place (EmptyHand at) = at
refusal_place (WrongTakeUps surplus) = 0
refusal_place NoSuchNumber = 0
refusal_place NoSuchTables = 0
refusal_place CutShort = 0
refusal_place UnknownKind = 0
refusal_place WrongSize = 0
refusal_place NoRoom = 0
refusal_place RunTooLong = 0
refusal_place NotClosed = 0
refusal_place (NoSuchOutline line) = line

abbrev pub refusal_surplus : Refusal → ℤ
refusal_surplus TooManyTasks = pos 0
refusal_surplus MoreDownThanUp = pos 0
refusal_surplus WrongLength = pos 0
refusal_surplus (BadBeat at) = pos 0
refusal_surplus (EmptyHand at) = pos 0
refusal_surplus (WrongTakeUps surplus) = surplus
refusal_surplus NoSuchNumber = pos 0
refusal_surplus NoSuchTables = pos 0
refusal_surplus CutShort = pos 0
refusal_surplus UnknownKind = pos 0
refusal_surplus WrongSize = pos 0
refusal_surplus NoRoom = pos 0
refusal_surplus RunTooLong = pos 0
refusal_surplus NotClosed = pos 0
refusal_surplus (NoSuchOutline line) = pos 0
