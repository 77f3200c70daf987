-- What the parts of a line leave when they are written one after the other. Definitions only.
--     Written     a piece is written from the index at on; what stood before and after it stays; r is the index after
--                 it
use Rattle.std.specs.Prelude.{List, ◌++◌, ◌≡◌, ℕ, ◌+◌, length, take, drop}

pub record Written (at : ℕ) (piece before after : List ℕ) (r : ℕ) : Type 0 where
  pub text : after ≡ take at before ++ piece ++ drop (at + length piece) before
  pub end : r ≡ at + length piece
