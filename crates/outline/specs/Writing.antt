-- What the inner functions are given and leave. Definitions only.
--     part x at n        the n bytes of x from at on
--     Ends rest          a list of headings ends here: no beat is left, or a 0 is next
--     ListAt             the beats from `first` on have a list of headings, and the text has room for its lines from
--                        `start` on; the number of the heading that carries it stands before that
--     ListWritten        the lines of that list are written, and nothing else; how far this came
--     HeadingAt, HeadingWritten     the same of one heading, the k-th of its list
use Rattle.std.specs.Prelude.{List, [], ◌∷◌, ◌++◌, ◌≡◌, ℕ, ◌+◌, ◌≤◌, length, take, drop}
use Rattle.text.specs.Written.{Written}
use Rattle.outline.specs.Outline.{Outline, Heading, schedule, beats}
use Rattle.outline.specs.Text.{under, lines, lines_of, text}
use Rattle.outline.specs.declared.Reached.{Reached}

abbrev pub part : List ℕ → ℕ → ℕ → List ℕ
part x at n = take n (drop at x)

abbrev pub Ends : List ℕ → Type 0
Ends [] = Unit {0}
Ends (x ∷ rest) = x ≡ 0

pub record Stands (b : List ℕ) (first : ℕ) (o : Outline) : Type 0 where
  pub rest : List ℕ
  pub here : drop first b ≡ schedule o ++ rest
  pub ends : Ends rest

pub record Begins (b : List ℕ) (first : ℕ) (h : Heading) : Type 0 where
  pub rest : List ℕ
  pub here : drop first b ≡ beats h ++ rest

pub record ListAt (b : List ℕ) (first : ℕ) (x : List ℕ) (parent long start : ℕ) : Type 0 where
  pub list : Outline
  pub stands : Stands b first list
  pub before : parent + long ≤ start
  pub room : start + length (text (lines list (part x parent long) 1)) ≤ length x

pub record HeadingAt (b : List ℕ) (first : ℕ) (x : List ℕ) (parent long place start : ℕ) : Type 0 where
  pub one : Heading
  pub begins : Begins b first one
  pub before : parent + long ≤ start
  pub room : start + length (text (lines_of one (under (part x parent long) place))) ≤ length x

pub record ListWritten (b : List ℕ) (first : ℕ) (x : List ℕ) (parent long start : ℕ) (after : List ℕ) (r : Reached)
    : Type 0 where
  pub lined : (o : Outline) → Stands b first o
      → Written start (text (lines o (part x parent long) 1)) x after r.byte
  pub played : (o : Outline) → Stands b first o → r.beat ≡ first + length (schedule o)

pub record HeadingWritten (b : List ℕ) (first : ℕ) (x : List ℕ) (parent long place start : ℕ) (after : List ℕ)
    (r : Reached) : Type 0 where
  pub lined : (h : Heading) → Begins b first h
      → Written start (text (lines_of h (under (part x parent long) place))) x after r.byte
  pub played : (h : Heading) → Begins b first h → r.beat ≡ first + length (beats h)
