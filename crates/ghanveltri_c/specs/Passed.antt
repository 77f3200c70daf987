-- What the C host is told of a pass over a window. Definitions only.
--     told     the bytes that the pass listed, the bytes of their lines, and the number of what it stopped at
use Rattle.stream.specs.declared.Pass.{Pass}
use Rattle.stream.specs.Stream.{front_number}
use Rattle.ghanveltri_c.specs.declared.Passed.{Passed}

abbrev pub told : Pass → Passed
told p = record { consumed = p.consumed; bytes = p.bytes; front = front_number p.front }
