-- What the C host is told of two passes. Assumes nothing.
use mathlib.Core.Path.{◌≡◌, refl}
use Rattle.stream.specs.declared.Front.{Front}
use Rattle.stream.specs.declared.Pass.{Pass}
use Rattle.ghanveltri_c.specs.declared.Passed.{Passed}
use Rattle.ghanveltri_c.specs.Passed.{told}

-- a pass to the end of the list, and one that waits for more input
abbrev over : Pass
over = record { consumed = 14; bytes = 12; front = Front.Over }

abbrev over-told : Passed
over-told = record { consumed = 14; bytes = 12; front = 2 }

told-over : told over ≡ over-told
told-over = refl

abbrev waits : Pass
waits = record { consumed = 0; bytes = 0; front = Front.Short }

abbrev waits-told : Passed
waits-told = record { consumed = 0; bytes = 0; front = 1 }

told-waits : told waits ≡ waits-told
told-waits = refl
