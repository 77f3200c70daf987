-- The rows that a program lends.
--     table-counts     the table has the counts
--     none-counts      no rows have them, too
-- Assumes nothing.
use mathlib.Core.List.{[]}
use native.Mathlib.Omega.{arith}
use Rattle.triangle.specs.Table.{table}
use Rattle.triangle.proofs.Rule.{at-counted}
use Rattle.lookup.specs.Lent.{Counts}

pub table-counts : Counts table
table-counts t s h = at-counted t s

pub none-counts : Counts []
none-counts t s h = absurd (omega arith)
