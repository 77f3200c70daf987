-- `text::decimal` meets its contract: a number of 64 bits has at most 20 digits. Assumes nothing.
use native.Mathlib.Omega.{arith}
use Rattle.text.proofs.Digits.{digits-fit}
use borrow.Author.Rules.{rules}
use Rattle.text.proofs.decimal.Goals as goal

pub numeral-requires : goal.numeral-requires
numeral-requires c = omega (arith, c.requires, digits-fit c.args.n (search rules))

pub returns : goal.returns
returns c =
    let written = c.numeral.ensures in
    record { written = written; upper_bound = omega (arith, written.end, digits-fit c.args.n (search rules)) }
