-- `text::numeral` meets its contract: each turn writes one digit more, from the last on. The measure is what is left of
-- the number, which falls to its tenth. Assumes nothing.
use mathlib.Core.Path.{◌≡◌, refl, ◌∙◌, ap}
use Prim.Native.Nat.{ℕ, ◌+◌, ◌%◌, ◌≤◌}
use native.Mathlib.Omega.{arith}
use lib.ListN.{length, length-set}
use Rattle.text.specs.Decimal.{decimal}
use Rattle.text.proofs.Digits.{digits-some}
use Rattle.text.proofs.Writing.{spelling-none, spelling-some, spelling-more, spelling-all}
use Rattle.text.proofs.numeral.Goals as goal

pub overflow_sub-last : goal.overflow_sub-last
overflow_sub-last c =
    let room : let args = c.args in
    (1 ≤ c.width.result) × (args.at + c.width.result ≤ length args.out.now) = let n = c.args.n in
    let some = digits-some n in
    (omega (arith, c.width.ensures), omega (arith, c.width.ensures, c.requires)) in
    omega (arith, room)

pub loop-rest-init : goal.loop-rest-init
loop-rest-init c =
    let room : let args = c.args in
    (1 ≤ c.width.result) × (args.at + c.width.result ≤ length args.out.now) = let n = c.args.n in
    let some = digits-some n in
    (omega (arith, c.width.ensures), omega (arith, c.width.ensures, c.requires)) in
    let args = c.args in
    let end = args.at + c.width.result in
    let e : end ≡ args.at + length (decimal args.n) = ap (λ (k : ℕ). args.at + k) c.width.ensures in
    (refl, spelling-none args.n args.at args.out.now end e (room).1)

pub overflow_sub-last-in-loop-rest : goal.overflow_sub-last-in-loop-rest
overflow_sub-last-in-loop-rest c = spelling-some c.loop-rest.invariant.1 (omega arith)

pub loop-rest-preserved : goal.loop-rest-preserved
loop-rest-preserved c =
    let here = c.loop-rest in
    let long = length-set here.out here.last (48 + here.rest % 10) ∙ here.invariant.0 in
    (long, spelling-more here.invariant.1 (omega arith))

pub returns : goal.returns
returns c = spelling-all c.loop-rest.invariant.1 (omega arith)
