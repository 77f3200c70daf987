-- `outline::line` meets its contract: the pieces of a line are written one after the other. Assumes nothing.
use mathlib.Core.List.{List, [], ◌∷◌, ◌++◌}
use mathlib.Core.Path.{◌≡◌, sym, ap, subst}
use Prim.Native.Nat.{ℕ, ◌+◌, ◌≤◌, ◌<◌}
use native.Mathlib.Omega.{arith}
use lib.ListN.{length}
use Rattle.text.specs.Decimal.{decimal}
use Rattle.text.specs.Written.{Written}
use Rattle.text.proofs.Writing.{written_then}
use Rattle.outline.proofs.Numbers.{number-top, number-below, length-number}
use Rattle.outline.proofs.line.Goals as goal

pub returns-then-long-eq0 : goal.returns-then-long-eq0
returns-then-long-eq0 c =
    let top-room : c.args.long ≡ 0 → c.args.start + length (decimal c.args.place) < length c.args.text.now =
    λ e. let x = c.args.text.now in
    omega (arith, c.requires.1, ap length (number-top x c.args.parent c.args.long c.args.place e)) in
    let args = c.args in
    subst
    (λ (l : List ℕ).
    Written args.start (l ++ 10 ∷ []) args.text.now c.put.new.out c.put.result)
    (sym (number-top args.text.now args.parent args.long args.place c.if-long-eq0.true))
    (written_then (omega (arith, top-room c.if-long-eq0.true)) c.numeral-end.ensures c.put.ensures)

pub repeat-requires : goal.repeat-requires
repeat-requires c =
    let below-room : (c.args.long ≡ 0 → ⊥)
    → c.args.start + (c.args.long + 1 + length (decimal c.args.place)) < length c.args.text.now = λ some. let x =
    c.args.text.now in
    omega (
      arith,
      c.requires,
      length-number x c.args.parent c.args.long c.args.place (omega (arith, c.requires)) some,
    ) in
    (c.requires.0, omega (arith, below-room c.if-long-eq0.false))

pub put-dot-requires : goal.put-dot-requires
put-dot-requires c =
    let below-room : (c.args.long ≡ 0 → ⊥)
    → c.args.start + (c.args.long + 1 + length (decimal c.args.place)) < length c.args.text.now = λ some. let x =
    c.args.text.now in
    omega (
      arith,
      c.requires,
      length-number x c.args.parent c.args.long c.args.place (omega (arith, c.requires)) some,
    ) in
    omega (arith, c.repeat.auto.text, below-room c.if-long-eq0.false)

pub numeral-end-requires-2 : goal.numeral-end-requires-2
numeral-end-requires-2 c =
    let below-room : (c.args.long ≡ 0 → ⊥)
    → c.args.start + (c.args.long + 1 + length (decimal c.args.place)) < length c.args.text.now = λ some. let x =
    c.args.text.now in
    omega (
      arith,
      c.requires,
      length-number x c.args.parent c.args.long c.args.place (omega (arith, c.requires)) some,
    ) in
    omega (
      arith,
      c.put-dot.ensures.end,
      c.put-dot.auto.out,
      c.repeat.auto.text,
      below-room c.if-long-eq0.false,
    )

pub put-requires-2 : goal.put-requires-2
put-requires-2 c =
    let below-room : (c.args.long ≡ 0 → ⊥)
    → c.args.start + (c.args.long + 1 + length (decimal c.args.place)) < length c.args.text.now = λ some. let x =
    c.args.text.now in
    omega (
      arith,
      c.requires,
      length-number x c.args.parent c.args.long c.args.place (omega (arith, c.requires)) some,
    ) in
    omega (
      arith,
      c.numeral-end-2.ensures.end,
      c.numeral-end-2.auto.out,
      c.put-dot.ensures.end,
      c.put-dot.auto.out,
      c.repeat.auto.text,
      below-room c.if-long-eq0.false,
    )

pub returns : goal.returns
returns c =
    let below-room : (c.args.long ≡ 0 → ⊥)
    → c.args.start + (c.args.long + 1 + length (decimal c.args.place)) < length c.args.text.now = λ some. let x =
    c.args.text.now in
    omega (
      arith,
      c.requires,
      length-number x c.args.parent c.args.long c.args.place (omega (arith, c.requires)) some,
    ) in
    let args = c.args in
    let room = below-room c.if-long-eq0.false in
    let near : args.start ≤ length args.text.now = omega (arith, room) in
    subst
    (λ (l : List ℕ).
    Written args.start (l ++ 10 ∷ []) args.text.now c.put-2.new.out c.put-2.result)
    (sym
    (number-below args.text.now args.parent args.long args.place (omega (arith, c.requires, room))
    c.if-long-eq0.false))
    (written_then near (written_then near (written_then near c.repeat.ensures c.put-dot.ensures)
    c.numeral-end-2.ensures) c.put-2.ensures)
