-- `miscounted` meets its contract: a 6 has the ones asked for and found after it. Assumes nothing.
use mathlib.Core.Bool.{Bool, cond}
use mathlib.Core.Path.{◌≡◌, ◌∙◌, ap, ap₂, sym, subst, subst₂}
use Prim.Native.Nat.{ℕ, ◌≤◌}
use native.Mathlib.Omega.{arith}
use borrow.Author.Tests.{eq-eqb}
use lib.IntN.{ℤ, pos, nat_abs, ◌+ℤ◌}
use lib.ListN.{length}
use mir.Syntax.{w32}
use mir.Val.{to_z, of_z}
use mir.ValLaws.{to_z-of_z}
use Rattle.refusal.specs.Refusal.{refusal_number, refusal_surplus}
use Rattle.record.specs.Record.{ups}
use Rattle.line.specs.Line.{refused_line}
use Rattle.reason_line.specs.Line.{counted_line}
use Rattle.text.specs.Written.{Written}
use Rattle.lists.specs.Listed.{ones_in}
use Rattle.lists.proofs.Listing.{six-there}
use Rattle.lists.proofs.miscounted.Goals as goal

pub ones_found-found-requires : goal.ones_found-found-requires
ones_found-found-requires c =
    let read : to_z w32 (of_z w32 c.surplus.result) ≡ refusal_surplus c.args.why =
    to_z-of_z w32 c.surplus.result (record { sfits = c.surplus.type_inv }) ∙ c.surplus.ensures in
    let is-six : refusal_number c.args.why ≡ 6 = sym c.number.ensures ∙ c.if-number-eq6.true in
    let there : let args = c.args in
    (4 ≤ length args.src.now)
    × (refusal_surplus args.why +ℤ pos (ups args.src.now) ≡ pos (ones_in args.src.now)) =
    six-there c.args.src.now c.requires.0 (is-six) in
    let sum : let src = c.args.src.now in
    to_z w32 (of_z w32 c.surplus.result) +ℤ pos c.asked-asked.result ≡ pos (ones_in src) =
    ap₂ (λ (z : ℤ) (a : ℕ). z +ℤ pos a) (read) c.asked-asked.ensures.value
    ∙ there.1 in
    (omega (arith, c.asked-asked.ensures.upper_bound), (ones_in c.args.src.now, sum))

pub returns-then-number-eq6 : goal.returns-then-number-eq6
returns-then-number-eq6 c =
    let read : to_z w32 (of_z w32 c.surplus.result) ≡ refusal_surplus c.args.why =
    to_z-of_z w32 c.surplus.result (record { sfits = c.surplus.type_inv }) ∙ c.surplus.ensures in
    let is-six : refusal_number c.args.why ≡ 6 = sym c.number.ensures ∙ c.if-number-eq6.true in
    let there : let args = c.args in
    (4 ≤ length args.src.now)
    × (refusal_surplus args.why +ℤ pos (ups args.src.now) ≡ pos (ones_in args.src.now)) =
    six-there c.args.src.now c.requires.0 (is-six) in
    let sum : let src = c.args.src.now in
    to_z w32 (of_z w32 c.surplus.result) +ℤ pos c.asked-asked.result ≡ pos (ones_in src) =
    ap₂ (λ (z : ℤ) (a : ℕ). z +ℤ pos a) (read) c.asked-asked.ensures.value
    ∙ there.1 in
    let args = c.args in
    let ones : c.ones_found-found.result ≡ ones_in args.src.now =
    ap nat_abs (sym c.ones_found-found.ensures ∙ sum) in
    subst (λ (t : Bool).
    Written 0
    (cond t (counted_line args.why (ups args.src.now) (ones_in args.src.now)) (refused_line args.why))
    args.out.now c.counted.new.out c.counted.result)
    (sym (eq-eqb (refusal_number args.why) 6 (is-six)))
    (subst₂ (λ (a f : ℕ).
    Written 0 (counted_line args.why a f) args.out.now c.counted.new.out c.counted.result)
    c.asked-asked.ensures.value ones c.counted.ensures)
