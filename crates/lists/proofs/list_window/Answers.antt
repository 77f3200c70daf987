-- `list_window` meets its contract. The loop's invariant is `Going`: the records before `at` are listed, and whatever
-- the rest of the pass lists follows their lines. The measure is the bytes after `at`: every record that is passed over
-- takes some. Assumes nothing.
use mathlib.Core.Bool.{true, false}
use mathlib.Core.Path.{◌≡◌, refl, sym, ◌∙◌}
use Prim.Native.Nat.{◌+◌, ◌-◌, ◌≤◌}
use native.Mathlib.Omega.{arith}
use lib.ListN.{length}
use Rattle.stream.specs.declared.Front.{Front}
use Rattle.stream.specs.Stream.{front_of}
use Rattle.stream.specs.Pass.{Passes}
use Rattle.stream.proofs.Going.{tail, Going, going_more, going-rests, going-last}
use Rattle.lists.specs.Listed.{line_of, widest}
use borrow.Rule.Slice.PartMut.{put_mid, same_len_mid}
use Rattle.lists.proofs.list_window.Goals as goal

pub returns-in_default : goal.returns-in_default
returns-in_default c =
    going-rests (line_of c.args.which) widest c.args.ended c.args.src.now
    c.args.text.now c.loop-table.invariant.1 (sym c.at_front-front.ensures)
    (λ e. absurd (c.in_default.not-Record e))

pub returns-then-text-put-lt-WIDEST : goal.returns-then-text-put-lt-WIDEST
returns-then-text-put-lt-WIDEST c =
    going-rests (line_of c.args.which) widest c.args.ended c.args.src.now
    c.args.text.now c.loop-table.invariant.1
    (sym c.at_front-front.ensures ∙ c.in-Record.is)
    (λ e. omega (arith, c.if-text-put-lt-WIDEST.true, c.loop-table.invariant.1.long))

pub returns-then-printed : goal.returns-then-printed
returns-then-printed c =
    let going : Going (line_of c.args.which) widest c.args.ended c.args.src.now c.args.text.now c.loop-table.at
    (c.loop-table.put) (c.loop-table.text) = c.loop-table.invariant.1 in
    let same : length ((put_mid (c.loop-table.put) (length (c.loop-table.text) - (c.loop-table.put)) (c.loop-table.text)
    (c.list-printed.new.out))) ≡ length (c.loop-table.text) =
    same_len_mid (c.loop-table.put) (length (c.loop-table.text) - (c.loop-table.put)) (c.loop-table.text)
    (c.list-printed.new.out) c.list-printed.auto.out in
    let at-record : front_of (c.args.ended) (tail (c.args.src.now) (c.loop-table.at)) ≡ Front.Record =
    sym c.at_front-front.ensures ∙ c.in-Record.is in
    let wide : widest ≤ length (c.args.text.now) - (c.loop-table.put) =
    omega (arith, c.if-text-put-lt-WIDEST.false, going.long) in
    let ends-here : c.list-printed.result.last ≡ true
    → Passes ((line_of c.args.which)) widest (c.args.ended) (c.args.src.now) (c.args.text.now)
    (record {
      consumed = (c.loop-table.at);
      bytes = (c.loop-table.put) + c.list-printed.result.bytes;
      front = Front.Over;
    }) ((put_mid (c.loop-table.put) (length (c.loop-table.text) - (c.loop-table.put)) (c.loop-table.text)
    (c.list-printed.new.out))) =
    going-last ((line_of c.args.which)) widest (c.args.ended) (c.args.src.now) (c.args.text.now) (going)
    c.list-printed.ensures refl (same) (at-record) (wide) in
    ends-here c.if-printed.true

pub loop-table-preserved : goal.loop-table-preserved
loop-table-preserved c =
    let going : Going (line_of c.args.which) widest c.args.ended c.args.src.now c.args.text.now c.loop-table.at
    (c.loop-table.put) (c.loop-table.text) = c.loop-table.invariant.1 in
    let same : length ((put_mid (c.loop-table.put) (length (c.loop-table.text) - (c.loop-table.put)) (c.loop-table.text)
    (c.list-printed.new.out))) ≡ length (c.loop-table.text) =
    same_len_mid (c.loop-table.put) (length (c.loop-table.text) - (c.loop-table.put)) (c.loop-table.text)
    (c.list-printed.new.out) c.list-printed.auto.out in
    let at-record : front_of (c.args.ended) (tail (c.args.src.now) (c.loop-table.at)) ≡ Front.Record =
    sym c.at_front-front.ensures ∙ c.in-Record.is in
    let wide : widest ≤ length (c.args.text.now) - (c.loop-table.put) =
    omega (arith, c.if-text-put-lt-WIDEST.false, going.long) in
    let goes_on : c.list-printed.result.last ≡ false
    → Going ((line_of c.args.which)) widest (c.args.ended) (c.args.src.now) (c.args.text.now)
    ((c.loop-table.at) + c.list-printed.result.consumed) ((c.loop-table.put) + c.list-printed.result.bytes)
    ((put_mid (c.loop-table.put) (length (c.loop-table.text) - (c.loop-table.put)) (c.loop-table.text)
    (c.list-printed.new.out))) =
    going_more ((line_of c.args.which)) widest (c.args.ended) (c.args.src.now) (c.args.text.now) (going)
    c.list-printed.ensures refl (same) (at-record) (wide) in
    (c.list-printed.auto.room ∙ c.loop-table.invariant.0, goes_on c.if-printed.false)
