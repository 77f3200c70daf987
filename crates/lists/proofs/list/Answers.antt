-- `list` meets its contract: the line of what reading answered. Assumes nothing.
use mathlib.Core.Path.{◌≡◌, ◌∙◌, ap, sym, subst}
use Prim.Native.Nat.{◌+◌, ◌≤◌}
use native.Mathlib.Omega.{arith}
use lib.ListN.{length, take}
use lib.Seq.{length-take-le}
use Rattle.std.proofs.Common.{Err}
use Rattle.triangle.specs.Count.{largest, most_beats}
use Rattle.record.specs.Record.{long, layout_in, ups, downs, body, meant, eaten}
use Rattle.schedule.specs.Schedule.{Schedule}
use Rattle.stream.specs.Stream.{verdict_on}
use Rattle.lists.proofs.Listing.{Ordered, ordered, turned_down, list-accepted, list-refused}
use Rattle.lists.proofs.list.Goals as goal

pub accepted-bytes-requires : goal.accepted-bytes-requires
accepted-bytes-requires c =
    let says : Ordered c.args.src.now c.args.room.now c.requires.0 c.in-Ok.order =
    ordered c.args.src.now c.args.room.now c.requires.0 c.in-Ok.order
    (sym c.read_by.ensures.value ∙ c.in-Ok.is) in
    let room-long : length c.read_by.new.out ≡ most_beats = c.read_by.auto.out ∙ c.requires.0 in
    let few : (c.in-Ok.order.t ≤ largest) × (c.in-Ok.order.s ≤ c.in-Ok.order.t)
    × (length c.read_by.new.out ≡ most_beats) = (says.few.0, says.few.1, (room-long)) in
    let shown : take (c.in-Ok.order.t + c.in-Ok.order.s) c.read_by.new.out
    ≡ meant (layout_in c.args.src.now) (ups c.args.src.now) (downs c.args.src.now) (body c.args.src.now) =
    ap (take (c.in-Ok.order.t + c.in-Ok.order.s)) c.read_by.ensures.out_after
    ∙ says.in-room in
    let wide = c.requires.1 in
    let size =
    length-take-le (c.in-Ok.order.t + c.in-Ok.order.s) c.read_by.new.out (omega (arith, few)) in (
      subst (Schedule c.in-Ok.order.t c.in-Ok.order.s) (sym (shown)) says.schedule,
      says.few.0,
      omega (arith, wide, size, few),
      omega (arith, wide),
    )

pub refused-bytes-requires : goal.refused-bytes-requires
refused-bytes-requires c =
    let refusing : let args = c.args in
    (verdict_on args.src.now ≡ Err c.in-Err.unread.why)
    × (c.in-Err.unread.consumed ≡ eaten c.in-Err.unread.why (long args.src.now)) =
    turned_down c.args.src.now c.args.room.now c.requires.0 c.in-Err.unread.why c.in-Err.unread.consumed
    (sym c.read_by.ensures.value ∙ c.in-Err.is) in
    (refusing.0, omega (arith, c.requires.1))

pub returns-in-Ok : goal.returns-in-Ok
returns-in-Ok c =
    let says : Ordered c.args.src.now c.args.room.now c.requires.0 c.in-Ok.order =
    ordered c.args.src.now c.args.room.now c.requires.0 c.in-Ok.order
    (sym c.read_by.ensures.value ∙ c.in-Ok.is) in
    let shown : take (c.in-Ok.order.t + c.in-Ok.order.s) c.read_by.new.out
    ≡ meant (layout_in c.args.src.now) (ups c.args.src.now) (downs c.args.src.now) (body c.args.src.now) =
    ap (take (c.in-Ok.order.t + c.in-Ok.order.s)) c.read_by.ensures.out_after
    ∙ says.in-room in
    list-accepted c.args.which c.args.src.now c.args.out.now c.args.room.now c.requires.0
    c.in-Ok.order (says) _ (shown) c.accepted-bytes.ensures

pub returns-in-Err : goal.returns-in-Err
returns-in-Err c =
    let refusing : let args = c.args in
    (verdict_on args.src.now ≡ Err c.in-Err.unread.why)
    × (c.in-Err.unread.consumed ≡ eaten c.in-Err.unread.why (long args.src.now)) =
    turned_down c.args.src.now c.args.room.now c.requires.0 c.in-Err.unread.why c.in-Err.unread.consumed
    (sym c.read_by.ensures.value ∙ c.in-Err.is) in
    list-refused c.args.which c.args.src.now c.args.out.now _ refusing.0
    refusing.1 c.number-number.ensures c.refused-bytes.ensures
