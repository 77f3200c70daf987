-- `moving::refill` meets its contract. Assumes nothing.
use Prim.Native.Nat.{ℕ, ◌-◌, ◌≤◌}
use mathlib.Core.List.{List}
use mathlib.Core.Path.{◌≡◌, ◌∙◌}
use native.Mathlib.Omega.{arith}
use lib.ListN.{length, take, drop, length-drop}
use lib.Seq.{length-take-le}
use borrow.Rule.Slice.PartMut.{put_mid, same_len_mid}
use Rattle.stream.proofs.Feeding.{refill-lost, refill-got}
use Rattle.stream.proofs.moving.refill.Goals as goal

-- the part of a list from an index on is as long as what is left of the list
behind : (left : ℕ) (l : List ℕ) → left ≤ length l → length (take (length l - left) (drop left l)) ≡ length l - left
behind left l h = length-take-le (length l - left) (drop left l) (omega (arith, length-drop left l))

pub returns-in_default : goal.returns-in_default
returns-in_default g c =
    let slid = c.slide.new.input in
    let left = c.args.have - c.args.at in
    let whole : length (put_mid left (length slid - left) slid c.read_again.new.room) ≡ length c.args.input.now =
    same_len_mid left (length slid - left) slid c.read_again.new.room c.read_again.auto.room ∙ c.slide.auto.input in
    refill-lost c.args.input.now c.args.at c.args.have c.requires slid c.slide.auto.input c.slide.ensures _ whole

pub returns : goal.returns
returns g c =
    let slid = c.slide.new.input in
    let left = c.args.have - c.args.at in
    let after = put_mid left (length slid - left) slid c.read_again.new.room in
    let whole : length after ≡ length c.args.input.now =
    same_len_mid left (length slid - left) slid c.read_again.new.room c.read_again.auto.room ∙ c.slide.auto.input in
    let fits : left ≤ length slid = omega (arith, c.requires.some, c.slide.auto.input) in
    let within : c.in-Ok.more ≤ length (take (length after - left) (drop left after)) =
    omega (
      arith,
      behind left slid fits,
      behind left after (omega (arith, fits, whole, c.slide.auto.input)),
      c.in-Ok.ensures.0,
      c.read_again.auto.room,
      whole,
      c.slide.auto.input,
    ) in
    refill-got c.args.input.now c.args.at c.args.have c.requires slid c.slide.auto.input c.slide.ensures _ whole
    c.in-Ok.more within
