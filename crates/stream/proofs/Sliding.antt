-- Bytes moved to the front of a list.
--     slid_front     what stands there then, by the library's word for the move
-- Assumes nothing.
use mathlib.Core.List.{List, ◌++◌}
use mathlib.Core.Path.{◌≡◌, ◌∙◌, ap}
use Prim.Native.Nat.{ℕ, ◌+◌, ◌-◌, ◌≤◌}
use native.Mathlib.Omega.{arith}
use lib.ListN.{length, take, drop, length-drop}
use lib.Seq.{length-take-le, take_at}
use Rattle.std.specs.List.{copy_within}

pub slid_front : (old : List ℕ) {now : List ℕ} (from count : ℕ) → from + count ≤ length old
    → now ≡ copy_within old from (from + count) 0 → take count now ≡ take count (drop from old)
slid_front old from count h e =
    let long : from + count - from ≡ count = omega arith in
    ap (take count)
    (e ∙ ap (λ (n : ℕ). take 0 old ++ take n (drop from old) ++ drop (0 + n) old) long)
    ∙ take_at (take count (drop from old)) (drop (0 + count) old) count
    (length-take-le count (drop from old) (omega (arith, length-drop from old)))
