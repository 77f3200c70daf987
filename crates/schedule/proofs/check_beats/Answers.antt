-- `schedule::check_beats` meets its contract, one row of the order at each return. Assumes nothing.
use mathlib.Core.Logic.{◌↔◌}
use mathlib.Core.Path.{◌≡◌, ◌∙◌, ap, sym}
use Prim.Native.Nat.{ℕ, ◌+◌, ◌≤◌}
use native.Mathlib.Omega.{arith}
use borrow.Author.Rules.{rules}
use lib.IntN.{ℤ, pos, ◌-ℤ◌}
use lib.ListN.{length}
use lib.Seq.{take_all}
use Rattle.std.proofs.Common.{Err}
use Rattle.refusal.specs.declared.Refusal.TheVariants.{WrongTakeUps}
use Rattle.triangle.specs.Count.{largest, most_beats}
use Rattle.counts.proofs.Sizes.{counts-allowed}
use Rattle.schedule.specs.Schedule.{ones, zeros}
use Rattle.schedule.specs.Check.{bad_beat, empty_hand}
use Rattle.schedule.proofs.Rows.{sound-beats, ones-by-hand, hand-ones, wrong-take-ups, accepted}
use Rattle.schedule.proofs.Tally.{tally}
use Rattle.schedule.proofs.check_beats.Goals as goal

pub play-played-requires : goal.play-played-requires
play-played-requires c =
    let sound : length c.args.beats.now
    ≤ bad_beat c.args.beats.now = omega (arith, c.bad_beat-bad.ensures) in
    sound-beats c.args.beats.now (sound)

pub overflow_add-played : goal.overflow_add-played
overflow_add-played c =
    let sound : length c.args.beats.now
    ≤ bad_beat c.args.beats.now = omega (arith, c.bad_beat-bad.ensures) in
    let sized : length c.args.beats.now ≡ c.args.t + c.args.s = c.if-n-t.false in
    let in-hand : c.play-played.result.hand + zeros c.args.beats.now ≡ ones c.args.beats.now =
    rw (take_all c.play-played.result.at c.args.beats.now (omega arith))
    at c.play-played.ensures.beats_value in
    let few : (c.args.t ≤ largest) × (length c.args.beats.now ≤ most_beats)
    × (c.play-played.result.hand ≤ most_beats) = let b = c.args.beats.now in
    let allowed = counts-allowed c.args.t c.args.s c.requires in
    let all = tally b (sound-beats b (sound)) in
    (allowed.0, omega (arith, (sized), allowed), omega (arith, (in-hand), all, (sized), allowed)) in
    omega (arith, few, counts-allowed c.args.t c.args.s c.requires)

pub overflow_add-ones : goal.overflow_add-ones
overflow_add-ones c =
    let sound : length c.args.beats.now
    ≤ bad_beat c.args.beats.now = omega (arith, c.bad_beat-bad.ensures) in
    let sized : length c.args.beats.now ≡ c.args.t + c.args.s = c.if-n-t.false in
    let in-hand : c.play-played.result.hand + zeros c.args.beats.now ≡ ones c.args.beats.now =
    rw (take_all c.play-played.result.at c.args.beats.now (omega arith))
    at c.play-played.ensures.beats_value in
    let few : (c.args.t ≤ largest) × (length c.args.beats.now ≤ most_beats)
    × (c.play-played.result.hand ≤ most_beats) = let b = c.args.beats.now in
    let allowed = counts-allowed c.args.t c.args.s c.requires in
    let all = tally b (sound-beats b (sound)) in
    (allowed.0, omega (arith, (sized), allowed), omega (arith, (in-hand), all, (sized), allowed)) in
    omega (arith, few)

pub beyond-requires : goal.beyond-requires
beyond-requires c =
    let sound : length c.args.beats.now
    ≤ bad_beat c.args.beats.now = omega (arith, c.bad_beat-bad.ensures) in
    let sized : length c.args.beats.now ≡ c.args.t + c.args.s = c.if-n-t.false in
    let in-hand : c.play-played.result.hand + zeros c.args.beats.now ≡ ones c.args.beats.now =
    rw (take_all c.play-played.result.at c.args.beats.now (omega arith))
    at c.play-played.ensures.beats_value in
    let few : (c.args.t ≤ largest) × (length c.args.beats.now ≤ most_beats)
    × (c.play-played.result.hand ≤ most_beats) = let b = c.args.beats.now in
    let allowed = counts-allowed c.args.t c.args.s c.requires in
    let all = tally b (sound-beats b (sound)) in
    (allowed.0, omega (arith, (sized), allowed), omega (arith, (in-hand), all, (sized), allowed)) in
    let small = few in (omega (arith, small), omega (arith, small))

pub returns-then-played-s : goal.returns-then-played-s
returns-then-played-s c =
    let sound : length c.args.beats.now
    ≤ bad_beat c.args.beats.now = omega (arith, c.bad_beat-bad.ensures) in
    let in-hand : c.play-played.result.hand + zeros c.args.beats.now ≡ ones c.args.beats.now =
    rw (take_all c.play-played.result.at c.args.beats.now (omega arith))
    at c.play-played.ensures.beats_value in
    let sized : length c.args.beats.now ≡ c.args.t + c.args.s = c.if-n-t.false in
    let ended : length c.args.beats.now ≤ empty_hand c.args.beats.now = omega (arith, c.play-played.ensures.at_value) in
    let by_hand : (c.play-played.result.hand + c.args.s ≡ c.args.t) ↔
    (ones c.args.beats.now ≡ c.args.t) = ones-by-hand c.args.beats.now c.args.t c.args.s c.play-played.result.hand
    (sized) (sound) (in-hand) in
    let args = c.args in
    let b = args.beats.now in
    let no-bad = sound in
    let ones-are = hand-ones b c.play-played.result.hand no-bad (in-hand) in
    ap (λ (z : ℤ). Err (WrongTakeUps z))
    (search rules ∙ c.beyond.ensures ∙ ap (λ (o : ℕ). pos o -ℤ pos args.t) ones-are)
    ∙ sym (wrong-take-ups args.t args.s b (sized) no-bad (ended)
    (λ o. c.if-played-s.true (by_hand.1 o)))

pub returns : goal.returns
returns c =
    let sized : length c.args.beats.now ≡ c.args.t + c.args.s = c.if-n-t.false in
    let sound : length c.args.beats.now
    ≤ bad_beat c.args.beats.now = omega (arith, c.bad_beat-bad.ensures) in
    let ended : length c.args.beats.now ≤ empty_hand c.args.beats.now = omega (arith, c.play-played.ensures.at_value) in
    let in-hand : c.play-played.result.hand + zeros c.args.beats.now ≡ ones c.args.beats.now =
    rw (take_all c.play-played.result.at c.args.beats.now (omega arith))
    at c.play-played.ensures.beats_value in
    let by_hand : (c.play-played.result.hand + c.args.s ≡ c.args.t) ↔
    (ones c.args.beats.now ≡ c.args.t) = ones-by-hand c.args.beats.now c.args.t c.args.s c.play-played.result.hand
    (sized) (sound) (in-hand) in
    let args = c.args in
    sym (accepted args.t args.s args.beats.now (sized) (sound) (ended)
    (by_hand.0 c.if-played-s.false))
