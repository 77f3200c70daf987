-- The cycle of calls {heading, list}. The measure is twice the beats that are left, and one more for a list: a heading
-- takes a beat before it calls for the list that it carries, and a list calls for a heading at its own beat or a later
-- one. The invariant of the list's loop: its headings so far are written, and the others follow. Its measure is the
-- beats that are left. Assumes nothing.
use Rattle.std.proofs.Common.{length, ◌+◌, ◌-◌}
use Rattle.outline.proofs.Listing.{Looping}
use Rattle.outline.proofs.+heading_list.Given as goal

abbrev pub decreases-heading : goal.decreases-heading
decreases-heading l = let left = length l.beats.now - l.first in left + left

abbrev pub decreases-list : goal.decreases-list
decreases-list l = let left = length l.beats.now - l.first in left + left + 1

abbrev pub invariant-list-loop-beat : goal.invariant-list-loop-beat
invariant-list-loop-beat l =
    Looping l.beats l.first l.initial.text l.parent l.long l.start l.text l.beat l.byte l.place

abbrev pub decreases-list-loop-beat : goal.decreases-list-loop-beat
decreases-list-loop-beat l = length l.beats - l.beat
