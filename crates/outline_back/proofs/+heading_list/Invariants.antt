-- The cycle of calls {heading, list}. The measure is twice the lines that are left, and one more for a list, two more
-- for a heading, whose own line is not among them: a heading calls for its list with the lines that it is given, and a
-- list for a heading with fewer. The invariant of the list's loop: its headings so far are read and their beats
-- written, and what is read after them makes the whole list. Its measure is the lines that are left. Assumes nothing.
use Rattle.std.proofs.Common.{length, ◌+◌, ◌≡◌}
use Rattle.outline.specs.Writing.{part}
use Rattle.outline_back.proofs.Headings.{Going}
use Rattle.outline_back.proofs.+heading_list.Given as goal

abbrev pub decreases-heading : goal.decreases-heading
decreases-heading l = l.reached.now.left + l.reached.now.left + 2

abbrev pub decreases-list : goal.decreases-list
decreases-list l = l.reached.now.left + l.reached.now.left + 1

abbrev pub invariant-list-loop-reached : goal.invariant-list-loop-reached
invariant-list-loop-reached l =
    let from = l.fn.reached in
    (length l.beats ≡ length l.initial.beats)
    × Going (part l.text l.parent.at l.parent.long) l.text from.byte from.left from.beat l.initial.beats
    l.reached.byte l.reached.beat l.reached.left l.place l.beats

abbrev pub decreases-list-loop-reached : goal.decreases-list-loop-reached
decreases-list-loop-reached l = l.reached.left
