-- The definitions of specs/ on small inputs: what fits, and what is refused, a case for each part. The records are
-- those of the manual and their neighbours; 0 0 is the shortest record there is. `bell` prints one byte for every
-- record. Assumes nothing.
use mathlib.Core.Bool.{Bool, true, false, true≢false, false≢true}
use mathlib.Core.List.{List, [], ◌∷◌}
use mathlib.Core.Path.{◌≡◌, refl, ap}
use Prim.Native.Nat.{ℕ, ◌<◌}
use native.Mathlib.Omega.{arith}
use lib.ListN.{length, get_or}
use Rattle.stream.specs.declared.Failure.{Failure}
use Rattle.std.proofs.Common.{Ok, Err, Some, None}
use Rattle.refusal.specs.declared.Refusal.TheVariants.{NoSuchNumber, CutShort}
use Rattle.triangle.specs.Count.{N}
use Rattle.record.specs.Bytes.{value_of}
use Rattle.stream.specs.declared.Front.{Front}
use Rattle.stream.specs.declared.Pass.{Pass}
use Rattle.stream.specs.declared.Stream.{Stream}
use Rattle.stream.specs.Stream.{verdict_on, passing, passed, ending, ends, list_from, list_of, settled, front_of}
use Rattle.stream.specs.Stream.{front_number, Own}
use Rattle.stream.specs.Exchange.{
  between,
  window,
  begun,
  Inside,
  Room,
  Ready,
  Fed,
  came,
  finished,
  unread,
  Refilled,
  Onward,
  unwritten,
  over,
  again,
  fed,
  Exchanged,
  End,
}
use Rattle.stream.specs.Pass.{Prints, Lines, rests, last, more, Passes, Turns, joined, Listing}
use Rattle.stream.specs.Pass as listing
use Rattle.stream.proofs.Theorems.{lines-one, listing-list}

-- the third record of the manual: number 5 of (3,2), refused 7; it is passed over, and the list goes on
abbrev third : List ℕ
third = 12 ∷ 0 ∷ 1 ∷ 0 ∷ 3 ∷ 2 ∷ 5 ∷ 0 ∷ 0 ∷ 0 ∷ 0 ∷ 0 ∷ 0 ∷ 0 ∷ []

third-verdict : verdict_on third ≡ Err NoSuchNumber
unfolding value_of N
third-verdict = refl

third-passed : passed third ≡ 14
unfolding value_of N
third-passed = refl

third-goes-on : ends third ≡ false
unfolding value_of N
third-goes-on = refl

-- the fourth: number 0 of (1,1), accepted
fourth-verdict : verdict_on (12 ∷ 0 ∷ 1 ∷ 0 ∷ 1 ∷ 1 ∷ 0 ∷ 0 ∷ 0 ∷ 0 ∷ 0 ∷ 0 ∷ 0 ∷ 0 ∷ []) ≡ Ok tt
unfolding value_of N
fourth-verdict = refl

-- a single byte is not passed over, and ends the list
cut-passed : passed (12 ∷ []) ≡ 0
unfolding value_of
cut-passed = refl

cut-ends : ends (12 ∷ []) ≡ true
unfolding value_of
cut-ends = refl

-- only a 9 ends the list [E4]
nine-ends : ending (Err CutShort) ≡ true
nine-ends = refl

seven-goes-on : ending (Err NoSuchNumber) ≡ false
seven-goes-on = refl

accepted-goes-on : ending (Ok tt) ≡ false
accepted-goes-on = refl

abbrev bell : List ℕ → List ℕ
bell src = 7 ∷ []

-- no more records than asked for
one_of_two : list_from bell 1 (0 ∷ 0 ∷ 0 ∷ 0 ∷ []) ≡ 7 ∷ []
unfolding list_from value_of
one_of_two = refl

two-of-two : list_from bell 2 (0 ∷ 0 ∷ 0 ∷ 0 ∷ []) ≡ 7 ∷ 7 ∷ []
unfolding list_from value_of
two-of-two = refl

-- two records, and silence at the boundary; the same and a byte more, whose line is the 9's; nothing of nothing
whole-list : list_of bell (0 ∷ 0 ∷ 0 ∷ 0 ∷ []) ≡ 7 ∷ 7 ∷ []
unfolding list_from value_of
whole-list = refl

cut_list : list_of bell (0 ∷ 0 ∷ 0 ∷ 0 ∷ 0 ∷ []) ≡ 7 ∷ 7 ∷ 7 ∷ []
unfolding list_from value_of
cut_list = refl

empty-list : list_of bell [] ≡ []
unfolding list_from
empty-list = refl

-- after a length of 1,021 nothing is listed, whatever stands there [E14]
nine-list : list_of bell (253 ∷ 3 ∷ 0 ∷ 0 ∷ 0 ∷ 0 ∷ []) ≡ 7 ∷ []
unfolding list_from value_of
nine-list = refl

settled-whole-record : settled (0 ∷ 0 ∷ []) ≡ true
unfolding value_of
settled-whole-record = refl

settled-too-long : settled (253 ∷ 3 ∷ []) ≡ true
unfolding value_of
settled-too-long = refl

unsettled-byte : settled (0 ∷ []) ≡ false
unfolding value_of
unsettled-byte = refl

unsettled-start : settled (252 ∷ 3 ∷ []) ≡ false
unfolding value_of
unsettled-start = refl

-- a byte waits for more while the input goes on, and is a cut record at its end; no byte waits too, and at
-- the end the list is over
front-waits : front_of false (0 ∷ []) ≡ Front.Short
unfolding value_of
front-waits = refl

front_cut : front_of true (0 ∷ []) ≡ Front.Record
front_cut = refl

front-empty : front_of false [] ≡ Front.Short
unfolding value_of
front-empty = refl

front-end : front_of true [] ≡ Front.Over
front-end = refl

front-whole : front_of false (0 ∷ 0 ∷ []) ≡ Front.Record
unfolding value_of
front-whole = refl

-- the numbers that a C host is told
number-record : front_number Front.Record ≡ 0
number-record = refl

number-over : front_number Front.Over ≡ 2
number-over = refl

bell-own : Own bell
bell-own src rest e = refl

counting-not-own : Own (λ src. length src ∷ []) → ⊥
unfolding value_of
counting-not-own own = omega (arith, ap (λ (l : List ℕ). get_or l 0 0) (own (0 ∷ 0 ∷ []) (0 ∷ []) refl))

between-some : between (5 ∷ 6 ∷ 7 ∷ []) 1 3 ≡ 6 ∷ 7 ∷ []
between-some = refl

between_none : between (5 ∷ 6 ∷ 7 ∷ []) 3 3 ≡ []
between_none = refl

-- bytes unread from one index up to another
abbrev standing : ℕ → ℕ → Stream
standing at have = record { at = at; have = have; ended = false; end = None }

window-some : window (5 ∷ 6 ∷ 7 ∷ []) (standing 1 2) ≡ 6 ∷ []
window-some = refl

window-none : window (5 ∷ 6 ∷ 7 ∷ []) begun ≡ []
window-none = refl

within : Inside (5 ∷ 6 ∷ 7 ∷ []) (standing 1 3)
within = record { unread = omega arith; held = omega arith }

read-too-far : Inside (5 ∷ 6 ∷ 7 ∷ []) (standing 3 2) → ⊥
read-too-far p = omega (arith, p.unread)

held-too-much : Inside (5 ∷ 6 ∷ 7 ∷ []) (standing 1 4) → ⊥
held-too-much p = omega (arith, p.held)

room-behind : Room (5 ∷ 6 ∷ 7 ∷ []) 1 3
room-behind = record { unread = omega arith; held = omega arith; some = omega arith }

no-room-behind : Room (5 ∷ 6 ∷ 7 ∷ []) 0 3 → ⊥
no-room-behind p = omega (arith, p.some)

-- a pass that listed one byte, wrote two and stopped
abbrev stopped : Front → Pass
stopped front = record { consumed = 1; bytes = 2; front = front }

ready-to-read : Ready (5 ∷ 6 ∷ 7 ∷ []) (8 ∷ 8 ∷ []) (standing 0 3) (stopped Front.Short)
ready-to-read = record {
  inside = record { unread = omega arith; held = omega arith };
  whole = omega arith;
  lines = omega arith;
  some = λ e. omega arith;
}

lines-past-the-text : Ready (5 ∷ 6 ∷ 7 ∷ []) (8 ∷ []) (standing 0 3) (stopped Front.Short) → ⊥
lines-past-the-text p = omega (arith, p.lines)

records-past-the-window : Ready (5 ∷ 6 ∷ 7 ∷ []) (8 ∷ 8 ∷ []) (standing 3 3) (stopped Front.Short) → ⊥
records-past-the-window p = omega (arith, p.whole)

-- a read brings bytes, or nothing more, or fails
fed-more : Fed (5 ∷ []) (5 ∷ 6 ∷ []) false None
fed-more = came (6 ∷ []) (omega arith)

fed-end : Fed (5 ∷ []) (5 ∷ []) true None
fed-end = finished

fed-failure : Fed (5 ∷ []) (5 ∷ []) false (Some (Err Failure.Unread))
fed-failure = unread

-- what a read means: the unread bytes stand in front of what came, and the input has ended only where nothing did
first-kept : {l : List ℕ} {e : Bool} {end : End} → Fed (5 ∷ []) l e end → get_or l 0 0 ≡ 5
first-kept (came piece h) = refl
first-kept finished = refl
first-kept unread = refl

ended_same : {l : List ℕ} {e : Bool} {end : End} → Fed (5 ∷ []) l e end → e ≡ true → length l ≡ 1
ended_same (came piece h) f = absurd (false≢true f)
ended_same finished f = refl
ended_same unread f = absurd (false≢true f)

unread-dropped : Fed (5 ∷ []) (6 ∷ []) false None → ⊥
unread-dropped p = omega (arith, first-kept p)

ended-too-early : Fed (5 ∷ []) (5 ∷ 6 ∷ []) true None → ⊥
ended-too-early p = omega (arith, ended_same p refl)

refilled : Refilled (4 ∷ 5 ∷ 0 ∷ []) 1 2 (5 ∷ 6 ∷ 0 ∷ []) (standing 0 2)
refilled = record { inside = record { unread = omega arith; held = omega arith }; fed = came (6 ∷ []) (omega arith) }

refilled-behind-nothing : Refilled (4 ∷ 5 ∷ 0 ∷ []) 1 2 (5 ∷ 6 ∷ 0 ∷ []) (standing 1 2) → ⊥
refilled-behind-nothing p = omega (arith, first-kept p.fed)

-- an exchange passes over what was listed, and ends with 0 only where the list is over
on-with-the-rest : Onward (4 ∷ 5 ∷ []) false (stopped Front.Record) (5 ∷ []) false None
on-with-the-rest = again refl

at-the-end : Onward (4 ∷ 5 ∷ []) false (stopped Front.Over) (5 ∷ []) false (Some (Ok tt))
at-the-end = over refl

not_written : Onward (4 ∷ 5 ∷ []) false (stopped Front.Over) (5 ∷ []) false (Some (Err Failure.Unwritten))
not_written = unwritten

over-only-at-the-end : {l : List ℕ} {e : Bool} {end : End} {front : Front}
    → Onward (4 ∷ 5 ∷ []) false (stopped front) l e end
    → end ≡ Some (Ok tt) → front ≡ Front.Over
over-only-at-the-end unwritten a = let z : ◌≡◌ {A = ℕ} 0 1 = cc in absurd (omega arith)
over-only-at-the-end (over e) a = e
over-only-at-the-end (again e) a = let z : ◌≡◌ {A = ℕ} 0 1 = cc in absurd (omega arith)
over-only-at-the-end (fed e (came piece h)) a = let z : ◌≡◌ {A = ℕ} 0 1 = cc in absurd (omega arith)
over-only-at-the-end (fed e finished) a = let z : ◌≡◌ {A = ℕ} 0 1 = cc in absurd (omega arith)
over-only-at-the-end (fed e unread) a = let z : ◌≡◌ {A = ℕ} 0 1 = cc in absurd (omega arith)

over-with-a-record-left : Onward (4 ∷ 5 ∷ []) false (stopped Front.Record) (5 ∷ []) false (Some (Ok tt)) → ⊥
over-with-a-record-left p =
    let said : Front.Record ≡ Front.Over = over-only-at-the-end p refl in
    let z : ◌≡◌ {A = ℕ} 0 1 = cc in omega arith

exchanged : Exchanged (4 ∷ 5 ∷ 0 ∷ []) (standing 0 2) (stopped Front.Record) (4 ∷ 5 ∷ 0 ∷ []) (standing 1 2)
exchanged = record { inside = record { unread = omega arith; held = omega arith }; onward = again refl }

exchanged-outside : Exchanged (4 ∷ 5 ∷ 0 ∷ []) (standing 0 2) (stopped Front.Record) (4 ∷ 5 ∷ 0 ∷ []) (standing 2 1) → ⊥
exchanged-outside p = omega (arith, p.inside.unread)

-- a record printed: its line, and after it what was there
printed-whole : Prints bell (0 ∷ 0 ∷ []) (1 ∷ 2 ∷ []) (record { consumed = 2; bytes = 1; last = false }) (7 ∷ 2 ∷ [])
unfolding value_of
printed-whole = record { record-size = refl; line-size = refl; ending = refl; written = refl }

printed-nothing : Prints bell (0 ∷ 0 ∷ []) (1 ∷ 2 ∷ []) (record { consumed = 2; bytes = 0; last = false }) (1 ∷ 2 ∷ [])
    → ⊥
printed-nothing p = omega (arith, p.line-size)

printed-over-more : Prints bell (0 ∷ 0 ∷ []) (1 ∷ 2 ∷ []) (record { consumed = 2; bytes = 1; last = false })
    (7 ∷ 7 ∷ [])
    → ⊥
printed-over-more p = omega (arith, ap (λ (l : List ℕ). get_or l 1 0) p.written)

-- what stands at the front is no record
waits : {room : ℕ} → Front.Short ≡ Front.Record → room < 1
waits e = let z : ◌≡◌ {A = ℕ} 0 1 = cc in absurd (omega arith)

is-over : {room : ℕ} → Front.Over ≡ Front.Record → room < 1
is-over e = let z : ◌≡◌ {A = ℕ} 0 1 = cc in absurd (omega arith)

-- a record and a byte: the record is listed, and the byte waits
lined : Lines bell 1 false 9 (0 ∷ 0 ∷ 0 ∷ []) (7 ∷ []) (0 ∷ []) Front.Short
unfolding value_of
lined = more {room = 9} refl (omega arith) refl (rests refl waits)

lined-at-the-end : Lines bell 1 true 9 (0 ∷ []) (7 ∷ []) (0 ∷ []) Front.Over
unfolding value_of
lined-at-the-end = last {room = 9} refl (omega arith) refl

lined-without-room : Lines bell 1 false 0 (0 ∷ 0 ∷ []) [] (0 ∷ 0 ∷ []) Front.Record
unfolding value_of
lined-without-room = rests {room = 0} {front = Front.Record} refl (λ e. omega arith)

record-not-listed : Lines bell 1 false 9 (0 ∷ 0 ∷ 0 ∷ []) [] (0 ∷ 0 ∷ 0 ∷ []) Front.Record → ⊥
record-not-listed p = omega (arith, ap length (lines-one p lined).0)

cut-record-listed : Lines bell 1 false 9 (0 ∷ 0 ∷ 0 ∷ []) (7 ∷ 7 ∷ []) [] Front.Over → ⊥
cut-record-listed p = omega (arith, ap length (lines-one p lined).0)

-- the same as a function answers and leaves it
pass-made : Passes bell 1 false (0 ∷ 0 ∷ 0 ∷ []) (1 ∷ 2 ∷ []) (record { consumed = 2; bytes = 1; front = Front.Short })
    (7 ∷ 2 ∷ [])
unfolding value_of
pass-made = record {
  text = 7 ∷ [];
  lines = more {room = 2} refl (omega arith) refl (rests refl waits);
  within = omega arith;
  size = refl;
  written = refl;
}

pass-past-the-window : Passes bell 1 false (0 ∷ 0 ∷ 0 ∷ []) (1 ∷ 2 ∷ [])
    (record { consumed = 4; bytes = 1; front = Front.Short }) (7 ∷ 2 ∷ [])
    → ⊥
pass-past-the-window p = omega (arith, p.within)

-- a turn at the end of an empty input
turned : Turns bell 1 9 [] begun [] (record { at = 0; have = 0; ended = true; end = None })
unfolding value_of
turned = record {
  text = [];
  pass = record { consumed = 0; bytes = 0; front = Front.Short };
  lines = rests refl waits;
  onward = fed refl finished;
}

-- more is only asked for where a record waits: no turn fails to read at the end of an input
answered-one : {src left : List ℕ} {e f : Bool} {pass : Pass} {end : End} → Onward src e pass left f end
    → end ≡ Some (Err Failure.Unread) → f ≡ false
answered-one unwritten a = let z : ◌≡◌ {A = ℕ} 0 1 = cc in absurd (omega arith)
answered-one (over q) a = let z : ◌≡◌ {A = ℕ} 0 1 = cc in absurd (omega arith)
answered-one (again q) a = let z : ◌≡◌ {A = ℕ} 0 1 = cc in absurd (omega arith)
answered-one (fed q (came piece h)) a = let z : ◌≡◌ {A = ℕ} 0 1 = cc in absurd (omega arith)
answered-one (fed q finished) a = let z : ◌≡◌ {A = ℕ} 0 1 = cc in absurd (omega arith)
answered-one (fed q unread) a = refl

turned-back : Turns bell 1 9 [] begun []
    (record { at = 0; have = 0; ended = true; end = Some (Err Failure.Unread) })
    → ⊥
turned-back p = true≢false (answered-one p.onward refl)

joined-two : joined ((1 ∷ 2 ∷ []) ∷ (3 ∷ []) ∷ []) ≡ 1 ∷ 2 ∷ 3 ∷ []
unfolding joined
joined-two = refl

joined-none : joined ([] ∷ [] ∷ []) ≡ []
unfolding joined
joined-none = refl

-- a record that comes in two pieces: it waits, it waits again, it is listed, and the list is over
listing-in-pieces : Listing bell 1 9 false [] (0 ∷ 0 ∷ []) ([] ∷ [] ∷ (7 ∷ []) ∷ [] ∷ [])
unfolding value_of
listing-in-pieces =
    listing.came (0 ∷ []) (0 ∷ []) (rests refl waits)
    (listing.came (0 ∷ []) [] (rests refl waits)
    (listing.end (more {room = 9} refl (omega arith) refl (rests refl waits)) (listing.done (rests refl is-over))))

record-lost : Listing bell 1 9 false [] (0 ∷ 0 ∷ []) ([] ∷ [] ∷ []) → ⊥
unfolding joined list_from value_of
record-lost p = omega (arith, ap length (listing-list bell (λ src rest e. refl) p))

-- the bytes to pass over after a verdict: those of the record, and after a 9 none
passing-14 : passing third (Ok tt) ≡ 14
unfolding value_of
passing-14 = refl

passing-0 : passing third (Err CutShort) ≡ 0
unfolding value_of
passing-0 = refl
