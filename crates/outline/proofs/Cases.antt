-- The definitions of specs/ on small inputs: for each one value and another, and for each part of a predicate what
-- fits and what does not. 110100 is the example of the manual. Assumes nothing.
use mathlib.Core.List.{List, [], ◌∷◌}
use mathlib.Core.Path.{◌≡◌, refl, ap}
use Prim.Native.Nat.{ℕ, ◌+◌, ◌≤◌}
use native.Mathlib.Omega.{arith}
use lib.ListN.{length, drop, get_or}
use Rattle.std.proofs.Common.{Ok, Err}
use Rattle.bounded.specs.Bounded.{first_from}
use Rattle.refusal.specs.declared.Refusal.TheVariants.{NotClosed, NoRoom, EmptyHand}
use Rattle.refusal.specs.Rows.{judge}
use Rattle.schedule.specs.Schedule.{ones, zeros}
use Rattle.tree.specs.Tree.{leaf, node}
use Rattle.tree.specs.Parse.{grow, parse, foremost, tree_of}
use Rattle.text.specs.Decimal.{digits, decimal}
use Rattle.text.specs.Written.{Written}
use Rattle.outline.specs.declared.Reached.{Reached}
use Rattle.outline.specs.Outline.{
  Outline,
  none,
  ◌then◌,
  Heading,
  heading,
  headings,
  below,
  schedule,
  beats,
  planted,
  outline_of,
}
use Rattle.outline.specs.Text.{stem, under, lines, lines_of, text, outline_text, printed}
use Rattle.outline.specs.Answers.{closed_rows, outline_rows, outline_answer, outline_left}
use Rattle.outline.specs.Writing.{
  part,
  Ends,
  Stands,
  Begins,
  ListAt,
  HeadingAt,
  ListWritten,
  HeadingWritten,
}

-- a heading without a list of its own, two sisters, and the outline of 110100: one heading that carries both
abbrev pub alone : Heading
alone = heading none

abbrev pub sisters : Outline
sisters = alone then alone then none

abbrev pub family : Outline
family = heading sisters then none

-- an outline is no heading or one and more; a heading carries none or some
no-heading : headings none ≡ 0
unfolding headings
no-heading = refl

three-headings : headings family ≡ 3
unfolding headings below
three-headings = refl

alone-below : below alone ≡ 1
unfolding headings below
alone-below = refl

three-below : below (heading sisters) ≡ 3
unfolding headings below
three-below = refl

pub schedule-family : schedule family ≡ 1 ∷ 1 ∷ 0 ∷ 1 ∷ 0 ∷ 0 ∷ []
unfolding schedule beats
schedule-family = refl

schedule-sisters : schedule sisters ≡ 1 ∷ 0 ∷ 1 ∷ 0 ∷ []
unfolding schedule beats
schedule-sisters = refl

beats-alone : beats alone ≡ 1 ∷ 0 ∷ []
unfolding schedule beats
beats-alone = refl

beats-chain : beats (heading (alone then none)) ≡ 1 ∷ 1 ∷ 0 ∷ 0 ∷ []
unfolding schedule beats
beats-chain = refl

-- a left child is below its node, and a right one beside it
planted-left : planted (node (node leaf leaf) leaf) ≡ heading (alone then none) then none
unfolding planted
planted-left = refl

planted-right : planted (node leaf (node leaf leaf)) ≡ sisters
unfolding planted
planted-right = refl

outline-of-110100 : outline_of (1 ∷ 1 ∷ 0 ∷ 1 ∷ 0 ∷ 0 ∷ []) ≡ family
unfolding planted tree_of foremost parse grow
outline-of-110100 = refl

outline-of-none : outline_of [] ≡ none
unfolding planted tree_of foremost parse grow
outline-of-none = refl

-- numbers: a topmost one has no dot; the twelfth under 3 is 3.12
no-stem : stem [] ≡ []
unfolding stem
no-stem = refl

stem-3 : stem (51 ∷ []) ≡ 51 ∷ 46 ∷ []
unfolding stem
stem-3 = refl

topmost-2 : under [] 2 ≡ 50 ∷ []
unfolding stem decimal digits
topmost-2 = refl

under-3 : under (51 ∷ []) 12 ≡ 51 ∷ 46 ∷ 49 ∷ 50 ∷ []
unfolding stem decimal digits
under-3 = refl

-- 1, 1.1, 1.2; the same outline as the second list under 1; no line
lines-family : lines family [] 1 ≡ (49 ∷ []) ∷ (49 ∷ 46 ∷ 49 ∷ []) ∷ (49 ∷ 46 ∷ 50 ∷ []) ∷ []
unfolding lines lines_of stem decimal digits
lines-family = refl

lines-sisters : lines sisters (49 ∷ []) 2 ≡ (49 ∷ 46 ∷ 50 ∷ []) ∷ (49 ∷ 46 ∷ 51 ∷ []) ∷ []
unfolding lines lines_of stem decimal digits
lines-sisters = refl

lines-alone : lines_of alone (51 ∷ []) ≡ (51 ∷ []) ∷ []
unfolding lines lines_of
lines-alone = refl

lines-chain : lines_of (heading (alone then none)) (51 ∷ []) ≡ (51 ∷ []) ∷ (51 ∷ 46 ∷ 49 ∷ []) ∷ []
unfolding lines lines_of stem decimal digits
lines-chain = refl

-- each line has its line feed, the last one too
no_text : text [] ≡ []
unfolding text
no_text = refl

two-lines : text ((49 ∷ []) ∷ (50 ∷ []) ∷ []) ≡ 49 ∷ 10 ∷ 50 ∷ 10 ∷ []
unfolding text
two-lines = refl

text-of-sisters : outline_text sisters ≡ 49 ∷ 10 ∷ 50 ∷ 10 ∷ []
unfolding text lines lines_of stem decimal digits
text-of-sisters = refl

text-of-none : outline_text none ≡ []
unfolding text lines
text-of-none = refl

-- [H4] 110100 prints 1, 1.1, 1.2
printed-110100 : printed (1 ∷ 1 ∷ 0 ∷ 1 ∷ 0 ∷ 0 ∷ [])
    ≡ 49 ∷ 10 ∷ 49 ∷ 46 ∷ 49 ∷ 10 ∷ 49 ∷ 46 ∷ 50 ∷ 10 ∷ []
unfolding text lines lines_of stem decimal digits planted tree_of foremost parse grow
printed-110100 = refl

-- [H4] the empty schedule prints nothing
printed-none : printed [] ≡ []
unfolding text lines planted tree_of foremost parse grow
printed-none = refl

-- the orders: a closed schedule; 14 where t is not s, after the check's refusals; 12 after 14
closed-10 : judge (closed_rows 1 1 (1 ∷ 0 ∷ [])) ≡ Ok tt
unfolding first_from ones zeros
closed-10 = refl

not-closed : judge (closed_rows 2 1 (1 ∷ 1 ∷ 0 ∷ [])) ≡ Err NotClosed
unfolding first_from ones zeros
not-closed = refl

hand-before-closed : judge (closed_rows 2 1 (0 ∷ 1 ∷ 1 ∷ [])) ≡ Err (EmptyHand 0)
unfolding first_from ones zeros
hand-before-closed = refl

room_fits : judge (outline_rows 1 1 (1 ∷ 0 ∷ []) 2) ≡ Ok tt
unfolding first_from ones zeros text lines lines_of stem decimal digits planted tree_of foremost parse grow
room_fits = refl

room-short : judge (outline_rows 1 1 (1 ∷ 0 ∷ []) 1) ≡ Err NoRoom
unfolding first_from ones zeros text lines lines_of stem decimal digits planted tree_of foremost parse grow
room-short = refl

closed-before-room : judge (outline_rows 2 1 (1 ∷ 1 ∷ 0 ∷ []) 0) ≡ Err NotClosed
unfolding first_from ones zeros
closed-before-room = refl

answer-10 : outline_answer 1 1 (1 ∷ 0 ∷ []) (7 ∷ 7 ∷ 7 ∷ []) ≡ Ok 2
unfolding first_from ones zeros text lines lines_of stem decimal digits planted tree_of foremost parse grow
answer-10 = refl

answer-short : outline_answer 1 1 (1 ∷ 0 ∷ []) (7 ∷ []) ≡ Err NoRoom
unfolding first_from ones zeros text lines lines_of stem decimal digits planted tree_of foremost parse grow
answer-short = refl

left-10 : outline_left 1 1 (1 ∷ 0 ∷ []) (7 ∷ 7 ∷ 7 ∷ []) ≡ 49 ∷ 10 ∷ 7 ∷ []
unfolding first_from ones zeros text lines lines_of stem decimal digits planted tree_of foremost parse grow
left-10 = refl

left-short : outline_left 1 1 (1 ∷ 0 ∷ []) (7 ∷ []) ≡ 7 ∷ []
unfolding first_from ones zeros text lines lines_of stem decimal digits planted tree_of foremost parse grow
left-short = refl

-- some bytes from an index on; fewer where there are no more
part-2 : part (1 ∷ 2 ∷ 3 ∷ 4 ∷ []) 1 2 ≡ 2 ∷ 3 ∷ []
part-2 = refl

part-past : part (1 ∷ 2 ∷ []) 1 2 ≡ 2 ∷ []
part-past = refl

-- a list of headings ends with the beats, or before a 0; before a 1 it goes on
ends-none : Ends []
ends-none = tt

ends-down : Ends (0 ∷ 1 ∷ [])
ends-down = refl

goes_on : Ends (1 ∷ 0 ∷ []) → ⊥
goes_on e = omega (arith, e)

goes-on-by : (rest : List ℕ) → 1 ∷ 0 ∷ [] ≡ rest → Ends rest → ⊥
goes-on-by [] e x = omega (arith, ap length e)
goes-on-by (y ∷ rest) e x = let first : ◌≡◌ {A = ℕ} 1 y = ap (λ (l : List ℕ). get_or l 0 0) e in omega (arith, first, x)

-- 1010 has two headings from 0 on, and not one alone; 01 has none that begins with a 1
stands-1010 : Stands (1 ∷ 0 ∷ 1 ∷ 0 ∷ []) 0 sisters
unfolding schedule beats
stands-1010 = record { rest = []; here = refl; ends = tt }

one_of_two : Stands (1 ∷ 0 ∷ 1 ∷ 0 ∷ []) 0 (alone then none) → ⊥
unfolding schedule beats
one_of_two q = goes-on-by q.rest (ap (drop 2) q.here) q.ends

none-opened : Stands (0 ∷ 1 ∷ []) 0 (alone then none) → ⊥
unfolding schedule beats
none-opened q = let clash : ◌≡◌ {A = ℕ} 0 1 = ap (λ (l : List ℕ). get_or l 0 0) q.here in omega arith

-- 1100 begins with a heading that carries another; 10 does not
begins-1100 : Begins (1 ∷ 1 ∷ 0 ∷ 0 ∷ []) 0 (heading (alone then none))
unfolding schedule beats
begins-1100 = record { rest = []; here = refl }

begins-10 : Begins (1 ∷ 0 ∷ []) 0 (heading (alone then none)) → ⊥
unfolding schedule beats
begins-10 q = let clash : ◌≡◌ {A = ℕ} 0 1 = ap (λ (l : List ℕ). get_or l 1 0) q.here in omega arith

none-stands : Stands (1 ∷ 0 ∷ []) 0 none → ⊥
unfolding schedule
none-stands q = goes-on-by q.rest q.here q.ends

-- 10 has a list of one heading, whose line takes two bytes; what is written begins after the number above it
stands-10 : Stands (1 ∷ 0 ∷ []) 0 (alone then none)
unfolding schedule beats
stands-10 = record { rest = []; here = refl; ends = tt }

list_at : ListAt (1 ∷ 0 ∷ []) 0 (7 ∷ 7 ∷ []) 0 0 0
unfolding text lines lines_of stem decimal digits
list_at = record { list = alone then none; stands = stands-10; before = omega arith; room = omega arith }

list-before-its-number : ListAt (1 ∷ 0 ∷ []) 0 (7 ∷ 7 ∷ []) 0 1 0 → ⊥
list-before-its-number q = omega (arith, q.before)

list-not-closed : ListAt (1 ∷ []) 0 (7 ∷ 7 ∷ []) 0 0 0 → ⊥
list-not-closed q = by q.list q.stands
  where
    by : (o : Outline) → Stands (1 ∷ []) 0 o → ⊥
    by none s = unfold schedule in ended s.rest s.here s.ends
      where
        ended : (rest : List ℕ) → 1 ∷ [] ≡ rest → Ends rest → ⊥
        ended [] e x = omega (arith, ap length e)
        ended (y ∷ rest) e x =
            let first : ◌≡◌ {A = ℕ} 1 y = ap (λ (l : List ℕ). get_or l 0 0) e in omega (arith, first, x)
    by (heading none then o) s = unfold schedule beats in omega (arith, ap length s.here)
    by (heading (heading p then q) then o) s = unfold schedule beats in omega (arith, ap length s.here)

list-too-long : ListAt (1 ∷ 0 ∷ []) 0 (7 ∷ []) 0 0 0 → ⊥
list-too-long q = by q.list q.stands q.room
  where
    by : (o : Outline) → Stands (1 ∷ 0 ∷ []) 0 o → 0 + length (text (lines o [] 1)) ≤ 1 → ⊥
    by none s f = none-stands s
    by (heading p then o) s f = unfold text lines lines_of stem decimal digits in omega (arith, f)

-- the same of one heading
heading-at : HeadingAt (1 ∷ 0 ∷ []) 0 (7 ∷ 7 ∷ []) 0 0 1 0
unfolding text lines lines_of stem decimal digits schedule beats
heading-at = record {
  one = alone;
  begins = record { rest = []; here = refl };
  before = omega arith;
  room = omega arith;
}

heading-before-its-number : HeadingAt (1 ∷ 0 ∷ []) 0 (7 ∷ 7 ∷ []) 0 1 1 0 → ⊥
heading-before-its-number q = omega (arith, q.before)

heading-not-opened : HeadingAt (0 ∷ []) 0 (7 ∷ 7 ∷ []) 0 0 1 0 → ⊥
heading-not-opened q = by q.one q.begins
  where
    by : (h : Heading) → Begins (0 ∷ []) 0 h → ⊥
    by (heading o) s = unfold beats in
        let clash : ◌≡◌ {A = ℕ} 0 1 = ap (λ (l : List ℕ). get_or l 0 0) s.here in omega arith

heading-too-long : HeadingAt (1 ∷ 0 ∷ []) 0 (7 ∷ []) 0 0 1 0 → ⊥
heading-too-long q = by q.one q.room
  where
    by : (h : Heading) → 0 + length (text (lines_of h (under [] 1))) ≤ 1 → ⊥
    by (heading o) f = unfold text lines_of stem decimal digits in omega (arith, f)

-- the line of 10 is written, and what stands after it stays; both beats are read
abbrev both : Reached
both = record { beat = 2; byte = 2 }

heading-written : HeadingWritten (1 ∷ 0 ∷ []) 0 (7 ∷ 7 ∷ 7 ∷ []) 0 0 1 0 (49 ∷ 10 ∷ 7 ∷ []) both
heading-written = record { lined = written; played = read }
  where
    written : (h : Heading) → Begins (1 ∷ 0 ∷ []) 0 h
        → Written 0 (text (lines_of h (under [] 1))) (7 ∷ 7 ∷ 7 ∷ []) (49 ∷ 10 ∷ 7 ∷ []) 2
    written (heading none) s = unfold text lines lines_of stem decimal digits in record { text = refl; end = refl }
    written (heading (heading o then p)) s = unfold schedule beats in
        let clash : ◌≡◌ {A = ℕ} 0 1 = ap (λ (l : List ℕ). get_or l 1 0) s.here in absurd (omega arith)

    read : (h : Heading) → Begins (1 ∷ 0 ∷ []) 0 h → 2 ≡ 0 + length (beats h)
    read (heading none) s = unfold schedule beats in refl
    read (heading (heading o then p)) s = unfold schedule beats in
        let clash : ◌≡◌ {A = ℕ} 0 1 = ap (λ (l : List ℕ). get_or l 1 0) s.here in absurd (omega arith)

begins-alone : Begins (1 ∷ 0 ∷ []) 0 alone
unfolding schedule beats
begins-alone = record { rest = []; here = refl }

heading-behind : HeadingWritten (1 ∷ 0 ∷ []) 0 (7 ∷ 7 ∷ 7 ∷ []) 0 0 1 0 (49 ∷ 10 ∷ 0 ∷ []) both → ⊥
unfolding text lines lines_of stem decimal digits
heading-behind q =
    let clash : ◌≡◌ {A = ℕ} 0 7 = ap (λ (l : List ℕ). get_or l 2 0) (q.lined alone begins-alone).text in omega arith

heading-half-read : HeadingWritten (1 ∷ 0 ∷ []) 0 (7 ∷ 7 ∷ 7 ∷ []) 0 0 1 0 (49 ∷ 10 ∷ 7 ∷ [])
    (record { beat = 1; byte = 2 })
    → ⊥
unfolding schedule beats
heading-half-read q = omega (arith, q.played alone begins-alone)

list_written : ListWritten (1 ∷ 0 ∷ []) 0 (7 ∷ 7 ∷ 7 ∷ []) 0 0 0 (49 ∷ 10 ∷ 7 ∷ []) both
list_written = record { lined = written; played = read }
  where
    written : (o : Outline) → Stands (1 ∷ 0 ∷ []) 0 o
        → Written 0 (text (lines o [] 1)) (7 ∷ 7 ∷ 7 ∷ []) (49 ∷ 10 ∷ 7 ∷ []) 2
    written none s = absurd (none-stands s)
    written (heading none then none) s = unfold text lines lines_of stem decimal digits in
        record { text = refl; end = refl }
    written (heading none then (heading o then p)) s = unfold schedule beats in
        absurd (omega (arith, ap length s.here))
    written (heading (heading o then p) then r) s = unfold schedule beats in
        let clash : ◌≡◌ {A = ℕ} 0 1 = ap (λ (l : List ℕ). get_or l 1 0) s.here in absurd (omega arith)

    read : (o : Outline) → Stands (1 ∷ 0 ∷ []) 0 o → 2 ≡ 0 + length (schedule o)
    read none s = absurd (none-stands s)
    read (heading none then none) s = unfold schedule beats in refl
    read (heading none then (heading o then p)) s = unfold schedule beats in absurd (omega (arith, ap length s.here))
    read (heading (heading o then p) then r) s = unfold schedule beats in
        let clash : ◌≡◌ {A = ℕ} 0 1 = ap (λ (l : List ℕ). get_or l 1 0) s.here in absurd (omega arith)

list-behind : ListWritten (1 ∷ 0 ∷ []) 0 (7 ∷ 7 ∷ 7 ∷ []) 0 0 0 (49 ∷ 10 ∷ 0 ∷ []) both → ⊥
unfolding text lines lines_of stem decimal digits
list-behind q =
    let clash : ◌≡◌ {A = ℕ} 0 7 = ap (λ (l : List ℕ). get_or l 2 0) (q.lined (alone then none) stands-10).text in
    omega arith

list-half-read : ListWritten (1 ∷ 0 ∷ []) 0 (7 ∷ 7 ∷ 7 ∷ []) 0 0 0 (49 ∷ 10 ∷ 7 ∷ []) (record { beat = 1; byte = 2 })
    → ⊥
unfolding schedule beats
list-half-read q = omega (arith, q.played (alone then none) stands-10)
