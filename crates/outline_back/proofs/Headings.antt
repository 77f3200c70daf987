-- Reading a list of headings one by one, and writing their beats, on plain values.
--     reads-beats                    the beats of what is read are two for each line
--     list-beats, heading-beats      so how far they have come after a list, and after a heading
--     heading-left                   a heading leaves no more lines than it was given
--     heading-read                   a heading is read: a 1, what the list that it carries leaves, and a 0
--     Played                         a list of headings is read that has these beats
--     Going                          some headings of a list are read, and what is read after them makes the whole list
--     going-none, going_more         no heading is read yet; one more
--     going-full, going-stop         the list ends: no line is left; or the next is not that of its next heading
-- Assumes nothing.
use mathlib.Core.List.{List, [], ◌∷◌, ◌++◌, append_assoc, append-nil}
use mathlib.Core.Path.{◌≡◌, refl, sym, ◌∙◌}
use Prim.Native.Nat.{ℕ, suc, ◌+◌, ◌-◌, ◌≤◌, ◌<◌}
use native.Mathlib.Numerals.{add-one}
use native.Mathlib.Omega.{arith}
use lib.ListN.{length, drop, set, length-append}
use lib.Seq.{paste-zero}
use Rattle.std.specs.Prelude.{Some, None}
use Rattle.text.specs.Written.{Written}
use Rattle.text.proofs.Writing.{written-put, written_then}
use Rattle.outline.specs.Outline.{Outline, none, heading, schedule, beats}
use Rattle.outline.specs.Text.{under}
use Rattle.outline.specs.Writing.{part}
use Rattle.outline_back.specs.declared.Reached.{Reached}
use Rattle.outline_back.specs.Reading.{Lined, Reads, full, stop, more, ListRead, HeadingRead}
use Rattle.outline_back.proofs.Line.{line-found, line-none, line-part}

pub reads-beats : {p : List ℕ} {k n : ℕ} {x : List ℕ} {o : Outline} {y : List ℕ} {m : ℕ} → Reads p k n x o y m
    → length (schedule o) + (m + m) ≡ n + n
unfolding schedule beats
reads-beats full = refl
reads-beats (stop f) = omega arith
reads-beats (more {o = o} {r = r} w e inner rest) =
    omega (
      arith,
      length-append (schedule o ++ 0 ∷ []) (schedule r),
      length-append (schedule o) (0 ∷ []),
      reads-beats inner,
      reads-beats rest,
    )

module _ {x : List ℕ} {parent long from left at : ℕ} {before after : List ℕ} {r : Reached} where
  pub list-beats : ListRead x parent long from left at before after r
      → r.beat + (r.left + r.left) ≡ at + (left + left)
  list-beats l = omega (arith, l.written.end, reads-beats l.reads)

  pub heading-beats : HeadingRead x parent long from left at before after r
      → r.beat + (r.left + r.left) ≡ at + (left + left) + 2
  unfolding beats
  heading-beats h =
      omega (arith, h.written.end, length-append (schedule h.list) (0 ∷ []), reads-beats h.reads)

  pub heading-left : HeadingRead x parent long from left at before after r → r.left ≤ left
  heading-left h = omega (arith, reads-beats h.reads)

pub heading-read : {x : List ℕ} {number long from left at : ℕ} {before after : List ℕ} {r : Reached}
    → at < length before → r.beat < length after
    → ListRead x number long from left (at + 1) (set before at 1) after r
    → HeadingRead x number long from left at before (set after r.beat 0)
    (record { byte = r.byte; beat = r.beat + 1; left = r.left })
unfolding beats
heading-read {at = at} {before = before} {after = after} {r = r} h g l =
    let opened = written_then (omega arith) (written-put 1 at before h) l.written in
    record {
      list = l.list;
      reads = l.reads;
      within = l.within;
      written = written_then (omega arith) opened (written-put 0 r.beat after g);
    }

pub record Played (p : List ℕ) (n : ℕ) (x b y : List ℕ) (m : ℕ) : Type 0 where
  pub list : Outline
  pub reads : Reads p 1 n x list y m
  pub beats : schedule list ≡ b

pub record Going (p x : List ℕ) (from left at : ℕ) (before : List ℕ) (byte beat lines place : ℕ) (after : List ℕ)
    : Type 0 where
  pub done : List ℕ
  pub written : Written at done before after beat
  pub joins : {rest : Outline} {y : List ℕ} {m : ℕ} → Reads p place lines (drop byte x) rest y m
      → Played p left (drop from x) (done ++ schedule rest) y m
  pub within : byte ≤ length x
  pub counted : beat + (lines + lines) ≡ at + (left + left)
  pub order : place + lines ≤ left + 1

pub going-none : (p x : List ℕ) (from left at : ℕ) (before : List ℕ) → from ≤ length x
    → Going p x from left at before from at left 1 before
going-none p x from left at before h = record {
  done = [];
  written = record { text = paste-zero before at []; end = omega arith };
  joins = λ {rest} q. record { list = rest; reads = q; beats = refl };
  within = h;
  counted = refl;
  order = omega arith;
}

module _ {p x : List ℕ} {from left at : ℕ} {before : List ℕ} {byte beat lines place : ℕ} {after : List ℕ}
    (fits : at ≤ length before) (g : Going p x from left at before byte beat lines place after) where
  pub going_more : {end n : ℕ} {later : List ℕ} {r : Reached} → lines ≡ suc n → Lined x byte (under p place) (Some end)
      → HeadingRead x byte (end - 1 - byte) end n beat after later r
      → Going p x from left at before r.byte r.beat r.left (place + 1) later
  unfolding schedule
  going_more {end} {n} {later} {r} e found h =
      let inner : Reads (under p place) 1 n (drop end x) h.list (drop r.byte x) r.left =
      rw (line-part found) at h.reads in
      record {
        done = g.done ++ beats (heading h.list);
        written = written_then fits g.written h.written;
        joins = λ {rest} q.
            let after : Reads p (suc place) r.left (drop r.byte x) rest _ _ = rw (add-one place) at q in
            let all = g.joins (rw (sym e) at (more (drop end x) (line-found found).1 inner after)) in
            record {
              list = all.list;
              reads = all.reads;
              beats = all.beats ∙ sym (append_assoc g.done (beats (heading h.list)) (schedule rest));
            };
        within = h.within;
        counted = omega (arith, heading-beats h, g.counted);
        order = omega (arith, g.order, heading-left h);
      }

-- the list ends here
module _ {x : List ℕ} {parent long from left at : ℕ} {before : List ℕ} {byte beat lines place : ℕ} {after : List ℕ}
    (g : Going (part x parent long) x from left at before byte beat lines place after) where
  going_end : Reads (part x parent long) place lines (drop byte x) none (drop byte x) lines
      → ListRead x parent long from left at before after (record { byte = byte; beat = beat; left = lines })
  unfolding schedule
  going_end q =
      let all = g.joins q in
      record {
        list = all.list;
        reads = all.reads;
        within = g.within;
        written = rw (all.beats ∙ append-nil g.done) g.written;
      }

  pub going-full : lines ≡ 0
      → ListRead x parent long from left at before after (record { byte = byte; beat = beat; left = lines })
  going-full e = going_end (rw e full)

  pub going-stop : Lined x byte (under (part x parent long) place) None
      → ListRead x parent long from left at before after (record { byte = byte; beat = beat; left = lines })
  going-stop found = going_end (stop (line-none found))
