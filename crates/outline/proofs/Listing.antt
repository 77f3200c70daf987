-- The lines of a list of headings and of a heading are written, on plain values.
--     opens, two-beats, heading-inside     a heading begins with a 1, has two beats or more, and lies within the beats
--     number, own_room     the number of a heading; where its lines have room, its own has
--     end_after            that line ends after its number and a line feed
--     number-stands        and so the number stands in the text
--     carried              then the list that it carries stands in the beats, and its lines have room
--     heading-written      its line and those of the list are its lines
--     Going                some headings of a list are written, and the others follow
--     going-none, going_more     none is written; one more
--     next-heading, ended  a list goes on where a beat is left that is not 0; elsewhere all of it is written
--     next-begins, next-room     the next heading stands in the beats, and its lines have room
--     Looping              the same of every list that can stand there, as the loop has it
--     looping-none, looping-more, looping-all     the loop begins, goes on and ends
--     looping-heading, past-heading     what a turn calls for, and how far that comes
-- Assumes nothing.
use mathlib.Core.List.{List, [], ◌∷◌, ◌++◌, append_assoc, append-nil}
use mathlib.Core.Path.{◌≡◌, refl, sym, ◌∙◌, ap, subst}
use Prim.Native.Nat.{ℕ, suc, ◌+◌, ◌≤◌, ◌<◌}
use native.Mathlib.Numerals.{add-one}
use native.Mathlib.Omega.{arith}
use lib.ListN.{length, drop, get_or, length-append, length-drop}
use lib.Seq.{drop-drop, drop-append_seam, get_or-drop, paste-zero}
use Rattle.text.specs.Written.{Written}
use Rattle.text.proofs.Writing.{written_then}
use Rattle.outline.specs.declared.Reached.{Reached}
use Rattle.outline.specs.Outline.{Outline, none, ◌then◌, Heading, heading, schedule, beats}
use Rattle.outline.specs.Text.{under, lines, lines_of, text}
use Rattle.outline.specs.Writing.{
  part,
  Ends,
  Stands,
  Begins,
  ListAt,
  HeadingAt,
  ListWritten,
  HeadingWritten,
}
use Rattle.outline.proofs.Lines.{text-append}
use Rattle.outline.proofs.Keeping.{kept-length, kept-part, piece-part}

-- where a heading begins there is a 1, and all its beats are inside
pub opens : {b : List ℕ} {first : ℕ} (h : Heading) → Begins b first h → get_or b first 0 ≡ 1
unfolding beats
opens {b} {first} (heading o) q =
    let e : first + 0 ≡ first = omega arith in
    ap (λ (j : ℕ). get_or b j 0) (sym e) ∙ sym (get_or-drop first b 0 0) ∙ ap (λ (l : List ℕ). get_or l 0 0) q.here

pub two-beats : (h : Heading) → 2 ≤ length (beats h)
unfolding beats
two-beats (heading o) = omega (arith, length-append (schedule o) (0 ∷ []))

pub heading-inside : {b : List ℕ} {first : ℕ} (h : Heading) → Begins b first h → first + length (beats h) ≤ length b
heading-inside {b} {first} h q =
    omega (
      arith,
      length-drop first b,
      ap length q.here,
      length-append (beats h) q.rest,
      two-beats h,
    )

-- the line of a heading, and the list that it carries
module _ {b x : List ℕ} {first parent long place start : ℕ} (a : HeadingAt b first x parent long place start) where
  abbrev pub number : List ℕ
  number = under (part x parent long) place

  pub own_room : start + length number < length x
  unfolding lines_of text
  own_room = by a.one a.room
    where
      by : (h : Heading) → start + length (text (lines_of h number)) ≤ length x → start + length number < length x
      by (heading o) r = omega (arith, length-append number (10 ∷ text (lines o number 1)))

  module _ {y : List ℕ} {end : ℕ} (w : Written start (number ++ 10 ∷ []) x y end) where
    pub end_after : end ≡ start + length number + 1
    end_after = omega (arith, w.end, length-append number (10 ∷ []))

    pub number-stands : part y start (length number) ≡ number
    number-stands = piece-part number (10 ∷ []) w (omega (arith, own_room))

    same-long : length y ≡ length x
    same-long = kept-length w (omega (arith, own_room, length-append number (10 ∷ [])))

    -- what follows a heading's 1
    inner : (o : Outline) → Begins b first (heading o) → Stands b (first + 1) o
    unfolding beats
    inner o q = record {
      rest = 0 ∷ q.rest;
      here =
          sym (drop-drop 1 first b)
          ∙ ap (drop 1) q.here
          ∙ append_assoc (schedule o) (0 ∷ []) q.rest;
      ends = refl;
    }

    pub carried : (long' : ℕ) → long' ≡ length number → ListAt b (first + 1) y start long' end
    unfolding lines_of text
    carried long' e = by a.one a.begins a.room
      where
        by : (h : Heading) → Begins b first h → start + length (text (lines_of h number)) ≤ length x
            → ListAt b (first + 1) y start long' end
        by (heading o) q r = record {
          list = o;
          stands = inner o q;
          before = omega (arith, end_after, e);
          room =
              subst (λ (n : List ℕ). end + length (text (lines o n 1)) ≤ length y)
              (sym (ap (part y start) e ∙ number-stands))
              (omega (arith, end_after, same-long, length-append number (10 ∷ text (lines o number 1))));
        }

    module _ (long' : ℕ) (e : long' ≡ length number) {z : List ℕ} {r s : Reached}
        (v : ListWritten b (first + 1) y start long' end z r) (f : s.byte ≡ r.byte) (g : s.beat ≡ r.beat + 1) where
      lined : (h : Heading) → Begins b first h → Written start (text (lines_of h number)) x z s.byte
      unfolding lines_of text
      lined (heading o) q =
          let more = v.lined o (inner o q) in
          let below = lines o number 1 in
          let same = subst (λ (n : List ℕ). Written end (text (lines o n 1)) y z r.byte)
          (ap (part y start) e ∙ number-stands) more in
          subst (λ (k : ℕ). Written start (number ++ 10 ∷ text below) x z k) (sym f)
          (subst (λ (l : List ℕ). Written start l x z r.byte) (append_assoc number (10 ∷ []) (text below))
          (written_then (omega (arith, own_room)) w same))

      played : (h : Heading) → Begins b first h → s.beat ≡ first + length (beats h)
      unfolding beats
      played (heading o) q =
          omega (arith, g, v.played o (inner o q), length-append (schedule o) (0 ∷ []))

      pub heading-written : HeadingWritten b first x parent long place start z s
      heading-written = record { lined = lined; played = played }

-- some headings of a list are written, and the others follow
pub record Going (b : List ℕ) (first : ℕ) (x p : List ℕ) (start : ℕ) (o : Outline) (y : List ℕ) (beat byte place : ℕ)
    : Type 0 where
  pub later : Outline
  pub stands : Stands b beat later
  pub done : List ℕ
  pub written : Written start done x y byte
  pub whole : done ++ text (lines later p place) ≡ text (lines o p 1)
  pub played : beat + length (schedule later) ≡ first + length (schedule o)

module _ {b x : List ℕ} {first start : ℕ} (p : List ℕ) (o : Outline) where
  pub going-none : Stands b first o → Going b first x p start o x first start 1
  going-none q = record {
    later = o;
    stands = q;
    done = [];
    written = record { text = paste-zero x start []; end = omega arith };
    whole = refl;
    played = refl;
  }

  module _ {y : List ℕ} {beat byte place : ℕ} (g : Going b first x p start o y beat byte place) where
    -- a list goes on where a beat is left that is not 0, and ends where none is
    pub next-heading : beat < length b → (get_or b beat 0 ≡ 0 → ⊥)
        → (h : Heading) × (r : Outline) × (g.later ≡ h then r)
    unfolding schedule
    next-heading l other = by g.later refl g.stands
      where
        by : (later : Outline) → g.later ≡ later → Stands b beat later
            → (h : Heading) × (r : Outline) × (g.later ≡ h then r)
        by none e q = absurd (at-end q.rest q.here q.ends)
          where
            at-end : (rest : List ℕ) → drop beat b ≡ rest → Ends rest → ⊥
            at-end [] f n = omega (arith, length-drop beat b, ap length f)
            at-end (v ∷ rest) f n =
                let e : beat + 0 ≡ beat = omega arith in
                other
                (ap (λ (j : ℕ). get_or b j 0) (sym e) ∙ sym (get_or-drop beat b 0 0)
                ∙ ap (λ (l : List ℕ). get_or l 0 0) f ∙ n)
        by (h then r) e q = (h, r, e)

    pub ended : (beat < length b → get_or b beat 0 ≡ 0) → Written start (text (lines o p 1)) x y byte
        × (beat ≡ first + length (schedule o))
    unfolding schedule lines text
    ended closed = by g.later g.stands g.whole g.played
      where
        by : (later : Outline) → Stands b beat later → g.done ++ text (lines later p place) ≡ text (lines o p 1)
            → beat + length (schedule later) ≡ first + length (schedule o)
            → Written start (text (lines o p 1)) x y byte × (beat ≡ first + length (schedule o))
        by none q w e = (
          subst (λ (l : List ℕ). Written start l x y byte) (sym (append-nil g.done) ∙ w) g.written,
          omega arith,
        )
        by (h then r) q w e =
            let begins : Begins b beat h =
            record { rest = schedule r ++ q.rest; here = q.here ∙ append_assoc (beats h) (schedule r) q.rest } in
            absurd
            (omega (
              arith,
              opens h begins,
              heading-inside h begins,
              two-beats h,
              closed (omega (arith, heading-inside h begins, two-beats h)),
            ))

    module _ (h : Heading) (r : Outline) (e : g.later ≡ h then r) where
      abbrev q : List ℕ
      q = under p place

      before : g.done ++ text (lines_of h q) ++ text (lines r p (suc place)) ≡ text (lines o p 1)
      unfolding lines
      before =
          append_assoc g.done (text (lines_of h q)) (text (lines r p (suc place)))
          ∙ ap (λ (l : List ℕ). g.done ++ l) (sym (text-append (lines_of h q) (lines r p (suc place))))
          ∙ ap (λ (later : Outline). g.done ++ text (lines later p place)) (sym e)
          ∙ g.whole

      pub next-begins : Begins b beat h
      unfolding schedule
      next-begins = record {
        rest = schedule r ++ g.stands.rest;
        here =
            g.stands.here
            ∙ ap (λ (later : Outline). schedule later ++ g.stands.rest) e
            ∙ append_assoc (beats h) (schedule r) g.stands.rest;
      }

      pub next-room : start + length (text (lines o p 1)) ≤ length x → byte + length (text (lines_of h q)) ≤ length x
      next-room l =
          omega (
            arith,
            g.written.end,
            ap length before,
            length-append (g.done ++ text (lines_of h q)) (text (lines r p (suc place))),
            length-append g.done (text (lines_of h q)),
          )

      pub going_more : {z : List ℕ} {beat' byte' place' : ℕ} → start ≤ length x
          → Written byte (text (lines_of h q)) y z byte' → beat' ≡ beat + length (beats h) → place' ≡ suc place
          → Going b first x p start o z beat' byte' place'
      unfolding schedule next-begins
      going_more {z} {beat'} {byte'} {place'} l w f k = record {
        later = r;
        stands = record {
          rest = g.stands.rest;
          here =
              ap (λ (j : ℕ). drop j b) f
              ∙ sym (drop-drop (length (beats h)) beat b)
              ∙ ap (drop (length (beats h))) next-begins.here
              ∙ drop-append_seam (beats h) (schedule r ++ g.stands.rest);
          ends = g.stands.ends;
        };
        done = g.done ++ text (lines_of h q);
        written = written_then l g.written w;
        whole = ap (λ (j : ℕ). g.done ++ text (lines_of h q) ++ text (lines r p j)) k ∙ before;
        played =
            omega (
              arith,
              f,
              g.played,
              ap (λ (later : Outline). length (schedule later)) e,
              length-append (beats h) (schedule r),
            );
      }

-- the same of every list that can stand there, as the loop has it
pub record Looping (b : List ℕ) (first : ℕ) (x : List ℕ) (parent long start : ℕ) (y : List ℕ) (beat byte place : ℕ)
    : Type 0 where
  pub onwards : first ≤ beat
  pub kept : length y ≡ length x
  pub few : place + place ≤ beat + 2
  pub going : (o : Outline) → Stands b first o → Going b first x (part x parent long) start o y beat byte place

module _ {b x : List ℕ} {first parent long start : ℕ} where
  pub looping-none : Looping b first x parent long start x first start 1
  looping-none = record {
    onwards = omega arith;
    kept = refl;
    few = omega arith;
    going = λ o q. going-none (part x parent long) o q;
  }

  module _ {y : List ℕ} {beat byte place : ℕ} (i : Looping b first x parent long start y beat byte place) where
    pub looping-all : (beat < length b → get_or b beat 0 ≡ 0)
        → ListWritten b first x parent long start y (record { beat = beat; byte = byte })
    looping-all closed = record {
      lined = λ o q. (ended (part x parent long) o (i.going o q) closed).0;
      played = λ o q. (ended (part x parent long) o (i.going o q) closed).1;
    }

    module _ (a : ListAt b first x parent long start) (l : beat < length b) (other : get_or b beat 0 ≡ 0 → ⊥) where
      abbrev p : List ℕ
      p = part x parent long

      near : start ≤ length x
      near = omega (arith, a.room)

      -- the number of the heading that carries the list still stands
      same-parent : part y parent long ≡ p
      same-parent =
          let g = i.going a.list a.stands in
          kept-part g.written parent long near a.before

      pub looping-heading : HeadingAt b beat y parent long place byte
      looping-heading =
          let g = i.going a.list a.stands in
          let n = next-heading p a.list g l other in
          let room = next-room p a.list g n.0 n.1 n.2 a.room in
          record {
            one = n.0;
            begins = next-begins p a.list g n.0 n.1 n.2;
            before = omega (arith, a.before, g.written.end);
            room =
                subst (λ (q : List ℕ). byte + length (text (lines_of n.0 (under q place))) ≤ length y)
                (sym same-parent) (omega (arith, i.kept, room));
          }

      module _ {z : List ℕ} {r : Reached} (w : HeadingWritten b beat y parent long place byte z r) where
        pub past-heading : (beat + 2 ≤ r.beat) × (r.beat ≤ length b)
        past-heading =
            let h = looping-heading in
            let e = w.played h.one h.begins in
            (omega (arith, e, two-beats h.one), omega (arith, e, heading-inside h.one h.begins))

        pub looping-more : length z ≡ length y
            → Looping b first x parent long start z r.beat r.byte (place + 1)
        looping-more same = record {
          onwards = omega (arith, i.onwards, past-heading);
          kept = same ∙ i.kept;
          few = omega (arith, i.few, past-heading);
          going =
              λ o q.
              let g = i.going o q in
              let n = next-heading p o g l other in
              let begins = next-begins p o g n.0 n.1 n.2 in
              going_more p o g n.0 n.1 n.2 near
              (subst (λ (u : List ℕ). Written byte (text (lines_of n.0 (under u place))) y z r.byte) same-parent
              (w.lined n.0 begins))
              (w.played n.0 begins) (add-one place);
        }
