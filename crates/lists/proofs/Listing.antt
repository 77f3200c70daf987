-- From what reading answers to the line that is listed.
--     Ordered, ordered     what an accepted reading says of the record, and of the beats in the room
--     turned_down          what a refused reading says of it
--     six-there            a record that is refused 6 has its kind, and the surplus and t are the ones of its beats
--     list-accepted, list-refused     the line that was written is the record's
-- Assumes nothing.
use mathlib.Core.Bool.{Bool, false}
use mathlib.Core.List.{List, ◌++◌}
use mathlib.Core.Path.{◌≡◌, sym, ◌∙◌, ap, ap₂, subst}
use Prim.Native.Nat.{ℕ, ◌+◌, ◌≤◌}
use native.Mathlib.Nat.{zero-add}
use native.Mathlib.Omega.{arith}
use lib.Dec.{eqb}
use lib.IntN.{pos, ◌+ℤ◌}
use lib.ListN.{length, take, drop}
use lib.Seq.{take_at}
use Rattle.std.proofs.Common.{Ok, Err}
use Rattle.refusal.specs.declared.Refusal.{Refusal}
use Rattle.refusal.specs.Answer.{Verdict, refusal, surplus}
use Rattle.refusal.specs.Refusal.{refusal_number, refusal_surplus}
use Rattle.refusal.specs.Rows.{judge}
use Rattle.triangle.specs.Count.{most_beats}
use Rattle.counts.specs.Counts.{Allowed}
use Rattle.schedule.specs.Schedule.{Schedule}
use Rattle.record.specs.Record.{long, layout_in, ups, downs, body, meant, meant_number, read_rows, eaten}
use Rattle.record.specs.declared.reading.Order.{Order}
use Rattle.record.specs.Parts.{Reading, unread}
use Rattle.reader.specs.Answers.{told, left_by, read_answer, read_left}
use Rattle.record.specs.Parts as said
use Rattle.reader.proofs.Verdicts.{told-verdict}
use Rattle.reader.proofs.Heads.{whole_long}
use Rattle.reader.proofs.Sixes.{six-facts, six-off}
use Rattle.reader.proofs.Meaning.{Means, read-means}
use Rattle.text.specs.Written.{Written}
use Rattle.stream.specs.Stream.{verdict_on, passing, passed, ending, ends}
use Rattle.stream.specs.Pass.{Prints}
use Rattle.lists.specs.declared.Which.{Which}
use Rattle.lists.specs.Listed.{ones_in, accepted_text, refused_in, text, line_of}

module _ (src room : List ℕ) (h : length room ≡ most_beats) where
  abbrev number : ℕ
  number = meant_number (layout_in src) (ups src) (downs src) (body src)

  abbrev beats : List ℕ
  beats = meant (layout_in src) (ups src) (downs src) (body src)

  answer-is : read_answer src room ≡ told (ups src) (downs src) number (long src) (verdict_on src)
  answer-is = ap (λ (j : ℕ). told (ups src) (downs src) number (long src) (judge (read_rows j src))) h

  left_is : read_left src room ≡ left_by (layout_in src) src (verdict_on src) room
  left_is = ap (λ (j : ℕ). left_by (layout_in src) src (judge (read_rows j src)) room) h

  verdict-of : {r : Reading} → read_answer src room ≡ r → verdict_on src ≡ said.verdict r
  verdict-of e =
      sym (told-verdict (ups src) (downs src) number (long src) (verdict_on src)) ∙ ap said.verdict (sym answer-is ∙ e)

  pub record Ordered (o : Order) : Type 0 where
    pub taken : verdict_on src ≡ Ok tt
    pub few : Allowed o.t o.s
    pub is-t : o.t ≡ ups src
    pub is-s : o.s ≡ downs src
    pub is_number : o.number ≡ number
    pub is-consumed : o.consumed ≡ 2 + long src
    pub schedule : Schedule o.t o.s beats
    pub in-room : take (o.t + o.s) (read_left src room) ≡ beats

  pub ordered : (o : Order) → read_answer src room ≡ Ok o → Ordered o
  ordered o e = record {
    taken = taken;
    few = rw (is-t, is-s) means.allowed;
    is-t = is-t;
    is-s = is-s;
    is_number = ap said.number (sym same);
    is-consumed = ap said.consumed (sym same);
    schedule = rw (is-t, is-s) means.schedule;
    in-room = ap₂ (λ (i j : ℕ). take (i + j) (read_left src room)) is-t is-s ∙ ap (take (ups src + downs src)) there
        ∙ take_at beats (drop (ups src + downs src) room) (ups src + downs src) means.schedule.size;
  }
    where
      taken : verdict_on src ≡ Ok tt
      taken = verdict-of e

      same : told (ups src) (downs src) number (long src) (Ok tt) ≡ Ok o
      same = ap (told (ups src) (downs src) number (long src)) (sym taken) ∙ sym answer-is ∙ e

      is-t : o.t ≡ ups src
      is-t = ap said.t (sym same)

      is-s : o.s ≡ downs src
      is-s = ap said.s (sym same)

      means : Means src (layout_in src)
      means = read-means src most_beats taken

      there : read_left src room ≡ beats ++ drop (ups src + downs src) room
      there = left_is ∙ ap (λ (v : Verdict). left_by (layout_in src) src v room) taken

  pub turned_down : (why : Refusal) (m : ℕ) → read_answer src room ≡ unread why m
      → (verdict_on src ≡ Err why) × (m ≡ eaten why (long src))
  turned_down why m e =
      let refused = verdict-of e in (
        refused,
        ap said.consumed (sym (ap (told (ups src) (downs src) number (long src)) (sym refused) ∙ sym answer-is ∙ e)),
      )

pub six-there : (src : List ℕ) {why : Refusal} → verdict_on src ≡ Err why → refusal_number why ≡ 6
    → (4 ≤ length src) × (refusal_surplus why +ℤ pos (ups src) ≡ pos (ones_in src))
six-there src {why} e six =
    let given : refusal (judge (read_rows most_beats src)) ≡ 6 = ap refusal e ∙ six in
    let facts = six-facts most_beats src given in (
      omega (arith, whole_long src facts.0, facts.1),
      ap (λ (v : Verdict). surplus v +ℤ pos (ups src)) (sym e) ∙ (six-off most_beats src given).sum,
    )

module _ (which : Which) (src out : List ℕ) where
  -- a line that was written at the front is printed
  as-printed : {consumed bytes : ℕ} {last : Bool} {after : List ℕ} → consumed ≡ passed src → last ≡ ends src
      → Written 0 (line_of which src) out after bytes
      → Prints (line_of which) src out (record { consumed = consumed; bytes = bytes; last = last }) after
  as-printed ec el w = record {
    record-size = ec;
    line-size = w.end ∙ zero-add (length (line_of which src));
    ending = el;
    written = w.text ∙ ap (λ (j : ℕ). line_of which src ++ drop j out) (zero-add (length (line_of which src)));
  }

  pub list-accepted : (room : List ℕ) (h : length room ≡ most_beats) (o : Order) → Ordered src room h o
      → (u : List ℕ) → u ≡ meant (layout_in src) (ups src) (downs src) (body src)
      → {bytes : ℕ} {after : List ℕ} → Written 0 (accepted_text which o.t o.s o.number u) out after bytes
      → Prints (line_of which) src out (record { consumed = o.consumed; bytes = bytes; last = false }) after
  list-accepted room h o f u e {bytes} {after} w =
      as-printed (f.is-consumed ∙ ap (passing src) (sym f.taken)) (ap ending (sym f.taken))
      (subst (λ (l : List ℕ). Written 0 l out after bytes)
      (rw (f.is-t, f.is-s, f.is_number, e) (ap (text which src) (sym f.taken))) w)

  pub list-refused : (why : Refusal) → verdict_on src ≡ Err why
      → {consumed number bytes : ℕ} {after : List ℕ}
      → consumed ≡ eaten why (long src) → number ≡ refusal_number why
      → Written 0 (refused_in which src why) out after bytes
      → Prints (line_of which) src out (record { consumed = consumed; bytes = bytes; last = eqb number 9 }) after
  list-refused why e {bytes = bytes} {after} ec en w =
      as-printed (ec ∙ ap (passing src) (sym e)) (ap (λ (j : ℕ). eqb j 9) en ∙ ap ending (sym e))
      (subst (λ (l : List ℕ). Written 0 l out after bytes) (ap (text which src) (sym e)) w)
