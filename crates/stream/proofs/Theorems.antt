-- What the list of an input is, beyond the contracts.
--     prints-one       no second answer and no second content of the lent bytes fits what a
--                      printed record promises [P12]
--     lines-one        a pass has one text, leaves one rest and stops at one thing
--     passes-one       no second answer and no second content of the lent text fits what a pass promises [P15]
--     pass-list        the lines of a pass and then the list of what it leaves are the list of what it was given,
--                      whatever follows: a pass loses nothing, says nothing twice and consumes whole records only [E16]
--     listing-list     however an input is cut into pieces, the texts of the passes one after the other are
--                      the list of the whole [E15]
--     turn-over, turn_on     turns that follow each other list an input so: the last one, and one with others after it
--                            [E15]
-- Assumes nothing.
use mathlib.Core.Bool.{Bool, true, false, true≢false, false≢true}
use mathlib.Core.List.{List, [], ◌∷◌, ◌++◌, append-nil, append_assoc}
use mathlib.Core.Path.{◌≡◌, refl, sym, ◌∙◌, ap, ap₂, subst}
use Prim.Native.Nat.{ℕ, ◌<◌}
use native.Mathlib.Omega.{arith}
use lib.ListN.{length, drop, length-append, length-drop}
use lib.Seq.{drop-append-le}
use Rattle.std.proofs.Common.{Some, None, Ok}
use Rattle.stream.specs.declared.Front.{Front}
use Rattle.stream.specs.declared.Pass.{Pass}
use Rattle.stream.specs.declared.Printed.{Printed}
use Rattle.stream.specs.declared.Stream.{Stream}
use Rattle.stream.specs.Stream.{passed, ending, ends, front_of, list_of, Own}
use Rattle.stream.specs.Exchange.{Onward, End}
use Rattle.stream.specs.Exchange as exchange
use Rattle.stream.specs.Pass.{
  Prints,
  Lines,
  rests,
  last,
  more,
  Passes,
  Turns,
  joined,
  Listing,
  done,
  again,
  came,
  end,
}
use Rattle.stream.proofs.Fronts.{settled-whole, is-over, is_some, is-settled}
use Rattle.stream.proofs.Alone.{verdict-alone, passed-alone}
use Rattle.stream.proofs.Stops.{lines-open}
use Rattle.stream.proofs.Lists.{list-none, list-last, list-more, passed-within}

pub prints-one : {line : List ℕ → List ℕ} {src out after after' : List ℕ} {printed printed' : Printed}
    → Prints line src out printed after → Prints line src out printed' after'
    → (printed.consumed ≡ printed'.consumed) × (printed.bytes ≡ printed'.bytes) × (printed.last ≡ printed'.last)
    × (after ≡ after')
prints-one p q = (
  p.record-size ∙ sym q.record-size,
  p.line-size ∙ sym q.line-size,
  p.ending ∙ sym q.ending,
  p.written ∙ sym q.written,
)

module _ {line : List ℕ → List ℕ} {widest : ℕ} where
  pub lines-one : {ended : Bool} {room : ℕ} {src text left text' left' : List ℕ} {front front' : Front}
      → Lines line widest ended room src text left front → Lines line widest ended room src text' left' front'
      → (text ≡ text') × (left ≡ left') × (front ≡ front')
  lines-one (rests e i) (rests f g) = (refl, refl, sym e ∙ f)
  lines-one (rests e i) (last f g h) = absurd (omega (arith, i (sym e ∙ f)))
  lines-one (rests e i) (more f g h q) = absurd (omega (arith, i (sym e ∙ f)))
  lines-one (last e i j) (rests f g) = absurd (omega (arith, g (sym f ∙ e)))
  lines-one (last e i j) (last f g h) = (refl, refl, refl)
  lines-one (last e i j) (more f g h q) = absurd (true≢false (sym j ∙ h))
  lines-one (more e i j p) (rests f g) = absurd (omega (arith, g (sym f ∙ e)))
  lines-one (more e i j p) (last f g h) = absurd (true≢false (sym h ∙ j))
  lines-one {src = src} (more e i j p) (more f g h q) =
      let same = lines-one p q in
      (ap (λ (l : List ℕ). line src ++ l) same.0, same.1, same.2)

  pub passes-one : {ended : Bool} {src out after after' : List ℕ} {pass pass' : Pass}
      → Passes line widest ended src out pass after
      → Passes line widest ended src out pass' after'
      → (pass.consumed ≡ pass'.consumed) × (pass.bytes ≡ pass'.bytes) × (pass.front ≡ pass'.front)
      × (after ≡ after')
  passes-one {src = src} {out} {pass = pass} {pass'} p q =
      let same = lines-one p.lines q.lines in (
        omega (
          arith,
          ap length same.1,
          length-drop pass.consumed src,
          length-drop pass'.consumed src,
          p.within,
          q.within,
        ),
        p.size ∙ ap length same.0 ∙ sym q.size,
        same.2,
        p.written ∙ ap (λ (l : List ℕ). l ++ drop (length l) out) same.0 ∙ sym q.written,
      )

over_none : (ended : Bool) (src rest : List ℕ) → front_of ended src ≡ Front.Over → (ended ≡ true → rest ≡ [])
    → src ++ rest ≡ []
over_none ended [] rest e h = h (is-over ended [] e).0
over_none ended (x ∷ src) rest e h = absurd (omega (arith, (is-over ended (x ∷ src) e).1))

module _ (line : List ℕ → List ℕ) (own : Own line) where
  -- a record at the front is listed the same whatever follows
  record Stays (src rest : List ℕ) : Type 0 where
    pub some : 0 < length (src ++ rest)
    pub same_ends : ends (src ++ rest) ≡ ends src
    pub same_line : line (src ++ rest) ≡ line src
    pub same_left : drop (passed (src ++ rest)) (src ++ rest) ≡ drop (passed src) src ++ rest

  stays : (ended : Bool) (src rest : List ℕ) → front_of ended src ≡ Front.Record → (ended ≡ true → rest ≡ [])
      → Stays src rest
  stays true src rest e h = subst (Stays src) (sym (h refl)) (record {
    some = rw append-nil (is_some src e);
    same_ends = ap ends (append-nil src);
    same_line = ap line (append-nil src);
    same_left = ap (λ (l : List ℕ). drop (passed l) l) (append-nil src) ∙ sym (append-nil (drop (passed src) src));
  })
  stays false src rest e h =
      let fixed = is-settled src e in
      record {
        some = omega (arith, (settled-whole src fixed).0, length-append src rest);
        same_ends = ap ending (verdict-alone src rest fixed);
        same_line = own src rest fixed;
        same_left =
            ap (λ (n : ℕ). drop n (src ++ rest)) (passed-alone src rest fixed)
            ∙ drop-append-le (passed src) src rest (passed-within src);
      }

  -- what is still to be listed after a pass: nothing where the list is over
  abbrev pub onwards : Front → List ℕ → List ℕ
  onwards Front.Record src = list_of line src
  onwards Front.Short src = list_of line src
  onwards Front.Over src = []

  pub pass-list : {widest : ℕ} {ended : Bool} {room : ℕ} {src text left : List ℕ} {front : Front}
      → Lines line widest ended room src text left front
      → (rest : List ℕ) → (ended ≡ true → rest ≡ []) → list_of line (src ++ rest) ≡ text ++ onwards front (left ++ rest)
  pass-list (rests {front = Front.Record} e i) rest h = refl
  pass-list (rests {front = Front.Short} e i) rest h = refl
  pass-list {ended = ended} (rests {src = src} {front = Front.Over} e i) rest h =
      ap (list_of line) (over_none ended src rest e h) ∙ list-none line
  pass-list {ended = ended} (last {src = src} e i j) rest h =
      let same = stays ended src rest e h in
      list-last line (src ++ rest) same.some (same.same_ends ∙ j) ∙ same.same_line ∙ sym (append-nil (line src))
  pass-list {ended = ended} (more {src = src} {text} {left} {front} e i j q) rest h =
      let same = stays ended src rest e h in
      list-more line (src ++ rest) same.some (same.same_ends ∙ j)
      ∙ ap₂ (λ (l m : List ℕ). l ++ list_of line m) same.same_line same.same_left
      ∙ ap (λ (l : List ℕ). line src ++ l) (pass-list q rest h)
      ∙ sym (append_assoc (line src) text (onwards front (left ++ rest)))

  listing-all : {widest room : ℕ} {ended : Bool} {src input : List ℕ} {texts : List (List ℕ)}
      → Listing line widest room ended src input texts
      → (ended ≡ true → input ≡ []) → joined texts ≡ list_of line (src ++ input)
  unfolding joined
  listing-all (done {input = input} q) h = sym (pass-list q input h)
  listing-all (again {input = input} {text} q r) h =
      ap (λ (l : List ℕ). text ++ l) (listing-all r h) ∙ sym (pass-list q input h)
  listing-all (came {text = text} {left} piece input q r) h =
      ap (λ (l : List ℕ). text ++ l)
      (listing-all r (λ f. absurd (false≢true f)) ∙ ap (list_of line) (append_assoc left piece input))
      ∙ sym (pass-list q (piece ++ input) (λ f. absurd (false≢true f)))
  listing-all (end {text = text} q r) h =
      ap (λ (l : List ℕ). text ++ l) (listing-all r (λ f. refl)) ∙ sym (pass-list q [] (λ f. refl))

  pub listing-list : {widest room : ℕ} {input : List ℕ} {texts : List (List ℕ)}
      → Listing line widest room false [] input texts
      → joined texts ≡ list_of line input
  listing-list q = listing-all q (λ f. absurd (false≢true f))

-- a listing of an input that has one more piece in front
pub record Longer (line : List ℕ → List ℕ) (widest room : ℕ) (ended : Bool) (src input : List ℕ)
    (texts : List (List ℕ)) : Type 0 where
  pub piece : List ℕ
  pub listing : Listing line widest room ended src (piece ++ input) texts

module _ {line : List ℕ → List ℕ} {widest room : ℕ} {src left : List ℕ} {at next : Stream} where
  pub turn-over : (t : Turns line widest room src at left next) → next.end ≡ Some (Ok tt)
      → (input : List ℕ)
      → Listing line widest room at.ended src input (t.text ∷ [])
  turn-over t e input = by t.onward t.lines e
    where
      by : {ended : Bool} {pass : Pass} {text left : List ℕ} {e : Bool} {end : End}
          → Onward src ended pass left e end
          → Lines line widest ended room src text (drop pass.consumed src) pass.front
          → end ≡ Some (Ok tt) → Listing line widest room ended src input (text ∷ [])
      by exchange.unwritten q g = let z : ◌≡◌ {A = ℕ} 0 1 = cc in absurd (omega arith)
      by {ended} {pass} {text} (exchange.over f) q g =
          done (subst (Lines line widest ended room src text (drop pass.consumed src)) f q)
      by (exchange.again f) q g = let z : ◌≡◌ {A = ℕ} 0 1 = cc in absurd (omega arith)
      by (exchange.fed f (exchange.came piece some)) q g = let z : ◌≡◌ {A = ℕ} 0 1 = cc in absurd (omega arith)
      by (exchange.fed f exchange.finished) q g = let z : ◌≡◌ {A = ℕ} 0 1 = cc in absurd (omega arith)
      by (exchange.fed f exchange.unread) q g = let z : ◌≡◌ {A = ℕ} 0 1 = cc in absurd (omega arith)

  pub turn_on : (t : Turns line widest room src at left next) → next.end ≡ None
      → {input : List ℕ} {texts : List (List ℕ)}
      → Listing line widest room next.ended left input texts → (next.ended ≡ true → input ≡ [])
      → Longer line widest room at.ended src input (t.text ∷ texts)
  turn_on t g r h = by t.onward t.lines g r h
    where
      by : {ended : Bool} {pass : Pass} {text left : List ℕ} {e : Bool} {end : End}
          → Onward src ended pass left e end
          → Lines line widest ended room src text (drop pass.consumed src) pass.front → end ≡ None
          → {input : List ℕ} {texts : List (List ℕ)} → Listing line widest room e left input texts
          → (e ≡ true → input ≡ [])
          → Longer line widest room ended src input (text ∷ texts)
      by exchange.unwritten q g r h = let z : ◌≡◌ {A = ℕ} 0 1 = cc in absurd (omega arith)
      by (exchange.over f) q g r h = let z : ◌≡◌ {A = ℕ} 0 1 = cc in absurd (omega arith)
      by {ended} {pass} {text} (exchange.again f) q g r h =
          record {
            piece = [];
            listing = again (subst (Lines line widest ended room src text (drop pass.consumed src)) f q) r;
          }
      by {ended} {pass} {text} (exchange.fed f (exchange.came piece some)) q g {input} {texts} r h =
          let shut = lines-open q f in
          let here =
          subst (λ (b : Bool). Lines line widest b room src text (drop pass.consumed src) Front.Short) shut
          (subst (Lines line widest ended room src text (drop pass.consumed src)) f q) in
          record {
            piece = piece;
            listing =
                subst (λ (b : Bool). Listing line widest room b src (piece ++ input) (text ∷ texts)) (sym shut)
                (came piece input here r);
          }
      by {ended} {pass} {text} (exchange.fed f exchange.finished) q g {input} {texts} r h =
          let shut = lines-open q f in
          let here =
          subst (λ (b : Bool). Lines line widest b room src text (drop pass.consumed src) Front.Short) shut
          (subst (Lines line widest ended room src text (drop pass.consumed src)) f q) in
          let none = h refl in
          let whole =
          end here (subst (λ (l : List ℕ). Listing line widest room true (drop pass.consumed src) l texts) none r) in
          record {
            piece = [];
            listing =
                subst (λ (l : List ℕ). Listing line widest room ended src l (text ∷ texts)) (sym none)
                (subst (λ (b : Bool). Listing line widest room b src [] (text ∷ texts)) (sym shut) whole);
          }
      by (exchange.fed f exchange.unread) q g r h = let z : ◌≡◌ {A = ℕ} 0 1 = cc in absurd (omega arith)
