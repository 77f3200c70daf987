-- The window after an exchange.
--     drop-take        a part of a list from an index on
--     has_room         there is room to read into where the pass stopped at a record that waits for more
--     on-unwritten, on-over, on-again, on-fed     what an exchange leaves, by how it went
-- Assumes nothing.
use mathlib.Core.List.{List, [], ◌∷◌}
use mathlib.Core.Path.{◌≡◌, refl, sym, ◌∙◌, ap, subst}
use Prim.Native.Nat.{ℕ, zero, suc, ◌+◌, ◌-◌}
use native.Mathlib.Omega.{arith}
use lib.ListN.{take, drop}
use lib.Seq.{drop-drop}
use Rattle.stream.specs.declared.Failure.{Failure}
use Rattle.std.proofs.Common.{Some, None, Ok, Err}
use Rattle.stream.specs.declared.Front.{Front}
use Rattle.stream.specs.declared.Pass.{Pass}
use Rattle.stream.specs.declared.Stream.{Stream}
use Rattle.stream.specs.Exchange.{
  between,
  window,
  Room,
  Ready,
  Fed,
  Refilled,
  Onward,
  unwritten,
  over,
  again,
  fed,
  Exchanged,
  End,
}

pub drop-take : (k n : ℕ) (l : List ℕ) → drop k (take (k + n) l) ≡ take n (drop k l)
drop-take zero n l = let same : 0 + n ≡ n = omega arith in ap (λ (j : ℕ). take j l) same
drop-take (suc k) n [] =
    let more : suc k + n ≡ suc (k + n) = omega arith in
    ap (λ (j : ℕ). drop (suc k) (take {A = ℕ} j [])) more ∙ sym (nothing n)
  where
    nothing : (j : ℕ) → take {A = ℕ} j [] ≡ []
    nothing zero = refl
    nothing (suc j) = refl
drop-take (suc k) n (x ∷ l) =
    let more : suc k + n ≡ suc (k + n) = omega arith in
    ap (λ (j : ℕ). drop (suc k) (take j (x ∷ l))) more ∙ drop-take k n l

module _ (input text : List ℕ) (stream : Stream) (pass : Pass) (ready : Ready input text stream pass) where
  abbrev at : ℕ
  at = stream.at + pass.consumed

  passed_over : drop pass.consumed (window input stream) ≡ between input at stream.have
  passed_over =
      let parted : stream.have - stream.at ≡ pass.consumed + (stream.have - at) = omega (arith, ready.whole) in
      ap (λ (j : ℕ). drop pass.consumed (take j (drop stream.at input))) parted
      ∙ drop-take pass.consumed (stream.have - at) (drop stream.at input)
      ∙ ap (take (stream.have - at)) (drop-drop pass.consumed stream.at input)

  -- the unread bytes stay where they are
  kept : {end : End}
      → Onward (window input stream) stream.ended pass (drop pass.consumed (window input stream)) stream.ended end
      → Exchanged input stream pass input
      (record { at = at; have = stream.have; ended = stream.ended; end = end })
  kept {end} onward = record {
    inside = record { unread = ready.whole; held = ready.inside.held };
    onward =
        subst (λ (l : List ℕ). Onward (window input stream) stream.ended pass l stream.ended end)
        passed_over onward;
  }

  pub on-unwritten : Exchanged input stream pass input
      (record { at = at; have = stream.have; ended = stream.ended; end = Some (Err Failure.Unwritten) })
  on-unwritten = kept unwritten

  pub on-over : pass.front ≡ Front.Over
      → Exchanged input stream pass input
      (record { at = at; have = stream.have; ended = stream.ended; end = Some (Ok tt) })
  on-over e = kept (over e)

  pub on-again : pass.front ≡ Front.Record
      → Exchanged input stream pass input
      (record { at = at; have = stream.have; ended = stream.ended; end = None })
  on-again e = kept (again e)

  pub on-fed : pass.front ≡ Front.Short → {after : List ℕ} {next : Stream}
      → Refilled input at stream.have after next → Exchanged input stream pass after next
  on-fed e {after} {next} filled = record {
    inside = filled.inside;
    onward =
        fed e
        (subst (λ (l : List ℕ). Fed l (window after next) next.ended next.end) (sym passed_over)
        filled.fed);
  }

  pub has_room : pass.front ≡ Front.Short → Room input at stream.have
  has_room e = record { unread = ready.whole; held = ready.inside.held; some = ready.some e }
