-- Where a pass stops, and what an exchange may then count on.
--     lines-open       a pass stops at a record that waits for more only before the end of the input
--     lines-few        and then few bytes are left
--     ready            what an exchange is owed, from what the pass did
-- Assumes nothing.
use mathlib.Core.Bool.{Bool, false}
use mathlib.Core.List.{List}
use mathlib.Core.Path.{◌≡◌, ◌∙◌, ap}
use Prim.Native.Nat.{ℕ, ◌+◌, ◌-◌, ◌≤◌, ◌<◌}
use native.Mathlib.Omega.{arith}
use lib.ListN.{length, drop, length-append, length-drop}
use lib.Seq.{length-take-le}
use Rattle.record.specs.Record.{longest}
use Rattle.stream.specs.declared.Front.{Front}
use Rattle.stream.specs.declared.Pass.{Pass}
use Rattle.stream.specs.declared.Stream.{Stream}
use Rattle.stream.specs.Exchange.{window, Inside, Ready}
use Rattle.stream.specs.Pass.{Lines, rests, last, more, Passes}
use Rattle.stream.proofs.Fronts.{unsettled-few, is_open}

module _ {line : List ℕ → List ℕ} {widest : ℕ} where
  pub lines-open : {ended : Bool} {room : ℕ} {src text left : List ℕ} {front : Front}
      → Lines line widest ended room src text left front → front ≡ Front.Short → ended ≡ false
  lines-open {ended = ended} (rests {src = src} e i) f = (is_open ended src (e ∙ f)).0
  lines-open (last e i j) f = let z : ◌≡◌ {A = ℕ} 0 1 = cc in absurd (omega arith)
  lines-open (more e i j q) f = lines-open q f

  pub lines-few : {ended : Bool} {room : ℕ} {src text left : List ℕ} {front : Front}
      → Lines line widest ended room src text left front → front ≡ Front.Short → length left < 2 + longest
  lines-few {ended = ended} (rests {src = src} e i) f = unsettled-few src (is_open ended src (e ∙ f)).1
  lines-few (last e i j) f = let z : ◌≡◌ {A = ℕ} 0 1 = cc in absurd (omega arith)
  lines-few (more e i j q) f = lines-few q f

  pub ready : {input text after : List ℕ} {stream : Stream} {pass : Pass} → Inside input stream
      → 2 + longest ≤ length input
      → Passes line widest stream.ended (window input stream) text pass after → Ready input after stream pass
  ready {input} {text} {after} {stream} {pass} inside large p =
      let size : length (window input stream) ≡ stream.have - stream.at =
      length-take-le (stream.have - stream.at) (drop stream.at input)
      (omega (arith, inside.held, length-drop stream.at input)) in
      record {
        inside = inside;
        whole = omega (arith, p.within, size, inside.unread);
        lines = omega (arith, p.size, ap length p.written, length-append p.text (drop (length p.text) text));
        some = λ e.
            omega (arith, large, lines-few p.lines e, length-drop pass.consumed (window input stream), size);
      }
