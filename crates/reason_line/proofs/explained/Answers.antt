-- `reason_line::explained` meets its contract: each arm writes the line of its reason. Assumes nothing.
use mathlib.Core.List.{List}
use mathlib.Core.Path.{◌≡◌, sym, subst}
use Prim.Native.Nat.{ℕ}
use Rattle.reason.specs.declared.Reason.{Reason}
use Rattle.reason.specs.Explanation.{values_of}
use Rattle.text.specs.Written.{Written}
use Rattle.reason_line.specs.Line.{explained_line}
use Rattle.reason_line.proofs.Writing.{one-form-line, last_line, next-line, found-line}
use Rattle.reason_line.proofs.explained.Goals as goal

-- the line of a reason is that of the case in which it is known
said : {reason known : Reason} {before after : List ℕ} {r : ℕ} → reason ≡ known
    → Written 0 (explained_line (values_of known)) before after r
    → Written 0 (explained_line (values_of reason)) before after r
said {before = before} {after} {r} e w =
    subst (λ (q : Reason). Written 0 (explained_line (values_of q)) before after r) (sym e) w

pub returns-in-OneForm : goal.returns-in-OneForm
returns-in-OneForm c =
    said c.in-OneForm.is
    (one-form-line (record { text = c.copy.ensures.text; end = c.copy.ensures.size }))

pub returns-in-LastMoves : goal.returns-in-LastMoves
returns-in-LastMoves c =
    said c.in-LastMoves.is
    (last_line _ c.in-LastMoves.places
    (record { text = c.copy-past_found.ensures.text; end = c.copy-past_found.ensures.size })
    c.field-past_moved.ensures.written
    c.changed_text.ensures)

pub returns-in-NextMoves : goal.returns-in-NextMoves
returns-in-NextMoves c =
    said c.in-NextMoves.is
    (next-line _ _ c.in-NextMoves.places
    (record { text = c.copy-past_case.ensures.text; end = c.copy-past_case.ensures.size }) c.found_text.ensures)

pub returns-in-FoundMoves : goal.returns-in-FoundMoves
returns-in-FoundMoves c =
    said c.in-FoundMoves.is
    (found-line _ c.in-FoundMoves.places
    (record { text = c.copy-past_case-in-FoundMoves.ensures.text; end = c.copy-past_case-in-FoundMoves.ensures.size })
    c.found_text-in-FoundMoves.ensures)
