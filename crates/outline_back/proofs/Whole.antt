-- What reading a whole text finds, and what the way back makes of it, on plain values.
--     found-whole, found-broken     all lines and the whole text were read, or not
--     back_whole, back-broken       the text is an outline's, and its schedule is left; or it is none's, and what was
--                                   lent stays
--     back_some                     either way something may be left
-- Assumes nothing.
use mathlib.Core.List.{List, [], ◌++◌, append-nil}
use mathlib.Core.Path.{◌≡◌, sym, ◌∙◌, ap, subst}
use Prim.Native.Nat.{ℕ, ◌+◌, ◌-◌}
use native.Mathlib.Omega.{arith}
use lib.ListN.{length, drop, length-drop}
use lib.Seq.{drop-length}
use Rattle.std.proofs.Common.{Ok, Err}
use Rattle.refusal.specs.declared.Refusal.{Refusal}
use Rattle.refusal.specs.declared.Refusal.TheVariants.{NoSuchOutline}
use Rattle.refusal.specs.Answer.{Verdict}
use Rattle.refusal.specs.Rows.{judge}
use Rattle.outline.specs.Outline.{schedule}
use Rattle.outline_back.specs.declared.Reached.{Reached}
use Rattle.outline_back.specs.Back.{back_rows, Back, found, none}
use Rattle.outline_back.specs.Reading.{Reads, ListRead, Found, whole, broken}
use Rattle.outline_back.proofs.Headings.{reads-beats}
use Rattle.outline_back.proofs.Complete.{reads_whole, reads-broken}

module _ {n : ℕ} {x room after : List ℕ} {r : Reached} (l : ListRead x 0 0 0 n 0 room after r) where
  pub found-whole : length room ≡ n + n → r.left ≡ 0 → r.byte ≡ length x → Found n x after (Ok tt)
  found-whole size none_left e =
      let ends : drop r.byte x ≡ [] = ap (λ (k : ℕ). drop k x) e ∙ drop-length x in
      let reads : Reads [] 1 n x l.list [] 0 = rw (ends, none_left) at l.reads in
      let all = reads_whole reads in
      let played = schedule l.list in
      let full : 0 + length played ≡ length room = omega (arith, reads-beats reads) in
      let rest : drop (0 + length played) room ≡ [] = ap (λ (k : ℕ). drop k room) full ∙ drop-length room in
      whole l.list all.0 all.1
      (l.written.text ∙ ap (λ (b : List ℕ). played ++ b) rest ∙ append-nil played)

  pub found-broken : ((r.left ≡ 0) × (r.byte ≡ length x) → ⊥)
      → Found n x after (Err (NoSuchOutline (n - r.left)))
  found-broken f =
      let ends : drop r.byte x ≡ [] → r.byte ≡ length x =
      λ e. omega (arith, length-drop r.byte x, ap length e, l.within) in
      let found = reads-broken l.reads (λ q. f (q.0, ends q.1)) in
      broken found.0 found.1

pub back_whole : {n : ℕ} {x room : List ℕ} {v : Verdict} (out b : List ℕ)
    → judge (back_rows n (length out)) ≡ Ok tt → Found n x room v → v ≡ Ok tt → b ≡ room
    → Back n x out (Ok tt) b
back_whole {n} {x} out b fit (whole o size e same) h f =
    subst (λ (a : List ℕ). Back n x out (Ok tt) a) (sym (f ∙ same)) (found o fit size e)
back_whole out b fit (broken f w) h e = let never : ◌≡◌ {A = ℕ} 0 1 = cc in absurd (omega arith)

pub back-broken : {n : ℕ} {x room : List ℕ} {v : Verdict} {why : Refusal} (out : List ℕ)
    → judge (back_rows n (length out)) ≡ Ok tt → Found n x room v → v ≡ Err why
    → Back n x out (Err why) out
back-broken out fit (whole o size e same) h = let never : ◌≡◌ {A = ℕ} 0 1 = cc in absurd (omega arith)
back-broken {n} {x} out fit (broken f w) h = subst (λ (v : Verdict). Back n x out v out) h (none fit f w)

pub back_some : {n : ℕ} {x room : List ℕ} {v : Verdict} (out : List ℕ)
    → judge (back_rows n (length out)) ≡ Ok tt → Found n x room v → (b : List ℕ) × Back n x out v b
back_some out fit (whole o size e same) = (schedule o, found o fit size e)
back_some out fit (broken f w) = (out, none fit f w)
