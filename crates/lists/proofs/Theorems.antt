-- What the programs print of an input, beyond the contracts.
--     line-own         the lines of a record depend on no byte after it, in any list
--     pieces-list      however an input is cut into pieces, the texts of the passes one after the other
--                      are its packing list, and [E15]
--     pieces-explained     its list of explanations, and [X10]
--     pieces-outlined      its list of outlines [I6]
-- Assumes nothing.
use mathlib.Core.Bool.{false}
use mathlib.Core.List.{List, [], ◌++◌}
use mathlib.Core.Path.{◌≡◌, refl, sym, ◌∙◌, ap}
use Prim.Native.Nat.{ℕ}
use native.Mathlib.Decide.{ℕ_discrete}
use borrow.Author.Tests.{ne_eqb}
use Rattle.std.proofs.Common.{Ok, Err}
use Rattle.refusal.specs.declared.Refusal.{Refusal}
use Rattle.refusal.specs.Answer.{Verdict, refusal}
use Rattle.refusal.specs.Refusal.{refusal_number}
use Rattle.triangle.specs.Count.{most_beats}
use Rattle.reader.proofs.Sixes.{six-facts}
use Rattle.stream.specs.Stream.{verdict_on, Own}
use Rattle.stream.specs.Pass.{joined, Listing}
use Rattle.stream.proofs.Alone.{verdict-alone, parts-alone, accepted-alone}
use Rattle.stream.proofs.Theorems.{listing-list}
use Rattle.lists.specs.declared.Which.{Which}
use Rattle.lists.specs.Listed.{refused_in, text, line_of, widest, packing_list, explanations, outlines}

-- the line of a refused record
refused-own : (which : Which) (src more : List ℕ) (why : Refusal) → verdict_on src ≡ Err why
    → refused_in which (src ++ more) why ≡ refused_in which src why
refused-own Which.Packing src more why r = refl
refused-own Which.Outlining src more why r = refl
refused-own Which.Explaining src more why r = elim (ℕ_discrete (refusal_number why) 6) [
  | yes six ↦
      let facts = six-facts most_beats src (ap refusal r ∙ six) in
      let same = parts-alone src more facts.0 facts.1 facts.2 in
      rw (same.1, same.2, same.3) refl
  | no other ↦ simp (ne_eqb (refusal_number why) 6 other)
]

pub line-own : (which : Which) → Own (line_of which)
line-own which src more e = ap (text which (src ++ more)) (verdict-alone src more e) ∙ by (verdict_on src) refl
  where
    by : (v : Verdict) → verdict_on src ≡ v
        → text which (src ++ more) (verdict_on src) ≡ text which src (verdict_on src)
    by (Ok unit) r =
        let same = accepted-alone src more r in
        ap (text which (src ++ more)) r
        ∙ rw (same.1, same.2, same.3, same.0) (ap (text which src) (sym r))
    by (Err why) r =
        ap (text which (src ++ more)) r ∙ refused-own which src more why r ∙ ap (text which src) (sym r)

module _ {room : ℕ} {input : List ℕ} {texts : List (List ℕ)} where
  pub pieces-list : Listing (line_of Which.Packing) widest room false [] input texts → joined texts ≡ packing_list input
  pieces-list = listing-list (line_of Which.Packing) (line-own Which.Packing)

  pub pieces-explained : Listing (line_of Which.Explaining) widest room false [] input texts
      → joined texts ≡ explanations input
  pieces-explained = listing-list (line_of Which.Explaining) (line-own Which.Explaining)

  pub pieces-outlined : Listing (line_of Which.Outlining) widest room false [] input texts
      → joined texts ≡ outlines input
  pieces-outlined = listing-list (line_of Which.Outlining) (line-own Which.Outlining)
