-- Every call has an answer: the second half of demand 1's first sentence.
--     call-answered     that no verdict, number and content fit a call's contract is impossible [D1f]
-- Assumes nothing.
use mathlib.Core.List.{List, [], ◌∷◌}
use mathlib.Core.Path.{◌≡◌, refl}
use Prim.Native.Nat.{ℕ, zero, suc, ◌+◌, ◌≤◌}
use native.Mathlib.Decide.{dec_lt}
use native.Mathlib.Omega.{arith}
use lib.ListN.{length}
use Rattle.std.proofs.Common.{Ok, Err}
use Rattle.refusal.specs.declared.Refusal.TheVariants.{NoSuchTables, NoSuchOutline}
use Rattle.refusal.specs.Answer.{Verdict}
use Rattle.refusal.specs.Rows.{judge}
use Rattle.tree.specs.Table.{tree_rows, lent_rows, filled, kept}
use Rattle.tree.proofs.Theorems.{closed-has, tree-accepts}
use Rattle.tree_back.specs.Back.{found, none, unfit}
use Rattle.outline.specs.Outline.{Outline, headings, schedule}
use Rattle.outline.specs.Text.{text}
use Rattle.outline_back.specs.Back as outlined
use Rattle.outline_back.specs.Back.{Leads, Wrong, back_rows}
use Rattle.outline_back.proofs.Leading.{longer, longer-headings}
use Rattle.demands.specs.Calls.{
  Call,
  count,
  check,
  move,
  changed,
  explain,
  number,
  form,
  form-on-sheet,
  tree,
  schedule-of-tree,
  outline,
  schedule-of-outline,
  read,
  write,
  Gives,
}

-- that no line of a text is its first wrong one is impossible: of k lines down to none, k being the most that can lead
lead-none : (n : ℕ) (x : List ℕ) → ((k : ℕ) → Wrong n x k → ⊥) → (d k : ℕ) → n ≤ k + d → Leads n x k → ⊥
lead-none n x free zero k far q = free k (record { leads = q; most = λ j r. omega (arith, r.within) })
lead-none n x free (suc d) k far q =
    free k
    (record {
      leads = q;
      most = λ j r.
          elim (dec_lt k j) [
            | yes h ↦ absurd (lead-none n x free d j (omega arith) r)
            | no h ↦ omega arith
          ];
    })

some-wrong : (n : ℕ) (x : List ℕ) → ((k : ℕ) → Wrong n x k → ⊥) → ⊥
unfolding headings text
some-wrong n x free =
    lead-none n x free n 0 (omega arith)
    (record {
      outline = longer Outline.none n;
      size = omega (arith, longer-headings Outline.none n);
      within = omega arith;
      rest = x;
      begins = refl;
    })

pub call-answered : (c : Call) → ((v : Verdict) (m : List ℕ) (x : List (List ℕ)) → Gives c v m x → ⊥) → ⊥
call-answered (count t s) silent = silent _ _ _ ((refl, refl), refl)
call-answered (check t s b) silent = silent _ _ _ ((refl, refl), refl)
call-answered (move way t s b) silent = silent _ _ _ ((refl, refl), refl)
call-answered (changed way t s b) silent = silent _ _ _ ((refl, refl), refl)
call-answered (explain t s b) silent = silent _ _ _ ((refl, refl), refl)
call-answered (number t s b) silent = silent _ _ _ ((refl, refl), refl)
call-answered (form t s n out) silent = silent _ _ _ ((refl, refl), refl)
call-answered (form-on-sheet t s n sheet column) silent = silent _ _ _ ((refl, refl), refl)
call-answered (tree n b l r p) silent = by (judge (tree_rows n b l r p)) refl
  where
    by : (v : Verdict) → judge (tree_rows n b l r p) ≡ v → ⊥
    by (Ok unit) e =
        let tables = closed-has (tree-accepts n b l r p e).1 in
        silent (Ok tt) [] (b ∷ tables.0 ∷ tables.1 ∷ tables.2 ∷ [])
        (tables.0, tables.1, tables.2, filled e tables.3, refl, refl)
    by (Err why) e = silent (Err why) [] (b ∷ l ∷ r ∷ p ∷ []) (l, r, p, kept e, refl, refl)
call-answered (schedule-of-tree n l r p out) silent = by (judge (lent_rows n out l r p)) refl
  where
    by : (v : Verdict) → judge (lent_rows n out l r p) ≡ v → ⊥
    by (Ok unit) e =
        silent (Err NoSuchTables) [] (l ∷ r ∷ p ∷ out ∷ []) (
          out,
          none e (λ c has. silent (Ok tt) [] (l ∷ r ∷ p ∷ c ∷ []) (c, found e has, refl, refl)),
          refl,
          refl,
        )
    by (Err why) e = silent (Err why) [] (l ∷ r ∷ p ∷ out ∷ []) (out, unfit e, refl, refl)
call-answered (outline t s b text) silent = silent _ _ _ ((refl, refl), refl)
call-answered (schedule-of-outline n text out) silent = by (judge (back_rows n (length out))) refl
  where
    by : (v : Verdict) → judge (back_rows n (length out)) ≡ v → ⊥
    by (Ok unit) e =
        some-wrong n text (λ k wrong.
        silent (Err (NoSuchOutline k)) [] (text ∷ out ∷ []) (
          out,
          outlined.none e
              (λ o size q.
              silent (Ok tt) [] (text ∷ schedule o ∷ []) (schedule o, outlined.found o e size q, refl, refl))
              wrong,
          refl,
          refl,
        ))
    by (Err why) e =
        silent (Err why) [] (text ∷ out ∷ []) (out, outlined.unfit e, refl, refl)
call-answered (read src out) silent = silent _ _ _ ((refl, refl), refl)
call-answered (write kind t s b out) silent = silent _ _ _ ((refl, refl), refl)
