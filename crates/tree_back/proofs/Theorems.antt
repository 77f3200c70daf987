-- What the way back is, and that the two ways undo each other, the manual, "Tree table", once over n.
--     one-schedule              three tables have at most one schedule
--     untreed-one               no second answer and no second content of what is lent fits the contract [P11]
--     back-accepts              the way back accepts tables of the right sizes if some schedule has them,
--                               and writes that one [T3]
--     there_and_back, back-and-there     the two ways undo each other on what they accept [T2]
-- Assumes nothing.
use mathlib.Core.List.{List}
use mathlib.Core.Path.{◌≡◌, refl, sym, ◌∙◌, ap}
use Prim.Native.Nat.{ℕ, ◌+◌}
use lib.ListN.{length}
use Rattle.std.proofs.Common.{Ok}
use Rattle.refusal.specs.Answer.{Verdict}
use Rattle.refusal.proofs.Rows.{both}
use Rattle.tree.specs.Tree.{word}
use Rattle.tree.specs.Table.{Has, Treed, filled}
use Rattle.tree.proofs.Word.{front-unique}
use Rattle.tree.proofs.Forest.{length-lefts, length-rights, length-parents}
use Rattle.tree.proofs.Sizes.{sizes-right, fitting-sizes}
use Rattle.tree.proofs.Theorems.{has-closed, treed-one, Sized, tree-accepts, accepts-tree}
use Rattle.tree_back.specs.Back.{Untreed, found, none, unfit}
use Rattle.tree_back.proofs.Slots.{reads-one}
use Rattle.tree_back.proofs.Tracing.{has-read}

pub one-schedule : {n : ℕ} {b c l r p : List ℕ} → Has n b l r p → Has n c l r p → b ≡ c
one-schedule {b = b} {c = c} q u =
    front-unique b c (q.beats ∙ ap word (reads-one (has-read q) (has-read u)) ∙ sym u.beats)

pub untreed-one : {n : ℕ} {l r p b : List ℕ} {v w : Verdict} {c d : List ℕ}
    → Untreed n l r p b v c → Untreed n l r p b w d → (v ≡ w) × (c ≡ d)
untreed-one (found e q) (found f u) = (refl, one-schedule q u)
untreed-one (found e q) (none f g) = absurd (g _ q)
untreed-one (found e q) (unfit f) = both e f
untreed-one (none e g) (found f u) = absurd (g _ u)
untreed-one (none e g) (none f h) = (refl, refl)
untreed-one (none e g) (unfit f) = both e f
untreed-one (unfit e) (found f u) = both f e
untreed-one (unfit e) (none f h) = both f e
untreed-one (unfit e) (unfit f) = (sym e ∙ f, refl)

-- the lengths of tables and of a schedule that has them
has-lengths : {n : ℕ} {b l r p : List ℕ} → Has n b l r p
    → (length b ≡ n + n) × (length l ≡ n) × (length r ≡ n) × (length p ≡ n)
has-lengths q = (
  (has-closed q).size,
  ap length q.left ∙ length-lefts 1 q.tree ∙ q.nodes,
  ap length q.right ∙ length-rights 1 q.tree ∙ q.nodes,
  ap length q.parent ∙ length-parents 0 1 q.tree ∙ q.nodes,
)

module _ (n : ℕ) (b l r p : List ℕ) where
  pub back-accepts : Sized n b l r p → {c d : List ℕ} {v : Verdict} → Has n c l r p → Untreed n l r p b v d
      → (v ≡ Ok tt) × (d ≡ c)
  back-accepts s q u = untreed-one u (found (fitting-sizes n (length b) (length l) (length r) (length p) s) q)

-- the way back from the tables that the way there filled
pub there_and_back : {n : ℕ} {b l r p x y z out c : List ℕ} {v : Verdict}
    → Treed n b l r p (Ok tt) x y z → length out ≡ n + n → Untreed n x y z out v c
    → (v ≡ Ok tt) × (c ≡ b)
there_and_back {n} {b} {l} {r} {p} {x} {y} {z} {out} (filled e q) h u =
    let s = has-lengths q in
    back-accepts n out x y z ((tree-accepts n b l r p e).0.0, h, s.1, s.2, s.3) q u

-- the way there from the schedule that the way back wrote
pub back-and-there : {n : ℕ} {l r p out b x y z x' y' z' : List ℕ} {v : Verdict}
    → Untreed n l r p out (Ok tt) b → length x ≡ n → length y ≡ n → length z ≡ n → Treed n b x y z v x' y' z'
    → (v ≡ Ok tt) × (x' ≡ l) × (y' ≡ r) × (z' ≡ p)
back-and-there {n} {l} {r} {p} {out} {b} {x} {y} {z} (found e q) hx hy hz u =
    let few = (sizes-right n (length out) (length l) (length r) (length p) e).0 in
    treed-one u (filled (accepts-tree n b x y z (few, (has-lengths q).0, hx, hy, hz) (has-closed q)) q)
