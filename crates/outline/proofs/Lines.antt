-- The lines of an outline, and texts of lines.
--     length-lines                   an outline has as many lines as headings
--     Without, without-append        a byte that a list has not; two lists one after the other have not
--     decimal-without                no decimal has a byte below the digits
--     Each, each_append, each_at     what each of some lines has
--     under-clean, lines-clean       no line has a line feed
--     text-append, text-join         the text of lines and of those after them, and with what follows
--     line-cut                       where a line ends is known
--     same_line, same_text           so texts that begin alike have the same lines
--     text-one                       and a text has no second lines
-- Assumes nothing.
use mathlib.Core.List.{List, [], ◌∷◌, ◌++◌, append_assoc}
use mathlib.Core.Path.{◌≡◌, refl, sym, ◌∙◌, ap}
use Prim.Native.Nat.{ℕ, zero, suc, ◌<◌}
use native.Mathlib.Omega.{arith}
use lib.ListN.{length, get_or, length-append}
use Rattle.text.specs.Decimal.{decimal}
use Rattle.text.proofs.Theorems.{decimal-spells}
use Rattle.outline.specs.Outline.{Outline, headings, below}
use Rattle.outline.specs.Text.{stem, under, lines, lines_of, text}
use Rattle.outline.proofs.Induction.{by-headings}

pub length-lines : (o : Outline) (p : List ℕ) (k : ℕ) → length (lines o p k) ≡ headings o
unfolding lines lines_of headings below
length-lines =
    by-headings (λ o. (p : List ℕ) (k : ℕ) → length (lines o p k) ≡ headings o)
    (λ p k. refl)
    (λ o r inner rest p k.
    omega (arith, length-append (lines o (under p k) 1) (lines r p (suc k)), inner (under p k) 1, rest p (suc k)))

abbrev pub Without : ℕ → List ℕ → Type 0
Without c [] = Unit {0}
Without c (x ∷ l) = (x ≡ c → ⊥) × Without c l

pub without-append : (c : ℕ) (l m : List ℕ) → Without c l → Without c m → Without c (l ++ m)
without-append c [] m q u = u
without-append c (x ∷ l) m q u = (q.0, without-append c l m q.1 u)

above-without : (c : ℕ) (l : List ℕ) → ((k : ℕ) → k < length l → c < get_or l k 0) → Without c l
above-without c [] q = tt
above-without c (x ∷ l) q =
    (λ e. omega (arith, q 0 (omega arith)), above-without c l (λ k h. q (suc k) (omega arith)))

-- digits are above 47
pub decimal-without : (c k : ℕ) → c < 48 → Without c (decimal k)
decimal-without c k h =
    above-without c (decimal k) (λ i l. let d = (decimal-spells k).digits i l in omega (arith, d.0))

abbrev pub Each : (List ℕ → Type 0) → List (List ℕ) → Type 0
Each P [] = Unit {0}
Each P (l ∷ ls) = P l × Each P ls

pub each_append : (P : List ℕ → Type 0) (a b : List (List ℕ)) → Each P a → Each P b → Each P (a ++ b)
each_append P [] b q u = u
each_append P (l ∷ a) b q u = (q.0, each_append P a b q.1 u)

pub each_at : (P : List ℕ → Type 0) (a : List (List ℕ)) (i : ℕ) → i < length a → Each P a → P (get_or a i [])
each_at P [] i h q = absurd (omega arith)
each_at P (l ∷ a) zero h q = q.0
each_at P (l ∷ a) (suc i) h q = each_at P a i (omega arith) q.1

stem-clean : (p : List ℕ) → Without 10 p → Without 10 (stem p)
unfolding stem
stem-clean [] q = tt
stem-clean (x ∷ p) q = without-append 10 (x ∷ p) (46 ∷ []) q ((λ e. omega arith), tt)

pub under-clean : (p : List ℕ) (k : ℕ) → Without 10 p → Without 10 (under p k)
under-clean p k q =
    without-append 10 (stem p) (decimal k) (stem-clean p q) (decimal-without 10 k (omega arith))

pub lines-clean : (o : Outline) (p : List ℕ) (k : ℕ) → Without 10 p → Each (Without 10) (lines o p k)
unfolding lines lines_of
lines-clean =
    by-headings (λ o. (p : List ℕ) (k : ℕ) → Without 10 p → Each (Without 10) (lines o p k))
    (λ p k q. tt)
    (λ o r inner rest p k q.
    let u = under-clean p k q in
    let inside = inner (under p k) 1 u in
    (u, each_append (Without 10) (lines o (under p k) 1) (lines r p (suc k)) inside (rest p (suc k) q)))

pub text-append : (a b : List (List ℕ)) → text (a ++ b) ≡ text a ++ text b
unfolding text
text-append [] b = refl
text-append (l ∷ a) b =
    ap (λ (x : List ℕ). l ++ 10 ∷ x) (text-append a b) ∙ sym (append_assoc l (10 ∷ text a) (text b))

pub text-join : (a b : List (List ℕ)) (y : List ℕ) → text (a ++ b) ++ y ≡ text a ++ (text b ++ y)
text-join a b y = ap (λ (x : List ℕ). x ++ y) (text-append a b) ∙ append_assoc (text a) (text b) y

pub line-cut : (l m u v : List ℕ) → Without 10 l → Without 10 m → l ++ 10 ∷ u ≡ m ++ 10 ∷ v → (l ≡ m) × (u ≡ v)
line-cut [] [] u v q w e = (refl, cc)
line-cut [] (y ∷ m) u v q w e = absurd (w.0 (cc))
line-cut (x ∷ l) [] u v q w e = absurd (q.0 (cc))
line-cut (x ∷ l) (y ∷ m) u v q w e =
    let rest : l ++ 10 ∷ u ≡ m ++ 10 ∷ v = cc in
    let i = line-cut l m u v q.1 w.1 rest in
    let same = i.0 in
    (cc, i.1)

-- two texts of lines without line feeds, and what follows them
first-line : (l m : List ℕ) (a b : List (List ℕ)) (u v : List ℕ) → Without 10 l → Without 10 m
    → text (l ∷ a) ++ u ≡ text (m ∷ b) ++ v → (l ≡ m) × (text a ++ u ≡ text b ++ v)
unfolding text
first-line l m a b u v q w e =
    line-cut l m (text a ++ u) (text b ++ v) q w
    (sym (append_assoc l (10 ∷ text a) u) ∙ e ∙ append_assoc m (10 ∷ text b) v)

pub same_line : (a b : List (List ℕ)) (u v : List ℕ) (i : ℕ) → Each (Without 10) a → Each (Without 10) b
    → text a ++ u ≡ text b ++ v → i < length a → i < length b → get_or a i [] ≡ get_or b i []
same_line [] b u v i q w e h k = absurd (omega arith)
same_line (l ∷ a) [] u v i q w e h k = absurd (omega arith)
same_line (l ∷ a) (m ∷ b) u v zero q w e h k = (first-line l m a b u v q.0 w.0 e).0
same_line (l ∷ a) (m ∷ b) u v (suc i) q w e h k =
    same_line a b u v i q.1 w.1 (first-line l m a b u v q.0 w.0 e).1 (omega arith) (omega arith)

pub same_text : (a b : List (List ℕ)) (u v : List ℕ) → Each (Without 10) a → Each (Without 10) b
    → text a ++ u ≡ text b ++ v → length a ≡ length b → (a ≡ b) × (u ≡ v)
unfolding text
same_text [] [] u v q w e h = (refl, e)
same_text [] (m ∷ b) u v q w e h = absurd (omega arith)
same_text (l ∷ a) [] u v q w e h = absurd (omega arith)
same_text (l ∷ a) (m ∷ b) u v q w e h =
    let f = first-line l m a b u v q.0 w.0 e in
    let i = same_text a b u v q.1 w.1 f.1 (omega arith) in
    let line = f.0 in
    let rest = i.0 in
    (cc, i.1)

pub text-one : (a b : List (List ℕ)) → Each (Without 10) a → Each (Without 10) b → text a ≡ text b → a ≡ b
unfolding text
text-one [] [] q w e = refl
text-one [] (m ∷ b) q w e = absurd (omega (arith, ap length e, length-append m (10 ∷ text b)))
text-one (l ∷ a) [] q w e = absurd (omega (arith, ap length e, length-append l (10 ∷ text a)))
text-one (l ∷ a) (m ∷ b) q w e =
    let f = line-cut l m (text a) (text b) q.0 w.0 e in
    let line = f.0 in
    let rest = text-one a b q.1 w.1 f.1 in
    cc
