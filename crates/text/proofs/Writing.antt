-- Pieces of text are written one after the other, on plain values.
--     written-put                   one byte is written
--     written_then                  a piece and then the piece after it are the two together
--     Spelling                      the decimal of n is to stand from at to end; all digits but
--                                   those of rest are written
--     spelling-none, spelling-more, spelling-all     no digit is written; one more; the first
--                                                    one, which is written last
--     spelling-some                 before a digit that is not the first stands another
-- Assumes nothing.
use mathlib.Core.List.{List, [], ◌∷◌, ◌++◌, append_assoc, append-nil}
use mathlib.Core.Path.{◌≡◌, refl, ◌∙◌, ap, ap₂, sym, subst, subst₂}
use Prim.Native.Nat.{ℕ, suc, ◌+◌, ◌-◌, ◌/◌, ◌%◌, ◌≤◌, ◌<◌}
use native.Mathlib.Numerals.{add-one}
use native.Mathlib.Omega.{arith}
use lib.ListN.{length, take, drop, set, get_or, length-append}
use lib.Seq.{length-take-le, take_at, take-suc, drop_at, drop-drop, set_at, set_split, append_snoc}
use lib.Seq.{paste-zero}
use Rattle.text.specs.Decimal.{decimal}
use Rattle.text.specs.Written.{Written}
use Rattle.text.proofs.Digits.{decimal-one, decimal-more, length_more, digits-some}

pub written-put : (byte at : ℕ) (xs : List ℕ) → at < length xs → Written at (byte ∷ []) xs (set xs at byte) (at + 1)
written-put byte at xs h = record { text = rw (add-one, append_snoc) (set_split xs at byte h); end = refl }

-- what a written piece leaves, cut after the piece
module _ {at r : ℕ} {p xs ys : List ℕ} (h : at ≤ length xs) (w : Written at p xs ys r) where
  head-length : length (take at xs ++ p) ≡ at + length p
  head-length = length-append (take at xs) p ∙ ap (λ (k : ℕ). k + length p) (length-take-le at xs h)

  head : take (at + length p) ys ≡ take at xs ++ p
  head = ap (take (at + length p)) w.text ∙ take_at (take at xs ++ p) _ (at + length p) head-length

  tail : drop (at + length p) ys ≡ drop (at + length p) xs
  tail = ap (drop (at + length p)) w.text ∙ drop_at (take at xs ++ p) _ (at + length p) head-length

pub written_then : {at mid r : ℕ} {p q xs ys zs : List ℕ}
    → at ≤ length xs → Written at p xs ys mid → Written mid q ys zs r → Written at (p ++ q) xs zs r
written_then {at} {mid} {r} {p} {q} {xs} {ys} {zs} h w v =
    let seam = at + length p in
    let m : at + length (p ++ q) ≡ seam + length q = omega (arith, length-append p q) in
    let front : take mid ys ++ q ≡ take at xs ++ (p ++ q) = rw (w.end, head h w) (append_assoc (take at xs) p q) in
    let dropped = sym (drop-drop (length q) seam ys) ∙ ap (drop (length q)) (tail h w) ∙ drop-drop (length q) seam xs in
    let behind : drop (mid + length q) ys ≡ drop (at + length (p ++ q)) xs = rw (w.end, m) dropped in
    record { text = v.text ∙ ap₂ ◌++◌ front behind; end = omega (arith, w.end, v.end) }

-- a digit is written before those that are
module _ (d i : ℕ) {r : ℕ} {p xs ys : List ℕ} (h : suc i ≤ length xs) (w : Written (suc i) p xs ys r) where
  cut : ys ≡ take i xs ++ get_or xs i 0 ∷ (p ++ drop (suc i + length p) xs)
  cut =
      let far = drop (suc i + length p) xs in
      w.text ∙ append_assoc (take (suc i) xs) p far ∙ ap (λ (l : List ℕ). l ++ (p ++ far)) (take-suc xs i 0 h)
      ∙ append_snoc (take i xs) (get_or xs i 0) (p ++ far)

  put-before : Written i (d ∷ p) xs (set ys i d) r
  put-before =
      let far = drop (suc i + length p) xs in
      let e : suc i + length p ≡ i + length (d ∷ p) = omega arith in
      record {
        text =
            ap (λ (l : List ℕ). set l i d) cut
            ∙ set_at (take i xs) (get_or xs i 0) (p ++ far) d i (length-take-le i xs (omega arith))
            ∙ sym (append_assoc (take i xs) (d ∷ p) far)
            ∙ ap (λ (k : ℕ). take i xs ++ d ∷ p ++ drop k xs) e;
        end = w.end ∙ e;
      }

pub record Spelling (n at : ℕ) (xs : List ℕ) (end : ℕ) (ys : List ℕ) (last rest : ℕ) : Type 0 where
  pub done : List ℕ
  pub whole : decimal n ≡ decimal rest ++ done
  pub place : suc last ≡ at + length (decimal rest)
  pub within : suc last ≤ length xs
  pub written : Written (suc last) done xs ys end

pub spelling-none : (n at : ℕ) (xs : List ℕ) (end : ℕ)
    → end ≡ at + length (decimal n) → end ≤ length xs → Spelling n at xs end xs (end - 1) n
spelling-none n at xs end e h =
    let some = digits-some n in
    record {
      done = [];
      whole = sym (append-nil (decimal n));
      place = omega arith;
      within = omega arith;
      written = record { text = paste-zero xs (suc (end - 1)) []; end = omega arith };
    }

module _ {n at : ℕ} {xs : List ℕ} {end : ℕ} {ys : List ℕ} {last rest : ℕ} (u : Spelling n at xs end ys last rest) where
  pub spelling-some : 10 ≤ rest → 1 ≤ last
  spelling-some h = omega (arith, u.place, length_more rest h, digits-some (rest / 10))

  pub spelling-more : 10 ≤ rest → Spelling n at xs end (set ys last (48 + rest % 10)) (last - 1) (rest / 10)
  spelling-more h =
      let d = 48 + rest % 10 in
      let e : last ≡ suc (last - 1) = omega (arith, spelling-some h) in
      record {
        done = d ∷ u.done;
        whole =
            u.whole
            ∙ ap (λ (l : List ℕ). l ++ u.done) (decimal-more rest h)
            ∙ append_snoc (decimal (rest / 10)) d u.done;
        place = omega (arith, e, u.place, length_more rest h);
        within = omega (arith, e, u.within);
        written =
            subst (λ (k : ℕ). Written k (d ∷ u.done) xs (set ys last d) end) e
            (put-before d last u.within u.written);
      }

  pub spelling-all : rest < 10 → Written at (decimal n) xs (set ys last (48 + rest)) end
  spelling-all h =
      let one = decimal-one rest h in
      let e : last ≡ at = omega (arith, u.place, ap length one) in
      let w = u.whole ∙ ap (λ (l : List ℕ). l ++ u.done) one in
      subst₂ (λ (k : ℕ) (l : List ℕ). Written k l xs (set ys last (48 + rest)) end) e (sym w)
      (put-before (48 + rest) last u.within u.written)
