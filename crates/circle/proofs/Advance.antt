-- A step adds one to the rank, and from the last rank it goes to 0.
--     Advances b c       what a step from b to c keeps, and what it does to the rank
--     follow             what stands after the beats that move adds the same to the rank on both sides
--     moved-advances     each shape of a step advances
--     next-advances      so the next form does
-- Assumes nothing.
use mathlib.Core.Bool.{true, false≢true}
use mathlib.Core.List.{List, [], ◌∷◌, reverse_aux}
use mathlib.Core.Logic.{◌⊎◌, inl, inr}
use mathlib.Core.Path.{◌≡◌, refl, ◌∙◌, ap, sym, subst}
use Prim.Native.Nat.{ℕ, zero, suc, pred, ◌+◌, ◌-◌, ◌≤◌}
use native.Mathlib.Omega.{arith}
use Rattle.triangle.specs.Count.{N}
use Rattle.triangle.proofs.Count.{N-add, N-zero, N-pos, N-over}
use Rattle.schedule.specs.Schedule.{ones, zeros}
use Rattle.schedule.proofs.Hand.{plays}
use Rattle.circle.specs.Step.{next}
use Rattle.circle.proofs.Shape.{
  ups,
  downs,
  plays-shape,
  shape-plays,
  shape-ones,
  shape-zeros,
  turn-ups,
  turn-downs,
}
use Rattle.circle.proofs.Rank.{raise, rank, rank_of}
use Rattle.circle.proofs.Moves.{Moved, stays, turns, closes, lifts, levels, dips, next-moves}

pub record Advances (b c : List ℕ) : Type 0 where
  pub good : plays 0 c ≡ true
  pub same-ones : ones c ≡ ones b
  pub same-zeros : zeros c ≡ zeros b
  pub ranks : (rank_of c ≡ suc (rank_of b)) ⊎ ((rank_of c ≡ 0) × (suc (rank_of b) ≡ N (ones b) (zeros b)))

pub raise-some : (t s v : ℕ) → 1 ≤ v → raise t s v ≡ N t (pred s) + pred v
unfolding raise
raise-some t s zero h = absurd (omega arith)
raise-some t s (suc v) h = omega arith

-- the rank after one more 1, from the counts and the rank before it
module _ (r : List ℕ) (t s : ℕ) (o : ones r ≡ t) (z : zeros r ≡ s) where
  rank_up : (v : ℕ) → rank r ≡ v → 1 ≤ v → rank (1 ∷ r) ≡ N (suc t) (pred s) + pred v
  unfolding rank
  rank_up v n h = rw (o, z, n) (raise-some (suc t) s v h)

  rank-first : rank r ≡ 0 → rank (1 ∷ r) ≡ N (suc t) s - 1
  unfolding rank raise
  rank-first n = rw (o, z, n)

follow : (a : List ℕ) (h : ℕ) (r q : List ℕ) → h + zeros r ≡ ones r → ones q ≡ ones r → zeros q ≡ zeros r → 1 ≤ rank r
    → rank q ≡ suc (rank r)
    → plays h a ≡ true → rank (reverse_aux a q) ≡ suc (rank (reverse_aux a r))
unfolding plays rank ones zeros
follow [] h r q e o z i n k = n
follow (zero ∷ a) zero r q e o z i n k = absurd (false≢true k)
follow (zero ∷ a) (suc h) r q e o z i n k = follow a h (0 ∷ r) (0 ∷ q) (omega arith) o (ap suc z) i n k
follow (suc zero ∷ a) h r q e o z i n k =
    let u = raise-some (suc (ones r)) (zeros r) (rank r) i in
    let pos = N-pos (suc (ones r)) (pred (zeros r)) (omega arith) in
    follow a (suc h) (1 ∷ r) (1 ∷ q) (omega arith) (ap suc o) z (omega arith)
    (rw (o, z, n) (omega (arith, raise-some (suc (ones r)) (zeros r) (suc (rank r)) (omega arith)))) k
follow (suc (suc x) ∷ a) h r q e o z i n k = absurd (false≢true k)

-- ones, then zeros, last beat first; and the same after a 1 and a 0
abbrev pub flat : ℕ → ℕ → List ℕ
flat p q = downs q (ups p [])

abbrev dipped : ℕ → ℕ → List ℕ
dipped p q = downs q (ups p (0 ∷ 1 ∷ []))

module _ (p q : ℕ) (c : List ℕ) where
  pub rank-flat : rank_of (ups p (downs q c)) ≡ rank (reverse_aux c (flat p q))
  rank-flat = ap rank (turn-ups p (downs q c) [] ∙ turn-downs q c (ups p []))

  rank-dipped : rank_of (1 ∷ 0 ∷ ups p (downs q c)) ≡ rank (reverse_aux c (dipped p q))
  rank-dipped = ap rank (turn-ups p (downs q c) (0 ∷ 1 ∷ []) ∙ turn-downs q c (ups p (0 ∷ 1 ∷ [])))

rank-downs : (q : ℕ) (r : List ℕ) → rank (downs q r) ≡ rank r
unfolding rank
rank-downs zero r = refl
rank-downs (suc q) r = rank-downs q r

-- counts of the turned shapes
ones-back : (p q : ℕ) (r : List ℕ) → ones (downs q (ups p r)) ≡ p + ones r
unfolding ones
ones-back p zero r = shape-ones p 0 r
ones-back p (suc q) r = ones-back p q r

zeros-back : (p q : ℕ) (r : List ℕ) → zeros (downs q (ups p r)) ≡ q + zeros r
unfolding zeros
zeros-back p zero r = omega (arith, shape-zeros p 0 r)
zeros-back p (suc q) r = omega (arith, zeros-back p q r)

rank-ups : (p : ℕ) → rank (ups p []) ≡ 0
unfolding rank raise zeros
rank-ups zero = refl
rank-ups (suc p) = rw (rank-ups p, shape-zeros p 0 []) (omega (arith, N-zero (suc (ones (ups p [])))))

module _ (p q : ℕ) where
  pub flat-ones : ones (flat p q) ≡ p
  unfolding ones
  flat-ones = omega (arith, ones-back p q [])

  pub flat-zeros : zeros (flat p q) ≡ q
  unfolding zeros
  flat-zeros = omega (arith, zeros-back p q [])

  pub flat-rank : rank (flat p q) ≡ 0
  flat-rank = rank-downs q (ups p []) ∙ rank-ups p

  dipped-ones : ones (dipped p q) ≡ suc p
  unfolding ones
  dipped-ones = omega (arith, ones-back p q (0 ∷ 1 ∷ []))

  dipped-zeros : zeros (dipped p q) ≡ suc q
  unfolding zeros
  dipped-zeros = omega (arith, zeros-back p q (0 ∷ 1 ∷ []))

  pub flat_up : rank (1 ∷ flat p q) ≡ N (suc p) q - 1
  flat_up = rank-first (flat p q) p q flat-ones flat-zeros flat-rank

dipped-ups : (p : ℕ) → rank (ups (suc p) (0 ∷ 1 ∷ [])) ≡ 1
unfolding rank raise N ones zeros
dipped-ups zero = refl
dipped-ups (suc p) = rw (dipped-ups p, shape-zeros p 0 (0 ∷ 1 ∷ []))

dipped-rank : (p q : ℕ) → rank (dipped (suc p) q) ≡ 1
dipped-rank p q = rank-downs q (ups (suc p) (0 ∷ 1 ∷ [])) ∙ dipped-ups p

pub two-forms : (p q : ℕ) → suc q ≤ p → 2 ≤ N (suc p) (suc q)
two-forms p q h = omega (arith, N-add p q (omega arith), N-pos p (suc q) h, N-pos (suc p) q (omega arith))

N-of : (b : List ℕ) (t s : ℕ) → ones b ≡ t → zeros b ≡ s → N (ones b) (zeros b) ≡ N t s
N-of b t s o z = cc

-- the six shapes
advance-stays : (p : ℕ) → plays 0 (ups p []) ≡ true → Advances (ups p []) (ups p [])
unfolding zeros
advance-stays p o =
    let n = rank-flat p 0 [] ∙ flat-rank p 0 in
    record {
      good = o;
      same-ones = refl;
      same-zeros = refl;
      ranks = inr (
        n,
        ap suc n ∙ sym (N-of (ups p []) (ones (ups p [])) 0 refl (shape-zeros p 0 []) ∙ N-zero (ones (ups p []))),
      );
    }

advance-turns : (p q : ℕ) → plays 0 (ups (suc p) (downs (suc q) [])) ≡ true
    → Advances (ups (suc p) (downs (suc q) [])) (1 ∷ 0 ∷ ups p (downs q []))
unfolding plays ones zeros
advance-turns p q o =
    let r = plays-shape (suc p) (suc q) [] o in
    record {
      good = shape-plays p q r.0 [] (omega (arith, r.1));
      same-ones = omega (arith, shape-ones (suc p) (suc q) [], shape-ones p q []);
      same-zeros = omega (arith, shape-zeros (suc p) (suc q) [], shape-zeros p q []);
      ranks = by p q r.0 r.1;
    }
  where
    by : (p q h : ℕ) → suc p ≡ suc q + h
        → (rank_of (1 ∷ 0 ∷ ups p (downs q [])) ≡ suc (rank_of (ups (suc p) (downs (suc q) []))))
        ⊎ ((rank_of (1 ∷ 0 ∷ ups p (downs q [])) ≡ 0)
        × (suc (rank_of (ups (suc p) (downs (suc q) [])))
        ≡ N (ones (ups (suc p) (downs (suc q) []))) (zeros (ups (suc p) (downs (suc q) [])))))
    by (suc p) q h e =
        inl
        (rank-dipped (suc p) q []
        ∙ dipped-rank p q
        ∙ ap suc (sym (rank-flat (suc (suc p)) (suc q) [] ∙ flat-rank (suc (suc p)) (suc q))))
    by zero zero h e = unfold rank raise N in inr (refl, refl)
    by zero (suc q) h e = absurd (omega arith)

advance-closes : (p q : ℕ) → plays 0 (ups p (downs (suc q) (1 ∷ []))) ≡ true
    → Advances (ups p (downs (suc q) (1 ∷ []))) (ups (suc p) (downs (suc q) []))
unfolding plays ones zeros
advance-closes p q o =
    let r = plays-shape p (suc q) (1 ∷ []) o in
    record {
      good = shape-plays (suc p) (suc q) (suc r.0) [] (omega (arith, r.1));
      same-ones = omega (arith, shape-ones p (suc q) (1 ∷ []), shape-ones (suc p) (suc q) []);
      same-zeros = omega (arith, shape-zeros p (suc q) (1 ∷ []), shape-zeros (suc p) (suc q) []);
      ranks = inr (
        rank-flat (suc p) (suc q) [] ∙ flat-rank (suc p) (suc q),
        omega (
          arith,
          rank-flat p (suc q) (1 ∷ []),
          flat_up p (suc q),
          N-pos (suc p) (suc q) (omega (arith, r.1)),
          N-of (ups p (downs (suc q) (1 ∷ []))) (suc p) (suc q) (omega (arith, shape-ones p (suc q) (1 ∷ [])))
              (omega (arith, shape-zeros p (suc q) (1 ∷ []))),
        ),
      );
    }

advance-lifts : (p q : ℕ) (a : List ℕ) → plays 0 (ups p (downs (suc q) (1 ∷ 1 ∷ a))) ≡ true
    → Advances (ups p (downs (suc q) (1 ∷ 1 ∷ a))) (ups (suc p) (downs (suc q) (1 ∷ a)))
unfolding plays ones zeros rank
advance-lifts p q a o =
    let r = plays-shape p (suc q) (1 ∷ 1 ∷ a) o in
    let ahead : suc q ≤ p = omega (arith, r.1) in
    let o₁ = flat-ones p (suc q) in
    let z₁ = flat-zeros p (suc q) in
    let o₂ = flat-ones (suc p) (suc q) in
    let z₂ = flat-zeros (suc p) (suc q) in
    let n =
    rank_up (1 ∷ flat p (suc q)) (suc p) (suc q) (omega arith) z₁ (N (suc p) (suc q) - 1) (flat_up p (suc q))
    (omega (arith, two-forms p q ahead)) in
    record {
      good = shape-plays (suc p) (suc q) (suc r.0) (1 ∷ a) (omega (arith, r.1)) ∙ r.2;
      same-ones = omega (arith, shape-ones p (suc q) (1 ∷ 1 ∷ a), shape-ones (suc p) (suc q) (1 ∷ a));
      same-zeros = omega (arith, shape-zeros p (suc q) (1 ∷ 1 ∷ a), shape-zeros (suc p) (suc q) (1 ∷ a));
      ranks = inl (rank-flat (suc p) (suc q) (1 ∷ a)
          ∙ follow a (suc (suc r.0)) (1 ∷ 1 ∷ flat p (suc q)) (1 ∷ flat (suc p) (suc q)) (omega (arith, r.1))
          (omega arith) (omega arith)
          (omega (arith, N-pos (suc (suc p)) q (omega arith)))
          (omega (arith, flat_up (suc p) (suc q), N-add (suc p) q (omega arith), two-forms p q ahead)) r.2
          ∙ ap suc (sym (rank-flat p (suc q) (1 ∷ 1 ∷ a))));
    }

-- where the hand is empty after the 1 and the 0, there are as many forms with a 0 more
closed_same : (q : ℕ) → N (suc (suc q)) (suc (suc q)) ≡ N (suc (suc q)) (suc q)
closed_same q = omega (arith, N-add (suc q) (suc q) (omega arith), N-over (suc q) (suc (suc q)) (omega arith))

advance-levels : (q : ℕ) (a : List ℕ) → plays 0 (ups (suc q) (downs (suc q) (1 ∷ 0 ∷ a))) ≡ true
    → Advances (ups (suc q) (downs (suc q) (1 ∷ 0 ∷ a))) (ups (suc (suc q)) (downs (suc q) (0 ∷ a)))
unfolding plays ones zeros rank
advance-levels q a o =
    let r = plays-shape (suc q) (suc q) (1 ∷ 0 ∷ a) o in
    record {
      good = shape-plays (suc (suc q)) (suc q) (suc r.0) (0 ∷ a) (omega (arith, r.1)) ∙ r.2;
      same-ones = omega (arith, shape-ones (suc q) (suc q) (1 ∷ 0 ∷ a), shape-ones (suc (suc q)) (suc q) (0 ∷ a));
      same-zeros = omega (arith, shape-zeros (suc q) (suc q) (1 ∷ 0 ∷ a), shape-zeros (suc (suc q)) (suc q) (0 ∷ a));
      ranks = by a (subst (λ (k : ℕ). plays k a ≡ true) (omega (arith, r.1)) r.2);
    }
  where
    two : 2 ≤ N (suc (suc q)) (suc q)
    two = two-forms (suc q) q (omega arith)

    by : (a : List ℕ) → plays 0 a ≡ true
        → (rank_of (ups (suc (suc q)) (downs (suc q) (0 ∷ a))) ≡
        suc (rank_of (ups (suc q) (downs (suc q) (1 ∷ 0 ∷ a)))))
        ⊎ ((rank_of (ups (suc (suc q)) (downs (suc q) (0 ∷ a))) ≡ 0)
        × (suc (rank_of (ups (suc q) (downs (suc q) (1 ∷ 0 ∷ a))))
        ≡ N (ones (ups (suc q) (downs (suc q) (1 ∷ 0 ∷ a)))) (zeros (ups (suc q) (downs (suc q) (1 ∷ 0 ∷ a))))))
    by [] k = inr (
      rank-flat (suc (suc q)) (suc q) (0 ∷ []) ∙ flat-rank (suc (suc q)) (suc q),
      omega (
        arith,
        rank-flat (suc q) (suc q) (1 ∷ 0 ∷ []),
        flat_up (suc q) (suc q),
        two,
        closed_same q,
        N-of (ups (suc q) (downs (suc q) (1 ∷ 0 ∷ []))) (suc (suc q)) (suc (suc q))
            (omega (arith, shape-ones (suc q) (suc q) (1 ∷ 0 ∷ [])))
            (omega (arith, shape-zeros (suc q) (suc q) (1 ∷ 0 ∷ []))),
      ),
    )
    by (zero ∷ a) k = absurd (false≢true k)
    by (suc (suc x) ∷ a) k = absurd (false≢true k)
    by (suc zero ∷ a) k =
        let o₁ = flat-ones (suc q) (suc q) in
        let z₁ = flat-zeros (suc q) (suc q) in
        let o₂ = flat-ones (suc (suc q)) (suc q) in
        let z₂ = flat-zeros (suc (suc q)) (suc q) in
        let n₁ =
        rank_up (0 ∷ 1 ∷ flat (suc q) (suc q)) (suc (suc q)) (suc (suc q)) (omega arith) (omega arith)
        (N (suc (suc q)) (suc q) - 1) (flat_up (suc q) (suc q)) (omega (arith, two)) in
        let n₂ =
        rank-first (0 ∷ flat (suc (suc q)) (suc q)) (suc (suc q)) (suc (suc q)) o₂ (omega arith)
        (flat-rank (suc (suc q)) (suc q)) in
        inl (rank-flat (suc (suc q)) (suc q) (0 ∷ 1 ∷ a)
        ∙ follow a 1 (1 ∷ 0 ∷ 1 ∷ flat (suc q) (suc q)) (1 ∷ 0 ∷ flat (suc (suc q)) (suc q)) (omega arith) (omega arith)
        (omega arith)
        (omega (arith, N-pos (suc (suc (suc q))) (suc q) (omega arith)))
        (omega (arith, N-add (suc (suc q)) (suc q) (omega arith), closed_same q, two)) k
        ∙ ap suc (sym (rank-flat (suc q) (suc q) (1 ∷ 0 ∷ 1 ∷ a))))

advance-dips : (p q : ℕ) (a : List ℕ) → suc q ≤ p → plays 0 (ups (suc p) (downs (suc q) (1 ∷ 0 ∷ a))) ≡ true
    → Advances (ups (suc p) (downs (suc q) (1 ∷ 0 ∷ a))) (1 ∷ 0 ∷ ups p (downs (suc q) (1 ∷ a)))
unfolding plays ones zeros rank
advance-dips zero q a le o = absurd (omega arith)
advance-dips (suc p) q a le o =
    let r = plays-shape (suc (suc p)) (suc q) (1 ∷ 0 ∷ a) o in
    let o₁ = flat-ones (suc (suc p)) (suc q) in
    let z₁ = flat-zeros (suc (suc p)) (suc q) in
    let o₂ = dipped-ones (suc p) (suc q) in
    let z₂ = dipped-zeros (suc p) (suc q) in
    let n₁ = flat_up (suc (suc p)) (suc q) in
    let n₂ =
    rank_up (dipped (suc p) (suc q)) (suc (suc p)) (suc (suc q)) o₂ z₂ 1 (dipped-rank p (suc q)) (omega arith) in
    let two = two-forms (suc (suc p)) q (omega arith) in
    record {
      good =
          shape-plays (suc p) (suc q) (pred r.0) (1 ∷ a) (omega (arith, r.1))
          ∙ subst (λ (k : ℕ). plays k a ≡ true) (omega (arith, r.1)) r.2;
      same-ones = omega (arith, shape-ones (suc (suc p)) (suc q) (1 ∷ 0 ∷ a), shape-ones (suc p) (suc q) (1 ∷ a));
      same-zeros = omega (arith, shape-zeros (suc (suc p)) (suc q) (1 ∷ 0 ∷ a), shape-zeros (suc p) (suc q) (1 ∷ a));
      ranks = inl (rank-dipped (suc p) (suc q) (1 ∷ a)
          ∙ follow a r.0 (0 ∷ 1 ∷ flat (suc (suc p)) (suc q)) (1 ∷ dipped (suc p) (suc q)) (omega (arith, r.1))
          (omega arith) (omega arith)
          (omega arith) (omega arith) r.2
          ∙ ap suc (sym (rank-flat (suc (suc p)) (suc q) (1 ∷ 0 ∷ a))));
    }

moved-advances : {b c : List ℕ} → Moved b c → plays 0 b ≡ true → Advances b c
moved-advances (stays p) o = advance-stays p o
moved-advances (turns p q) o = advance-turns p q o
moved-advances (closes p q) o = advance-closes p q o
moved-advances (lifts p q a) o = advance-lifts p q a o
moved-advances (levels p q a e) o = by p e o
  where
    by : (p : ℕ) → p ≡ suc q → plays 0 (ups p (downs (suc q) (1 ∷ 0 ∷ a))) ≡ true
        → Advances (ups p (downs (suc q) (1 ∷ 0 ∷ a))) (ups (suc p) (downs (suc q) (0 ∷ a)))
    by p e = rw e (advance-levels q a)
moved-advances (dips p q a ahead) o = advance-dips p q a ahead o

pub next-advances : (b : List ℕ) → plays 0 b ≡ true → Advances b (next b)
next-advances b o = moved-advances (next-moves b o) o
