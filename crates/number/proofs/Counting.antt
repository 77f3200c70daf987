-- The number of a form from its beats: one turn of the loop after the leading ones and zeros, on plain values. The
-- beats need not be a schedule: each is tested before it is counted.
--     count_some         counts have a form
--     sized-parts, parts-sized     what the test of the sizes says
--     level-parts        what the test of the leading ones and zeros says
--     front i b          the beats before i, last first
--     goes_parts         what the test of a beat says
--     goes_on_lem        every beat of a schedule passes it
--     Counted            ups, downs and number are the counts and the place of the beats before i, which play; a
--                        beat stands after zeros, and a 0 only where these are not the first
--     counted-turn       one beat more
--     counted-all, counted-short      at the end it is the number of the form, if the ones are t
--     past b x           the beats from x on, as the loop reads them
--     turn-fails, turn-counted, turn-within       of a turn there: a beat that fails its test, and one that is counted
--     end-ranks, end-short       and past the last of them, if the ones are t or are not
--     flat-turned        ones and then no more zeros play
--     lead-within        where the leading ones and zeros end, which two scans find
--     lead-fails         those of a schedule pass their test
--     counted-front      and are counted
-- Assumes nothing.
use mathlib.Core.Bool.{true, false, ◌&&◌, and-eq-true_iff, true≢false}
use mathlib.Core.List.{List, [], ◌∷◌, reverse, reverse-append}
use mathlib.Core.Logic.{◌≢◌}
use mathlib.Core.Path.{◌≡◌, refl, ◌∙◌, ap, ap₂, sym, subst}
use Prim.Native.Nat.{ℕ, zero, suc, pred, ◌+◌, ◌-◌, ◌*◌, ◌^◌, ◌≤◌, ◌<◌}
use native.Mathlib.Numerals.{add-one}
use native.Mathlib.Omega.{arith}
use borrow.Author.Tests.{ltb-true, leb-true, eqb-true, lt-ltb, le-leb, eq-eqb}
use lib.Dec.{leb, ltb, eqb}
use lib.ListN.{length, get_or, take, drop}
use lib.Seq.{take-suc, take_all, get_or-drop}
use Rattle.std.proofs.Common.{length-drop}
use Rattle.triangle.specs.Count.{N, largest}
use Rattle.triangle.proofs.Count.{N-pos}
use Rattle.triangle.proofs.Rule.{N-fits}
use Rattle.counts.specs.Counts.{Allowed}
use Rattle.schedule.specs.Schedule.{ones, zeros, Schedule}
use Rattle.schedule.proofs.Hand.{
  plays,
  Turned,
  down,
  up,
  level,
  turned,
  unturned,
  start,
  plays-schedule,
  schedule-zeros,
  ones-turn,
  zeros-turn,
}
use Rattle.schedule.proofs.Tally.{prefix-up, prefix-down}
use Rattle.schedule.specs.Skip.{skipped}
use Rattle.schedule.proofs.Skipping.{Skips, skipped-skips}
use Rattle.circle.proofs.Shape.{ups, downs, shape-plays, shape-ones, shape-zeros, turn-ups, turn-downs}
use Rattle.circle.proofs.Rank.{raise, rank, rank_of, rank_below}
use Rattle.circle.proofs.Advance.{flat, flat-ones, flat-zeros, flat-rank}
use Rattle.number.specs.Number.{number_of}
use Rattle.number.specs.Ranking.{is_sized, is_level, goes_on, Ranks}
use Rattle.number.proofs.Places.{place_of, place-zero, place-more, place-some, number-place}
use Rattle.number.proofs.Places.{raise-place, raise-more}
use Rattle.number.proofs.Rising.{split-take}

pub count_some : (p q : ℕ) → q ≤ p → 0 < N p q
count_some p q h = N-pos p q h

-- the test of the sizes
module _ (t s : ℕ) (b : List ℕ) where
  pub sized-parts : is_sized t s b ≡ true → Allowed t s × (length b ≡ t + s)
  sized-parts e =
      let outer = (and-eq-true_iff (leb t largest && leb s t) (eqb (length b) (t + s))).0 e in
      let inner = (and-eq-true_iff (leb t largest) (leb s t)).0 outer.0 in
      ((leb-true t largest inner.0, leb-true s t inner.1), eqb-true (length b) (t + s) outer.1)

  pub parts-sized : Allowed t s → length b ≡ t + s → is_sized t s b ≡ true
  parts-sized a e = simp (le-leb t largest a.0, le-leb s t a.1, eq-eqb (length b) (t + s) e)

-- the test of the leading ones and zeros
pub level-parts : (t p q : ℕ) → is_level t p q ≡ true → (p ≤ t) × (q ≤ p)
level-parts t p q e =
    let both = (and-eq-true_iff (leb p t) (leb q p)).0 e in
    (leb-true p t both.0, leb-true q p both.1)

-- the test of a beat
module _ (t p q beat : ℕ) where
  pub goes_parts : goes_on t p q beat ≡ true → (beat ≤ 1) × (p + beat ≤ t) × (q < p + beat)
  goes_parts e =
      let outer = (and-eq-true_iff (leb beat 1 && leb (p + beat) t) (ltb q (p + beat))).0 e in
      let inner = (and-eq-true_iff (leb beat 1) (leb (p + beat) t)).0 outer.0 in
      (leb-true beat 1 inner.0, leb-true (p + beat) t inner.1, ltb-true q (p + beat) outer.1)

  goes : beat ≤ 1 → p + beat ≤ t → q < p + beat → goes_on t p q beat ≡ true
  goes h k l = simp (le-leb beat 1 h, le-leb (p + beat) t k, lt-ltb q (p + beat) l)

ones-take : (b : List ℕ) (i : ℕ) → ones (take i b) ≤ ones b
unfolding ones
ones-take b zero = omega arith
ones-take [] (suc i) = omega arith
ones-take (zero ∷ b) (suc i) = ones-take b i
ones-take (suc zero ∷ b) (suc i) = omega (arith, ones-take b i)
ones-take (suc (suc x) ∷ b) (suc i) = ones-take b i

pub goes_on_lem : {t s : ℕ} {b : List ℕ} → Schedule t s b → (i : ℕ) → i < length b
    → goes_on t (ones (take i b)) (zeros (take i b)) (get_or b i 0) ≡ true
goes_on_lem {t} {s} {b} p i h = by (get_or b i 0) refl
  where
    by : (beat : ℕ) → get_or b i 0 ≡ beat → goes_on t (ones (take i b)) (zeros (take i b)) beat ≡ true
    by zero e =
        let more = prefix-down b i h e in
        goes t (ones (take i b)) (zeros (take i b)) 0 (omega arith) (omega (arith, ones-take b i, p.taken))
        (omega (arith, more.0, more.1, p.ahead (suc i) (omega arith)))
    by (suc zero) e =
        let more = prefix-up b i h e in
        goes t (ones (take i b)) (zeros (take i b)) 1 (omega arith)
        (omega (arith, more.0, ones-take b (suc i), p.taken)) (omega (arith, p.ahead i (omega arith)))
    by (suc (suc x)) e = absurd (omega (arith, p.beats i h))

abbrev front : ℕ → List ℕ → List ℕ
front i b = reverse (take i b)

front-more : (b : List ℕ) (i : ℕ) → i < length b → front (i + 1) b ≡ get_or b i 0 ∷ front i b
front-more b i h = rw (add-one i, take-suc b i 0) (reverse-append (take i b) (get_or b i 0 ∷ []))

front-ones : (b : List ℕ) (i : ℕ) → ones (front i b) ≡ ones (take i b)
unfolding ones
front-ones b i = omega (arith, ones-turn (take i b) [])

front-zeros : (b : List ℕ) (i : ℕ) → zeros (front i b) ≡ zeros (take i b)
unfolding zeros
front-zeros b i = omega (arith, zeros-turn (take i b) [])

pub record Counted (t : ℕ) (b : List ℕ) (i up down number : ℕ) : Type 0 where
  pub inside : i ≤ length b
  pub played : Turned (front i b)
  pub few : up ≤ t
  pub ups : up ≡ ones (front i b)
  pub downs : down ≡ zeros (front i b)
  pub value : suc number ≡ place_of (N up down) (rank (front i b))
  pub some : i < length b → get_or b i 0 ≤ 1 → 1 ≤ down
  pub rises : i < length b → get_or b i 0 ≡ 0 → 1 ≤ rank (front i b)

module _ {t : ℕ} {b : List ℕ} {i p q number : ℕ} (c : Counted t b i p q number) where
  pub counted-level : q ≤ p
  counted-level = omega (arith, c.ups, c.downs, level c.played)

  rank-few : rank (front i b) < N p q
  rank-few = rw (c.ups, c.downs) (rank_below c.played)

  pub counted-below : number < N p q
  counted-below = omega (arith, c.value, (place-some (N p q) (rank (front i b)) rank-few).1)

  -- a beat of a schedule passes the test
  pub counted-goes : {s : ℕ} → Schedule t s b → i < length b → goes_on t p q (get_or b i 0) ≡ true
  counted-goes r h = rw (c.ups, c.downs, front-ones b i, front-zeros b i) (goes_on_lem r i h)

  -- there is a 0 before a beat that passes it
  pub counted-down : i < length b → (beat : ℕ) → beat ≡ get_or b i 0 → goes_on t p q beat ≡ true → 1 ≤ q
  counted-down h beat e fits = c.some h (omega (arith, (goes_parts t p q beat fits).0))

  pub counted-turn : i < length b → (beat grown : ℕ) → beat ≡ get_or b i 0 → goes_on t p q beat ≡ true
      → grown ≡ beat * (N (p + beat) (q - 1) - 1)
      → Counted t b (i + 1) (p + beat) (q + (1 - beat)) (number + grown)
  unfolding ones zeros rank
  counted-turn h zero grown e fits g =
      let may = goes_parts t p q 0 fits in
      let risen = c.rises h (sym e) in
      record {
        inside = omega arith;
        played =
            rw (front-more b i h, ← e) (down {r = front i b} (omega (arith, may.2, c.ups, c.downs)) c.played);
        few = may.1;
        ups = rw (front-more b i h, ← e) (omega (arith, c.ups));
        downs = rw (front-more b i h, ← e) (omega (arith, c.downs));
        value = rw (front-more b i h, ← e)
            (omega (arith, c.value, g, none, place-more (N p q) (rank (front i b)) risen)
            ∙ place-more (N (p + 0) (q + 1)) (rank (front i b)) risen);
        some = λ k l. omega arith;
        rises = λ k l. rw (front-more b i h, ← e) risen;
      }
    where
      none : 0 * (N (p + 0) (q - 1) - 1) ≡ 0
      none = omega arith
  counted-turn h (suc zero) grown e fits g =
      let may = goes_parts t p q 1 fits in
      let q-some = counted-down h 1 e fits in
      let risen = raise-more p q (rank (front i b)) q-some counted-level rank-few in
      let here : raise (suc (ones (front i b))) (zeros (front i b)) (rank (front i b))
      ≡ raise (suc p) q (rank (front i b)) =
      ap₂ (λ (u d : ℕ). raise (suc u) d (rank (front i b))) (sym c.ups) (sym c.downs) in
      let same : N (p + 1) (q - 1) ≡ N (suc p) (pred q) = ap₂ N (omega arith) (omega arith) in
      record {
        inside = omega arith;
        played = rw (front-more b i h, ← e) (up c.played);
        few = may.1;
        ups = rw (front-more b i h, ← e) (omega (arith, c.ups));
        downs = rw (front-more b i h, ← e) (omega (arith, c.downs));
        value = rw (front-more b i h, ← e, here)
            (omega (
              arith,
              c.value,
              g,
              same,
              raise-place p q (rank (front i b)) q-some counted-level,
              N-pos (suc p) (pred q) (omega (arith, counted-level)),
            )
            ∙ place-more (N (p + 1) (q + 0)) (raise (suc p) q (rank (front i b))) risen);
        some = λ k l. omega (arith, q-some);
        rises = λ k l. rw (front-more b i h, ← e, here) risen;
      }
  counted-turn h (suc (suc x)) grown e fits g = absurd (omega (arith, (goes_parts t p q (suc (suc x)) fits).0))

  -- at the end
  pub counted-all : length b ≤ i → p ≡ t → {s : ℕ} → length b ≡ t + s → Schedule t s b × (number ≡ number_of t s b)
  unfolding ones zeros
  counted-all h all {s} long =
      let whole : take i b ≡ b = take_all i b h in
      let played : plays 0 b ≡ true =
      unturned 0 b [] refl (subst (λ (l : List ℕ). Turned (reverse l)) whole c.played) in
      let ups : ones b ≡ t = omega (arith, c.ups, front-ones b i, ap ones whole) in
      let own = plays-schedule played refl refl in
      let fits : Schedule t s b = plays-schedule played ups (omega (arith, own.size)) in
      let downs : q ≡ s = omega (arith, c.downs, front-zeros b i, ap zeros whole, schedule-zeros fits) in
      let place : suc number ≡ place_of (N t s) (rank_of b) =
      c.value ∙ ap₂ place_of (ap₂ N all downs) (ap (λ (l : List ℕ). rank (reverse l)) whole) in
      (fits, omega (arith, place, number-place fits))

  pub counted-short : length b ≤ i → p ≢ t → {s : ℕ} → Schedule t s b → ⊥
  counted-short h few r = few (omega (arith, c.ups, front-ones b i, ap ones (take_all i b h), r.taken))

-- the beats from the place x on, as the loop reads them
abbrev past : List ℕ → ℕ → List ℕ
past b x = take (length b - x) (drop x b)

past-is : (b : List ℕ) (x : ℕ) → past b x ≡ drop x b
past-is b x = take_all (length b - x) (drop x b) (omega (arith, length-drop x b))

past-long : (b : List ℕ) (x : ℕ) → length (past b x) ≡ length b - x
past-long b x = ap length (past-is b x) ∙ length-drop x b

-- a turn of the loop, at the beat after x and i more
module _
    {t : ℕ}
    {b : List ℕ}
    (x i : ℕ)
    {p q number beat : ℕ}
    (c : Counted t b (x + i) p q number)
    (h : i < length (past b x))
    (e : beat ≡ get_or (past b x) i 0)
  where
    inside : x + i < length b
    inside = omega (arith, past-long b x)

    here : beat ≡ get_or b (x + i) 0
    here = e ∙ ap (λ (l : List ℕ). get_or l i 0) (past-is b x) ∙ get_or-drop x b i 0

    pub turn-fails : {s : ℕ} → goes_on t p q beat ≡ false → Schedule t s b → ⊥
    turn-fails wrong r =
        true≢false (sym (counted-goes c r inside) ∙ ap (goes_on t p q) (sym here) ∙ wrong)

    module _ {grown : ℕ} (fits : goes_on t p q beat ≡ true) (g : grown ≡ beat * (N (p + beat) (q - 1) - 1)) where
      pub turn-counted : Counted t b (x + (i + 1)) (p + beat) (q + (1 - beat)) (number + grown)
      turn-counted =
          let more : x + i + 1 ≡ x + (i + 1) = omega arith in
          subst (λ (k : ℕ). Counted t b k (p + beat) (q + (1 - beat)) (number + grown)) more
          (counted-turn c inside beat grown here fits g)

      pub turn-within : t ≤ largest → number + grown < 2 ^ 64
      turn-within a =
          omega (
            arith,
            counted-below turn-counted,
            N-fits (p + beat) (q + (1 - beat)) (omega (arith, turn-counted.few)),
          )

-- past the last beat
module _
    {t : ℕ}
    {b : List ℕ}
    (x i : ℕ)
    {p q number : ℕ}
    (c : Counted t b (x + i) p q number)
    (end : length (past b x) ≤ i)
  where
    over : length b ≤ x + i
    over = omega (arith, past-long b x)

    pub end-ranks : {s : ℕ} → is_sized t s b ≡ true → p ≡ t → Ranks t s b true number
    end-ranks {s} sized all =
        let size = sized-parts t s b sized in
        let right = counted-all c over all size.1 in
        (size.0, right.0, right.1)

    pub end-short : p ≢ t → {s : ℕ} → Schedule t s b → ⊥
    end-short few r = counted-short c over few r

-- ones and then no more zeros play
pub flat-turned : (p q : ℕ) → q ≤ p → Turned (flat p q)
unfolding plays ones zeros
flat-turned p q h =
    subst Turned (turn-ups p (downs q []) [] ∙ turn-downs q [] (ups p []))
    (turned 0 (ups p (downs q [])) [] (omega arith) start (shape-plays p q (p - q) [] (omega arith)))

-- the leading ones and zeros, which two scans find
module _ (b : List ℕ) {y x : ℕ} (up : y ≡ skipped b 0 1) (rise : x ≡ skipped b y 0) where
  sy : Skips b 0 1 y
  sy = skipped-skips (omega arith) up

  sx : Skips b y 0 x
  sx = skipped-skips sy.high rise

  pub lead-within : (y ≤ x) × (x ≤ length b)
  lead-within = (sx.low, sx.high)

  pub lead-fails : {t s : ℕ} → is_level t y (x - y) ≡ false → Schedule t s b → ⊥
  unfolding ones zeros
  lead-fails {t} e p =
      let lead = split-take sy sx in
      let ups-are : y ≡ ones (take x b) = omega (arith, ap ones lead, shape-ones y (x - y) []) in
      let downs-are : x - y ≡ zeros (take x b) = omega (arith, ap zeros lead, shape-zeros y (x - y) []) in
      let fits : is_level t y (x - y) ≡ true =
      simp (
        le-leb y t (omega (arith, ups-are, ones-take b x, p.taken)),
        le-leb (x - y) y (omega (arith, ups-are, downs-are, p.ahead x sx.high)),
      ) in
      true≢false (sym fits ∙ e)

  pub counted-front : {t n : ℕ} → is_level t y (x - y) ≡ true → n ≡ N y (x - y)
      → Counted t b (x + 0) y (x - y) (n - 1)
  counted-front {t} {n} e all =
      let lead = level-parts t y (x - y) e in
      let at : front (x + 0) b ≡ flat y (x - y) =
      ap (λ (i : ℕ). front i b) none
      ∙ ap reverse (split-take sy sx)
      ∙ turn-ups y (downs (x - y) []) []
      ∙ turn-downs (x - y) [] (ups y []) in
      let first : rank (front (x + 0) b) ≡ 0 = ap rank at ∙ flat-rank y (x - y) in
      record {
        inside = omega (arith, sx.high);
        played = rw at (flat-turned y (x - y) lead.1);
        few = lead.0;
        ups = rw at (sym (flat-ones y (x - y)));
        downs = rw at (sym (flat-zeros y (x - y)));
        value = omega (arith, all, N-pos y (x - y) lead.1) ∙ place-zero (N y (x - y)) (rank (front (x + 0) b)) first;
        some = λ k l. by (x - y) refl (omega arith) (rw none at l);
        rises = λ k z. absurd (sx.stop (omega arith) (rw none at z));
      }
    where
      none : x + 0 ≡ x
      none = omega arith

      -- a beat after no zeros is neither a 0 nor a 1
      by : (d : ℕ) → x - y ≡ d → x < length b → get_or b x 0 ≤ 1 → 1 ≤ x - y
      by (suc d) e k l = omega arith
      by zero e k l =
          let here : x ≡ y = omega (arith, sx.low) in
          let other : (v : ℕ) → get_or b x 0 ≡ v → v ≤ 1 → ⊥ = beat here in
          absurd (other (get_or b x 0) refl l)
        where
          beat : x ≡ y → (v : ℕ) → get_or b x 0 ≡ v → v ≤ 1 → ⊥
          beat here zero q m = sx.stop k q
          beat here (suc zero) q m = sy.stop (omega arith) (ap (λ (n : ℕ). get_or b n 0) (sym here) ∙ q)
          beat here (suc (suc v)) q m = omega arith
