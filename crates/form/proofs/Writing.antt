-- From a number to its form, last beat first: one turn of the writing loop, on plain values. A place is
-- one in list S, from 1 on.
--     floor-more                 how the floor is looked up
--     AtPlace                    a list written last beat first is a schedule of p, q, and stands at place k
--     Behind                     what is written from i on, and what is still to be written
--     behind-none                nothing is written yet
--     behind-room                before the last place there are a 1 and a 0 to be written, and room for them
--     floor-some, floor-within, next-within, less-within, one-within     no difference of a turn falls below 0
--     behind-turn                one beat more
--     behind-all                 at the last place, with ones and then zeros in front, it is the form of the number
-- Assumes nothing.
use mathlib.Core.Bool.{Bool, true, false, not, cond}
use mathlib.Core.List.{List, [], ◌∷◌, ◌++◌, reverse_aux}
use mathlib.Core.Path.{◌≡◌, refl, ◌∙◌, ap, ap₂, sym}
use Prim.Native.Nat.{ℕ, zero, suc, pred, ◌+◌, ◌-◌, ◌≤◌, ◌<◌}
use native.Mathlib.Decide.{dec_le}
use native.Mathlib.Numerals.{add-one, sub-one}
use native.Mathlib.Omega.{arith}
use borrow.Author.Tests.{ltb-true, ltb-false}
use mir.Val.{bool_byte}
use lib.Dec.{ltb}
use lib.ListN.{length, drop, set, length-set}
use lib.Seq.{drop-length}
use Rattle.triangle.specs.Count.{N, largest}
use Rattle.triangle.proofs.Count.{N-add, N-zero, N-over, N-pos}
use Rattle.schedule.specs.Schedule.{ones, zeros}
use Rattle.schedule.proofs.Hand.{Turned, down, up, ones-turn, zeros-turn, unturned, plays-schedule}
use Rattle.schedule.proofs.Copied.{stored}
use Rattle.circle.specs.Step.{top}
use Rattle.circle.proofs.Shape.{ups, downs, shape-join, top-shape, turn-ups, turn-downs}
use Rattle.circle.proofs.Rank.{raise, rank, rank_of, rank_below}
use Rattle.circle.proofs.Advance.{flat, flat-ones, flat-zeros, flat-rank}
use Rattle.circle.proofs.Circle.{rank_lt, same_rank}
use Rattle.number.specs.Number.{form_of}
use Rattle.number.proofs.Counting.{flat-turned}
use Rattle.number.proofs.Numbers.{form-schedule}
use Rattle.number.proofs.Places.{place_of, place-zero, place-more, place_same, place-back, raise-place, form-place}
use Rattle.form.specs.Place.{floor_of}

-- a list from the place on where a beat is stored
written_at : (b : List ℕ) (i x : ℕ) → 0 < i → i ≤ length b → drop (i - 1) (set b (i - 1) x) ≡ x ∷ drop i b
written_at b i x h l =
    let e : suc (i - 1) ≡ i = omega arith in
    stored b (i - 1) x (omega arith) ∙ ap (λ (k : ℕ). x ∷ drop k b) e

floor-more : (p q : ℕ) → ((q ≡ 0) → ⊥) → N p (q - 1) ≡ floor_of p q
unfolding floor_of
floor-more p zero e = absurd (e refl)
floor-more p (suc q) e = rw (sub-one (suc q))

count-some : (p q : ℕ) → 0 < N p q → q ≤ p
count-some p q h = elim (dec_le q p) [ yes y ↦ y | no y ↦ absurd (omega (arith, N-over p q (omega arith))) ]

-- the addition rule, for the counts and for their floors
count_add : (p q : ℕ) → 1 ≤ q → q ≤ p → N p q ≡ N (p - 1) q + floor_of p q
unfolding floor_of
count_add zero q h l = absurd (omega arith)
count_add (suc p) zero h l = absurd (omega arith)
count_add (suc p) (suc q) h l = rw (sub-one (suc p)) (N-add p q (omega arith))

floor-add : (p q : ℕ) → 1 ≤ q → q ≤ p → floor_of p q ≡ N (p - 1) (q - 1) + floor_of p (q - 1)
unfolding floor_of
floor-add p zero h l = absurd (omega arith)
floor-add zero (suc q) h l = absurd (omega arith)
floor-add (suc p) (suc q) h l = rw (sub-one (suc p), sub-one (suc q)) (by q (omega arith))
  where
    by : (q : ℕ) → q ≤ p → floor_of (suc p) (suc q) ≡ N p q + floor_of (suc p) q
    by zero h = omega (arith, N-zero p, N-zero (suc p))
    by (suc q) h = N-add p q (omega arith)

pub record AtPlace (p q k : ℕ) (r : List ℕ) : Type 0 where
  pub turned : Turned r
  pub ups : ones r ≡ p
  pub downs : zeros r ≡ q
  pub place : place_of (N p q) (rank r) ≡ k

-- whatever list of p ones and as many zeros as there is room for, at place k of all, comes before what
-- is written makes the whole
pub record Behind (t s n : ℕ) (b : List ℕ) (i p k all low : ℕ) : Type 0 where
  pub down : ℕ
  pub left : i ≡ p + down
  pub within : i ≤ length b
  pub level : down ≤ p
  pub small : p ≤ largest
  pub counted : all ≡ N p down
  pub floored : low ≡ floor_of p down
  pub first : 1 ≤ k
  pub last : k ≤ all
  pub whole : (r : List ℕ) → AtPlace p down k r → AtPlace t s (suc n) (reverse_aux (drop i b) r)

pub behind-none : {t s n : ℕ} (b : List ℕ) → t ≤ largest → s ≤ t → length b ≡ t + s → n < N t s
    → {all low : ℕ} → all ≡ N t s → low ≡ floor_of t s
    → Behind t s n b (length b) t (n + 1) all low
behind-none {t} {s} {n} b h l e o a f =
    record {
      down = s;
      left = e;
      within = omega arith;
      level = l;
      small = h;
      counted = a;
      floored = f;
      first = omega arith;
      last = omega (arith, a);
      whole = λ r w. rw (drop-length b, ← add-one n) w;
    }

module _ {t s n : ℕ} {b : List ℕ} {i p k all low : ℕ} (u : Behind t s n b i p k all low) (h : (k ≡ all) → ⊥) where
  behind-some : 1 ≤ u.down
  behind-some = by u.down u.counted
    where
      by : (q : ℕ) → all ≡ N p q → 1 ≤ q
      by zero e = absurd (h (omega (arith, u.first, u.last, N-zero p)))
      by (suc q) e = omega arith

  pub behind-room : (1 ≤ p) × (p < i) × (i ≤ length b)
  behind-room = (omega (arith, u.level, behind-some), omega (arith, u.left, behind-some), u.within)

  -- the count that is looked up before the beat is known
  looked : {next : ℕ} → next ≡ N (p - 1) (i - 1 - p) → next ≡ N (p - 1) (u.down - 1)
  looked e = e ∙ ap (N (p - 1)) (omega (arith, u.left))

  -- the floor is a count that is looked up
  floor-count : low ≡ N p (u.down - 1)
  floor-count = u.floored ∙ sym (floor-more p u.down (λ e. omega (arith, behind-some)))

  pub floor-some : 1 ≤ low
  floor-some = omega (arith, floor-count, N-pos p (u.down - 1) (omega (arith, u.level)))

  all-add : all ≡ N (p - 1) u.down + low
  all-add = omega (arith, u.counted, u.floored, count_add p u.down behind-some u.level)

  low-add : low ≡ N (p - 1) (u.down - 1) + floor_of p (u.down - 1)
  low-add = u.floored ∙ floor-add p u.down behind-some u.level

  pub floor-within : low ≤ all
  floor-within = omega (arith, all-add)

  pub next-within : {next : ℕ} → next ≡ N (p - 1) (i - 1 - p) → next ≤ low
  next-within e = omega (arith, looked e, low-add)

  pub less-within : (down : Bool) → ltb k low ≡ down → {less : ℕ} → less ≡ cond down 0 (low - 1) → less ≤ k
  less-within true e l = omega arith
  less-within false e l = omega (arith, ltb-false k low e)

  pub one-within : (down : Bool) → bool_byte (not down) ≤ p
  one-within true = omega arith
  one-within false = omega (arith, behind-some, u.level)

  -- the place is also the rank
  own-place : k ≡ place_of (N p u.down) k
  own-place = place-more (N p u.down) k u.first

  behind-down : {p' k' all' low' : ℕ} → k < low → p' ≡ p → k' ≡ k → all' ≡ low → low' ≡ floor_of p (u.down - 1)
      → Behind t s n (set b (i - 1) 0) (i - 1) p' k' all' low'
  unfolding ones zeros rank
  behind-down l ep ek ea el =
      record {
        down = u.down - 1;
        left = omega (arith, u.left, behind-some);
        within = simp length-set (omega (arith, u.within));
        level = omega (arith, u.level);
        small = omega (arith, u.small);
        counted = rw ep (ea ∙ floor-count);
        floored = rw ep el;
        first = omega (arith, u.first);
        last = omega arith;
        whole = rw (ep, ek) (λ r g.
            rw (written_at b i 0 (omega (arith, u.left, behind-some)) u.within)
            (u.whole (0 ∷ r)
            (record {
              turned = down (omega (arith, u.level, behind-some, g.ups, g.downs)) g.turned;
              ups = g.ups;
              downs = omega (arith, behind-some, g.downs);
              place =
                  rw (place-back (N p (u.down - 1)) (rank r) k (omega (arith, floor-count)) g.place)
                  (sym own-place);
            })));
      }

  behind-up : {p' k' all' low' : ℕ} → low ≤ k → p' ≡ p - 1 → k' ≡ k - (low - 1) → all' ≡ all - low
      → low' ≡ N (p - 1) (u.down - 1)
      → Behind t s n (set b (i - 1) 1) (i - 1) p' k' all' low'
  unfolding ones zeros rank
  behind-up l ep ek ea el =
      let p1 : suc (p - 1) ≡ p = omega (arith, u.level, behind-some) in
      let few = count-some (p - 1) u.down (omega (arith, all-add, u.last, h)) in
      let floor : low ≡ N (suc (p - 1)) (pred u.down) = floor-count ∙ ap₂ N (sym p1) (omega arith) in
      record {
        down = u.down;
        left = omega (arith, u.left, u.level, behind-some);
        within = simp length-set (omega (arith, u.within));
        level = rw ep few;
        small = omega (arith, u.small);
        counted = rw ep (omega (arith, all-add));
        floored = rw ep (el ∙ floor-more (p - 1) u.down (λ e. omega (arith, behind-some)));
        first = omega (arith, floor-some);
        last = omega (arith, floor-some, u.last, h);
        whole = rw (ep, ek) (λ r g.
            rw (written_at b i 1 (omega (arith, u.left, behind-some)) u.within)
            (u.whole (1 ∷ r)
            (record {
              turned = up g.turned;
              ups = omega (arith, g.ups, u.level, behind-some);
              downs = g.downs;
              place =
                  let value : raise (suc (p - 1)) u.down (rank r) ≡ k =
                  omega (
                    arith,
                    raise-place (p - 1) u.down (rank r) behind-some few,
                    floor,
                    g.place,
                    floor-some,
                  ) in
                  rw (g.ups, g.downs, value) (sym own-place);
            })));
      }

  -- the beat is a 0 before the floor
  pub behind-turn : (down : Bool) → ltb k low ≡ down → {next less all' low' : ℕ} → next ≡ N (p - 1) (i - 1 - p)
      → less ≡ cond down 0 (low - 1) → all' ≡ cond down low (all - low) → low' ≡ cond down (low - next) next
      → Behind t s n (set b (i - 1) (bool_byte (not down))) (i - 1) (p - bool_byte (not down)) (k - less) all' low'
  behind-turn true e x el ea ew =
      let next = looked x in
      behind-down (ltb-true k low e) (omega arith) (omega arith) ea (omega (arith, low-add))
  behind-turn false e x el ea ew = behind-up (ltb-false k low e) refl (omega arith) ea (ew ∙ looked x)

module _ {t s n : ℕ} {b : List ℕ} {i p k all low : ℕ} (u : Behind t s n b i p k all low) (last : k ≡ all) where
  -- what is left stands for ones and then zeros
  front : AtPlace p u.down k (flat p u.down)
  front =
      let q = u.down in
      record {
        turned = flat-turned p q u.level;
        ups = flat-ones p q;
        downs = flat-zeros p q;
        place = sym (last ∙ u.counted ∙ place-zero (N p q) (rank (flat p q)) (flat-rank p q));
      }

  pub behind-all : s ≤ t → n < N t s → {c : List ℕ} → c ≡ top p (i - p) ++ drop i b → c ≡ form_of t s n
  unfolding ones zeros
  behind-all l o {c} e =
      let q = u.down in
      let room : i - p ≡ q = omega (arith, u.left) in
      let shape : c ≡ ups p (downs q (drop i b)) =
      e
      ∙ ap (λ (m : ℕ). top p m ++ drop i b) room
      ∙ ap (λ (l : List ℕ). l ++ drop i b) (top-shape p q)
      ∙ shape-join p q (drop i b) in
      let turn : reverse_aux c [] ≡ reverse_aux (drop i b) (flat p q) =
      ap (λ (l : List ℕ). reverse_aux l []) shape
      ∙ turn-ups p (downs q (drop i b)) []
      ∙ turn-downs q (drop i b) (ups p []) in
      let w = rw (← turn) at (u.whole (flat p q) front) in
      let plays = unturned 0 c [] (omega arith) w.turned in
      let form =
      plays-schedule {t = t} {s = s} plays (omega (arith, ones-turn c [], w.ups))
      (omega (arith, zeros-turn c [], w.downs)) in
      let below : rank (reverse_aux c []) < N t s = rw (← w.ups, ← w.downs) (rank_below w.turned) in
      let listed = form-schedule l n in
      let value =
      place_same (N t s) (rank (reverse_aux c [])) (rank_of (form_of t s n)) below (rank_lt listed)
      (w.place ∙ sym (form-place l n o)) in
      same_rank form listed value
