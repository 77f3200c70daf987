-- A list of all schedules of t, s, by their last beat: those of t−1, s with a 1 after them, then
-- those of t, s−1 with a 0.
--     map-lists        a list of all that P holds of, mapped to all that Q holds of
--     joined-lists     the two parts of the list together
--     schedules t s    the list
--     schedules-lists, schedules-length     it has every schedule exactly once, and is N(t, s) long
-- Assumes nothing.
use mathlib.Core.Bool.{cond}
use mathlib.Core.List.{List, [], ◌∷◌, ◌++◌, map, reverse, reverse-reverse}
use mathlib.Core.Path.{◌≡◌, refl, ◌∙◌, ap, sym}
use Prim.Native.Nat.{ℕ, zero, suc, ◌+◌, ◌-◌, ◌≤◌, ◌<◌}
use native.Mathlib.Omega.{arith}
use native.Mathlib.Decide.{dec_lt, dec_le}
use borrow.Author.Tests.{le-leb, lt-leb}
use lib.Dec.{leb}
use lib.ListN.{length, get_or, length-append, length-map, get_or-append}
use lib.Seq.{get_or-append-add}
use Rattle.triangle.specs.Count.{N}
use Rattle.schedule.specs.Schedule.{ones, zeros, Schedule, Lists}
use Rattle.schedule.proofs.Hand.{
  schedule-plays,
  schedule-zeros,
  plays-schedule,
  Turned,
  start,
  down,
  up,
  level,
  turned,
  unturned,
  ones-turn,
  zeros-turn,
}

pub map_at : (f : List ℕ → List ℕ) (l : List (List ℕ)) (i : ℕ) → i < length l
    → get_or (map f l) i [] ≡ f (get_or l i [])
map_at f [] i h = absurd (omega arith)
map_at f (x ∷ l) zero h = refl
map_at f (x ∷ l) (suc i) h = map_at f l i (omega arith)

-- a list of what P holds of, mapped to what Q holds of
pub map-lists : (P Q : List ℕ → Type 0) (f : List ℕ → List ℕ)
    → ((x : List ℕ) → P x → Q (f x))
    → ((y : List ℕ) → Q y → (x : List ℕ) × P x × (f x ≡ y))
    → ((x y : List ℕ) → f x ≡ f y → x ≡ y)
    → (l : List (List ℕ)) → Lists P l → Lists Q (map f l)
map-lists P Q f onto from one l p =
    record {
      sound = λ i h. rw (map_at f l i (inside i h)) (onto (get_or l i []) (p.sound i (inside i h)));
      complete = λ y q.
          let source = from y q in
          let found = p.complete source.0 source.1 in
          (found.0, rw (length-map l f) found.1, map_at f l found.0 found.1 ∙ ap f found.2 ∙ source.2);
      once = λ i j h k e.
          p.once i j (inside i h) (inside j k)
          (one (get_or l i []) (get_or l j []) (sym (map_at f l i (inside i h)) ∙ e ∙ map_at f l j (inside j k)));
    }
  where
    inside : (i : ℕ) → i < length (map f l) → i < length l
    inside i h = rw (length-map l f) at h

-- a place in two lists joined, of n and of m things
data Side (n m i : ℕ) : Type 0 where
  left : i < n → Side n m i
  right : (j : ℕ) → i ≡ n + j → j < m → Side n m i

side : (n m i : ℕ) → i < n + m → Side n m i
side n m i h = elim (dec_lt i n) [ yes l ↦ left l | no l ↦ right (i - n) (omega arith) (omega arith) ]

abbrev joined : List (List ℕ) → List (List ℕ) → List (List ℕ)
joined a c = map (λ (r : List ℕ). 1 ∷ r) a ++ map (λ (r : List ℕ). 0 ∷ r) c

module _ (a c : List (List ℕ)) where
  joined_length : length (joined a c) ≡ length a + length c
  joined_length =
      length-append (map (λ (r : List ℕ). 1 ∷ r) a) (map (λ (r : List ℕ). 0 ∷ r) c)
      ∙ rw (length-map a (λ (r : List ℕ). 1 ∷ r), length-map c (λ (r : List ℕ). 0 ∷ r))

  joined-left : (i : ℕ) → i < length a → get_or (joined a c) i [] ≡ 1 ∷ get_or a i []
  joined-left i h =
      get_or-append (map (λ (r : List ℕ). 1 ∷ r) a) (map (λ (r : List ℕ). 0 ∷ r) c) [] i
      (rw (length-map a (λ (r : List ℕ). 1 ∷ r)) h)
      ∙ map_at (λ (r : List ℕ). 1 ∷ r) a i h

  joined-right : (i j : ℕ) → i ≡ length a + j → j < length c → get_or (joined a c) i [] ≡ 0 ∷ get_or c j []
  joined-right i j e h =
      ap (λ (n : ℕ). get_or (joined a c) n []) (e ∙ ap (λ (n : ℕ). n + j) (sym (length-map a (λ (r : List ℕ). 1 ∷ r))))
      ∙ get_or-append-add (map (λ (r : List ℕ). 1 ∷ r) a) (map (λ (r : List ℕ). 0 ∷ r) c) j []
      ∙ map_at (λ (r : List ℕ). 0 ∷ r) c j h

-- a list that ends in a 1 after what P holds of, or in a 0 after what Q holds of
data Ends (P Q : List ℕ → Type 0) : List ℕ → Type 0 where
  in_one : {r : List ℕ} → P r → Ends P Q (1 ∷ r)
  in-zero : {r : List ℕ} → Q r → Ends P Q (0 ∷ r)

module _ (P Q : List ℕ → Type 0) (a c : List (List ℕ)) (p : Lists P a) (q : Lists Q c) where
  joined-lists : Lists (Ends P Q) (joined a c)
  joined-lists = record { sound = sound; complete = complete; once = once }
    where
      sides : (i : ℕ) → i < length (joined a c) → Side (length a) (length c) i
      sides i h = side (length a) (length c) i (omega (arith, joined_length a c))

      at : (i : ℕ) → Side (length a) (length c) i → Ends P Q (get_or (joined a c) i [])
      at i (left h) = rw (joined-left a c i h) (in_one (p.sound i h))
      at i (right j e h) = rw (joined-right a c i j e h) (in-zero (q.sound j h))

      sound : (i : ℕ) → i < length (joined a c) → Ends P Q (get_or (joined a c) i [])
      sound i h = at i (sides i h)

      complete : (r : List ℕ) → Ends P Q r → (i : ℕ) × (i < length (joined a c)) × (get_or (joined a c) i [] ≡ r)
      complete _ (in_one {r} x) =
          let found = p.complete r x in (
            found.0,
            omega (arith, joined_length a c, found.1),
            joined-left a c found.0 found.1 ∙ ap (λ (z : List ℕ). 1 ∷ z) found.2,
          )
      complete _ (in-zero {r} x) =
          let found = q.complete r x in (
            length a + found.0,
            omega (arith, joined_length a c, found.1),
            joined-right a c (length a + found.0) found.0 refl found.1 ∙ ap (λ (z : List ℕ). 0 ∷ z) found.2,
          )

      same : (i j : ℕ) → Side (length a) (length c) i → Side (length a) (length c) j
          → get_or (joined a c) i [] ≡ get_or (joined a c) j [] → i ≡ j
      same i j (left h) (left k) e =
          let rest : get_or a i [] ≡ get_or a j [] =
          cc (joined-left a c i h, joined-left a c j k) in p.once i j h k rest
      same i j (left h) (right n f l) e =
          let clash : ◌≡◌ {A = ℕ} 1 0 = cc (joined-left a c i h, joined-right a c j n f l) in absurd (omega arith)
      same i j (right m f h) (left k) e =
          let clash : ◌≡◌ {A = ℕ} 0 1 = cc (joined-right a c i m f h, joined-left a c j k) in absurd (omega arith)
      same i j (right m f h) (right n g l) e =
          let rest : get_or c m [] ≡ get_or c n [] = cc (joined-right a c i m f h, joined-right a c j n g l) in
          omega (arith, q.once m n h l rest)

      once : (i j : ℕ) → i < length (joined a c) → j < length (joined a c)
          → get_or (joined a c) i [] ≡ get_or (joined a c) j [] → i ≡ j
      once i j h k e = same i j (sides i h) (sides j k) e

-- turned lists of t ones and s zeros
record Of (t s : ℕ) (r : List ℕ) : Type 0 where
  kept : Turned r
  ups : ones r ≡ t
  downs : zeros r ≡ s

-- the schedules of t, s, last beat first
backward : ℕ → ℕ → List (List ℕ)
backward zero zero = [] ∷ []
backward (suc t) zero = joined (backward t zero) []
backward zero (suc s) = []
backward (suc t) (suc s) = cond (leb (suc s) (suc t)) (joined (backward t (suc s)) (backward (suc t) s)) []

nothing-lists : (P : List ℕ → Type 0) → ((r : List ℕ) → P r → ⊥) → Lists P []
nothing-lists P f = record {
  sound = λ i h. absurd (omega arith);
  complete = λ r x. absurd (f r x);
  once = λ i j h k e. absurd (omega arith);
}

renamed-lists : (P Q : List ℕ → Type 0) → ((r : List ℕ) → P r → Q r) → ((r : List ℕ) → Q r → P r) → (l : List (List ℕ))
    → Lists P l → Lists Q l
renamed-lists P Q f g l h = record {
  sound = λ i k. f (get_or l i []) (h.sound i k);
  complete = λ r x. h.complete r (g r x);
  once = h.once;
}

empty_of : (r : List ℕ) → Of 0 0 r → r ≡ []
unfolding ones zeros
empty_of r o = by o.kept o.ups o.downs
  where
    by : {r : List ℕ} → Turned r → ones r ≡ 0 → zeros r ≡ 0 → r ≡ []
    by start u d = refl
    by (down h q) u d = absurd (omega arith)
    by (up q) u d = absurd (omega arith)

-- what stands before a last 0 of a turned list of t ones and s zeros
record Shorter (t s : ℕ) (r : List ℕ) : Type 0 where
  kept : Turned r
  ups : ones r ≡ t
  downs : suc (zeros r) ≡ s

module _ (t s : ℕ) where
  ends_of : s ≤ suc t → (r : List ℕ) → Ends (Of t s) (Shorter (suc t) s) r → Of (suc t) s r
  unfolding ones zeros
  ends_of k _ (in_one {r} o) = record { kept = up o.kept; ups = omega (arith, o.ups); downs = o.downs }
  ends_of k _ (in-zero {r} o) = record {
    kept = down {r = r} (omega (arith, o.ups, o.downs)) o.kept;
    ups = o.ups;
    downs = o.downs;
  }

  of-ends : (r : List ℕ) → Of (suc t) s r → Ends (Of t s) (Shorter (suc t) s) r
  of-ends r o = by o.kept o.ups o.downs
    where
      by : {r : List ℕ} → Turned r → ones r ≡ suc t → zeros r ≡ s → Ends (Of t s) (Shorter (suc t) s) r
      by start u d = unfold ones in absurd (omega arith)
      by (down h q) u d = in-zero (record { kept = q; ups = unfold ones in u; downs = unfold zeros in d })
      by (up q) u d = in_one (record { kept = q; ups = unfold ones in omega arith; downs = unfold zeros in d })

  longer : s ≤ suc t → (a c : List (List ℕ)) → Lists (Of t s) a → Lists (Shorter (suc t) s) c
      → Lists (Of (suc t) s) (joined a c)
  longer k a c p q =
      renamed-lists (Ends (Of t s) (Shorter (suc t) s)) (Of (suc t) s) (ends_of k) of-ends (joined a c)
      (joined-lists (Of t s) (Shorter (suc t) s) a c p q)

  shorter : (c : List (List ℕ)) → Lists (Of t s) c → Lists (Shorter t (suc s)) c
  shorter c h =
      renamed-lists (Of t s) (Shorter t (suc s))
      (λ r o. record { kept = o.kept; ups = o.ups; downs = ap suc o.downs })
      (λ r o. record { kept = o.kept; ups = o.ups; downs = omega (arith, o.downs) }) c h

backward-lists : (t s : ℕ) → Lists (Of t s) (backward t s)
unfolding backward
backward-lists zero zero =
    record {
      sound = λ i h.
          let e : i ≡ 0 = omega arith in
          rw e (record { kept = start; ups = unfold ones in refl; downs = unfold zeros in refl });
      complete = λ r o. (0, omega arith, sym (empty_of r o));
      once = λ i j h k e. omega arith;
    }
backward-lists (suc t) zero =
    longer t 0 (omega arith) (backward t 0) [] (backward-lists t 0)
    (nothing-lists (Shorter (suc t) 0) (λ r o. omega (arith, o.downs)))
backward-lists zero (suc s) = nothing-lists (Of 0 (suc s)) (λ r o. omega (arith, level o.kept, o.ups, o.downs))
backward-lists (suc t) (suc s) = by (dec_le (suc s) (suc t)) (backward-lists t (suc s)) (backward-lists (suc t) s)
  where
    by : Dec (suc s ≤ suc t) → Lists (Of t (suc s)) (backward t (suc s)) → Lists (Of (suc t) s) (backward (suc t) s)
        → Lists (Of (suc t) (suc s)) (cond (leb (suc s) (suc t)) (joined (backward t (suc s)) (backward (suc t) s)) [])
    by (yes k) p q =
        simp (le-leb (suc s) (suc t) k)
        (longer t (suc s) k (backward t (suc s)) (backward (suc t) s) p (shorter (suc t) s (backward (suc t) s) q))
    by (no k) p q =
        simp (lt-leb (suc s) (suc t) (omega arith))
        (nothing-lists (Of (suc t) (suc s)) (λ r o. omega (arith, level o.kept, o.ups, o.downs)))

backward-length : (t s : ℕ) → length (backward t s) ≡ N t s
unfolding backward N
backward-length zero zero = refl
backward-length (suc t) zero = joined_length (backward t 0) [] ∙ omega (arith, backward-length t 0)
backward-length zero (suc s) = refl
backward-length (suc t) (suc s) = by (dec_le (suc s) (suc t)) (backward-length t (suc s)) (backward-length (suc t) s)
  where
    by : Dec (suc s ≤ suc t) → length (backward t (suc s)) ≡ N t (suc s) → length (backward (suc t) s) ≡ N (suc t) s
        → length (cond (leb (suc s) (suc t)) (joined (backward t (suc s)) (backward (suc t) s)) [])
        ≡ cond (leb (suc s) (suc t)) (N t (suc s) + N (suc t) s) 0
    by (yes k) p q =
        simp (le-leb (suc s) (suc t) k) (joined_length (backward t (suc s)) (backward (suc t) s) ∙ rw (p, q))
    by (no k) p q = simp (lt-leb (suc s) (suc t) (omega arith))

pub schedules : ℕ → ℕ → List (List ℕ)
schedules t s = map reverse (backward t s)

schedule-of : (t s : ℕ) (r : List ℕ) → Of t s r → Schedule t s (reverse r)
unfolding ones zeros
schedule-of t s r o =
    plays-schedule (unturned 0 (reverse r) [] (omega arith) (rw (reverse-reverse r) o.kept))
    (omega (arith, ones-turn r [], o.ups)) (omega (arith, zeros-turn r [], o.downs))

of-schedule : (t s : ℕ) (b : List ℕ) → Schedule t s b → Of t s (reverse b)
unfolding ones zeros
of-schedule t s b p =
    record {
      kept = turned 0 b [] (omega arith) start (schedule-plays p);
      ups = omega (arith, ones-turn b [], p.taken);
      downs = omega (arith, zeros-turn b [], schedule-zeros p);
    }

pub schedules-length : (t s : ℕ) → length (schedules t s) ≡ N t s
unfolding schedules
schedules-length t s = length-map (backward t s) reverse ∙ backward-length t s

pub schedules-lists : (t s : ℕ) → Lists (Schedule t s) (schedules t s)
unfolding schedules
schedules-lists t s =
    map-lists (Of t s) (Schedule t s) reverse (schedule-of t s)
    (λ b p. (reverse b, of-schedule t s b p, reverse-reverse b))
    (λ r q e. sym (reverse-reverse r) ∙ ap reverse e ∙ reverse-reverse q) (backward t s) (backward-lists t s)
