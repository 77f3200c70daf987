-- The list S by its groups is the circle from the form after t ones then s zeros on.
--     ending-schedule, ending-rank     a front with a 1 and zeros after it
--     Run                              the forms of a list have ranks that follow on one another
--     group-run, groups-run            a group, and the groups one after the other
--     Placed, S-placed                 S has N(t, s) forms, each at its place
-- Assumes nothing.
use mathlib.Core.Bool.{true, false≢true}
use mathlib.Core.List.{List, [], ◌∷◌, ◌++◌, map, reverse, reverse_aux, reverse_aux-append}
use mathlib.Core.Path.{◌≡◌, refl, ◌∙◌, ap, sym, subst}
use Prim.Native.Nat.{ℕ, zero, suc, pred, ◌+◌, ◌-◌, ◌≤◌, ◌<◌}
use native.Mathlib.Omega.{arith}
use native.Mathlib.Decide.{dec_lt, ℕ_discrete}
use borrow.Author.Tests.{eq-eqb, ne_eqb}
use lib.ListN.{length, get_or, replicate, length-append, length-map, get_or-append}
use lib.Seq.{get_or-append-add, get_or-append_seam}
use Rattle.triangle.specs.Count.{N}
use Rattle.triangle.proofs.Count.{N-zero, N-over, N-add, N-pos}
use Rattle.schedule.specs.Schedule.{ones, zeros, Schedule}
use Rattle.schedule.proofs.Hand.{plays, schedule-plays, schedule-zeros, plays-schedule, ones-turn, zeros-turn}
use Rattle.schedule.proofs.Tally.{ones-append, zeros-append}
use Rattle.schedule.proofs.Listing.{map_at}
use Rattle.circle.specs.Step.{top}
use Rattle.circle.proofs.Rank.{raise, rank, rank_of}
use Rattle.circle.proofs.Circle.{top-schedule, top-rank}
use Rattle.number.specs.Groups.{up_to, last_group, ending, S}
use Rattle.number.proofs.Places.{place_of, place-zero, place-more, raise-place}

plays-append : (h : ℕ) (f c : List ℕ) (k : ℕ) → plays h f ≡ true → k + zeros f ≡ h + ones f → plays k c ≡ true
    → plays h (f ++ c) ≡ true
unfolding plays ones zeros
plays-append h [] c k o e p = let same : k ≡ h = omega arith in subst (λ (j : ℕ). plays j c ≡ true) same p
plays-append zero (zero ∷ f) c k o e p = absurd (false≢true o)
plays-append (suc h) (zero ∷ f) c k o e p = plays-append h f c k o (omega arith) p
plays-append h (suc zero ∷ f) c k o e p = plays-append (suc h) f c k o (omega arith) p
plays-append h (suc (suc x) ∷ f) c k o e p = absurd (false≢true o)

-- zeros alone
plays-zeros : (m h : ℕ) → m ≤ h → plays h (replicate m 0) ≡ true
unfolding plays
plays-zeros zero h l = refl
plays-zeros (suc m) zero l = absurd (omega arith)
plays-zeros (suc m) (suc h) l = plays-zeros m h (omega arith)

ones-zeros : (m : ℕ) → ones (replicate m 0) ≡ 0
unfolding ones
ones-zeros zero = refl
ones-zeros (suc m) = ones-zeros m

zeros-zeros : (m : ℕ) → zeros (replicate m 0) ≡ m
unfolding zeros
zeros-zeros zero = refl
zeros-zeros (suc m) = ap suc (zeros-zeros m)

rank-zeros : (m : ℕ) (r : List ℕ) → rank (reverse_aux (replicate m 0) r) ≡ rank r
unfolding rank
rank-zeros zero r = refl
rank-zeros (suc m) r = rank-zeros m (0 ∷ r)

module _ {t s i : ℕ} {f : List ℕ} (p : Schedule t i f) (h : i ≤ s) where
  ending-schedule : s ≤ suc t → i ≤ t → Schedule (suc t) s (ending s i f)
  unfolding plays ones zeros
  ending-schedule k l =
      plays-schedule
      (plays-append 0 f (1 ∷ replicate (s - i) 0) (t - i) (schedule-plays p) (omega (arith, p.taken, schedule-zeros p))
      (plays-zeros (s - i) (suc (t - i)) (omega arith)))
      (omega (arith, ones-append f (1 ∷ replicate (s - i) 0), ones-zeros (s - i), p.taken))
      (omega (arith, zeros-append f (1 ∷ replicate (s - i) 0), zeros-zeros (s - i), schedule-zeros p))

  ending-rank : rank_of (ending s i f) ≡ raise (suc t) i (rank_of f)
  unfolding rank ones zeros
  ending-rank =
      let back-ones : ones (reverse f) ≡ t = omega (arith, ones-turn f [], p.taken) in
      let back-zeros : zeros (reverse f) ≡ i = omega (arith, zeros-turn f [], schedule-zeros p) in
      ap rank (reverse_aux-append f (1 ∷ replicate (s - i) 0) [])
      ∙ rank-zeros (s - i) (1 ∷ reverse f)
      ∙ rw (back-ones, back-zeros)

-- forms of t, s whose ranks are from + 1, from + 2, ..
record Run (t s from : ℕ) (l : List (List ℕ)) : Type 0 where
  forms : (j : ℕ) → j < length l → Schedule t s (get_or l j [])
  ranks : (j : ℕ) → j < length l → rank_of (get_or l j []) ≡ suc (from + j)

run_none : (t s from : ℕ) → Run t s from []
run_none t s from = record { forms = λ j h. absurd (omega arith); ranks = λ j h. absurd (omega arith) }

-- a place in two lists joined
left_at : (l m : List (List ℕ)) (j : ℕ) → j < length l → get_or (l ++ m) j [] ≡ get_or l j []
left_at l m j h = get_or-append l m [] j h

right-at : (l m : List (List ℕ)) (j : ℕ) → length l ≤ j → get_or (l ++ m) j [] ≡ get_or m (j - length l) []
right-at l m j h =
    let split : j ≡ length l + (j - length l) = omega arith in
    ap (λ (k : ℕ). get_or (l ++ m) k []) split ∙ get_or-append-add l m (j - length l) []

run_join : {t s from : ℕ} (l m : List (List ℕ)) → Run t s from l → Run t s (from + length l) m → Run t s from (l ++ m)
run_join {t} {s} {from} l m p q = record { forms = λ j h. (at j h).0; ranks = λ j h. (at j h).1 }
  where
    at : (j : ℕ) → j < length (l ++ m)
        → Schedule t s (get_or (l ++ m) j []) × (rank_of (get_or (l ++ m) j []) ≡ suc (from + j))
    at j h =
        elim (dec_lt j (length l)) [
          | yes k ↦ rw (left_at l m j k) (p.forms j k, p.ranks j k)
          | no k ↦
              rw (right-at l m j (omega arith)) (
                q.forms (j - length l) (omega (arith, length-append l m)),
                omega (arith, q.ranks (j - length l) (omega (arith, length-append l m))),
              )
        ]

-- all forms of t, s, each at its place
pub record Placed (t s : ℕ) (l : List (List ℕ)) : Type 0 where
  pub long : length l ≡ N t s
  pub forms : (j : ℕ) → j < length l → Schedule t s (get_or l j [])
  pub places : (j : ℕ) → j < length l → place_of (N t s) (rank_of (get_or l j [])) ≡ suc j

-- the group of i + 1
group-run : (t s i : ℕ) (l : List (List ℕ)) → suc i ≤ t → suc i ≤ s → s ≤ suc t → Placed t (suc i) l
    → Run (suc t) s (N (suc t) i - 1) (map (ending s (suc i)) l)
group-run t s i l h k m p =
    record {
      forms = λ j b. rw (map_at (ending s (suc i)) l j (inside j b)) (ending-schedule (p.forms j (inside j b)) k m h);
      ranks = λ j b.
          ap rank_of (map_at (ending s (suc i)) l j (inside j b))
          ∙ ending-rank (p.forms j (inside j b)) k
          ∙ by j (inside j b);
    }
  where
    inside : (j : ℕ) → j < length (map (ending s (suc i)) l) → j < length l
    inside j b = rw (length-map l (ending s (suc i))) at b

    by : (j : ℕ) → j < length l → raise (suc t) (suc i) (rank_of (get_or l j [])) ≡ suc (N (suc t) i - 1 + j)
    by j b =
        omega (
          arith,
          raise-place t (suc i) (rank_of (get_or l j [])) (omega arith) h,
          p.places j b,
          N-pos (suc t) i (omega arith),
        )

module _ (t s : ℕ) (m : s ≤ suc t) (all : (i : ℕ) → i ≤ t → Placed t i (S t i)) where
  abbrev groups : ℕ → List (List ℕ)
  groups = up_to (λ i. map (ending s i) (S t i))

  groups-long : (n : ℕ) → n ≤ t → suc (length (groups n)) ≡ N (suc t) n
  unfolding up_to
  groups-long zero h = omega (arith, N-zero (suc t))
  groups-long (suc n) h =
      omega (
        arith,
        length-append (groups n) (map (ending s (suc n)) (S t (suc n))),
        length-map (S t (suc n)) (ending s (suc n)),
        (all (suc n) h).long,
        groups-long n (omega arith),
        N-add t n (omega arith),
      )

  groups-run : (n : ℕ) → n ≤ t → n ≤ s → Run (suc t) s 0 (groups n)
  unfolding up_to
  groups-run zero h k = run_none (suc t) s 0
  groups-run (suc n) h k =
      let from : N (suc t) n - 1 ≡ 0 + length (groups n) = omega (arith, groups-long n (omega arith)) in
      run_join (groups n) (map (ending s (suc n)) (S t (suc n))) (groups-run n (omega arith) (omega arith))
      (subst (λ (x : ℕ). Run (suc t) s x (map (ending s (suc n)) (S t (suc n)))) from
      (group-run t s n (S t (suc n)) h k m (all (suc n) h)))

  -- a run from 0 with t ones then s zeros after it has all forms
  closed : (n : ℕ) → n ≤ t → n ≤ s → N (suc t) n ≡ N (suc t) s → Placed (suc t) s (groups n ++ top (suc t) s ∷ [])
  closed n h k e =
      let g = groups-run n h k in
      let long : length (groups n ++ top (suc t) s ∷ []) ≡ suc (length (groups n)) =
      omega (arith, length-append (groups n) (top (suc t) s ∷ [])) in
      record {
        long = omega (arith, long, groups-long n h, e);
        forms = λ j b. elim (dec_lt j (length (groups n))) [
          | yes l ↦ rw (left_at (groups n) (top (suc t) s ∷ []) j l) (g.forms j l)
          | no l ↦
              let here : j ≡ length (groups n) = omega (arith, long) in
              rw (here, get_or-append_seam (groups n) (top (suc t) s) [] []) (top-schedule (suc t) s m)
        ];
        places = λ j b. elim (dec_lt j (length (groups n))) [
          | yes l ↦
              let own : rank_of (get_or (groups n ++ top (suc t) s ∷ []) j []) ≡ suc j =
              ap rank_of (left_at (groups n) (top (suc t) s ∷ []) j l) ∙ omega (arith, g.ranks j l) in
              sym (place-more (N (suc t) s) _ (omega (arith, own))) ∙ own
          | no l ↦
              let here : j ≡ length (groups n) = omega (arith, long) in
              let own =
              ap (λ (x : ℕ). rank_of (get_or (groups n ++ top (suc t) s ∷ []) x [])) here
              ∙ ap rank_of (get_or-append_seam (groups n) (top (suc t) s) [] [])
              ∙ top-rank (suc t) s in
              sym (place-zero (N (suc t) s) _ own) ∙ omega (arith, here, groups-long n h, e)
        ];
      }

  -- for t = s the group i = s has no fronts: t is the last group [E8]
  last-equal : suc t ≡ s → last_group (suc t) s ≡ t
  last-equal e = let before : pred s ≡ t = omega arith in rw (eq-eqb (suc t) s e) before

  S-suc : Dec (suc t ≡ s) → Placed (suc t) s (groups (last_group (suc t) s) ++ top (suc t) s ∷ [])
  S-suc (yes e) =
      let closes : N (suc t) (suc t) ≡ N (suc t) t =
      omega (arith, N-add t t (omega arith), N-over t (suc t) (omega arith)) in
      rw (last-equal e) (closed t (omega arith) (omega arith) (sym closes ∙ ap (N (suc t)) e))
  S-suc (no e) = rw (ne_eqb (suc t) s e) (closed s (omega arith) (omega arith) refl)

pub S-placed : (t s : ℕ) → s ≤ t → Placed t s (S t s)
unfolding S
S-placed zero zero h =
    record {
      long = sym (N-zero 0);
      forms = λ j b. let here : j ≡ 0 = omega arith in rw here (top-schedule 0 0 (omega arith));
      places = λ j b.
          let here : j ≡ 0 = omega arith in
          let own = ap (λ (k : ℕ). rank_of (get_or (top 0 0 ∷ []) k [])) here ∙ top-rank 0 0 in
          sym (place-zero (N 0 0) _ own) ∙ omega (arith, N-zero 0);
    }
S-placed zero (suc s) h = absurd (omega arith)
S-placed (suc t) s h = S-suc t s h (λ i k. S-placed t i k) (ℕ_discrete (suc t) s)
