-- A schedule by a running test, from its first beat and from its last.
--     plays h b                       with h in hand before them, no beat of b is bad and none sets
--                                     down with nothing in hand
--     schedule-plays, plays-schedule  the beats of a schedule play from an empty hand, and beats that play so are a
--                                     schedule of their counts [A3]
--     schedule-zeros, schedule-le     a schedule of t, s has s zeros, no more than t
--     Turned                          the same on a list written last beat first: each 0 stands before (that is, after
--                                     in time) more ones than zeros
--     level                           a turned list has no more zeros than ones
--     turned, unturned                beats that play, turned round, are Turned, and the other way about
--     ones-turn, zeros-turn           turning a list round keeps its counts
-- Assumes nothing.
use mathlib.Core.Bool.{Bool, true, false, false≢true}
use mathlib.Core.List.{List, [], ◌∷◌, reverse_aux}
use mathlib.Core.Path.{◌≡◌, refl}
use Prim.Native.Nat.{ℕ, zero, suc, ◌+◌, ◌≤◌, ◌<◌}
use native.Mathlib.Omega.{arith}
use lib.ListN.{length, get_or, take}
use lib.Seq.{take-length}
use Rattle.schedule.specs.Schedule.{ones, zeros, Schedule}
use Rattle.schedule.proofs.Tally.{tally}

unfoldable pub plays : ℕ → List ℕ → Bool
plays h [] = true
plays zero (zero ∷ b) = false
plays (suc h) (zero ∷ b) = plays h b
plays h (suc zero ∷ b) = plays (suc h) b
plays h (suc (suc x) ∷ b) = false

plays-beats : (h : ℕ) (b : List ℕ) → plays h b ≡ true → (k : ℕ) → k < length b → get_or b k 0 ≤ 1
unfolding plays
plays-beats h [] p k l = absurd (omega arith)
plays-beats zero (zero ∷ b) p k l = absurd (false≢true p)
plays-beats (suc h) (zero ∷ b) p zero l = omega arith
plays-beats (suc h) (zero ∷ b) p (suc k) l = plays-beats h b p k (omega arith)
plays-beats h (suc zero ∷ b) p zero l = omega arith
plays-beats h (suc zero ∷ b) p (suc k) l = plays-beats (suc h) b p k (omega arith)
plays-beats h (suc (suc x) ∷ b) p k l = absurd (false≢true p)

plays-ahead : (h : ℕ) (b : List ℕ) → plays h b ≡ true → (k : ℕ) → zeros (take k b) ≤ h + ones (take k b)
unfolding plays ones zeros
plays-ahead h b p zero = omega arith
plays-ahead h [] p (suc k) = omega arith
plays-ahead zero (zero ∷ b) p (suc k) = absurd (false≢true p)
plays-ahead (suc h) (zero ∷ b) p (suc k) = omega (arith, plays-ahead h b p k)
plays-ahead h (suc zero ∷ b) p (suc k) = omega (arith, plays-ahead (suc h) b p k)
plays-ahead h (suc (suc x) ∷ b) p (suc k) = absurd (false≢true p)

ahead-plays : (h : ℕ) (b : List ℕ)
    → ((k : ℕ) → k < length b → get_or b k 0 ≤ 1)
    → ((k : ℕ) → k ≤ length b → zeros (take k b) ≤ h + ones (take k b))
    → plays h b ≡ true
unfolding plays ones zeros
ahead-plays h [] f g = refl
ahead-plays zero (zero ∷ b) f g = absurd (omega (arith, g 1 (omega arith)))
ahead-plays (suc h) (zero ∷ b) f g =
    ahead-plays h b (λ k l. f (suc k) (omega arith)) (λ k l. omega (arith, g (suc k) (omega arith)))
ahead-plays h (suc zero ∷ b) f g =
    ahead-plays (suc h) b (λ k l. f (suc k) (omega arith)) (λ k l. omega (arith, g (suc k) (omega arith)))
ahead-plays h (suc (suc x) ∷ b) f g = absurd (omega (arith, f 0 (omega arith)))

module _ {t s : ℕ} {b : List ℕ} where
  pub schedule-plays : Schedule t s b → plays 0 b ≡ true
  schedule-plays p = ahead-plays 0 b p.beats (λ k l. omega (arith, p.ahead k l))

  pub schedule-zeros : Schedule t s b → zeros b ≡ s
  schedule-zeros p = omega (arith, tally b p.beats, p.size, p.taken)

  pub schedule-le : Schedule t s b → s ≤ t
  schedule-le p = omega (arith, p.taken, schedule-zeros p, rw (take-length b) at (p.ahead (length b) (omega arith)))

  pub plays-schedule : plays 0 b ≡ true → ones b ≡ t → zeros b ≡ s → Schedule t s b
  plays-schedule p o z =
      record {
        beats = plays-beats 0 b p;
        size = omega (arith, tally b (plays-beats 0 b p));
        taken = o;
        ahead = λ k l. omega (arith, plays-ahead 0 b p k);
      }

-- the counts of a list do not turn on its order
pub ones-turn : (b r : List ℕ) → ones (reverse_aux b r) ≡ ones b + ones r
unfolding ones
ones-turn [] r = omega arith
ones-turn (zero ∷ b) r = ones-turn b (0 ∷ r)
ones-turn (suc zero ∷ b) r = omega (arith, ones-turn b (1 ∷ r))
ones-turn (suc (suc x) ∷ b) r = ones-turn b (suc (suc x) ∷ r)

pub zeros-turn : (b r : List ℕ) → zeros (reverse_aux b r) ≡ zeros b + zeros r
unfolding zeros
zeros-turn [] r = omega arith
zeros-turn (zero ∷ b) r = omega (arith, zeros-turn b (0 ∷ r))
zeros-turn (suc x ∷ b) r = zeros-turn b (suc x ∷ r)

pub data Turned : List ℕ → Type 0 where
  start : Turned []
  down : {r : List ℕ} → zeros r < ones r → Turned r → Turned (0 ∷ r)
  up : {r : List ℕ} → Turned r → Turned (1 ∷ r)

pub level : {r : List ℕ} → Turned r → zeros r ≤ ones r
unfolding ones zeros
level start = omega arith
level (down h q) = h
level (up q) = omega (arith, level q)

pub turned : (h : ℕ) (b r : List ℕ) → h + zeros r ≡ ones r → Turned r → plays h b ≡ true → Turned (reverse_aux b r)
unfolding plays ones zeros
turned h [] r e q p = q
turned zero (zero ∷ b) r e q p = absurd (false≢true p)
turned (suc h) (zero ∷ b) r e q p = turned h b (0 ∷ r) (omega arith) (down (omega arith) q) p
turned h (suc zero ∷ b) r e q p = turned (suc h) b (1 ∷ r) (omega arith) (up q) p
turned h (suc (suc x) ∷ b) r e q p = absurd (false≢true p)

earlier : {x : ℕ} {r : List ℕ} → Turned (x ∷ r) → Turned r
earlier (down h q) = q
earlier (up q) = q

before : (b r : List ℕ) → Turned (reverse_aux b r) → Turned r
before [] r q = q
before (x ∷ b) r q = earlier (before b (x ∷ r) q)

-- one beat of a list that is turned, played: the beats after it play with what is then in hand
play-on : (h x : ℕ) (b r : List ℕ) → Turned (x ∷ r) → h + zeros r ≡ ones r
    → ((k : ℕ) → k + zeros (x ∷ r) ≡ ones (x ∷ r) → plays k b ≡ true)
    → plays h (x ∷ b) ≡ true
unfolding plays ones zeros
play-on zero x b r (down l q) e f = absurd (omega arith)
play-on (suc h) x b r (down l q) e f = f h (omega arith)
play-on zero x b r (up q) e f = f 1 (omega arith)
play-on (suc h) x b r (up q) e f = f (suc (suc h)) (omega arith)

pub unturned : (h : ℕ) (b r : List ℕ) → h + zeros r ≡ ones r → Turned (reverse_aux b r) → plays h b ≡ true
unfolding plays
unturned h [] r e q = refl
unturned h (x ∷ b) r e q = play-on h x b r (before b (x ∷ r) q) e (λ k i. unturned k b (x ∷ r) i q)
