-- Words as this product writes them, pairs of an event and a wait, and the timed words that they stand for.
-- Words are lists of any length, and waits numbers of any size.
use Rattle.std.specs.Prelude.{◌≡◌, ℕ, zero, suc, ◌+◌, ◌<◌, ◌≤◌, List, [], ◌∷◌, length, None, Option, slice_index_or}
use Rattle.std.proofs.Common.{arith}
use Rattle.std.specs.List.{AllByRecursion}
use Rattle.meaning.specs.declared.values.Pair.{Pair}
use Rattle.meaning.specs.Published.{TimedWord, Clock}

-- the event at a position, or 0 past the end
abbrev pub event_at : List Pair → ℕ → ℕ
event_at [] i = 0
event_at (p ∷ w) zero = p.event
event_at (p ∷ w) (suc i) = event_at w i

-- the time stamp at a position: the sum of the waits up to it
abbrev pub time_at : List Pair → ℕ → ℕ
time_at [] i = 0
time_at (p ∷ w) zero = p.wait
time_at (p ∷ w) (suc i) = p.wait + time_at w i

pub time-grows : (w : List Pair) (i : ℕ) → time_at w i ≤ time_at w (suc i)
time-grows [] i = omega arith
time-grows (p ∷ w) zero = omega arith
time-grows (p ∷ w) (suc i) = omega (arith, time-grows w i)

abbrev pub timed : List Pair → TimedWord
timed w = record { size = length w; event = event_at w; time = time_at w; ordered = λ i _. time-grows w i }

-- A word over n events has at least one pair, and each of its events is below n.
-- Nothing else in this repository asks for at least one pair.
abbrev pub Word : ℕ → List Pair → Type 0
Word n w = (0 < length w) × AllByRecursion (λ p. p.event < n) w

-- The reading at position j of a word over n events: each of the first n cells is the value of that event's clock, and the others are never.
pub record Reads (n : ℕ) (w : List Pair) (j : ℕ) (cells : List (Option ℕ)) : Type 0 where
  pub size : length cells ≡ 8
  pub clocks : (a : ℕ) → a < n → Clock (timed w) j a (slice_index_or cells a None)
  pub others : (a : ℕ) → n ≤ a → slice_index_or cells a None ≡ None
