-- A bound as a text writes it: a number, two full stops, and perhaps another number, as 2..3 or 2.. alone.
use Rattle.std.specs.Prelude.{ℕ, Bool, cond, ◌&&◌, ◌||◌, List, length, take, drop, Some, None, Option, ◌==◌, nat_le, slice_index}
use Rattle.std.specs.List.{prefix_len}
use Rattle.texts.specs.Numbers.{digit, numeral}

-- what stands after two full stops
abbrev pub after_stops : List ℕ → Option (List ℕ)
after_stops w = cond (nat_le 2 (length w) && (slice_index w 0 == 46 && slice_index w 1 == 46)) (Some (drop 2 w)) None

-- a number, or nothing
abbrev pub numeral_or_none : List ℕ → Bool
numeral_or_none w = length w == 0 || numeral w

abbrev pub bound_with : List ℕ → Option (List ℕ) → Option (List ℕ × List ℕ)
bound_with first None = None
bound_with first (Some second) = cond (numeral first && numeral_or_none second) (Some (first, second)) None

-- The first and the second part of a word that is a bound. The first ends where its digits end.
abbrev pub bound_of : List ℕ → Option (List ℕ × List ℕ)
bound_of w = bound_with (take (prefix_len digit w) w) (after_stops (drop (prefix_len digit w) w))
