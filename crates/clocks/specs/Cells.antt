-- One cell of a reading by itself. Assumes nothing.
use Rattle.std.specs.Prelude.{ℕ, ◌+◌, min, Option}
use Rattle.std.specs.Option.{option_map}

-- a cell after the wait d, where a number above the cap c becomes c + 1
abbrev pub advanced_cell : ℕ → ℕ → Option ℕ → Option ℕ
advanced_cell c d v = option_map (λ n. min n (c + 1)) (option_map (λ n. n + d) v)
