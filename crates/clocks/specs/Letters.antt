-- Which words may be names.
use Rattle.std.specs.Prelude.{ℕ, Bool, ◌&&◌, List, length, nat_le}
use Rattle.texts.specs.Tokens.{name_word}

-- A name has 1 to 12 letters.
abbrev pub lawful_name : List ℕ → Bool
lawful_name name = name_word name && nat_le (length name) 12
