-- What a word of a text can be: a name, a number, a bound, or nothing that has a use.
use Rattle.std.specs.Prelude.{ℕ, Bool, cond, ◌&&◌, List, length, Some, None, Option, nat_le}
use Rattle.texts.specs.declared.tokens.Token.{Token}
use Rattle.texts.specs.declared.tokens.Token.TheVariants.{Name, Number, Bound, Other}
use Rattle.texts.specs.Numbers.{every, numeral}
use Rattle.texts.specs.Lines.{letter}
use Rattle.texts.specs.Bounds.{bound_of}

-- A token with its bytes, in place of where they stand in a text. The last part of each is the line.
pub data Piece : Type 0 where
  a_name : List ℕ → ℕ → Piece
  a_number : List ℕ → ℕ → Piece
  a_bound : List ℕ → List ℕ → ℕ → Piece
  an_other : List ℕ → ℕ → Piece

abbrev pub piece : Token → Piece
piece (Name bytes line) = a_name bytes.now line
piece (Number bytes line) = a_number bytes.now line
piece (Bound first second line) = a_bound first.now second.now line
piece (Other bytes line) = an_other bytes.now line

-- letters only, and at least one
abbrev pub name_word : List ℕ → Bool
name_word w = nat_le 1 (length w) && every letter w

abbrev pub bound_or : Option (List ℕ × List ℕ) → List ℕ → ℕ → Piece
bound_or None w line = an_other w line
bound_or (Some parts) w line = a_bound parts.0 parts.1 line

-- The token of a word in a line. No word is two of these: a name begins with a letter, and a number has no full stop.
abbrev pub token_of : List ℕ → ℕ → Piece
token_of w line = cond (name_word w) (a_name w line) (cond (numeral w) (a_number w line) (bound_or (bound_of w) w line))
