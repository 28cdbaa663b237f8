-- How a text falls into lines and a line into words, and which bytes a text may have. Byte 10 ends a line, byte 32 parts two words.
use Rattle.std.specs.Prelude.{ℕ, zero, suc, ◌+◌, min, Bool, true, false, cond, not, ◌&&◌, ◌||◌, List, [], ◌∷◌, ◌++◌, length, drop, Some, None, Option, ◌==◌, nat_le}
use Rattle.std.specs.List.{slice_get, prefix_len, onto_first, slice_split}
use Rattle.std.specs.Option.{option_map}
use Rattle.texts.specs.declared.lines.Run.{Run}
use Rattle.texts.specs.declared.lines.Run.TheVariants.{InLine, InWord, NoSpace}
use Rattle.texts.specs.Numbers.{every, digit}

-- ---- bytes

-- a to z
abbrev pub letter : ℕ → Bool
letter b = nat_le 97 b && nat_le b 122

-- a letter, a digit, a full stop, a space, or a line's end
abbrev pub allowed : ℕ → Bool
allowed b = letter b || (digit b || (b == 46 || (b == 32 || b == 10)))

-- The line, from 1, of the first byte that is not allowed.
abbrev pub bad_byte : List ℕ → Option ℕ
bad_byte [] = None
bad_byte (b ∷ t) = cond (allowed b) (cond (b == 10) (option_map suc (bad_byte t)) (bad_byte t)) (Some 1)

-- ---- lines and words

-- a byte in front of the first piece
abbrev pub onto : ℕ → List (List ℕ) → List (List ℕ)
onto b ls = onto_first b ls

-- The lines of a text. Each ends with a byte 10, which is not part of it; only the last may go without.
abbrev pub lines : List ℕ → List (List ℕ)
lines [] = []
lines (b ∷ t) = cond (b == 10) ([] ∷ lines t) (onto b (lines t))

-- The words of a line, which are what stands between its spaces. Two spaces in a row have an empty word between them.
abbrev pub words : List ℕ → List (List ℕ)
words l = slice_split (λ b. b == 32) l

-- Line n, from 1.
abbrev pub line_at : ℕ → List ℕ → Option (List ℕ)
line_at zero t = None
line_at (suc n) t = slice_get (lines t) n

-- the last of a byte and those after it is 10
abbrev pub ended_after : ℕ → List ℕ → Bool
ended_after b [] = b == 10
ended_after b (c ∷ t) = ended_after c t

-- Every line is ended: the text is empty, or its last byte is 10.
abbrev pub ended : List ℕ → Bool
ended t = ended_after 10 t

-- a text without the byte 10 at its end, if one is there
abbrev pub unended : List ℕ → List ℕ
unended [] = []
unended (b ∷ []) = cond (b == 10) [] (b ∷ [])
unended (b ∷ (c ∷ t)) = b ∷ unended (c ∷ t)

abbrev pub filled : List ℕ → Bool
filled [] = false
filled (b ∷ w) = true

-- No word of the line is empty: there is one space between two words and none at either end, and there is a word.
abbrev pub spaced : List ℕ → Bool
spaced l = every filled (words l)

-- ---- back to texts

-- each line, and byte 10 after it
abbrev pub unlines : List (List ℕ) → List ℕ
unlines [] = []
unlines (l ∷ ls) = l ++ (10 ∷ unlines ls)

-- each word with a space before it
abbrev pub further_words : List (List ℕ) → List ℕ
further_words [] = []
further_words (w ∷ ws) = 32 ∷ (w ++ further_words ws)

-- the words with a space between two
abbrev pub unwords : List (List ℕ) → List ℕ
unwords [] = []
unwords (w ∷ ws) = w ++ further_words ws

-- byte c does not stand in the list
abbrev pub lacks : ℕ → List ℕ → Bool
lacks c l = every (λ b. not (b == c)) l

-- ---- places in a text

abbrev pub in_line : ℕ → Bool
in_line b = not (b == 10)

abbrev pub in_word : ℕ → Bool
in_word b = not (b == 32 || b == 10)

abbrev pub no_space : ℕ → Bool
no_space b = not (b == 32)

-- the test of a run's bytes
abbrev pub goes_on : Run → ℕ → Bool
goes_on InLine b = in_line b
goes_on InWord b = in_word b
goes_on NoSpace b = no_space b

-- The first place at or after `from` whose byte fails the test, or the text's length if there is none.
abbrev pub end_from : (ℕ → Bool) → List ℕ → ℕ → ℕ
end_from test t from = min from (length t) + prefix_len test (drop from t)

abbrev pub line_end : List ℕ → ℕ → ℕ
line_end t from = end_from in_line t from

abbrev pub word_end : List ℕ → ℕ → ℕ
word_end t from = end_from in_word t from
