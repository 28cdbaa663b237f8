-- The words of a line, counted and tested. Assumes nothing.
use Rattle.std.proofs.Common.{◌≡◌, ℕ, ◌+◌, Bool, true, false, ◌==◌, List, length, drop, count_by}
use Rattle.std.proofs.lemmas.List.Splits.{length-slice_split}
use Rattle.texts.specs.Numbers.{every}
use Rattle.texts.specs.Lines.{words, filled, spaced}

-- There is a word more than spaces.
pub length_words : (l : List ℕ) → length (words l) ≡ count_by (λ b. b == 32) l + 1
length_words l = length-slice_split (λ b. b == 32) l

-- The rest of a line is well spaced, after a word that is empty so far, or is not.
abbrev pub spaced_on : Bool → List ℕ → Bool
spaced_on true l = spaced l
spaced_on false l = every filled (drop 1 (words l))
