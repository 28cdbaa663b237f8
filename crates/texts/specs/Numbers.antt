-- Numbers as a text writes them: one to ten digits, of which the first is 0 only where it is the only one.
use Rattle.std.specs.Prelude.{ℕ, ◌+◌, ◌-◌, ◌*◌, Bool, cond, not, ◌&&◌, List, [], ◌∷◌, length, Some, None, Option, ◌==◌, nat_le, slice_index}
use Rattle.std.specs.List.{list_all}

-- Each element passes the test.
abbrev pub every : {X : Type 0} → (X → Bool) → List X → Bool
every f xs = list_all f xs

-- 0 to 9
abbrev pub digit : ℕ → Bool
digit b = nat_le 48 b && nat_le b 57

-- a 0 in front of another digit
abbrev pub needless_zero : List ℕ → Bool
needless_zero w = nat_le 2 (length w) && slice_index w 0 == 48

-- The word is a number.
abbrev pub numeral : List ℕ → Bool
numeral w = (nat_le 1 (length w) && nat_le (length w) 10) && (not (needless_zero w) && every digit w)

-- what the digits add to a number that stands in front of them
abbrev pub read_on : ℕ → List ℕ → ℕ
read_on n [] = n
read_on n (c ∷ cs) = read_on (n * 10 + (c - 48)) cs

-- The value of a word that is a number.
abbrev pub number : List ℕ → Option ℕ
number w = cond (numeral w) (Some (read_on 0 w)) None
