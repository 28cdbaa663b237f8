-- A word that is a number is the decimal writing of its value, and each number below 10 ^ 10 is the value of its writing. Assumes nothing.
use Rattle.std.proofs.Common.{◌≡◌, ℕ, zero, suc, ◌^◌, ◌<◌, ◌≤◌, true, false, not, ◌&&◌, eqb, leb, ◌⊎◌, List, length, get_or, drop, Some, decimal, sym, refl, ap, ◌∙◌, subst, inl, inr, ⊎_elim, arith, rules}
use Rattle.std.proofs.lemmas.Fmt.{decimal-digits_value, digits_decimal, digits_value-decimal, length-decimal-le, decimal_nonempty, decimal_digit, first_decimal}
use Rattle.std.proofs.lemmas.Str.Parse.{IsNumeralModel, numerals_by_fold, digits_value_short}
use Rattle.std.proofs.lemmas.Bool.{and_parts, and_from, le-leb, leb-true, not-true, cond-true}
use Rattle.std.proofs.lemmas.Bool.Decides.{nat_tests}
use Rattle.texts.specs.Numbers.{every, digit, needless_zero, numeral, read_on, number}
use Rattle.texts.proofs.Lists.{some-under}

pub digits_are : IsNumeralModel (λ w. every digit w ≡ true) (read_on 0)
digits_are = numerals_by_fold _ (search rules) read_on (search rules)

-- what the test of a number says
pub record Numeral (w : List ℕ) : Type 0 where
  pub least : 1 ≤ length w
  pub most : length w ≤ 10
  pub plain : get_or w 0 0 ≡ 48 → length w ≡ 1
  pub digits : every digit w ≡ true

pub numeral-says : (w : List ℕ) → numeral w ≡ true → Numeral w
numeral-says w h =
    let long = and_parts (leb 1 (length w) && leb (length w) 10) _ h in
    let ends = and_parts (leb 1 (length w)) _ long.0 in
    let rest = and_parts (not (needless_zero w)) _ long.1 in
    let low : 1 ≤ length w = leb-true _ _ ends.0 in
    record { least = low; most = leb-true _ _ ends.1; plain = λ zero'. lone (length w) (get_or w 0 0) low zero' (not-true _ rest.0); digits = rest.1 }
  where
    lone : (n c : ℕ) → 1 ≤ n → c ≡ 48 → (leb 2 n && eqb c 48) ≡ false → n ≡ 1
    lone n c low is no' = grind (arith, nat_tests)

pub numeral-from : (w : List ℕ) → Numeral w → numeral w ≡ true
numeral-from w h = and_from _ _ (and_from _ _ (le-leb 1 (length w) h.least) (le-leb (length w) 10 h.most)) (and_from _ _ (plain (length w) (get_or w 0 0) h.plain) h.digits)
  where
    plain : (n c : ℕ) → (c ≡ 48 → n ≡ 1) → not (leb 2 n && eqb c 48) ≡ true
    plain n c h = grind (arith, nat_tests)

pub read_on-below : (w : List ℕ) → Numeral w → read_on 0 w < 10 ^ 10
read_on-below w h = digits_value_short digits_are w 10 h.digits h.most

pub numeral-is-decimal : (w : List ℕ) → Numeral w → decimal (read_on 0 w) ≡ w
numeral-is-decimal w h = decimal-digits_value digits_are w h.digits h.least h.plain (omega (arith, read_on-below w h))

pub number-is-decimal : (w : List ℕ) (n : ℕ) → number w ≡ Some n → (w ≡ decimal n) × (n < 10 ^ 10)
number-is-decimal w n e =
    let is = some-under (numeral w) (read_on 0 w) n e in
    let h = numeral-says w is.0 in
    (sym (numeral-is-decimal w h) ∙ ap decimal is.1, subst (λ m. m < 10 ^ 10) is.1 (read_on-below w h))

-- only 0 is written with a 0 in front
zero-in-front : (n : ℕ) → n < 2 ^ 64 → get_or (decimal n) 0 0 ≡ 48 → length (decimal n) ≡ 1
zero-in-front n small front = ⊎_elim
    (λ none. ap length (decimal_digit n (omega arith)))
    (λ some. absurd (omega (arith, first_decimal n some small)))
    (cases_zero n)
  where
    cases_zero : (m : ℕ) → (m ≡ 0) ⊎ (0 < m)
    cases_zero zero = inl refl
    cases_zero (suc m) = inr (omega arith)

decimal_is_numeral : (n : ℕ) → n < 10 ^ 10 → Numeral (decimal n)
decimal_is_numeral n h =
    let small : n < 2 ^ 64 = omega arith in
    record { least = decimal_nonempty n small; most = length-decimal-le 10 n (omega arith) h small; plain = zero-in-front n small; digits = digits_decimal digits_are n small }

pub number-of-decimal : (n : ℕ) → n < 10 ^ 10 → number (decimal n) ≡ Some n
number-of-decimal n h =
    cond-true _ _ _ (numeral-from (decimal n) (decimal_is_numeral n h)) ∙ ap Some (digits_value-decimal digits_are n (omega arith))

-- ---- digit by digit

-- the value of the first i digits, with the rest still to be read
pub record Read (ds : List ℕ) (i v : ℕ) : Type 0 where
  pub left : every digit (drop i ds) ≡ true
  pub so_far : read_on v (drop i ds) ≡ read_on 0 ds
  pub below : v < 10 ^ i
