-- A bound is its two parts with two full stops between them, and no word is two of a name, a number and a bound. Assumes nothing.
use Rattle.std.proofs.Common.{◌≡◌, ℕ, suc, ◌≤◌, Bool, true, false, ◌&&◌, eqb, leb, List, [], ◌∷◌, ◌++◌, length, get_or, take, drop, Some, None, Option, sym, refl, ap, ◌∙◌, arith}
use Rattle.std.proofs.lemmas.List.{take-append-drop, take_at, drop_at}
use Rattle.std.proofs.lemmas.Bool.{and_parts, and_from, le-leb, leb-true, eqb-true, cond-true, both_ways}
use Rattle.std.specs.List.{prefix_len}
use Rattle.texts.specs.Numbers.{every, digit, numeral}
use Rattle.texts.specs.Lines.{letter}
use Rattle.texts.specs.Bounds.{after_stops, numeral_or_none, bound_with, bound_of}
use Rattle.texts.specs.Tokens.{name_word}
use Rattle.texts.proofs.Lists.{leading-yes, leading-no, some-under, never-some}
use Rattle.texts.proofs.Values.{numeral-says}

-- ---- the parts of a bound

stops-are : (w b : List ℕ) → after_stops w ≡ Some b → w ≡ 46 ∷ (46 ∷ b)
stops-are [] b e = never-some b e
stops-are (c ∷ []) b e = never-some b e
stops-are (c ∷ (d ∷ w)) b e =
    let is = some-under (leb 2 (length (c ∷ (d ∷ w))) && (eqb c 46 && eqb d 46)) w b e in
    let tests = and_parts (leb 2 (length (c ∷ (d ∷ w)))) _ is.0 in
    let stops = and_parts (eqb c 46) _ tests.1 in
    λ i. eqb-true c 46 stops.0 i ∷ (eqb-true d 46 stops.1 i ∷ is.1 i)

pub after-two-stops : (b : List ℕ) → after_stops (46 ∷ (46 ∷ b)) ≡ Some b
after-two-stops b = cond-true _ _ _ (and_from _ _ (le-leb 2 (suc (suc (length b))) (omega arith)) refl)

-- what a word that is a bound is made of
pub record BoundParts (w first second : List ℕ) : Type 0 where
  pub whole : w ≡ first ++ (46 ∷ (46 ∷ second))
  pub low : numeral first ≡ true
  pub high : numeral_or_none second ≡ true

bound-with : (w first second : List ℕ) (front back : List ℕ) (o : Option (List ℕ)) → w ≡ front ++ back → o ≡ after_stops back
    → bound_with front o ≡ Some (first, second) → BoundParts w first second
bound-with w first second front back None whole stops e = never-some (first, second) e
bound-with w first second front back (Some rest) whole stops e =
    let is = some-under (numeral front && numeral_or_none rest) (front, rest) (first, second) e in
    let tests = and_parts (numeral front) _ is.0 in
    let low : front ≡ first = ap (λ p. p.0) is.1 in
    let high : rest ≡ second = ap (λ p. p.1) is.1 in
    record {
      whole = whole ∙ (λ i. low i ++ (stops-are back rest (sym stops) ∙ ap (λ s. 46 ∷ (46 ∷ s)) high) i);
      low = ap numeral (sym low) ∙ tests.0;
      high = ap numeral_or_none (sym high) ∙ tests.1;
    }

pub bound-is : (w first second : List ℕ) → bound_of w ≡ Some (first, second) → BoundParts w first second
bound-is w first second e =
    bound-with w first second (take (prefix_len digit w) w) (drop (prefix_len digit w) w) _ (sym (take-append-drop (prefix_len digit w) w)) refl e

-- digits end at a byte that is none
leading-all : (a : List ℕ) (c : ℕ) (t : List ℕ) → every digit a ≡ true → digit c ≡ false → prefix_len digit (a ++ (c ∷ t)) ≡ length a
leading-all [] c t all no' = leading-no digit c t no'
leading-all (d ∷ a) c t all no' =
    let both = and_parts (digit d) _ all in
    leading-yes digit d (a ++ (c ∷ t)) both.0 ∙ ap suc (leading-all a c t both.1 no')

pub bound-from : (first second : List ℕ) → numeral first ≡ true → numeral_or_none second ≡ true → bound_of (first ++ (46 ∷ (46 ∷ second))) ≡ Some (first, second)
bound-from first second low high =
    let w : List ℕ = first ++ (46 ∷ (46 ∷ second)) in
    let long : prefix_len digit w ≡ length first = leading-all first 46 (46 ∷ second) (numeral-says first low).digits refl in
    let front : take (prefix_len digit w) w ≡ first = ap (λ n. take n w) long ∙ take_at first (46 ∷ (46 ∷ second)) (length first) refl in
    let back : drop (prefix_len digit w) w ≡ 46 ∷ (46 ∷ second) = ap (λ n. drop n w) long ∙ drop_at first (46 ∷ (46 ∷ second)) (length first) refl in
    (λ i. bound_with (front i) (after_stops (back i)))
    ∙ ap (bound_with first) (after-two-stops second)
    ∙ cond-true _ _ _ (and_from _ _ low high)

-- ---- no word is two of them

letter-no-digit : (b : ℕ) → letter b ≡ true → digit b ≡ true → ⊥
letter-no-digit b l d =
    let from = and_parts (leb 97 b) _ l in
    let to = and_parts (leb 48 b) _ d in
    omega (arith, leb-true 97 b from.0, leb-true b 57 to.1)

first-every : (f : ℕ → Bool) (w : List ℕ) → 1 ≤ length w → every f w ≡ true → f (get_or w 0 0) ≡ true
first-every f [] some all = absurd (omega arith)
first-every f (b ∷ w) some all = (and_parts (f b) _ all).0

name-begins : (w : List ℕ) → name_word w ≡ true → letter (get_or w 0 0) ≡ true
name-begins w h = let both = and_parts (leb 1 (length w)) _ h in first-every letter w (leb-true 1 _ both.0) both.1

numeral-begins : (w : List ℕ) → numeral w ≡ true → digit (get_or w 0 0) ≡ true
numeral-begins w h = let says = numeral-says w h in first-every digit w says.least says.digits

first-of-append : (a t : List ℕ) → 1 ≤ length a → get_or (a ++ t) 0 0 ≡ get_or a 0 0
first-of-append [] t some = absurd (omega arith)
first-of-append (b ∷ a) t some = refl

every-after : (a t : List ℕ) → every digit (a ++ t) ≡ true → every digit t ≡ true
every-after [] t all = all
every-after (b ∷ a) t all = every-after a t (and_parts (digit b) _ all).1

pub name-is-no-number : (w : List ℕ) → name_word w ≡ true → numeral w ≡ true → ⊥
name-is-no-number w n d = letter-no-digit (get_or w 0 0) (name-begins w n) (numeral-begins w d)

pub name-is-no-bound : (w first second : List ℕ) → name_word w ≡ true → bound_of w ≡ Some (first, second) → ⊥
name-is-no-bound w first second n e =
    let b = bound-is w first second e in
    let begins : get_or w 0 0 ≡ get_or first 0 0 =
    ap (λ v. get_or v 0 0) b.whole ∙ first-of-append first (46 ∷ (46 ∷ second)) (numeral-says first b.low).least in
    letter-no-digit (get_or w 0 0) (name-begins w n) (ap digit begins ∙ numeral-begins first b.low)

pub number-is-no-bound : (w first second : List ℕ) → numeral w ≡ true → bound_of w ≡ Some (first, second) → ⊥
number-is-no-bound w first second d e =
    let b = bound-is w first second e in
    both_ways false refl (every-after first (46 ∷ (46 ∷ second)) (ap (every digit) (sym b.whole) ∙ (numeral-says w d).digits))
