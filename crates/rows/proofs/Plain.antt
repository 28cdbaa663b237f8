-- Every word of a row is plain: it has a byte, and none but letters, digits and full stops. Assumes nothing.
use Rattle.std.proofs.Common.{◌≡◌, ℕ, zero, suc, ◌+◌, ◌<◌, ◌≤◌, Bool, true, false, not, ◌&&◌, ◌||◌, eqb, leb, List, [], ◌∷◌, ◌++◌, length, get_or, codes, decimal, refl, ⊎_elim, arith}
use Rattle.std.proofs.lemmas.Fmt.{length-decimal-le}
use Rattle.std.proofs.lemmas.List.{length-append}
use Rattle.std.proofs.lemmas.Bool.{and_parts, and_from, or_cases, or_left, or_right, leb-true, ne_eqb, not_from_false, eqb-true, false≢true}
use Rattle.meaning.specs.declared.values.Bound.{Bound}
use Rattle.meaning.specs.declared.values.Bound.TheVariants.{Any, Never, AtLeast, Between}
use Rattle.texts.specs.Numbers.{every, digit, numeral, read_on}
use Rattle.texts.specs.Lines.{letter, allowed, lacks, filled}
use Rattle.texts.specs.Tokens.{name_word}
use Rattle.texts.proofs.Lists.{some-under}
use Rattle.texts.proofs.Values.{numeral-says, number-of-decimal}
use Rattle.clocks.specs.Letters.{lawful_name}
use Rattle.tables.specs.Lawful.{lawful_bound}
use Rattle.rows.specs.declared.cell.Cell.{Cell}
use Rattle.rows.specs.declared.cell.Cell.TheVariants.{Number, Absent, Flag, Event, Bounded}
use Rattle.rows.specs.declared.cell.Column.{Column}
use Rattle.rows.specs.declared.cell.Column.TheVariants.{Within, NotBelow, YesOrNo, EventName, Limit, NumberOrNone}
use Rattle.meaning.specs.Writing.{bound_word}
use Rattle.rows.specs.Rows.{cell_word, suits}

-- ---- bytes

-- a letter, a digit or a full stop
abbrev pub inked : ℕ → Bool
inked b = letter b || (digit b || eqb b 46)

ink-from : (b : ℕ) → inked b ≡ true → 46 ≤ b
ink-from b h = ⊎_elim
    (λ l. omega (arith, leb-true 97 b (and_parts (leb 97 b) _ l).0))
    (λ rest. ⊎_elim
    (λ d. omega (arith, leb-true 48 b (and_parts (leb 48 b) _ d).0))
    (λ stop. omega (arith, eqb-true b 46 stop))
    (or_cases (digit b) _ rest))
    (or_cases (letter b) _ h)

ink-is-no : (c b : ℕ) → c < 46 → inked b ≡ true → not (eqb b c) ≡ true
ink-is-no c b low h = not_from_false _ (ne_eqb b c (λ e. omega (arith, e, ink-from b h)))

ink-is-allowed : (b : ℕ) → inked b ≡ true → allowed b ≡ true
ink-is-allowed b h = ⊎_elim
    (λ l. or_left (letter b) _ l)
    (λ rest. or_right (letter b) _ (⊎_elim
    (λ d. or_left (digit b) _ d)
    (λ stop. or_right (digit b) _ (or_left (eqb b 46) _ stop))
    (or_cases (digit b) _ rest)))
    (or_cases (letter b) _ h)

-- ---- lists

every-weaker : {X : Type 0} (f g : X → Bool) → ((x : X) → f x ≡ true → g x ≡ true) → (xs : List X) → every f xs ≡ true → every g xs ≡ true
every-weaker f g weaker [] h = refl
every-weaker f g weaker (x ∷ xs) h =
    let both = and_parts (f x) _ h in
    and_from _ _ (weaker x both.0) (every-weaker f g weaker xs both.1)

pub every_append : {X : Type 0} (f : X → Bool) (xs ys : List X) → every f xs ≡ true → every f ys ≡ true → every f (xs ++ ys) ≡ true
every_append f [] ys h k = k
every_append f (x ∷ xs) ys h k =
    let both = and_parts (f x) _ h in
    and_from _ _ both.0 (every_append f xs ys both.1 k)

every-at : {X : Type 0} (f : X → Bool) (xs : List X) (i : ℕ) (d : X) → every f xs ≡ true → i < length xs → f (get_or xs i d) ≡ true
every-at f [] i d h within = absurd (omega arith)
every-at f (x ∷ xs) zero d h within = (and_parts (f x) _ h).0
every-at f (x ∷ xs) (suc i) d h within = every-at f xs i d (and_parts (f x) _ h).1 (omega arith)

filled-from : (w : List ℕ) → 1 ≤ length w → filled w ≡ true
filled-from [] h = absurd (omega arith)
filled-from (b ∷ w) h = refl

filled-append : (v w : List ℕ) → filled v ≡ true → filled (v ++ w) ≡ true
filled-append [] w h = absurd (false≢true h)
filled-append (b ∷ v) w h = refl

-- ---- words

pub record Plain (w : List ℕ) : Type 0 where
  pub some : filled w ≡ true
  pub ink : every inked w ≡ true
  pub short : length w ≤ 12

pub plain-lacks : (c : ℕ) → c < 46 → (w : List ℕ) → Plain w → lacks c w ≡ true
plain-lacks c low w h = every-weaker inked (λ b. not (eqb b c)) (λ b. ink-is-no c b low) w h.ink

pub plain-is-allowed : (w : List ℕ) → Plain w → every allowed w ≡ true
plain-is-allowed w h = every-weaker inked allowed ink-is-allowed w h.ink

plain-append : (v w : List ℕ) → Plain v → every inked w ≡ true → length v + length w ≤ 12 → Plain (v ++ w)
plain-append v w h k few =
    record { some = filled-append v w h.some; ink = every_append inked v w h.ink k; short = omega (arith, length-append v w) }

number-is-plain : (n : ℕ) → n ≤ 9999999999 → Plain (decimal n)
number-is-plain n h =
    let says = numeral-says (decimal n) (some-under (numeral (decimal n)) (read_on 0 (decimal n)) n (number-of-decimal n (omega arith))).0 in
    record { some = filled-from (decimal n) says.least; ink = every-weaker digit inked (λ b d. or_right (letter b) _ (or_left (digit b) _ d)) (decimal n) says.digits; short = omega (arith, says.most) }

pub name-is-plain : (w : List ℕ) → lawful_name w ≡ true → Plain w
name-is-plain w h =
    let both = and_parts (leb 1 (length w)) _ (and_parts (name_word w) _ h).0 in
    record { some = filled-from w (leb-true 1 (length w) both.0); ink = every-weaker letter inked (λ b l. or_left (letter b) _ l) w both.1; short = leb-true (length w) 12 (and_parts (name_word w) _ h).1 }

three-digits : (n : ℕ) → n ≤ 250 → length (decimal n) ≤ 3
three-digits n h = length-decimal-le 3 n (omega arith) (omega arith) (omega arith)

bound-is-plain : (b : Bound) → lawful_bound b ≡ true → Plain (bound_word b)
bound-is-plain Any h = record { some = refl; ink = refl; short = omega arith }
bound-is-plain Never h = record { some = refl; ink = refl; short = omega arith }
bound-is-plain (AtLeast a) h = plain-append (decimal a) (codes "..") (number-is-plain a (omega (arith, leb-true a 250 h))) refl (omega (arith, three-digits a (leb-true a 250 h)))
bound-is-plain (Between a b) h =
    let both = and_parts (leb a b) _ h in
    let most : b ≤ 250 = leb-true b 250 both.1 in
    plain-append (decimal a) (codes ".." ++ decimal b) (number-is-plain a (omega (arith, leb-true a b both.0))) (number-is-plain b (omega arith)).ink
    (omega (arith, three-digits a (omega (arith, leb-true a b both.0)), three-digits b most))

flag-is-plain : (names : List (List ℕ)) (b : Bool) → Plain (cell_word names (Flag b))
flag-is-plain names true = record { some = refl; ink = refl; short = omega arith }
flag-is-plain names false = record { some = refl; ink = refl; short = omega arith }

in-range : (a : Bool) (n : ℕ) → (a && leb n 9999999999) ≡ true → n ≤ 9999999999
in-range a n h = leb-true n 9999999999 (and_parts a _ h).1

pub cell-word-is-plain : (c : Column) (names : List (List ℕ)) (before : ℕ) (cell : Cell) → every lawful_name names ≡ true → suits c names before cell ≡ true → Plain (cell_word names cell)
cell-word-is-plain (Within least most) names before (Number n) l h = number-is-plain n (in-range _ n h)
cell-word-is-plain (Within least most) names before Absent l h = absurd (false≢true h)
cell-word-is-plain (Within least most) names before (Flag b) l h = absurd (false≢true h)
cell-word-is-plain (Within least most) names before (Event i) l h = absurd (false≢true h)
cell-word-is-plain (Within least most) names before (Bounded b) l h = absurd (false≢true h)
cell-word-is-plain (NotBelow most) names before (Number n) l h = number-is-plain n (in-range _ n h)
cell-word-is-plain (NotBelow most) names before Absent l h = absurd (false≢true h)
cell-word-is-plain (NotBelow most) names before (Flag b) l h = absurd (false≢true h)
cell-word-is-plain (NotBelow most) names before (Event i) l h = absurd (false≢true h)
cell-word-is-plain (NotBelow most) names before (Bounded b) l h = absurd (false≢true h)
cell-word-is-plain YesOrNo names before (Number n) l h = absurd (false≢true h)
cell-word-is-plain YesOrNo names before Absent l h = absurd (false≢true h)
cell-word-is-plain YesOrNo names before (Flag b) l h = flag-is-plain names b
cell-word-is-plain YesOrNo names before (Event i) l h = absurd (false≢true h)
cell-word-is-plain YesOrNo names before (Bounded b) l h = absurd (false≢true h)
cell-word-is-plain EventName names before (Number n) l h = absurd (false≢true h)
cell-word-is-plain EventName names before Absent l h = absurd (false≢true h)
cell-word-is-plain EventName names before (Flag b) l h = absurd (false≢true h)
cell-word-is-plain EventName names before (Event i) l h =
    name-is-plain (get_or names i []) (every-at lawful_name names i [] l (omega (arith, leb-true (i + 1) (length names) h)))
cell-word-is-plain EventName names before (Bounded b) l h = absurd (false≢true h)
cell-word-is-plain Limit names before (Number n) l h = absurd (false≢true h)
cell-word-is-plain Limit names before Absent l h = absurd (false≢true h)
cell-word-is-plain Limit names before (Flag b) l h = absurd (false≢true h)
cell-word-is-plain Limit names before (Event i) l h = absurd (false≢true h)
cell-word-is-plain Limit names before (Bounded b) l h = bound-is-plain b h
cell-word-is-plain NumberOrNone names before (Number n) l h = number-is-plain n (leb-true n 9999999999 h)
cell-word-is-plain NumberOrNone names before Absent l h = record { some = refl; ink = refl; short = omega arith }
cell-word-is-plain NumberOrNone names before (Flag b) l h = absurd (false≢true h)
cell-word-is-plain NumberOrNone names before (Event i) l h = absurd (false≢true h)
cell-word-is-plain NumberOrNone names before (Bounded b) l h = absurd (false≢true h)
