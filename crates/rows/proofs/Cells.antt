-- A word gives a cell of its column exactly when it is how the cell is written. Assumes nothing.
use Rattle.std.proofs.Common.{◌≡◌, ℕ, ◌+◌, ◌^◌, ◌<◌, ◌≤◌, Bool, true, false, cond, ◌&&◌, ◌||◌, eqb, leb, List, [], ◌∷◌, ◌++◌, length, get_or, Some, None, Ok, Err, codes, decimal, Option, sym, refl, ap, ◌∙◌, subst, ⊎_elim, arith}
use Rattle.std.proofs.lemmas.List.{nil_from_length}
use Rattle.std.proofs.lemmas.Bool.{and_parts, and_from, or_cases, cond-true, cond-false, le-leb, leb-true, eqb-true, ne_eqb, both_ways, false≢true}
use Rattle.std.specs.Str.{bytes_eq}
use Rattle.meaning.specs.declared.values.Bound.{Bound}
use Rattle.meaning.specs.declared.values.Bound.TheVariants.{Any, Never, AtLeast, Between}
use Rattle.texts.specs.Numbers.{number, numeral, read_on}
use Rattle.texts.specs.Bounds.{bound_of}
use Rattle.texts.proofs.Lists.{some-under}
use Rattle.texts.proofs.Shapes.{bound-is, bound-from}
use Rattle.texts.proofs.Values.{numeral-says, numeral-is-decimal, number-is-decimal, number-of-decimal}
use Rattle.clocks.specs.Search.{first_of}
use Rattle.tables.specs.Lawful.{different, lawful_bound}
use Rattle.rows.specs.declared.cell.Cell.{Cell}
use Rattle.rows.specs.declared.cell.Cell.TheVariants.{Number, Absent, Flag, Event, Bounded}
use Rattle.rows.specs.declared.cell.Column.{Column}
use Rattle.rows.specs.declared.cell.Column.TheVariants.{Within, NotBelow, YesOrNo, EventName, Limit, NumberOrNone}
use Rattle.rows.specs.declared.cell.WordFault.TheVariants.{Misfit, OutOfRange}
use Rattle.rows.specs.Rows.{numbered, ranged, bounded, named, cell_of, cell_word, suits}
use Rattle.meaning.specs.Writing.{bound_word}
use Rattle.rows.proofs.Outcomes.{never-ok, same-from-ok, ok-under}
use Rattle.rows.proofs.Sought.{same_word, other_word, name-found, found-by-name}

-- the cell is written so, and the column takes it
abbrev pub Written : Column → List (List ℕ) → ℕ → List ℕ → Cell → Type 0
Written c names before w cell = (w ≡ cell_word names cell) × (suits c names before cell ≡ true)

-- ---- from the word to the cell

-- the column takes the numbers of a range
abbrev Ranges : Column → List (List ℕ) → ℕ → ℕ → ℕ → Type 0
Ranges c names before least most = (n : ℕ) → suits c names before (Number n) ≡ ((leb least n && leb n most) && leb n 9999999999)

number-is-written : (c : Column) (names : List (List ℕ)) (before least most : ℕ) (w : List ℕ) (o : Option ℕ) (cell : Cell) → Ranges c names before least most → number w ≡ o
    → numbered o (ranged least most) ≡ Ok cell → Written c names before w cell
number-is-written c names before least most w None cell range is h = never-ok Misfit cell h
number-is-written c names before least most w (Some n) cell range is h =
    let fits = ok-under (leb least n && leb n most) (Number n) cell OutOfRange h in
    let says = number-is-decimal w n is in
    subst (Written c names before w) fits.1 (says.0, range n ∙ and_from _ _ fits.0 (le-leb n 9999999999 (omega (arith, says.1))))

flag-is-written : (names : List (List ℕ)) (before : ℕ) (w : List ℕ) (a b : Bool) (cell : Cell) → bytes_eq w (codes "yes") ≡ a → bytes_eq w (codes "no") ≡ b
    → cond a (Ok (Flag true)) (cond b (Ok (Flag false)) (Err Misfit)) ≡ Ok cell → Written YesOrNo names before w cell
flag-is-written names before w true b cell is-yes is-no h = subst (Written YesOrNo names before w) (same-from-ok _ cell h) (same_word w _ is-yes, refl)
flag-is-written names before w false true cell is-yes is-no h = subst (Written YesOrNo names before w) (same-from-ok _ cell h) (same_word w _ is-no, refl)
flag-is-written names before w false false cell is-yes is-no h = never-ok Misfit cell h

event-is-written : (names : List (List ℕ)) (before : ℕ) (w : List ℕ) (o : Option ℕ) (cell : Cell) → first_of (λ name. bytes_eq name w) names ≡ o → named o ≡ Ok cell
    → Written EventName names before w cell
event-is-written names before w None cell is h = never-ok Misfit cell h
event-is-written names before w (Some i) cell is h =
    let found = name-found names w i is in
    subst (Written EventName names before w) (same-from-ok _ cell h) (found.0, le-leb (i + 1) (length names) (omega (arith, found.1)))

module _ (names : List (List ℕ)) (before : ℕ) (w first second : List ℕ) (cell : Cell) (is : bound_of w ≡ Some (first, second)) where
  abbrev low : ℕ
  low = read_on 0 first

  abbrev high : ℕ
  high = read_on 0 second

  first-is : first ≡ decimal low
  first-is = sym (numeral-is-decimal first (numeral-says first (bound-is w first second is).low))

  open-is-written : eqb (length second) 0 ≡ true → cond (leb low 250) (Ok (Bounded (AtLeast low))) (Err OutOfRange) ≡ Ok cell → Written Limit names before w cell
  open-is-written none h =
      let fits = ok-under (leb low 250) (Bounded (AtLeast low)) cell OutOfRange h in
      let end : second ≡ [] = nil_from_length second (eqb-true _ 0 none) in
      subst (Written Limit names before w) fits.1 ((bound-is w first second is).whole ∙ (λ i. first-is i ++ (46 ∷ (46 ∷ end i))), fits.0)

  second_is : eqb (length second) 0 ≡ false → second ≡ decimal high
  second_is some = ⊎_elim
      (λ none. absurd (both_ways _ some none))
      (λ n. sym (numeral-is-decimal second (numeral-says second n)))
      (or_cases (eqb (length second) 0) (numeral second) (bound-is w first second is).high)

  closed-is-written : eqb (length second) 0 ≡ false → cond (leb low high && leb high 250) (Ok (Bounded (Between low high))) (Err OutOfRange) ≡ Ok cell → Written Limit names before w cell
  closed-is-written some h =
      let fits = ok-under (leb low high && leb high 250) (Bounded (Between low high)) cell OutOfRange h in
      subst (Written Limit names before w) fits.1 ((bound-is w first second is).whole ∙ (λ i. first-is i ++ (46 ∷ (46 ∷ second_is some i))), fits.0)

  parts-are-written : (none : Bool) → eqb (length second) 0 ≡ none
      → cond none (cond (leb low 250) (Ok (Bounded (AtLeast low))) (Err OutOfRange)) (cond (leb low high && leb high 250) (Ok (Bounded (Between low high))) (Err OutOfRange)) ≡ Ok cell
      → Written Limit names before w cell
  parts-are-written true none h = open-is-written none h
  parts-are-written false some h = closed-is-written some h

bound-is-written : (names : List (List ℕ)) (before : ℕ) (w : List ℕ) (o : Option (List ℕ × List ℕ)) (cell : Cell) → bound_of w ≡ o → bounded o ≡ Ok cell
    → Written Limit names before w cell
bound-is-written names before w None cell is h = never-ok Misfit cell h
bound-is-written names before w (Some parts) cell is h = parts-are-written names before w parts.0 parts.1 cell is _ refl h

limit-is-written : (names : List (List ℕ)) (before : ℕ) (w : List ℕ) (a b : Bool) (cell : Cell) → bytes_eq w (codes "any") ≡ a → bytes_eq w (codes "none") ≡ b
    → cond a (Ok (Bounded Any)) (cond b (Ok (Bounded Never)) (bounded (bound_of w))) ≡ Ok cell → Written Limit names before w cell
limit-is-written names before w true b cell is_any is_none h = subst (Written Limit names before w) (same-from-ok _ cell h) (same_word w _ is_any, refl)
limit-is-written names before w false true cell is_any is_none h = subst (Written Limit names before w) (same-from-ok _ cell h) (same_word w _ is_none, refl)
limit-is-written names before w false false cell is_any is_none h = bound-is-written names before w (bound_of w) cell refl h

claim-is-written : (names : List (List ℕ)) (before : ℕ) (w : List ℕ) (none : Bool) (o : Option ℕ) (cell : Cell) → bytes_eq w (codes "none") ≡ none → number w ≡ o
    → cond none (Ok Absent) (numbered o (λ n. Ok (Number n))) ≡ Ok cell → Written NumberOrNone names before w cell
claim-is-written names before w true o cell is_none is h = subst (Written NumberOrNone names before w) (same-from-ok _ cell h) (same_word w _ is_none, refl)
claim-is-written names before w false None cell is_none is h = never-ok Misfit cell h
claim-is-written names before w false (Some n) cell is_none is h =
    let says = number-is-decimal w n is in
    subst (Written NumberOrNone names before w) (same-from-ok _ cell h) (says.0, le-leb n 9999999999 (omega (arith, says.1)))

pub cell-is-written : (c : Column) (names : List (List ℕ)) (before : ℕ) (w : List ℕ) (cell : Cell) → cell_of c names before w ≡ Ok cell
    → (w ≡ cell_word names cell) × (suits c names before cell ≡ true)
cell-is-written (Within least most) names before w cell h = number-is-written (Within least most) names before least most w _ cell (λ n. refl) refl h
cell-is-written (NotBelow most) names before w cell h = number-is-written (NotBelow most) names before before most w _ cell (λ n. refl) refl h
cell-is-written YesOrNo names before w cell h = flag-is-written names before w _ _ cell refl refl h
cell-is-written EventName names before w cell h = event-is-written names before w _ cell refl h
cell-is-written Limit names before w cell h = limit-is-written names before w _ _ cell refl refl h
cell-is-written NumberOrNone names before w cell h = claim-is-written names before w _ _ cell refl refl h

-- ---- from the cell to the word

writable : (n : ℕ) → leb n 9999999999 ≡ true → n < 10 ^ 10
writable n h = omega (arith, leb-true n 9999999999 h)

written-number-is : (least most n : ℕ) → ((leb least n && leb n most) && leb n 9999999999) ≡ true → numbered (number (decimal n)) (ranged least most) ≡ Ok (Number n)
written-number-is least most n h =
    let both = and_parts (leb least n && leb n most) _ h in
    ap (λ o. numbered o (ranged least most)) (number-of-decimal n (writable n both.1)) ∙ cond-true _ _ _ both.0

record Decimal (n : ℕ) : Type 0 where
  is-numeral : numeral (decimal n) ≡ true
  value : read_on 0 (decimal n) ≡ n

decimal-reads-back : (n : ℕ) → n ≤ 250 → Decimal n
decimal-reads-back n h =
    let is = some-under (numeral (decimal n)) (read_on 0 (decimal n)) n (number-of-decimal n (omega arith)) in
    record { is-numeral = is.0; value = is.1 }

-- a bound is no word of letters
bound-in-limit : (names : List (List ℕ)) (before : ℕ) (w : List ℕ) (parts : List ℕ × List ℕ) → bound_of w ≡ Some parts → cell_of Limit names before w ≡ bounded (Some parts)
bound-in-limit names before w parts is =
    cond-false _ _ _ (other_word bound_of (codes "any") w parts is refl)
    ∙ cond-false _ _ _ (other_word bound_of (codes "none") w parts is refl)
    ∙ ap bounded is

written-open-is : (names : List (List ℕ)) (before a : ℕ) → leb a 250 ≡ true → cell_of Limit names before (decimal a ++ codes "..") ≡ Ok (Bounded (AtLeast a))
written-open-is names before a h =
    let low = decimal-reads-back a (leb-true a 250 h) in
    bound-in-limit names before (decimal a ++ codes "..") (decimal a, []) (bound-from (decimal a) [] low.is-numeral refl)
    ∙ ap (λ n. cond (leb n 250) (Ok (Bounded (AtLeast n))) (Err OutOfRange)) low.value
    ∙ cond-true _ _ _ h

written-closed-is : (names : List (List ℕ)) (before a b : ℕ) → (leb a b && leb b 250) ≡ true → cell_of Limit names before (decimal a ++ (codes ".." ++ decimal b)) ≡ Ok (Bounded (Between a b))
written-closed-is names before a b h =
    let both = and_parts (leb a b) _ h in
    let most : b ≤ 250 = leb-true b 250 both.1 in
    let low = decimal-reads-back a (omega (arith, leb-true a b both.0, most)) in
    let high = decimal-reads-back b most in
    let some = numeral-says (decimal b) high.is-numeral in
    let long : eqb (length (decimal b)) 0 ≡ false = ne_eqb (length (decimal b)) 0 (λ e. omega (arith, e, some.least)) in
    bound-in-limit names before (decimal a ++ (codes ".." ++ decimal b)) (decimal a, decimal b)
    (bound-from (decimal a) (decimal b) low.is-numeral (ap (λ t. t || numeral (decimal b)) long ∙ high.is-numeral))
    ∙ cond-false _ _ _ long
    ∙ (λ i. cond (leb (low.value i) (high.value i) && leb (high.value i) 250) (Ok (Bounded (Between (low.value i) (high.value i)))) (Err OutOfRange))
    ∙ cond-true _ _ _ h

written-limit-is : (names : List (List ℕ)) (before : ℕ) (b : Bound) → lawful_bound b ≡ true → cell_of Limit names before (bound_word b) ≡ Ok (Bounded b)
written-limit-is names before Any h = refl
written-limit-is names before Never h = refl
written-limit-is names before (AtLeast a) h = written-open-is names before a h
written-limit-is names before (Between a b) h = written-closed-is names before a b h

written-claim-is : (names : List (List ℕ)) (before n : ℕ) → leb n 9999999999 ≡ true → cell_of NumberOrNone names before (decimal n) ≡ Ok (Number n)
written-claim-is names before n h =
    let is = number-of-decimal n (writable n h) in
    cond-false _ _ _ (other_word number (codes "none") (decimal n) n is refl) ∙ ap (λ o. numbered o (λ m. Ok (Number m))) is

written-flag-is : (names : List (List ℕ)) (before : ℕ) (b : Bool) → cell_of YesOrNo names before (cell_word names (Flag b)) ≡ Ok (Flag b)
written-flag-is names before true = refl
written-flag-is names before false = refl

written-event-is : (names : List (List ℕ)) (before i : ℕ) → different names ≡ true → leb (i + 1) (length names) ≡ true → cell_of EventName names before (get_or names i []) ≡ Ok (Event i)
written-event-is names before i d h = ap named (found-by-name names i d (omega (arith, leb-true (i + 1) (length names) h)))

pub written-cell-is : (c : Column) (names : List (List ℕ)) (before : ℕ) (cell : Cell) → different names ≡ true → suits c names before cell ≡ true
    → cell_of c names before (cell_word names cell) ≡ Ok cell
written-cell-is (Within least most) names before (Number n) d h = written-number-is least most n h
written-cell-is (Within least most) names before Absent d h = absurd (false≢true h)
written-cell-is (Within least most) names before (Flag b) d h = absurd (false≢true h)
written-cell-is (Within least most) names before (Event i) d h = absurd (false≢true h)
written-cell-is (Within least most) names before (Bounded b) d h = absurd (false≢true h)
written-cell-is (NotBelow most) names before (Number n) d h = written-number-is before most n h
written-cell-is (NotBelow most) names before Absent d h = absurd (false≢true h)
written-cell-is (NotBelow most) names before (Flag b) d h = absurd (false≢true h)
written-cell-is (NotBelow most) names before (Event i) d h = absurd (false≢true h)
written-cell-is (NotBelow most) names before (Bounded b) d h = absurd (false≢true h)
written-cell-is YesOrNo names before (Number n) d h = absurd (false≢true h)
written-cell-is YesOrNo names before Absent d h = absurd (false≢true h)
written-cell-is YesOrNo names before (Flag b) d h = written-flag-is names before b
written-cell-is YesOrNo names before (Event i) d h = absurd (false≢true h)
written-cell-is YesOrNo names before (Bounded b) d h = absurd (false≢true h)
written-cell-is EventName names before (Number n) d h = absurd (false≢true h)
written-cell-is EventName names before Absent d h = absurd (false≢true h)
written-cell-is EventName names before (Flag b) d h = absurd (false≢true h)
written-cell-is EventName names before (Event i) d h = written-event-is names before i d h
written-cell-is EventName names before (Bounded b) d h = absurd (false≢true h)
written-cell-is Limit names before (Number n) d h = absurd (false≢true h)
written-cell-is Limit names before Absent d h = absurd (false≢true h)
written-cell-is Limit names before (Flag b) d h = absurd (false≢true h)
written-cell-is Limit names before (Event i) d h = absurd (false≢true h)
written-cell-is Limit names before (Bounded b) d h = written-limit-is names before b h
written-cell-is NumberOrNone names before (Number n) d h = written-claim-is names before n h
written-cell-is NumberOrNone names before Absent d h = refl
written-cell-is NumberOrNone names before (Flag b) d h = absurd (false≢true h)
written-cell-is NumberOrNone names before (Event i) d h = absurd (false≢true h)
written-cell-is NumberOrNone names before (Bounded b) d h = absurd (false≢true h)
