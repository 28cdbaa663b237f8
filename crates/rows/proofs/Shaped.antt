-- A word gives in a column what its token gives. Assumes nothing.
use Rattle.std.proofs.Common.{◌≡◌, ℕ, Bool, true, false, cond, eqb, List, length, Some, None, Ok, Err, codes, Option, Result, refl, ap, ◌∙◌, ⊎_elim, arith}
use Rattle.std.proofs.lemmas.Bool.{false_from_ne_true, cases_Bool, cond-true, cond-false, or_cases, both_ways}
use Rattle.std.specs.Str.{bytes_eq}
use Rattle.texts.specs.Numbers.{numeral, number, read_on}
use Rattle.texts.specs.Bounds.{bound_of, numeral_or_none}
use Rattle.texts.specs.Tokens.{Piece, a_name, a_number, a_bound, an_other, name_word, bound_or, token_of}
use Rattle.texts.proofs.Shapes.{bound-is, name-is-no-number, name-is-no-bound, number-is-no-bound}
use Rattle.rows.specs.declared.cell.Cell.{Cell}
use Rattle.rows.specs.declared.cell.Cell.TheVariants.{Number}
use Rattle.rows.specs.declared.cell.Column.{Column}
use Rattle.rows.specs.declared.cell.Column.TheVariants.{Within, NotBelow, YesOrNo, EventName, Limit, NumberOrNone}
use Rattle.rows.specs.declared.cell.WordFault.{WordFault}
use Rattle.rows.specs.declared.cell.WordFault.TheVariants.{Misfit}
use Rattle.rows.specs.Rows.{numbered, ranged, bounded, cell_of}
use Rattle.rows.specs.Pieces.{limit_from, limit_between, limit_of_parts, cell_from_token}
use Rattle.rows.proofs.Sought.{same_word}

none_from : {X : Type 0} (o : Option X) → ((x : X) → o ≡ Some x → ⊥) → o ≡ None
none_from o never = grind arith

-- ---- shapes

-- a word that is no name is not this name
no-such-name : (w v : List ℕ) → name_word w ≡ false → name_word v ≡ true → bytes_eq w v ≡ false
no-such-name w v other is = false_from_ne_true _ (λ same. both_ways _ other (ap name_word (same_word w v same) ∙ is))

no-number-from : (w : List ℕ) → numeral w ≡ false → number w ≡ None
no-number-from w h = cond-false _ _ _ h

module _ (names : List (List ℕ)) (before : ℕ) (w : List ℕ) (other : name_word w ≡ false) where
  no_flag : Err Misfit ≡ cell_of YesOrNo names before w
  no_flag = simp (no-such-name w (codes "yes") other refl, no-such-name w (codes "no") other refl)

  limit-by-parts : (o : Option (List ℕ × List ℕ)) → bound_of w ≡ o → bounded o ≡ cell_of Limit names before w
  limit-by-parts o is =
      simp (is, no-such-name w (codes "any") other refl, no-such-name w (codes "none") other refl)

  claim-by-number : (o : Option ℕ) → number w ≡ o → numbered o (λ n. Ok (Number n)) ≡ cell_of NumberOrNone names before w
  claim-by-number o is = simp (is, no-such-name w (codes "none") other refl)

misfit : (f : ℕ → Result Cell WordFault) (w : List ℕ) → number w ≡ None → Err Misfit ≡ numbered (number w) f
misfit f w none = simp none

by_name : (c : Column) (names : List (List ℕ)) (before : ℕ) (w : List ℕ) (line : ℕ) → (c ≡ EventName → ⊥) → number w ≡ None → bound_of w ≡ None
    → cell_from_token c before (a_name w line) ≡ cell_of c names before w
by_name (Within least most) names before w line no-event none unbound = misfit (ranged least most) w none
by_name (NotBelow most) names before w line no-event none unbound = misfit (ranged before most) w none
by_name YesOrNo names before w line no-event none unbound = refl
by_name EventName names before w line no-event none unbound = absurd (no-event refl)
by_name Limit names before w line no-event none unbound =
    simp unbound
by_name NumberOrNone names before w line no-event none unbound = simp none

module _ (names : List (List ℕ)) (before : ℕ) (w : List ℕ) (line : ℕ) (other : name_word w ≡ false) where
  by_number : (c : Column) → (c ≡ EventName → ⊥) → bound_of w ≡ None → cell_from_token c before (a_number w line) ≡ cell_of c names before w
  by_number (Within least most) no-event unbound = refl
  by_number (NotBelow most) no-event unbound = refl
  by_number YesOrNo no-event unbound = no_flag names before w other
  by_number EventName no-event unbound = absurd (no-event refl)
  by_number Limit no-event unbound = limit-by-parts names before w other None unbound
  by_number NumberOrNone no-event unbound = claim-by-number names before w other (number w) refl

  by-other : (c : Column) → (c ≡ EventName → ⊥) → number w ≡ None → bound_of w ≡ None → cell_from_token c before (an_other w line) ≡ cell_of c names before w
  by-other (Within least most) no-event none unbound = misfit (ranged least most) w none
  by-other (NotBelow most) no-event none unbound = misfit (ranged before most) w none
  by-other YesOrNo no-event none unbound = no_flag names before w other
  by-other EventName no-event none unbound = absurd (no-event refl)
  by-other Limit no-event none unbound = limit-by-parts names before w other None unbound
  by-other NumberOrNone no-event none unbound = claim-by-number names before w other None none

  second-number : (second : List ℕ) (a : ℕ) (t : Bool) → eqb (length second) 0 ≡ t → numeral_or_none second ≡ true
      → cond t (limit_from a) (numbered (number second) (limit_between a)) ≡ cond t (limit_from a) (limit_between a (read_on 0 second))
  second-number second a true none high = refl
  second-number second a false some high = ap (λ o. numbered o (limit_between a)) (cond-true _ _ _ (⊎_elim
      (λ none. absurd (both_ways _ some none))
      (λ is. is)
      (or_cases (eqb (length second) 0) (numeral second) high)))

  parts-give : (first second : List ℕ) → bound_of w ≡ Some (first, second) → limit_of_parts first second ≡ bounded (Some (first, second))
  parts-give first second is =
      let parts = bound-is w first second is in
      ap (λ o. numbered o (λ a. cond (eqb (length second) 0) (limit_from a) (numbered (number second) (limit_between a)))) (cond-true _ _ _ parts.low)
      ∙ second-number second (read_on 0 first) _ refl parts.high

  by-bound : (c : Column) (first second : List ℕ) → (c ≡ EventName → ⊥) → number w ≡ None → bound_of w ≡ Some (first, second) → cell_from_token c before (a_bound first second line) ≡ cell_of c names before w
  by-bound (Within least most) first second no-event none is = misfit (ranged least most) w none
  by-bound (NotBelow most) first second no-event none is = misfit (ranged before most) w none
  by-bound YesOrNo first second no-event none is = no_flag names before w other
  by-bound EventName first second no-event none is = absurd (no-event refl)
  by-bound Limit first second no-event none is = parts-give first second is ∙ limit-by-parts names before w other (Some (first, second)) is
  by-bound NumberOrNone first second no-event none is = claim-by-number names before w other None none

  by_parts : (c : Column) (o : Option (List ℕ × List ℕ)) → (c ≡ EventName → ⊥) → number w ≡ None → bound_of w ≡ o → cell_from_token c before (bound_or o w line) ≡ cell_of c names before w
  by_parts c None no-event none is = by-other c no-event none is
  by_parts c (Some parts) no-event none is = by-bound c parts.0 parts.1 no-event none is

pub cell-by-token : (c : Column) (names : List (List ℕ)) (before : ℕ) (w : List ℕ) (line : ℕ) (p : Piece) → (c ≡ EventName → ⊥) → p ≡ token_of w line
    → cell_from_token c before p ≡ cell_of c names before w
cell-by-token c names before w line p no-event is = ap (cell_from_token c before) is ∙ ⊎_elim
    (λ name. ap (cell_from_token c before) (cond-true _ _ _ name) ∙ by_name c names before w line no-event
    (no-number-from w (false_from_ne_true _ (λ n. name-is-no-number w name n)))
    (none_from _ (λ parts e. name-is-no-bound w parts.0 parts.1 name e)))
    (λ other. ap (cell_from_token c before) (cond-false _ _ _ other) ∙ ⊎_elim
    (λ n. ap (cell_from_token c before) (cond-true _ _ _ n) ∙ by_number names before w line other c no-event (none_from _ (λ parts e. number-is-no-bound w parts.0 parts.1 n e)))
    (λ no'. ap (cell_from_token c before) (cond-false _ _ _ no') ∙ by_parts names before w line other c (bound_of w) no-event (no-number-from w no') refl)
    (cases_Bool (numeral w)))
    (cases_Bool (name_word w))
