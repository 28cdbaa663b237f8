-- An event is told by its name: where names are all different, each stands first at its own place. Assumes nothing.
use Rattle.std.proofs.Common.{◌≡◌, ℕ, zero, suc, ◌<◌, true, false, not, List, [], ◌∷◌, length, get_or, is_some, Some, None, Option, sym, refl, ap, ◌∙◌, arith}
use Rattle.std.proofs.lemmas.Slice.Eq.{bytes_eq-Decides}
use Rattle.std.proofs.lemmas.Bool.{false_from_ne_true, and_parts, both_ways, cond-true, cond-false}
use Rattle.std.proofs.lemmas.Option.{none-some}
use Rattle.std.specs.Option.{option_map}
use Rattle.std.specs.Str.{bytes_eq}
use Rattle.clocks.specs.Search.{first_of}
use Rattle.clocks.proofs.Firsts.{first-from-some, fails-from-none}
use Rattle.tables.specs.Lawful.{different}

pub same_word : (v w : List ℕ) → bytes_eq v w ≡ true → v ≡ w
same_word v w h = (bytes_eq-Decides v w).0 h

word-is-itself : (w : List ℕ) → bytes_eq w w ≡ true
word-is-itself w = (bytes_eq-Decides w w).1 refl

-- one of two words is something that the other is not
pub other_word : {X : Type 0} (f : List ℕ → Option X) (v w : List ℕ) (x : X) → f w ≡ Some x → f v ≡ None → bytes_eq w v ≡ false
other_word f v w x some none = false_from_ne_true _ (λ same. none-some x (sym none ∙ ap f (sym (same_word w v same)) ∙ some))

pub name-found : (names : List (List ℕ)) (w : List ℕ) (i : ℕ) → first_of (λ name. bytes_eq name w) names ≡ Some i → (w ≡ get_or names i []) × (i < length names)
name-found names w i e =
    let first = first-from-some (λ name. bytes_eq name w) names i e in
    (sym (same_word _ w (first.here [])), first.within)

no_name : (o : Option ℕ) → not (is_some o) ≡ true → o ≡ None
no_name o h = grind arith

later-differs : (name : List ℕ) (names : List (List ℕ)) (k : ℕ) → not (is_some (first_of (λ other. bytes_eq other name) names)) ≡ true → k < length names → bytes_eq name (get_or names k []) ≡ false
later-differs name names k none h = false_from_ne_true _ (λ same.
    both_ways _ (fails-from-none (λ other. bytes_eq other name) names (no_name _ none) k [] h) (ap (λ v. bytes_eq v name) (sym (same_word _ _ same)) ∙ word-is-itself name))

pub found-by-name : (names : List (List ℕ)) (i : ℕ) → different names ≡ true → i < length names → first_of (λ name. bytes_eq name (get_or names i [])) names ≡ Some i
found-by-name [] i d h = absurd (omega arith)
found-by-name (name ∷ names) zero d h = cond-true _ _ _ (word-is-itself name)
found-by-name (name ∷ names) (suc i) d h =
    let both = and_parts (not (is_some (first_of (λ other. bytes_eq other name) names))) _ d in
    cond-false _ _ _ (later-differs name names i both.0 (omega arith)) ∙ ap (option_map suc) (found-by-name names i both.1 (omega arith))
