-- An event is found by its name, and a word that is no lawful name names none. Assumes nothing.
use Rattle.std.proofs.Common.{◌≡◌, ℕ, suc, Bool, true, false, cond, List, [], ◌∷◌, map, Some, None, Option, sym, refl, ap, ◌∙◌, ⊎_elim}
use Rattle.std.proofs.lemmas.Slice.Eq.{bytes_eq-Decides}
use Rattle.std.proofs.lemmas.Bool.{both_ways, cases_Bool, cond-false}
use Rattle.std.specs.Option.{option_map}
use Rattle.std.specs.Str.{bytes_eq}
use Rattle.texts.proofs.Lists.{some-under, never-some}
use Rattle.clocks.specs.declared.name.Name.{Name}
use Rattle.clocks.specs.Letters.{lawful_name}
use Rattle.clocks.specs.Search.{first_of}
use Rattle.clocks.specs.Texts.{text}
use Rattle.clocks.proofs.Firsts.{first_of-map}

no-such-event : (names : List Name) (w : List ℕ) → lawful_name w ≡ false → first_of (λ name. bytes_eq name w) (map text names) ≡ None
no-such-event [] w other = refl
no-such-event (n ∷ names) w other = ⊎_elim
    (λ same. absurd (both_ways _ other (ap lawful_name (sym ((bytes_eq-Decides (text n) w).0 same)) ∙ n.lawful)))
    (λ differs. cond-false _ _ _ differs ∙ ap (option_map suc) (no-such-event names w other))
    (cases_Bool (bytes_eq (text n) w))

pub no_event_named : (names : List Name) (w : List ℕ) → None ≡ cond (lawful_name w) (Some w) None → None ≡ first_of (λ name. bytes_eq name w) (map text names)
no_event_named names w none = sym (no-such-event names w (unlawful (lawful_name w) none))
  where
    unlawful : (t : Bool) → None ≡ cond t (Some w) None → t ≡ false
    unlawful true e = never-some w e
    unlawful false e = refl

pub event_named : (names : List Name) (w : List ℕ) (name : Name) (r : Option ℕ) → Some (text name) ≡ cond (lawful_name w) (Some w) None
    → r ≡ first_of (λ y. bytes_eq (text y) (text name)) names → r ≡ first_of (λ name. bytes_eq name w) (map text names)
event_named names w name r is found =
    found
    ∙ sym (first_of-map (λ y. bytes_eq y (text name)) text names)
    ∙ (λ i. first_of (λ y. bytes_eq y (sym (some-under (lawful_name w) w (text name) (sym is)).1 i)) (map text names))
