-- The head of an entries text is found piece by piece from the front. Assumes nothing.
use Rattle.std.proofs.Common.{◌≡◌, ℕ, ◌+◌, ◌<◌, Bool, true, false, ◌&&◌, eqb, List, [], ◌∷◌, ◌++◌, map, length, get_or, take, drop, codes, sym, refl, ap, ◌∙◌}
use Rattle.std.proofs.lemmas.List.{drop_more}
use Rattle.std.proofs.lemmas.Bool.{and_left}
use Rattle.std.specs.Str.{bytes_eq}
use Rattle.texts.specs.Lines.{further_words}
use Rattle.clocks.specs.Texts.{text}
use Rattle.formats.specs.EntriesText.{entry_head}
use Rattle.clocks.specs.declared.name.Name.{Name}

and_assoc : (a b c : Bool) → (a && (b && c)) ≡ ((a && b) && c)
and_assoc true b c = refl
and_assoc false b c = refl

pub same-split : (s w x : List ℕ) → bytes_eq s (w ++ x) ≡ (bytes_eq (take (length w) s) w && bytes_eq (drop (length w) s) x)
same-split s [] x = refl
same-split [] (y ∷ w) x = refl
same-split (a ∷ s) (y ∷ w) x = ap (λ b. eqb a y && b) (same-split s w x) ∙ and_assoc (eqb a y) (bytes_eq (take (length w) s) w) (bytes_eq (drop (length w) s) x)

-- ---- the names from one on

-- a line is the head, as far as it was compared, if what is left of it is the names that are left
pub record Compared (rest line : List ℕ) (left all : List (List ℕ)) : Type 0 where
  pub same : bytes_eq line (entry_head all) ≡ bytes_eq rest (further_words left)

-- the head goes on with these bytes, or with others
goes-on : (s w x rest : List ℕ) → bytes_eq (take (length w) s) w ≡ true → rest ≡ drop (length w) s → bytes_eq s (w ++ x) ≡ bytes_eq rest x
goes-on s w x rest yes' is = same-split s w x ∙ (λ i. yes' i && bytes_eq (sym is i) x)

ends-here : (s w x : List ℕ) → bytes_eq (take (length w) s) w ≡ false → bytes_eq s (w ++ x) ≡ false
ends-here s w x no' = same-split s w x ∙ and_left _ (bytes_eq (drop (length w) s) x) no'

module _ (rest line : List ℕ) (names : List Name) (i : ℕ) (name : Name) (in' : i < length names) (is : name ≡ get_or names i name) (so : Compared rest line (map text (drop i names)) (map text names)) where
  name-next : bytes_eq line (entry_head (map text names)) ≡ bytes_eq rest (codes " " ++ (text name ++ further_words (map text (drop (i + 1) names))))
  name-next =
      so.same
      ∙ ap (λ ns. bytes_eq rest (further_words (map text ns))) (drop_more names i name in' ∙ ap (λ n. n ∷ drop (i + 1) names) (sym is))

  module _ (word after : List ℕ) (w : word ≡ text name) (space : bytes_eq (take 1 rest) (codes " ") ≡ true) (spaced : after ≡ drop 1 rest) where
    word-next : bytes_eq line (entry_head (map text names)) ≡ bytes_eq after (word ++ further_words (map text (drop (i + 1) names)))
    word-next =
        name-next ∙ goes-on rest (codes " ") (text name ++ further_words (map text (drop (i + 1) names))) after space spaced
        ∙ ap (λ v. bytes_eq after (v ++ further_words (map text (drop (i + 1) names)))) (sym w)

    pub other_name : bytes_eq (take (length word) after) word ≡ false → bytes_eq line (entry_head (map text names)) ≡ false
    other_name no' = word-next ∙ ends-here after word (further_words (map text (drop (i + 1) names))) no'

    pub name-same : (left : List ℕ) → bytes_eq (take (length word) after) word ≡ true → left ≡ drop (length word) after → Compared left line (map text (drop (i + 1) names)) (map text names)
    name-same left yes' rest-is = record { same = word-next ∙ goes-on after word (further_words (map text (drop (i + 1) names))) left yes' rest-is }
