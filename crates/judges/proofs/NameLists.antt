-- A list of names that grows by one name at a time. Assumes nothing.
use Rattle.std.proofs.Common.{◌≡◌, ℕ, suc, Bool, true, false, cond, not, ◌&&◌, List, [], ◌∷◌, ◌++◌, map, is_some, Some, None, Ok, Err, Option, Bor, sym, refl, ap, ◌∙◌, subst, ⊎_elim, append_assoc, append-nil}
use Rattle.std.proofs.lemmas.Slice.Eq.{bytes_eq-Decides}
use Rattle.std.proofs.lemmas.List.{map_push}
use Rattle.std.proofs.lemmas.Bool.{and_parts, and_from, and_left, and_right, cases_Bool, cond-true, cond-false, not-true, not_from_true, not_from_false, not-false, true≢false, false≢true, both_ways}
use Rattle.std.specs.Bool.{then_some}
use Rattle.std.specs.Option.{option_map}
use Rattle.std.proofs.lemmas.Iterator.{YieldsList}
use Rattle.std.specs.Str.{bytes_eq}
use Rattle.texts.specs.Numbers.{every}
use Rattle.texts.proofs.Lists.{some-under, never-some}
use Rattle.clocks.specs.declared.name.Name.{Name}
use Rattle.clocks.specs.Texts.{text}
use Rattle.clocks.proofs.Firsts.{first_of-map}
use Rattle.clocks.specs.Letters.{lawful_name}
use Rattle.clocks.specs.Search.{first_of}
use Rattle.tables.specs.Lawful.{different}
use Rattle.judges.specs.Heads.{name_list}
use Rattle.formats.proofs.Taken.{every-push}

-- the word stands in the list
abbrev pub stands : List ℕ → List (List ℕ) → Bool
stands w names = is_some (first_of (λ y. bytes_eq y w) names)

stands-cons : (w x : List ℕ) (xs : List (List ℕ)) → stands w (x ∷ xs) ≡ cond (bytes_eq x w) true (stands w xs)
stands-cons w x xs = go (bytes_eq x w) (first_of (λ y. bytes_eq y w) xs)
  where
    go : (b : Bool) (r : Option ℕ) → is_some (cond b (Some 0) (option_map suc r)) ≡ cond b true (is_some r)
    go true r = refl
    go false None = refl
    go false (Some i) = refl

same-turned : (v w : List ℕ) (b : Bool) → bytes_eq v w ≡ b → bytes_eq w v ≡ b
same-turned v w true h = (bytes_eq-Decides w v).1 (sym ((bytes_eq-Decides v w).0 h))
same-turned v w false h = ⊎_elim
    (λ yes'. absurd (both_ways (bytes_eq v w) h ((bytes_eq-Decides v w).1 (sym ((bytes_eq-Decides w v).0 yes')))))
    (λ no'. no')
    (cases_Bool (bytes_eq w v))

-- it stands in a list that goes on with a word that is the same
stands-append : (w : List ℕ) (front : List (List ℕ)) (x : List ℕ) (rest : List (List ℕ)) → bytes_eq x w ≡ true → stands w (front ++ (x ∷ rest)) ≡ true
stands-append w [] x rest h = stands-cons w x rest ∙ cond-true _ true (stands w rest) h
stands-append w (y ∷ front) x rest h = stands-cons w y (front ++ (x ∷ rest)) ∙ either_way (bytes_eq y w) _ (stands-append w front x rest h)
  where
    either_way : (b c : Bool) → c ≡ true → cond b true c ≡ true
    either_way true c e = refl
    either_way false c e = e

-- it stands not in a list that goes on with another word
stands-not : (w : List ℕ) (front : List (List ℕ)) (x : List ℕ) → stands w front ≡ false → bytes_eq x w ≡ false → stands w (front ++ (x ∷ [])) ≡ false
stands-not w [] x h other = stands-cons w x [] ∙ cond-false _ true false other
stands-not w (y ∷ front) x h other =
    stands-cons w y (front ++ (x ∷ [])) ∙ step (bytes_eq y w) (sym (stands-cons w y front) ∙ h) (λ e. stands-not w front x e other)
  where
    step : (b : Bool) → cond b true (stands w front) ≡ false → (stands w front ≡ false → stands w (front ++ (x ∷ [])) ≡ false) → cond b true (stands w (front ++ (x ∷ []))) ≡ false
    step true e on = absurd (true≢false e)
    step false e on = on e

-- A name that stands already makes the list one with a name twice.
pub twice : (front : List (List ℕ)) (w : List ℕ) (rest : List (List ℕ)) → stands w front ≡ true → different (front ++ (w ∷ rest)) ≡ false
twice [] w rest h = absurd (false≢true h)
twice (x ∷ front) w rest h = step (bytes_eq x w) refl (sym (stands-cons w x front) ∙ h) (λ e. twice front w rest e)
  where
    step : (b : Bool) → bytes_eq x w ≡ b → cond b true (stands w front) ≡ true → (stands w front ≡ true → different (front ++ (w ∷ rest)) ≡ false)
        → (not (stands x (front ++ (w ∷ rest))) && different (front ++ (w ∷ rest))) ≡ false
    step true e g on = and_left _ (different (front ++ (w ∷ rest))) (not_from_true _ (stands-append x front w rest (same-turned x w true e)))
    step false e g on = and_right (not (stands x (front ++ (w ∷ rest)))) _ (on g)

-- A name that stands not yet leaves the names different.
pub one_more : (front : List (List ℕ)) (w : List ℕ) → different front ≡ true → stands w front ≡ false → different (front ++ (w ∷ [])) ≡ true
one_more [] w d h = refl
one_more (x ∷ front) w d h =
    let both = and_parts (not (stands x front)) _ d in
    step (bytes_eq x w) refl (sym (stands-cons w x front) ∙ h) (not-true _ both.0) (λ e. one_more front w both.1 e)
  where
    step : (b : Bool) → bytes_eq x w ≡ b → cond b true (stands w front) ≡ false → stands x front ≡ false → (stands w front ≡ false → different (front ++ (w ∷ [])) ≡ true)
        → (not (stands x (front ++ (w ∷ []))) && different (front ++ (w ∷ []))) ≡ true
    step true e g apart on = absurd (true≢false g)
    step false e g apart on = and_from _ _ (not_from_false _ (stands-not x front w apart (same-turned x w false e))) (on g)

-- One bad name is enough.
pub bad-name : (front : List (List ℕ)) (w : List ℕ) (rest : List (List ℕ)) → lawful_name w ≡ false → every lawful_name (front ++ (w ∷ rest)) ≡ false
bad-name [] w rest h = and_left _ (every lawful_name rest) h
bad-name (x ∷ front) w rest h = and_right (lawful_name x) _ (bad-name front w rest h)

-- ---- the list so far, and the words to come

pub record Named (front ws all : List (List ℕ)) : Type 0 where
  pub whole : front ++ ws ≡ all
  pub lawful : every lawful_name front ≡ true
  pub apart : different front ≡ true

pub named-at-first : (ws : List (List ℕ)) → Named [] ws ws
named-at-first ws = record { whole = refl; lawful = refl; apart = refl }

module _ (front : List (List ℕ)) (w : List ℕ) (rest all : List (List ℕ)) (so : Named front (w ∷ rest) all) where
  pub name-refused : false ≡ (lawful_name w && not (stands w front)) → name_list all ≡ Err 4
  name-refused h = cond-false _ (Ok all) (Err 4) (sym (ap (λ x. every lawful_name x && different x) so.whole) ∙ wrong (lawful_name w) refl (sym h))
    where
      wrong : (b : Bool) → lawful_name w ≡ b → (b && not (stands w front)) ≡ false → (every lawful_name (front ++ (w ∷ rest)) && different (front ++ (w ∷ rest))) ≡ false
      wrong false e g = and_left _ (different (front ++ (w ∷ rest))) (bad-name front w rest e)
      wrong true e g = and_right (every lawful_name (front ++ (w ∷ rest))) _ (twice front w rest (not-false (stands w front) g))

  pub name-taken : true ≡ (lawful_name w && not (stands w front)) → Named (front ++ (w ∷ [])) rest all
  name-taken h =
      let both = and_parts (lawful_name w) _ (sym h) in
      record {
        whole = append_assoc front (w ∷ []) rest ∙ so.whole;
        lawful = every-push lawful_name front w so.lawful both.0;
        apart = one_more front w so.apart (not-true _ both.1);
      }

pub names-done : (front all : List (List ℕ)) → Named front [] all → name_list all ≡ Ok front
names-done front all so =
    let e : front ≡ all = sym (append-nil front) ∙ so.whole in
    ap name_list (sym e) ∙ cond-true _ (Ok front) (Err 4) (and_from _ _ so.lawful so.apart)

-- ---- as the code makes a name

if_so : {X : Type 0} (b : Bool) (x : X) → then_some b x ≡ cond b (Some x) None
if_so true x = refl
if_so false x = refl

text-if_so : (b : Bool) (name : Name) → option_map text (then_some b name) ≡ then_some b (text name)
text-if_so true name = refl
text-if_so false name = refl

twice-not : (b : Bool) → not (not b) ≡ b
twice-not true = refl
twice-not false = refl

module _ (word : List ℕ) (names : List Name) (name : Name) (r : Option ℕ) (made : Some (text name) ≡ cond (lawful_name word) (Some word) None)
    (found : r ≡ first_of (λ y. bytes_eq (text y) (text name)) names) where
  is_lawful : (lawful_name word ≡ true) × (word ≡ text name)
  is_lawful = some-under (lawful_name word) word (text name) (sym made)

  stands-is : is_some r ≡ stands word (map text names)
  stands-is =
      ap is_some (found ∙ sym (first_of-map (λ y. bytes_eq y (text name)) text names)) ∙ ap (λ w. stands w (map text names)) (sym is_lawful.1)

  pub name-if-new : (new : Bool) → is_some r ≡ not new → option_map text (then_some new name) ≡ cond (lawful_name word && not (stands word (map text names))) (Some word) None
  name-if-new new h =
      text-if_so new name
      ∙ ap (λ w. then_some new w) (sym is_lawful.1)
      ∙ if_so new word
      ∙ (λ i. cond (sym is_lawful.0 i && (sym (twice-not new) ∙ ap not (sym h ∙ stands-is)) i) (Some word) None)

-- ---- one name more, as the code adds it

pub name-added : (word : List ℕ) (names : List Name) (name : Name) → Some (text name) ≡ cond (lawful_name word && not (stands word (map text names))) (Some word) None
    → (true ≡ (lawful_name word && not (stands word (map text names)))) × (word ≡ text name)
name-added word names name h = let both = some-under _ word (text name) (sym h) in (sym both.0, both.1)

pub name-not-added : (word : List ℕ) (names : List Name) → None ≡ cond (lawful_name word && not (stands word (map text names))) (Some word) None
    → false ≡ (lawful_name word && not (stands word (map text names)))
name-not-added word names h = go (lawful_name word && not (stands word (map text names))) h
  where
    go : (b : Bool) → None ≡ cond b (Some word) None → false ≡ b
    go true e = never-some word e
    go false e = refl

-- ---- the loop over the words that an iterator has still to give

pub record Naming {S : Type 0} (steps : S → Option (Bor (List ℕ)) → S → Type 0) (s : S) (front all : List (List ℕ)) : Type 0 where
  pub list : List (List ℕ)
  pub still : YieldsList steps (λ x. x.now) s list
  pub so : Named front list all

module _ {S : Type 0} (steps : S → Option (Bor (List ℕ)) → S → Type 0) where
  pub naming-at-first : (s : S) (names : List Name) (ws parts : List (List ℕ)) → names ≡ [] → ws ≡ parts → YieldsList steps (λ x. x.now) s parts → Naming steps s (map text names) ws
  naming-at-first s names ws parts none same h =
      record { list = parts; still = h; so = subst (λ xs. Named (map text xs) parts ws) (sym none) (subst (λ vs. Named [] vs ws) same (named-at-first ws)) }

  pub naming-done : (s t : S) (front all : List (List ℕ)) → Naming steps s front all → steps s None t → name_list all ≡ Ok front
  naming-done s t front all so h = go so.list so.still so.so
    where
      go : (list : List (List ℕ)) → YieldsList steps (λ x. x.now) s list → Named front list all → name_list all ≡ Ok front
      go [] k n = names-done front all n
      go (w ∷ ws) k n = absurd (k.runs.0 t h)

  module _ (s t : S) (names slice : List Name) (all : List (List ℕ)) (word : Bor (List ℕ)) (is : slice ≡ names) (so : Naming steps s (map text names) all) (h : steps s (Some word) t) where
    comes : (rest : List (List ℕ)) × YieldsList steps (λ x. x.now) t rest × Named (map text names) (word.now ∷ rest) all
    comes = go so.list so.still so.so
      where
        go : (list : List (List ℕ)) → YieldsList steps (λ x. x.now) s list → Named (map text names) list all
            → (rest : List (List ℕ)) × YieldsList steps (λ x. x.now) t rest × Named (map text names) (word.now ∷ rest) all
        go [] k n = absurd (k.runs word t h)
        go (w ∷ ws) k n = let m = k.runs.1 word t h in (ws, record { runs = m.1 }, subst (λ v. Named (map text names) (v ∷ ws) all) (sym m.0) n)

    pub loop-refused : None ≡ cond (lawful_name word.now && not (stands word.now (map text slice))) (Some word.now) None → name_list all ≡ Err 4
    loop-refused none =
        name-refused (map text names) word.now comes.0 all comes.2
        (subst (λ xs. false ≡ (lawful_name word.now && not (stands word.now (map text xs)))) is (name-not-added word.now slice none))

    pub loop-goes : (name : Name) (next : List Name) → Some (text name) ≡ cond (lawful_name word.now && not (stands word.now (map text slice))) (Some word.now) None
        → next ≡ names ++ (name ∷ []) → Naming steps t (map text next) all
    loop-goes name next made more =
        let added = name-added word.now slice name made in
        let test = subst (λ xs. true ≡ (lawful_name word.now && not (stands word.now (map text xs)))) is added.0 in
        let list : map text names ++ (word.now ∷ []) ≡ map text next =
        ap (λ w. map text names ++ (w ∷ [])) added.1 ∙ sym (map_push text names name) ∙ ap (map text) (sym more) in
        record { list = comes.0; still = comes.1; so = subst (λ xs. Named xs comes.0 all) list (name-taken (map text names) word.now comes.0 all comes.2 test) }
