-- What is known of every table, blank or lawful. Assumes nothing.
use Rattle.std.proofs.Common.{◌≡◌, ℕ, zero, suc, ◌+◌, ◌<◌, ◌≤◌, Bool, true, ◌&&◌, eqb, ltb, leb, List, [], ◌∷◌, length, get_or, vec_items, sym, refl, ap, ◌∙◌, subst, ⊎_elim, arith}
use mathlib.Core.List.Memᴰ
use mathlib.Core.List.{Memᴰ}
use Rattle.std.proofs.lemmas.List.{nil_from_length, length-map}
use Rattle.std.proofs.lemmas.Bool.{and_parts, or_cases, leb-true, ltb-true, eqb-true, le-ltb, cond-false, false≢true}
use Rattle.meaning.specs.declared.values.Bound.{Bound}
use Rattle.meaning.specs.declared.values.Bound.TheVariants.{Any, Never, AtLeast, Between}
use Rattle.meaning.specs.declared.values.Edge.{Edge}
use Rattle.meaning.specs.Tables.{Contents}
use Rattle.meaning.proofs.Behaviours.{Fair}
use Rattle.tables.specs.declared.table.Table.{Table}
use Rattle.tables.specs.Held.{contents}
use Rattle.clocks.specs.Texts.{text}
use Rattle.texts.specs.Numbers.{every}
use Rattle.clocks.specs.Letters.{lawful_name}
use Rattle.tables.specs.Lawful.{lawful_bound, is_any, lawful_bounds, lawful_edge, lawful_names, different, lawful, is_blank, standing}

every-member : {X : Type 0} (f : X → Bool) (xs : List X) → every f xs ≡ true → (x : X) → Memᴰ x xs → f x ≡ true
every-member f [] h x mem = absurd (Memᴰ.not-nil mem)
every-member f (y ∷ ys) h x mem =
    let both = and_parts _ _ h in
    ⊎_elim (λ same. ap f same ∙ both.0) (λ later. every-member f ys both.1 x later) (Memᴰ.cases_cons mem)

pub get_or-member : {X : Type 0} (xs : List X) (i : ℕ) (d : X) → i < length xs → Memᴰ (get_or xs i d) xs
get_or-member [] i d h = absurd (omega arith)
get_or-member (x ∷ xs) zero d h = Memᴰ.head refl
get_or-member (x ∷ xs) (suc i) d h = Memᴰ.tail (get_or-member xs i d (omega arith))

any-is : (b : Bound) → is_any b ≡ true → b ≡ Any
any-is Any h = refl
any-is Never h = absurd (false≢true h)
any-is (AtLeast a) h = absurd (false≢true h)
any-is (Between a b) h = absurd (false≢true h)

-- past the events an edge asks nothing
any-past : (n i : ℕ) (bs : List Bound) → lawful_bounds n i bs ≡ true → (k : ℕ) → n ≤ i + k → get_or bs k Any ≡ Any
any-past n i [] h k past = refl
any-past n i (b ∷ bs) h zero past =
    any-is b (sym (cond-false (ltb i n) (lawful_bound b) (is_any b) (le-ltb i n (omega arith))) ∙ (and_parts _ _ h).0)
any-past n i (b ∷ bs) h (suc k) past = any-past n (suc i) bs (and_parts _ _ h).1 k (omega arith)

-- what a lawful edge of a table with n events and m places has
pub record Sound (n m : ℕ) (e : Edge) : Type 0 where
  pub source : e.source < m
  pub target : e.target < m
  pub event : e.event < n
  pub others : (k : ℕ) → n ≤ k → get_or e.bounds k Any ≡ Any

edge-is-sound : (n m : ℕ) (e : Edge) → lawful_edge n m e ≡ true → Sound n m e
edge-is-sound n m e h =
    let parts = and_parts (ltb e.source m && ltb e.target m) _ h in
    let ends = and_parts (ltb e.source m) _ parts.0 in
    let rest = and_parts (ltb e.event n) _ parts.1 in
    let bounds = and_parts (eqb (length e.bounds) 8) _ rest.1 in
    record {
      source = ltb-true _ m ends.0;
      target = ltb-true _ m ends.1;
      event = ltb-true _ n rest.0;
      others = λ k past. any-past n 0 e.bounds bounds.1 k (let at : n ≤ 0 + k = omega (arith, past) in at);
    }

-- every table
pub record Kept (t : Contents) : Type 0 where
  pub events : length t.names ≤ 8
  pub places : length t.places ≤ 32
  pub edges : length t.edges ≤ 64
  pub sound : (e : Edge) → Memᴰ e t.edges → Sound (length t.names) (length t.places) e

blank-is-kept : (t : Contents) → is_blank t ≡ true → Kept t
blank-is-kept t h =
    let both = and_parts (eqb t.tick 0 && eqb (length t.names) 0) _ h in
    let one = and_parts (eqb t.tick 0) _ both.0 in
    let two = and_parts (eqb (length t.places) 0) _ both.1 in
    let names = eqb-true (length t.names) 0 one.1 in
    let places = eqb-true (length t.places) 0 two.0 in
    let edges = eqb-true (length t.edges) 0 two.1 in
    record {
      events = omega arith;
      places = omega arith;
      edges = omega arith;
      sound = λ e mem. absurd (Memᴰ.not-nil (subst (Memᴰ e) (nil_from_length t.edges edges) mem));
    }

lawful-is-kept : (t : Contents) → lawful t ≡ true → Kept t
lawful-is-kept t h =
    let all = and_parts (leb 1 t.tick && leb t.tick 60000) _ h in
    let rest = and_parts (lawful_names t.names) _ all.1 in
    let named = and_parts (leb 1 (length t.names) && leb (length t.names) 8) _ rest.0 in
    let names = and_parts (leb 1 (length t.names)) _ named.0 in
    let more = and_parts (leb 1 (length t.places) && leb (length t.places) 32) _ rest.1 in
    let places = and_parts (leb 1 (length t.places)) _ more.0 in
    let edges = and_parts (leb (length t.edges) 64) _ more.1 in
    record {
      events = leb-true _ 8 names.1;
      places = leb-true _ 32 places.1;
      edges = leb-true _ 64 edges.0;
      sound = λ e mem. edge-is-sound _ _ e (every-member (lawful_edge (length t.names) (length t.places)) t.edges edges.1 e mem);
    }

pub table-is-kept : (t : Contents) → standing t ≡ true → Kept t
table-is-kept t h = ⊎_elim (blank-is-kept t) (lawful-is-kept t) (or_cases _ _ h)

pub table-is-fair : (t : Contents) → standing t ≡ true → Fair t
table-is-fair t h =
    let kept = table-is-kept t h in
    record { few = kept.events; within = λ e mem. (kept.sound e mem).others; events = λ e mem. (kept.sound e mem).event }

-- The same of a table as the code holds it.
pub kept : (t : Table) → Kept (contents t)
kept t = table-is-kept (contents t) t.lawful

pub fair : (t : Table) → Fair (contents t)
fair t = table-is-fair (contents t) t.lawful

pub places_are_few : (t : Table) → length (vec_items t.places) ≤ 32
places_are_few t = (kept t).places

pub names_are_few : (t : Table) → length (vec_items t.names) ≤ 8
names_are_few t = let long = length-map (vec_items t.names) text in omega (arith, long, (kept t).events)

pub edges_fit : (t : Table) (e : Edge) → Memᴰ e (contents t).edges → (e.source < 32) × (e.target < 32)
edges_fit t e mem =
    let sound = (kept t).sound e mem in
    (omega (arith, sound.source, (kept t).places), omega (arith, sound.target, (kept t).places))

-- The names of a table are lawful and all different, also where there are none.
names-are-kept : (t : Contents) → standing t ≡ true → (every lawful_name t.names ≡ true) × (different t.names ≡ true)
names-are-kept t h = ⊎_elim blank-names lawful-names (or_cases _ _ h)
  where
    blank-names : is_blank t ≡ true → (every lawful_name t.names ≡ true) × (different t.names ≡ true)
    blank-names e =
        let one = and_parts (eqb t.tick 0) _ (and_parts (eqb t.tick 0 && eqb (length t.names) 0) _ e).0 in
        let none = nil_from_length t.names (eqb-true (length t.names) 0 one.1) in
        (ap (every lawful_name) none, ap different none)

    lawful-names : lawful t ≡ true → (every lawful_name t.names ≡ true) × (different t.names ≡ true)
    lawful-names e =
        let rest = and_parts (lawful_names t.names) _ (and_parts (leb 1 t.tick && leb t.tick 60000) _ e).1 in
        and_parts (every lawful_name t.names) (different t.names) (and_parts (leb 1 (length t.names) && leb (length t.names) 8) _ rest.0).1

pub names-kept : (t : Table) → (every lawful_name (contents t).names ≡ true) × (different (contents t).names ≡ true)
names-kept t = names-are-kept (contents t) t.lawful
