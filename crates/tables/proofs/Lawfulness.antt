-- What the tests of names, edges and caps tell of whole lists. Assumes nothing.
use Rattle.std.proofs.Common.{◌≡◌, ℕ, suc, ◌-◌, ◌≤◌, max, Bool, true, false, cond, not, ◌&&◌, ltb, leb, List, [], ◌∷◌, map, length, get_or, take, drop, is_some, Option, sym, refl, ap, ◌∙◌, add-one, arith}
use Rattle.std.proofs.lemmas.List.{drop_more, take_rest, length-map}
use Rattle.std.proofs.lemmas.Bool.{and_from, le-leb}
use Rattle.std.specs.Str.{bytes_eq}
use Rattle.std.specs.List.{list_all, fold, enumerate_from}
use Rattle.meaning.specs.Stepping.{top, top_of_bounds, cap_of}
use Rattle.meaning.specs.declared.values.Bound.{Bound}
use Rattle.meaning.specs.declared.values.Edge.{Edge}
use Rattle.clocks.specs.declared.name.Name.{Name}
use Rattle.clocks.specs.Search.{first_of}
use Rattle.clocks.specs.Texts.{text}
use Rattle.texts.specs.Numbers.{every}
use Rattle.clocks.specs.Letters.{lawful_name}
use Rattle.clocks.proofs.Firsts.{first_of-map}
use Rattle.tables.specs.Lawful.{different, is_any, lawful_bound, lawful_bounds, lawful_names, lawful_edge}

pub names-are-lawful : (names : List Name) → every lawful_name (map text names) ≡ true
names-are-lawful [] = refl
names-are-lawful (n ∷ names) = and_from _ _ n.lawful (names-are-lawful names)

-- ---- what the iterators of the code answer is what the definitions say

pub edges_by_all : (n m : ℕ) (edges : List Edge) → list_all (lawful_edge n m) edges ≡ every (lawful_edge n m) edges
edges_by_all n m [] = refl
edges_by_all n m (e ∷ edges) = ap (λ rest. lawful_edge n m e && rest) (edges_by_all n m edges)

bounds-by_all-from : (n i : ℕ) (bs : List Bound) → list_all (λ p. cond (ltb p.0 n) (lawful_bound p.1) (is_any p.1)) (enumerate_from i bs) ≡ lawful_bounds n i bs
bounds-by_all-from n i [] = refl
bounds-by_all-from n i (b ∷ bs) =
    ap (λ rest. cond (ltb i n) (lawful_bound b) (is_any b) && rest) (ap (λ k. list_all (λ p. cond (ltb p.0 n) (lawful_bound p.1) (is_any p.1)) (enumerate_from k bs)) (add-one i) ∙ bounds-by_all-from n (suc i) bs)

pub bounds_by_all : (n : ℕ) (bs : List Bound) → list_all (λ p. cond (ltb p.0 n) (lawful_bound p.1) (is_any p.1)) (enumerate_from 0 bs) ≡ lawful_bounds n 0 bs
bounds_by_all n bs = bounds-by_all-from n 0 bs

-- a running maximum, from a on
max-by_fold : {X : Type 0} (f : X → ℕ) (F : List X → ℕ) → F [] ≡ 0 → ((x : X) (xs : List X) → F (x ∷ xs) ≡ max (f x) (F xs)) → (a : ℕ) (xs : List X) → fold (λ m x. max (f x) m) a xs ≡ max a (F xs)
max-by_fold f F none step a [] = omega (arith, none)
max-by_fold f F none step a (x ∷ xs) = max-by_fold f F none step (max (f x) a) xs ∙ (let e = step x xs in omega (arith, e))

pub top_by_fold : (bs : List Bound) → fold (λ m b. max (top b) m) 0 bs ≡ top_of_bounds bs
top_by_fold bs = omega (arith, max-by_fold top top_of_bounds refl (λ _ _. refl) 0 bs)

pub cap_by_fold : (edges : List Edge) → fold (λ m e. max (top_of_bounds e.bounds) m) 0 edges ≡ cap_of edges
cap_by_fold edges = omega (arith, max-by_fold (λ e. top_of_bounds e.bounds) cap_of refl (λ _ _. refl) 0 edges)

-- ---- whether a later name is the same as the first, where b says that none is
module _ (names : List Name) (name : Name) (r : Option ℕ) (b : Bool) (some : 1 ≤ length names) (is : name ≡ get_or names 0 name)
    (found : r ≡ first_of (λ y. bytes_eq (text y) (text name)) (take (length names - 1) (drop 1 names))) (none : is_some r ≡ not b) where
  by-first : (xs : List Name) → take (length names - 1) (drop 1 names) ≡ xs → names ≡ name ∷ xs → different (map text names) ≡ (not (not b) && different (map text xs))
  by-first xs later whole =
      let same : r ≡ first_of (λ y. bytes_eq y (text name)) (map text xs) =
      found ∙ ap (first_of (λ y. bytes_eq (text y) (text name))) later ∙ sym (first_of-map (λ y. bytes_eq y (text name)) text xs) in
      ap (λ l. different (map text l)) whole ∙ (λ i. not (is_some (sym same i)) && different (map text xs)) ∙ (λ i. not (none i) && different (map text xs))

  first-apart : drop 0 names ≡ name ∷ drop 1 names
  first-apart = drop_more names 0 name (omega arith) ∙ ap (λ n. n ∷ drop 1 names) (sym is)

  pub different-later : b ≡ true → (d : Bool) → d ≡ different (map text (take (length names - 1) (drop 1 names))) → d ≡ different (map text names)
  different-later yes' d later =
      later ∙ ap (λ l. different (map text l)) (take_rest names 1) ∙ sym (by-first (drop 1 names) (take_rest names 1) first-apart ∙ ap (λ c. not (not c) && different (map text (drop 1 names))) yes')

  pub not-different : b ≡ false → b ≡ different (map text names)
  not-different no' = no' ∙ sym (by-first (drop 1 names) (take_rest names 1) first-apart ∙ ap (λ c. not (not c) && different (map text (drop 1 names))) no')

-- the tests that are left to a list of names
pub lawful-names-is : (names : List Name) → (length names ≡ 0 → ⊥) → length names ≤ 8 → (d : Bool) → d ≡ different (map text names) → d ≡ lawful_names (map text names)
lawful-names-is names some few d is =
    let long = length-map names text in
    let low : leb 1 (length (map text names)) ≡ true = le-leb 1 _ (omega (arith, long)) in
    let high : leb (length (map text names)) 8 ≡ true = le-leb _ 8 (omega (arith, long)) in
    is ∙ sym (λ i. (low i && high i) && (names-are-lawful names i && different (map text names)))
