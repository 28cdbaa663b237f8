-- A bound holds of a cell exactly when its atoms hold of the clock whose value the cell is. Assumes nothing.
use Rattle.std.proofs.Common.{◌≡◌, ℕ, suc, ◌+◌, true, ◌⊎◌, List, [], ◌∷◌, ◌++◌, map, get_or, Some, None, Option, sym, refl, ap, subst, inl, inr, ⊎_elim, add-zero, arith}
use Rattle.std.proofs.lemmas.Bool.{leb-true, le-leb, and_parts, and_from, false≢true}
use Rattle.std.proofs.ByRecursion.{All-append}
use Rattle.std.specs.List.{AllByRecursion}
use Rattle.meaning.specs.declared.values.Bound.{Bound}
use Rattle.meaning.specs.declared.values.Bound.TheVariants.{Any, Never, AtLeast, Between}
use Rattle.meaning.specs.Published.{TimedWord, Clock, Test, undefined, at_least, at_most, Passes, Holds}
use Rattle.meaning.specs.Tables.{tests, atoms}
use Rattle.meaning.specs.Stepping.{Cells, holds, holds_all}
use Rattle.meaning.proofs.Clocks.{clock-has-one-value}

all-parts : {X : Type 0} (P : X → Type 0) (xs ys : List X) → AllByRecursion P (xs ++ ys) → AllByRecursion P xs × AllByRecursion P ys
all-parts P [] ys h = (tt, h)
all-parts P (x ∷ xs) ys h = let rest = all-parts P xs ys h.1 in ((h.0, rest.0), rest.1)

module _ (w : TimedWord) (j : ℕ) where
  passes : (a : ℕ) (t : Test) (v : Option ℕ) → Clock w j a v → Holds w j (record { clock = a; test = t }) → Passes t v
  passes a t v known h = subst (Passes t) (clock-has-one-value w j a _ _ h.1 known) h.2

  pub bound-holds : (a : ℕ) (b : Bound) (v : Option ℕ) → Clock w j a v
      → AllByRecursion (Holds w j) (map (λ t. record { clock = a; test = t }) (tests b)) → holds b v ≡ true
  bound-holds a Any v known h = refl
  bound-holds a Never None known h = refl
  bound-holds a Never (Some v) known h = absurd (passes a undefined (Some v) known h.0)
  bound-holds a (AtLeast c) None known h = absurd (passes a (at_least c) None known h.0)
  bound-holds a (AtLeast c) (Some v) known h = le-leb c v (passes a (at_least c) (Some v) known h.0)
  bound-holds a (Between c d) None known h = absurd (passes a (at_least c) None known h.0)
  bound-holds a (Between c d) (Some v) known h =
      and_from _ _ (le-leb c v (passes a (at_least c) (Some v) known h.0)) (le-leb v d (passes a (at_most d) (Some v) known h.1.0))

  pub atoms-hold : (a : ℕ) (b : Bound) (v : Option ℕ) → Clock w j a v → holds b v ≡ true
      → AllByRecursion (Holds w j) (map (λ t. record { clock = a; test = t }) (tests b))
  atoms-hold a Any v known h = tt
  atoms-hold a Never None known h = ((None, known, tt), tt)
  atoms-hold a Never (Some v) known h = absurd (false≢true h)
  atoms-hold a (AtLeast c) None known h = absurd (false≢true h)
  atoms-hold a (AtLeast c) (Some v) known h = ((Some v, known, leb-true c v h), tt)
  atoms-hold a (Between c d) None known h = absurd (false≢true h)
  atoms-hold a (Between c d) (Some v) known h =
      let both = and_parts _ _ h in
      ((Some v, known, leb-true c v both.0), ((Some v, known, leb-true v d both.1), tt))

  -- From event i on, each bound is `any`, or the cell at its place is the value of its clock.
  abbrev pub Read : ℕ → List Bound → Cells → Type 0
  Read i [] cells = Unit {0}
  Read i (b ∷ bs) [] = ((b ≡ Any) ⊎ Clock w j i None) × Read (suc i) bs []
  Read i (b ∷ bs) (v ∷ cells) = ((b ≡ Any) ⊎ Clock w j i v) × Read (suc i) bs cells

  any-holds : (b : Bound) (v : Option ℕ) → b ≡ Any → holds b v ≡ true
  any-holds b v e = ap (λ x. holds x v) e

  any-atoms : (a : ℕ) (b : Bound) → b ≡ Any → AllByRecursion (Holds w j) (map (λ t. record { clock = a; test = t }) (tests b))
  any-atoms a b e = subst (λ x. AllByRecursion (Holds w j) (map (λ t. record { clock = a; test = t }) (tests x))) (sym e) tt

  pub bounds-hold : (i : ℕ) (bs : List Bound) (cells : Cells) → Read i bs cells
      → AllByRecursion (Holds w j) (atoms i bs) → holds_all bs cells ≡ true
  bounds-hold i [] cells read h = refl
  bounds-hold i (b ∷ bs) [] read h =
      let parts = all-parts (Holds w j) _ (atoms (suc i) bs) h in
      and_from _ _ (⊎_elim (any-holds b None) (λ c. bound-holds i b None c parts.0) read.0) (bounds-hold (suc i) bs [] read.1 parts.1)
  bounds-hold i (b ∷ bs) (v ∷ cells) read h =
      let parts = all-parts (Holds w j) _ (atoms (suc i) bs) h in
      and_from _ _ (⊎_elim (any-holds b v) (λ c. bound-holds i b v c parts.0) read.0) (bounds-hold (suc i) bs cells read.1 parts.1)

  pub constraint-holds : (i : ℕ) (bs : List Bound) (cells : Cells) → Read i bs cells
      → holds_all bs cells ≡ true → AllByRecursion (Holds w j) (atoms i bs)
  constraint-holds i [] cells read h = tt
  constraint-holds i (b ∷ bs) [] read h =
      let parts = and_parts _ _ h in
      All-append (Holds w j) _ _ (⊎_elim (any-atoms i b) (λ c. atoms-hold i b None c parts.0) read.0) (constraint-holds (suc i) bs [] read.1 parts.1)
  constraint-holds i (b ∷ bs) (v ∷ cells) read h =
      let parts = and_parts _ _ h in
      All-append (Holds w j) _ _ (⊎_elim (any-atoms i b) (λ c. atoms-hold i b v c parts.0) read.0) (constraint-holds (suc i) bs cells read.1 parts.1)

  -- by places: what is known of each event suffices
  pub read-from-places : (i : ℕ) (bs : List Bound) (cells : Cells)
      → ((k : ℕ) → (get_or bs k Any ≡ Any) ⊎ Clock w j (i + k) (get_or cells k None)) → Read i bs cells
  read-from-places i [] cells h = tt
  read-from-places i (b ∷ bs) [] h = (
    ⊎_elim inl (λ c. inr (subst (λ a. Clock w j a None) (add-zero i) c)) (h 0),
    read-from-places (suc i) bs [] (λ k. ⊎_elim inl (λ c. inr (let e : i + suc k ≡ suc i + k = omega arith in subst (λ a. Clock w j a None) e c)) (h (suc k))),
  )
  read-from-places i (b ∷ bs) (v ∷ cells) h = (
    ⊎_elim inl (λ c. inr (subst (λ a. Clock w j a v) (add-zero i) c)) (h 0),
    read-from-places (suc i) bs cells (λ k. ⊎_elim inl (λ c. inr (let e : i + suc k ≡ suc i + k = omega arith in subst (λ a. Clock w j a (get_or cells k None)) e c)) (h (suc k))),
  )
