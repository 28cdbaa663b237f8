-- The first element of a list of which a yes-or-no question holds. Assumes nothing.
use Rattle.std.specs.Prelude.{◌≡◌, ℕ, suc, ◌<◌, Bool, true, false, cond, List, [], ◌∷◌, length, Some, None, Option, slice_index_or}
use Rattle.std.specs.Option.{option_map}

-- where it first holds, as it is computed
abbrev pub first_of : {A : Type 0} → (A → Bool) → List A → Option ℕ
first_of f [] = None
first_of f (x ∷ xs) = cond (f x) (Some 0) (option_map suc (first_of f xs))

-- the question holds at i, and at no place before
pub record FirstAt {A : Type 0} (f : A → Bool) (xs : List A) (i : ℕ) : Type 0 where
  pub within : i < length xs
  pub here : (d : A) → f (slice_index_or xs i d) ≡ true
  pub before : (k : ℕ) (d : A) → k < i → f (slice_index_or xs k d) ≡ false

-- the same in words: the first place at which the question holds, or that it holds at no place
abbrev pub First : {A : Type 0} → (A → Bool) → List A → Option ℕ → Type 0
First f xs (Some i) = FirstAt f xs i
First {A} f xs None = (k : ℕ) (d : A) → k < length xs → f (slice_index_or xs k d) ≡ false
