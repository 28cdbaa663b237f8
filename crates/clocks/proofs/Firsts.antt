-- `first_of` gives the first place at which a question holds, and no other answer is `First`. Assumes nothing.
use Rattle.std.proofs.Common.{◌≡◌, ℕ, zero, suc, ◌<◌, Bool, true, false, cond, List, [], ◌∷◌, map, length, get_or, Some, None, Option, sym, refl, ap, ◌∙◌, subst, true≢false, arith}
use Rattle.std.specs.Option.{option_map}
use Rattle.clocks.specs.Search.{first_of, FirstAt, First}

none-below-zero : {X : Type 0} (k : ℕ) → k < 0 → X
none-below-zero k h = absurd (omega arith)

module _ {A : Type 0} (f : A → Bool) where
  -- ---- one more element in front

  fails-from-tail : (x : A) (xs : List A) (n : ℕ) → f x ≡ false → ((k : ℕ) (d : A) → k < n → f (get_or xs k d) ≡ false) → (k : ℕ) (d : A) → k < suc n → f (get_or (x ∷ xs) k d) ≡ false
  fails-from-tail x xs n here later zero d h = here
  fails-from-tail x xs n here later (suc k) d h = later k d (omega arith)

  first-from-tail : (x : A) (xs : List A) (r : Option ℕ) → f x ≡ false → First f xs r → First f (x ∷ xs) (option_map suc r)
  first-from-tail x xs None here later = fails-from-tail x xs (length xs) here later
  first-from-tail x xs (Some i) here later =
      record { within = omega arith; here = later.here; before = fails-from-tail x xs i here later.before }

  first-from-head : (x : A) (xs : List A) → f x ≡ true → FirstAt f (x ∷ xs) 0
  first-from-head x xs here = record { within = omega arith; here = λ d. here; before = λ k d h. none-below-zero k h }

  first-by-head : (x : A) (xs : List A) (r : Option ℕ) (b : Bool) → f x ≡ b → First f xs r → First f (x ∷ xs) (cond b (Some 0) (option_map suc r))
  first-by-head x xs r true here later = first-from-head x xs here
  first-by-head x xs r false here later = first-from-tail x xs r here later

  pub first_of-is-first : (xs : List A) → First f xs (first_of f xs)
  first_of-is-first [] = λ k d h. none-below-zero k h
  first_of-is-first (x ∷ xs) = first-by-head x xs (first_of f xs) (f x) refl (first_of-is-first xs)

  -- ---- no other answer is `First`

  contrary : {X : Type 0} (x : A) → f x ≡ true → f x ≡ false → X
  contrary x t n = absurd (true≢false (sym t ∙ n))

  tail-fails : (x : A) (xs : List A) (n : ℕ) → ((k : ℕ) (d : A) → k < suc n → f (get_or (x ∷ xs) k d) ≡ false) → (k : ℕ) (d : A) → k < n → f (get_or xs k d) ≡ false
  tail-fails x xs n all k d h = all (suc k) d (omega arith)

  first-in-tail : (x : A) (xs : List A) (i : ℕ) → FirstAt f (x ∷ xs) (suc i) → FirstAt f xs i
  first-in-tail x xs i h =
      record { within = let w = h.within in omega arith; here = h.here; before = tail-fails x xs i h.before }

  only-from-head : (x : A) (xs : List A) (r : Option ℕ) (b : Bool) → f x ≡ b → ((s : Option ℕ) → First f xs s → s ≡ first_of f xs) → First f (x ∷ xs) r → r ≡ cond b (Some 0) (option_map suc (first_of f xs))
  only-from-head x xs None true e tail h = contrary x e (h 0 x (omega arith))
  only-from-head x xs None false e tail h = ap (option_map suc) (tail None (tail-fails x xs (length xs) h))
  only-from-head x xs (Some zero) true e tail h = refl
  only-from-head x xs (Some zero) false e tail h = contrary x (h.here x) e
  only-from-head x xs (Some (suc i)) true e tail h = contrary x e (h.before 0 x (omega arith))
  only-from-head x xs (Some (suc i)) false e tail h = ap (option_map suc) (tail (Some i) (first-in-tail x xs i h))

  pub first-is-first_of : (xs : List A) (r : Option ℕ) → First f xs r → r ≡ first_of f xs
  first-is-first_of [] None h = refl
  first-is-first_of [] (Some i) h = none-below-zero i h.within
  first-is-first_of (x ∷ xs) r h = only-from-head x xs r (f x) refl (first-is-first_of xs) h

  -- ---- the two answers, each way

  pub first-from-some : (xs : List A) (i : ℕ) → first_of f xs ≡ Some i → FirstAt f xs i
  first-from-some xs i e = subst (First f xs) e (first_of-is-first xs)

  pub some-from-first : (xs : List A) (i : ℕ) → FirstAt f xs i → first_of f xs ≡ Some i
  some-from-first xs i h = sym (first-is-first_of xs (Some i) h)

  pub fails-from-none : (xs : List A) → first_of f xs ≡ None → (k : ℕ) (d : A) → k < length xs → f (get_or xs k d) ≡ false
  fails-from-none xs e = subst (First f xs) e (first_of-is-first xs)

  pub none-from-fails : (xs : List A) → ((k : ℕ) (d : A) → k < length xs → f (get_or xs k d) ≡ false) → first_of f xs ≡ None
  none-from-fails xs h = sym (first-is-first_of xs None h)

pub first_of-map : {X Y : Type 0} (f : Y → Bool) (g : X → Y) (xs : List X) → first_of f (map g xs) ≡ first_of (λ x. f (g x)) xs
first_of-map f g [] = refl
first_of-map f g (x ∷ xs) = ap (λ r. cond (f (g x)) (Some 0) (option_map suc r)) (first_of-map f g xs)
