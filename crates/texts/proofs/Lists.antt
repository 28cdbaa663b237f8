-- Steps of `prefix_len` along a list, and the cases of an `Option`. Assumes nothing.
use Rattle.std.proofs.Common.{◌≡◌, ℕ, zero, suc, ◌+◌, ◌≤◌, Bool, true, false, cond, List, [], ◌∷◌, drop, Some, None, refl, ap, ◌∙◌, ⊎_elim, one-add, arith}
use Rattle.std.proofs.lemmas.Bool.{cases_Bool}
use Rattle.std.specs.List.{prefix_len}

pub leading-yes : {X : Type 0} (f : X → Bool) (x : X) (xs : List X) → f x ≡ true → prefix_len f (x ∷ xs) ≡ suc (prefix_len f xs)
leading-yes f x xs h = ap (λ b. cond b (1 + prefix_len f xs) 0) h ∙ one-add (prefix_len f xs)

pub leading-no : {X : Type 0} (f : X → Bool) (x : X) (xs : List X) → f x ≡ false → prefix_len f (x ∷ xs) ≡ 0
leading-no f x xs h = ap (λ b. cond b (1 + prefix_len f xs) 0) h

-- a front of a run that passes the test, and the rest of the run
pub leading-rest : {X : Type 0} (f : X → Bool) (xs : List X) (m : ℕ) → m ≤ prefix_len f xs → m + prefix_len f (drop m xs) ≡ prefix_len f xs
leading-rest f xs zero h = omega arith
leading-rest f [] (suc m) h = absurd (omega arith)
leading-rest f (x ∷ xs) (suc m) h = ⊎_elim
    (λ passes. let one = leading-yes f x xs passes in omega (arith, one, leading-rest f xs m (omega (arith, one))))
    (λ fails. absurd (omega (arith, leading-no f x xs fails)))
    (cases_Bool (f x))

pub never-some : {X Y : Type 0} (x : X) → None ≡ Some x → Y
never-some x e = absurd (let z : ◌≡◌ {A = ℕ} 0 1 = cc in omega arith)

pub some-under : {X : Type 0} (t : Bool) (x y : X) → cond t (Some x) None ≡ Some y → (t ≡ true) × (x ≡ y)
some-under true x y e = (refl, cc)
some-under false x y e = never-some y e
