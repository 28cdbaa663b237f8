-- The first byte that is not allowed, by its place and the line ends before it. Assumes nothing.
use Rattle.std.proofs.Common.{◌≡◌, ℕ, suc, ◌+◌, Bool, true, false, cond, not, ◌&&◌, ◌==◌, eqb, ltb, List, [], ◌∷◌, length, take, Some, None, Option, count_by, position, refl, sym, ap, ◌∙◌, arith, one-add}
use Rattle.std.proofs.lemmas.List.Sums.{sum_by-cons}
use Rattle.std.proofs.lemmas.Bool.{and_parts, lt-ltb, cond-true}
use Rattle.std.proofs.lemmas.Bool.Decides.{nat_tests}
use Rattle.std.specs.Option.{option_map}
use Rattle.std.specs.List.{position_or_len}
use Rattle.texts.specs.Numbers.{every}
use Rattle.texts.specs.Lines.{allowed, bad_byte}
use Rattle.texts.proofs.Lists.{never-some}

pub bad-none : (t : List ℕ) → every allowed t ≡ true → bad_byte t ≡ None
bad-none [] all = refl
bad-none (b ∷ t) all =
    let both = and_parts (allowed b) _ all in
    (λ i. cond (both.0 i) (cond (eqb b 10) (option_map suc (bad-none t both.1 i)) (bad-none t both.1 i)) (Some 1)) ∙ same (eqb b 10)
  where
    same : (e : Bool) → cond {A = Option ℕ} e None None ≡ None
    same true = refl
    same false = refl

never-mapped : (o : Option ℕ) → option_map suc o ≡ None → o ≡ None
never-mapped None e = refl
never-mapped (Some n) e = never-some (suc n) (sym e)

allowed-here : (t : List ℕ) (ok end : Bool) → (bad_byte t ≡ None → every allowed t ≡ true)
    → cond ok (cond end (option_map suc (bad_byte t)) (bad_byte t)) (Some 1) ≡ None → (ok && every allowed t) ≡ true
allowed-here t true true rest none = rest (never-mapped (bad_byte t) none)
allowed-here t true false rest none = rest none
allowed-here t false end rest none = never-some 1 (sym none)

pub allowed-from-none : (t : List ℕ) → bad_byte t ≡ None → every allowed t ≡ true
allowed-from-none [] none = refl
allowed-from-none (b ∷ t) none = allowed-here t (allowed b) (eqb b 10) (λ e. allowed-from-none t e) none

-- `position` by the first element
position-first : {X : Type 0} (p : X → Bool) (x : X) (xs : List X) → position p (x ∷ xs) ≡ cond (p x) (Some 0) (option_map suc (position p xs))
position-first p x xs = by (p x) (position_or_len p xs) (length xs)
  where
    later : (t : Bool) (n : ℕ) → cond t (Some (suc n)) None ≡ option_map suc (cond t (Some n) None)
    later true n = refl
    later false n = refl

    by : (b : Bool) (n l : ℕ) → cond (ltb (cond (not b) (1 + n) 0) (suc l)) (Some (cond (not b) (1 + n) 0)) None ≡ cond b (Some 0) (option_map suc (cond (ltb n l) (Some n) None))
    by true n l = cond-true _ _ _ (lt-ltb 0 (suc l) (omega arith))
    by false n l =
        let same : ltb (1 + n) (suc l) ≡ ltb n l = grind (arith, nat_tests) in
        (λ i. cond (same i) (Some (one-add n i)) None) ∙ later (ltb n l) n

-- the line of the byte at a place
abbrev line : List ℕ → ℕ → ℕ
line t at = count_by (λ b. b == 10) (take at t) + 1

pub bad_byte_at : (t : List ℕ) → bad_byte t ≡ option_map (λ at. count_by (λ b. b == 10) (take at t) + 1) (position (λ b. not (allowed b)) t)
bad_byte_at [] = refl
bad_byte_at (b ∷ t) =
    let rest = bad_byte_at t in
    (λ i. cond (allowed b) (cond (eqb b 10) (option_map suc (rest i)) (rest i)) (Some 1))
    ∙ by (allowed b) (position (λ c. not (allowed c)) t)
    ∙ ap (option_map (line (b ∷ t))) (sym (position-first (λ c. not (allowed c)) b t))
  where
    more : (at : ℕ) → line (b ∷ t) (suc at) ≡ cond (eqb b 10) 1 0 + line t at
    more at = omega (arith, sum_by-cons (λ c. cond (eqb c 10) 1 0) b (take at t))

    counted : (e : Bool) (n : ℕ) → cond e (Some (suc n)) (Some n) ≡ Some (cond e 1 0 + n)
    counted true n = let x : suc n ≡ 1 + n = omega arith in ap Some x
    counted false n = let x : n ≡ 0 + n = omega arith in ap Some x

    none : (e : Bool) → cond {A = Option ℕ} e None None ≡ None
    none true = refl
    none false = refl

    by : (a : Bool) (o : Option ℕ) → cond a (cond (eqb b 10) (option_map suc (option_map (line t) o)) (option_map (line t) o)) (Some 1)
        ≡ option_map (line (b ∷ t)) (cond (not a) (Some 0) (option_map suc o))
    by true None = none (eqb b 10)
    by true (Some at) = counted (eqb b 10) (line t at) ∙ ap Some (sym (more at))
    by false o = refl
