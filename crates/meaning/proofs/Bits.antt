-- Sets of places as numbers: which places are in a union, in an intersection, in a set of one. Assumes nothing.
use Rattle.std.proofs.Common.{◌≡◌, ℕ, zero, suc, ◌+◌, ◌-◌, ◌/◌, ◌%◌, ◌^◌, ◌<◌, ◌≤◌, min, max, Bool, true, false, ◌&&◌, ◌||◌, eqb, ◌⊎◌, sym, refl, ap, ◌∙◌, subst, inl, inr, ⊎_elim, add_comm, div-one, arith, pow_mono}
use native.Mathlib.Nat.{zero-div, div_self, div-eq_of_lt, two-pow-succ}
use lib.Bits.{bit_and, bit_or, and_step, or_step}
use Rattle.std.proofs.lemmas.Nat.{or_shr, and_shr, shr-shr, pow_pos, pow-add, pow_below, shl-shr}
use Rattle.std.proofs.lemmas.Bool.{cases_eq, cases_order, eq-eqb, ne_eqb, eqb-false, and_parts, and_from, not-true, not_from_false, both_ways}
use Rattle.std.proofs.lemmas.Bool.Decides.{nat_tests}
use Rattle.meaning.specs.Stepping.{in_set, meets}

pub in-empty : (p : ℕ) → in_set 0 p ≡ false
in-empty p = ap (λ x. eqb (x % 2) 1) (zero-div (2 ^ p))

max-bit : (a b : ℕ) → a < 2 → b < 2 → eqb (max a b) 1 ≡ (eqb a 1 || eqb b 1)
max-bit a b h k = grind (arith, nat_tests)

min-bit : (a b : ℕ) → a < 2 → b < 2 → eqb (min a b) 1 ≡ (eqb a 1 && eqb b 1)
min-bit a b h k = grind (arith, nat_tests)

pub in-union : (s t p : ℕ) → in_set (bit_or s t) p ≡ (in_set s p || in_set t p)
in-union s t p =
    let a = s / 2 ^ p in
    let b = t / 2 ^ p in
    let step = or_step a b in
    let low : bit_or a b % 2 ≡ max (a % 2) (b % 2) = omega (arith, step) in
    ap (λ x. eqb (x % 2) 1) (or_shr s t p) ∙ ap (λ x. eqb x 1) low ∙ max-bit (a % 2) (b % 2) (omega arith) (omega arith)

pub in_meet : (s t p : ℕ) → in_set (bit_and s t) p ≡ (in_set s p && in_set t p)
in_meet s t p =
    let a = s / 2 ^ p in
    let b = t / 2 ^ p in
    let step = and_step a b in
    let low : bit_and a b % 2 ≡ min (a % 2) (b % 2) = omega (arith, step) in
    ap (λ x. eqb (x % 2) 1) (and_shr s t p) ∙ ap (λ x. eqb x 1) low ∙ min-bit (a % 2) (b % 2) (omega arith) (omega arith)

-- the set of one place
pub in_one : (q p : ℕ) → in_set (2 ^ q) p ≡ eqb q p
in_one q p = ⊎_elim
    (λ same. ap (λ x. in_set (2 ^ x) p) same ∙ ap (λ x. eqb (x % 2) 1) (div_self (pow_pos p)) ∙ sym (eq-eqb q p same))
    (⊎_elim
    (λ below. ap (λ x. eqb (x % 2) 1) (div-eq_of_lt (pow_below q p below)) ∙ sym (ne_eqb q p (λ e. omega arith)))
    (λ above.
    let k = q - suc p in
    let split : q ≡ suc k + p = omega arith in
    let half : 2 ^ q / 2 ^ p ≡ 2 ^ k + 2 ^ k = ap (λ x. 2 ^ x / 2 ^ p) split ∙ ap (λ x. x / 2 ^ p) (pow-add 2 (suc k) p) ∙ shl-shr (2 ^ suc k) p ∙ two-pow-succ k in
    let even : (2 ^ q / 2 ^ p) % 2 ≡ 0 = omega (arith, half) in
    ap (λ x. eqb x 1) even ∙ sym (ne_eqb q p (λ e. omega arith))))
    (cases_order q p)

-- a number that is not 0 has some place in it
some-place : (k n : ℕ) → n < 2 ^ k → (n ≡ 0 → ⊥) → (p : ℕ) × (in_set n p ≡ true)
some-place zero n h some = absurd (some (omega arith))
some-place (suc k) n h some = ⊎_elim
    (λ odd. (0, eq-eqb _ 1 (ap (λ x. x % 2) (div-one n) ∙ odd)))
    (λ even.
    let rest = some-place k (n / 2) (omega (arith, two-pow-succ k)) (λ e. some (omega arith)) in
    (1 + rest.0, ap (λ x. eqb (x % 2) 1) (sym (shr-shr n 1 rest.0)) ∙ rest.1))
    (parity n)
  where
    parity : (m : ℕ) → (m % 2 ≡ 1) ⊎ (m % 2 ≡ 0)
    parity m = ⊎_elim (λ e. inl e) (λ ne. inr (omega arith)) (cases_eq (m % 2) 1)

below_power : (n : ℕ) → n < 2 ^ n
below_power zero = omega arith
below_power (suc n) = omega (arith, below_power n, two-pow-succ n)

pub meets-tells : (s t : ℕ) → meets s t ≡ true → (p : ℕ) × (in_set s p ≡ true) × (in_set t p ≡ true)
meets-tells s t h =
    let n = bit_and s t in
    let some = some-place n n (below_power n) (eqb-false n 0 (not-true _ h)) in
    let both = and_parts _ _ (sym (in_meet s t some.0) ∙ some.1) in
    (some.0, both.0, both.1)

pub meets-from : (s t p : ℕ) → in_set s p ≡ true → in_set t p ≡ true → meets s t ≡ true
meets-from s t p a b =
    not_from_false _ (ne_eqb (bit_and s t) 0 (λ e. both_ways (in_set (bit_and s t) p) (ap (λ x. in_set x p) e ∙ in-empty p) (in_meet s t p ∙ and_from _ _ a b)))

-- Sets with the same places are the same number.
same-sets-below : (k s t : ℕ) → s < 2 ^ k → t < 2 ^ k → ((p : ℕ) → in_set s p ≡ in_set t p) → s ≡ t
same-sets-below zero s t h g all = omega arith
same-sets-below (suc k) s t h g all =
    let low : s % 2 ≡ t % 2 = same_bit (s % 2) (t % 2) (omega arith) (omega arith) (first-place s ∙ all 0 ∙ sym (first-place t)) in
    let high : s / 2 ≡ t / 2 =
    same-sets-below k (s / 2) (t / 2) (omega (arith, two-pow-succ k)) (omega (arith, two-pow-succ k))
    (λ p. later-place s p ∙ all (1 + p) ∙ sym (later-place t p)) in
    omega (arith, low, high)
  where
    same_bit : (a b : ℕ) → a < 2 → b < 2 → eqb a 1 ≡ eqb b 1 → a ≡ b
    same_bit a b x y e = grind (arith, nat_tests)

    first-place : (n : ℕ) → eqb (n % 2) 1 ≡ in_set n 0
    first-place n = ap (λ x. eqb (x % 2) 1) (sym (div-one n))

    later-place : (n p : ℕ) → in_set (n / 2) p ≡ in_set n (1 + p)
    later-place n p = ap (λ x. eqb (x % 2) 1) (shr-shr n 1 p)

pub same-sets : (s t : ℕ) → ((p : ℕ) → in_set s p ≡ in_set t p) → s ≡ t
same-sets s t all = same-sets-below (s + t) s t (wide s t (below_power s)) (subst (λ k. t < 2 ^ k) (add_comm t s) (wide t s (below_power t))) all
  where
    wide : (a b : ℕ) → a < 2 ^ a → a < 2 ^ (a + b)
    wide a b h = let grows : 2 ^ a ≤ 2 ^ (a + b) = pow_mono (let le : a ≤ a + b = omega arith in le) in omega arith

pub union_assoc : (s t u : ℕ) → bit_or (bit_or s t) u ≡ bit_or s (bit_or t u)
union_assoc s t u = same-sets _ _ (λ p.
    in-union (bit_or s t) u p ∙ ap (λ b. b || in_set u p) (in-union s t p)
    ∙ or_assoc (in_set s p) (in_set t p) (in_set u p)
    ∙ ap (λ b. in_set s p || b) (sym (in-union t u p)) ∙ sym (in-union s (bit_or t u) p))
  where
    or_assoc : (a b c : Bool) → ((a || b) || c) ≡ (a || (b || c))
    or_assoc true b c = refl
    or_assoc false b c = refl
