-- The worked examples, from the definitions. Assumes nothing.
use Rattle.std.proofs.Common.{◌≡◌, ℕ, zero, suc, ◌<◌, ◌≤◌, [], ◌∷◌, get_or, sym, refl, subst, ⊎_elim, arith}
use mathlib.Core.List.Memᴰ
use mathlib.Core.List.{Memᴰ}
use Rattle.std.proofs.lemmas.Bool.{false≢true}
use Rattle.meaning.specs.declared.values.Bound.{Bound}
use Rattle.meaning.specs.declared.values.Bound.TheVariants.{Any, Never, Between}
use Rattle.meaning.specs.declared.values.Edge.{Edge}
use Rattle.meaning.specs.Words.{event_at}
use Rattle.meaning.specs.Examples.{Examples, driver, edge, open', steam}
use Rattle.meaning.proofs.Behaviours.{Fair, behaves-decides}

two-bounds : (a b : Bound) (k : ℕ) → 2 ≤ k → get_or (a ∷ b ∷ Any ∷ Any ∷ Any ∷ Any ∷ Any ∷ Any ∷ []) k Any ≡ Any
two-bounds a b zero h = absurd (omega arith)
two-bounds a b (suc zero) h = absurd (omega arith)
two-bounds a b (suc (suc k)) h = past k
  where
    past : (m : ℕ) → get_or (Any ∷ Any ∷ Any ∷ Any ∷ Any ∷ Any ∷ []) m Any ≡ Any
    past zero = refl
    past (suc zero) = refl
    past (suc (suc zero)) = refl
    past (suc (suc (suc zero))) = refl
    past (suc (suc (suc (suc zero)))) = refl
    past (suc (suc (suc (suc (suc zero))))) = refl
    past (suc (suc (suc (suc (suc (suc m)))))) = refl

each-edge : (P : Edge → Type 0) → P (edge 0 1 0 Never Never) → P (edge 1 1 1 (Between 2 3) Never) → (e : Edge) → Memᴰ e driver.edges → P e
each-edge P one two e mem = ⊎_elim
    (λ same. subst P (sym same) one)
    (λ rest. ⊎_elim (λ same. subst P (sym same) two) (λ none. absurd (Memᴰ.not-nil none)) (Memᴰ.cases_cons rest))
    (Memᴰ.cases_cons mem)

driver-is-fair : Fair driver
driver-is-fair = record {
  few = omega arith;
  within = each-edge (λ e. (k : ℕ) → 2 ≤ k → get_or e.bounds k Any ≡ Any) (two-bounds Never Never) (two-bounds (Between 2 3) Never);
  events = each-edge (λ e. e.event < 2) (omega arith) (omega arith);
}

pub examples : Examples
examples = record {
  span-fails-below = λ h. omega (arith, h.0);
  span-fails-above = λ h. omega (arith, h.1.0);
  span-fails-for-never = λ h. h.0;
  any-holds-for-never = tt;
  from-zero-fails-for-never = λ h. h.0;
  open-reads-three = (1, omega arith, refl, λ k above below _. omega arith, refl);
  steam-reads-never = never-before;
  steam-in-time = (behaves-decides driver driver-is-fair 3 (omega arith) (open' 9 ∷ steam 2 ∷ [])).0 refl;
  steam-too-late = λ h. false≢true ((behaves-decides driver driver-is-fair 3 (omega arith) (open' 9 ∷ steam 4 ∷ [])).1 h);
}
  where
    never-before : (k : ℕ) → k < 2 → event_at (open' 7 ∷ open' 2 ∷ steam 3 ∷ []) k ≡ 1 → ⊥
    never-before zero h e = omega (arith, e)
    never-before (suc zero) h e = omega (arith, e)
    never-before (suc (suc k)) h e = omega arith
