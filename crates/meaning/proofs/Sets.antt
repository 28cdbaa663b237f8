-- The set of places after the moves is the set of ends of paths. Assumes nothing.
use Rattle.std.proofs.Common.{◌≡◌, ℕ, zero, suc, ◌+◌, ◌^◌, Bool, true, false, cond, ◌&&◌, ◌||◌, eqb, List, [], ◌∷◌, Some, sym, refl, ap, ◌∙◌, subst, ⊎_elim, add-zero, arith}
use mathlib.Core.List.Memᴰ
use mathlib.Core.List.{Memᴰ}
use lib.Bits.{bit_or}
use Rattle.std.proofs.lemmas.Bool.{eqb-true, eq-eqb, and_parts, and_from, or_cases, or_left, or_right, both_ways}
use Rattle.std.specs.List.{slice_get}
use Rattle.meaning.specs.declared.values.Place.{Place}
use Rattle.meaning.specs.declared.values.Edge.{Edge}
use Rattle.meaning.specs.Stepping.{Cells, Move, in_set, places_from, leaves, targets, ends}
use Rattle.meaning.proofs.Bits.{in-empty, in-union, in_one}
use Rattle.meaning.proofs.Paths.{Path}

-- a set that may have one place more
in-cond : (b : Bool) (q s p : ℕ) → in_set (cond b (bit_or (2 ^ q) s) s) p ≡ ((b && eqb q p) || in_set s p)
in-cond true q s p = in-union (2 ^ q) s p ∙ ap (λ x. x || in_set s p) (in_one q p)
in-cond false q s p = refl

-- Some edge leaves the set under the event and the reading, and leads to p.
abbrev pub Leads : List Edge → ℕ → ℕ → Cells → ℕ → Type 0
Leads es s a cells p = (e : Edge) × Memᴰ e es × (leaves e s a cells ≡ true) × (e.target ≡ p)

pub leads-from-target : (es : List Edge) (s a : ℕ) (cells : Cells) (p : ℕ) → in_set (targets es s a cells) p ≡ true → Leads es s a cells p
leads-from-target [] s a cells p h = absurd (both_ways _ (in-empty p) h)
leads-from-target (e ∷ es) s a cells p h = ⊎_elim
    (λ here. let both = and_parts _ _ here in (e, Memᴰ.head refl, both.0, eqb-true _ _ both.1))
    (λ there. let rest = leads-from-target es s a cells p there in (rest.0, Memᴰ.tail rest.1, rest.2, rest.3))
    (or_cases _ _ (sym (in-cond (leaves e s a cells) e.target (targets es s a cells) p) ∙ h))

pub target-from-leads : (es : List Edge) (s a : ℕ) (cells : Cells) (p : ℕ) → Leads es s a cells p → in_set (targets es s a cells) p ≡ true
target-from-leads [] s a cells p h = absurd (Memᴰ.not-nil h.1)
target-from-leads (e ∷ es) s a cells p h =
    in-cond (leaves e s a cells) e.target (targets es s a cells) p
    ∙ ⊎_elim
    (λ same. or_left _ _ (and_from _ _ (ap (λ x. leaves x s a cells) (sym same) ∙ h.2) (eq-eqb _ _ (ap (λ x. x.target) (sym same) ∙ h.3))))
    (λ there. or_right _ _ (target-from-leads es s a cells p (h.0, there, h.2, h.3)))
    (Memᴰ.cases_cons h.1)

-- A path over the moves ends in p that begins in the set.
abbrev pub Ends : List Edge → ℕ → List Move → ℕ → Type 0
Ends es s ms p = (l : ℕ) × (in_set s l ≡ true) × Path es l ms p

pub path-from-end : (es : List Edge) (s : ℕ) (ms : List Move) (p : ℕ) → in_set (ends es s ms) p ≡ true → Ends es s ms p
path-from-end es s [] p h = (p, h, refl)
path-from-end es s (m ∷ ms) p h =
    let rest = path-from-end es (targets es s m.event m.reading) ms p h in
    let lead = leads-from-target es s m.event m.reading rest.0 rest.1 in
    let e = lead.0 in
    let parts = and_parts _ _ lead.2 in
    let both = and_parts _ _ parts.1 in
    (e.source, parts.0, (e, lead.1, refl, eqb-true _ _ both.0, both.1, subst (λ l. Path es l ms p) (sym lead.3) rest.2))

pub end-from-path : (es : List Edge) (s : ℕ) (ms : List Move) (p : ℕ) → Ends es s ms p → in_set (ends es s ms) p ≡ true
end-from-path es s [] p h = subst (λ l. in_set s l ≡ true) h.2 h.1
end-from-path es s (m ∷ ms) p h =
    let step = h.2 in
    let e = step.0 in
    let left : leaves e s m.event m.reading ≡ true =
    and_from _ _ (ap (in_set s) step.2 ∙ h.1) (and_from _ _ (eq-eqb _ _ step.3) step.4) in
    end-from-path es (targets es s m.event m.reading) ms p
    (e.target, target-from-leads es s m.event m.reading e.target (e, step.1, left, refl), step.5)

-- The places of which a test holds.
abbrev pub Marked : (Place → Bool) → ℕ → List Place → ℕ → Type 0
Marked f i ps p = (k : ℕ) × (x : Place) × (i + k ≡ p) × (slice_get ps k ≡ Some x) × (f x ≡ true)

pub marked-from-place : (f : Place → Bool) (i : ℕ) (ps : List Place) (p : ℕ) → in_set (places_from f i ps) p ≡ true → Marked f i ps p
marked-from-place f i [] p h = absurd (both_ways _ (in-empty p) h)
marked-from-place f i (x ∷ ps) p h = ⊎_elim
    (λ here. let both = and_parts _ _ here in (0, x, add-zero i ∙ eqb-true _ _ both.1, refl, both.0))
    (λ there.
    let rest = marked-from-place f (suc i) ps p there in
    let at = rest.2 in
    (suc rest.0, rest.1, omega (arith, at), rest.3, rest.4))
    (or_cases _ _ (sym (in-cond (f x) i (places_from f (suc i) ps) p) ∙ h))

pub place-from-marked : (f : Place → Bool) (i : ℕ) (ps : List Place) (p k : ℕ) (y : Place) → i + k ≡ p → slice_get ps k ≡ Some y → f y ≡ true
    → in_set (places_from f i ps) p ≡ true
place-from-marked f i [] p k y at is h = absurd (none-is-not-some is)
  where
    none-is-not-some : slice_get [] k ≡ Some y → ⊥
    none-is-not-some e = let z : ◌≡◌ {A = ℕ} 0 1 = cc in omega arith
place-from-marked f i (x ∷ ps) p zero y at is h =
    in-cond (f x) i (places_from f (suc i) ps) p
    ∙ or_left _ _ (and_from _ _ (ap f (let e : x ≡ y = cc in e) ∙ h) (eq-eqb _ _ (omega (arith, at))))
place-from-marked f i (x ∷ ps) p (suc k) y at is h =
    in-cond (f x) i (places_from f (suc i) ps) p ∙ or_right _ _ (place-from-marked f (suc i) ps p k y (omega (arith, at)) is h)
