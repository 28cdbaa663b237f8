-- Stepping cells along a word gives the published values of the clocks. Assumes nothing.
use Rattle.std.proofs.Common.{◌≡◌, ℕ, zero, suc, ◌+◌, ◌<◌, ◌≤◌, [], ◌∷◌, map, length, get_or, set, Some, None, Option, sym, refl, ap, ◌∙◌, subst, ⊎_elim, arith}
use Rattle.std.proofs.lemmas.List.{get_or-set_same, get_or-set_other}
use Rattle.std.proofs.lemmas.Bool.{cases_order, cases_eq, lt-ltb, le-ltb, cases_lt, cond-true, cond-false}
use Rattle.std.specs.Option.{option_map}
use Rattle.meaning.specs.Published.{TimedWord, Clock}
use Rattle.meaning.specs.Stepping.{Cells, aged, restarted}

-- The clock of event a after the first i pairs, at the time t: like `Clock`, which is this at the time of pair i.
abbrev pub Since : TimedWord → ℕ → ℕ → ℕ → Option ℕ → Type 0
Since w i t a (Some v) =
    (k : ℕ) × (k < i) × (w.event k ≡ a) × ((m : ℕ) → k < m → m < i → w.event m ≡ a → ⊥) × (w.time k + v ≡ t)
Since w i t a None = (k : ℕ) → k < i → w.event k ≡ a → ⊥

pub clock-from-since : (w : TimedWord) (j a : ℕ) (v : Option ℕ) → Since w j (w.time j) a v → Clock w j a v
clock-from-since w j a (Some v) h = h
clock-from-since w j a None h = h

-- A clock has one value at most.
pub clock-has-one-value : (w : TimedWord) (j a : ℕ) (u v : Option ℕ) → Clock w j a u → Clock w j a v → u ≡ v
clock-has-one-value w j a None None h k = refl
clock-has-one-value w j a None (Some v) h k = absurd (h k.0 k.1 k.2)
clock-has-one-value w j a (Some u) None h k = absurd (k h.0 h.1 h.2)
clock-has-one-value w j a (Some u) (Some v) h k =
    ⊎_elim
    (λ e. let t : w.time h.0 ≡ w.time k.0 = ap w.time e in let same : u ≡ v = omega (arith, h.4, k.4, t) in ap Some same)
    (⊎_elim (λ l. absurd (h.3 k.0 l k.1 k.2)) (λ l. absurd (k.3 h.0 l h.1 h.2)))
    (cases_order h.0 k.0)

pub since-later : (w : TimedWord) (i t a d : ℕ) (v : Option ℕ) → Since w i t a v → Since w i (t + d) a (option_map (λ x. x + d) v)
since-later w i t a d None h = h
since-later w i t a d (Some v) h = (h.0, h.1, h.2, h.3, omega (arith, h.4))

pub since-other : (w : TimedWord) (i t a : ℕ) (v : Option ℕ) → (w.event i ≡ a → ⊥) → Since w i t a v → Since w (suc i) t a v
since-other w i t a None ne h = λ k l e. ⊎_elim (λ same. ne (subst (λ x. w.event x ≡ a) same e)) (λ other. h k (omega arith) e) (cases_eq k i)
since-other w i t a (Some v) ne h = (
  h.0,
  omega (arith, h.1),
  h.2,
  λ m above below e. ⊎_elim (λ same. ne (subst (λ x. w.event x ≡ a) same e)) (λ other. h.3 m above (omega arith) e) (cases_eq m i),
  h.4,
)

pub since-same : (w : TimedWord) (i t a : ℕ) → w.event i ≡ a → w.time i ≡ t → Since w (suc i) t a (Some 0)
since-same w i t a e s = (i, omega arith, e, λ m above below _. omega arith, omega (arith, s))

pub get_or-mapped : (f : ℕ → ℕ) (cells : Cells) (a : ℕ) → get_or (map (option_map f) cells) a None ≡ option_map f (get_or cells a None)
get_or-mapped f [] a = refl
get_or-mapped f (v ∷ cells) zero = refl
get_or-mapped f (v ∷ cells) (suc a) = get_or-mapped f cells a

-- The cells below n are the clocks after the first i pairs, at the time t.
abbrev pub Known : TimedWord → ℕ → ℕ → ℕ → Cells → Type 0
Known w n i t cells = (a : ℕ) → a < n → Since w i t a (get_or cells a None)

pub known-aged : (w : TimedWord) (n i t d : ℕ) (cells : Cells) → Known w n i t cells → Known w n i (t + d) (aged d cells)
known-aged w n i t d cells h = λ a l. subst (Since w i (t + d) a) (sym (get_or-mapped (λ x. x + d) cells a)) (since-later w i t a d _ (h a l))

pub known-restarted : (w : TimedWord) (n i t e : ℕ) (cells : Cells) → n ≤ length cells → w.event i ≡ e → w.time i ≡ t
    → Known w n i t cells → Known w n (suc i) t (restarted n e cells)
known-restarted w n i t e cells fits is at h = λ a l. ⊎_elim
    (λ same.
    let inside : e < n = omega arith in
    let put : restarted n e cells ≡ set cells e (Some 0) = cond-true _ _ _ (lt-ltb e n inside) in
    let is0 : get_or (restarted n e cells) a None ≡ Some 0 = ap (λ x. get_or (restarted n e cells) x None) same ∙ ap (λ x. get_or x e None) put ∙ get_or-set_same cells e (Some 0) None (omega arith) in
    subst (Since w (suc i) t a) (sym is0) (since-same w i t a (is ∙ sym same) at))
    (λ other.
    let kept : get_or (restarted n e cells) a None ≡ get_or cells a None =
    ⊎_elim
    (λ inside. ap (λ x. get_or x a None) (cond-true _ _ _ (lt-ltb e n inside)) ∙ get_or-set_other cells e a (Some 0) None other)
    (λ past. ap (λ x. get_or x a None) (cond-false _ _ _ (le-ltb e n past)))
    (cases_lt e n) in
    subst (Since w (suc i) t a) (sym kept) (since-other w i t a _ (λ f. other (sym f ∙ is)) (h a l)))
    (cases_eq a e)
