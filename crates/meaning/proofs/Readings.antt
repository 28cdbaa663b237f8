-- The readings along a word are the published values of the clocks, at every position. Assumes nothing.
use Rattle.std.proofs.Common.{◌≡◌, ℕ, zero, suc, ◌+◌, ◌<◌, ◌≤◌, Bool, true, false, cond, ltb, List, [], ◌∷◌, length, get_or, set, replicate, Some, None, Option, sym, refl, ap, ◌∙◌, subst, ⊎_elim, zero-add, arith}
use Rattle.std.proofs.lemmas.List.{length-map, length-set, get_or-set_other}
use Rattle.std.proofs.lemmas.Bool.{cases_lt, lt-ltb, le-ltb, cond-true, cond-false}
use Rattle.std.specs.List.{slice_get}
use Rattle.std.specs.Option.{option_map}
use Rattle.meaning.specs.declared.values.Pair.{Pair}
use Rattle.meaning.specs.Published.{TimedWord, Clock}
use Rattle.meaning.specs.Words.{event_at, time_at, timed, Reads}
use Rattle.meaning.specs.Stepping.{Cells, Move, never, aged, restarted, moves}
use Rattle.meaning.proofs.Clocks.{Since, Known, clock-from-since, known-aged, known-restarted, get_or-mapped}

-- From position i on, where the time before it was T, the timed word W goes on as w.
abbrev pub Goes : TimedWord → ℕ → ℕ → List Pair → Type 0
Goes W i T w = (k : ℕ) → k < length w → (W.event (i + k) ≡ event_at w k) × (W.time (i + k) ≡ T + time_at w k)

-- The walk along W has come to position i at the time T with these cells, and w is to come.
pub record Along (W : TimedWord) (n i T : ℕ) (cells : Cells) (w : List Pair) : Type 0 where
  pub goes : Goes W i T w
  pub few : n ≤ 8
  pub size : length cells ≡ 8
  pub known : Known W n i T cells
  pub others : (a : ℕ) → n ≤ a → get_or cells a None ≡ None

length-restarted : (n a : ℕ) (cells : Cells) → length (restarted n a cells) ≡ length cells
length-restarted n a cells = go (ltb a n)
  where
    put : length (set cells a (Some 0)) ≡ length cells
    put = length-set cells a (Some 0)

    go : (b : Bool) → length (cond b (set cells a (Some 0)) cells) ≡ length cells
    go true = put
    go false = refl

restarted-others : (n a k : ℕ) (cells : Cells) → n ≤ k → get_or (restarted n a cells) k None ≡ get_or cells k None
restarted-others n a k cells past = ⊎_elim
    (λ inside. ap (λ x. get_or x k None) (cond-true _ _ _ (lt-ltb a n inside)) ∙ get_or-set_other cells a k (Some 0) None (omega arith))
    (λ beyond. ap (λ x. get_or x k None) (cond-false _ _ _ (le-ltb a n beyond)))
    (cases_lt a n)

never-is-none : (a : ℕ) → get_or never a None ≡ None
never-is-none a = go 8 a
  where
    go : (m a : ℕ) → get_or {A = Option ℕ} (replicate m None) a None ≡ None
    go zero a = refl
    go (suc m) zero = refl
    go (suc m) (suc a) = go m a

pub along-at-first : (n : ℕ) (w : List Pair) → n ≤ 8 → Along (timed w) n 0 0 never w
along-at-first n w few = record {
  goes = λ k h. (ap (event_at w) (zero-add k), ap (time_at w) (zero-add k) ∙ sym (zero-add _));
  few = few;
  size = refl;
  known = λ a h. subst (Since (timed w) 0 0 a) (sym (never-is-none a)) (λ k l e. omega arith);
  others = λ a h. never-is-none a;
}

module _ {W : TimedWord} {n i T : ℕ} {cells : Cells} {p : Pair} {w : List Pair} (along : Along W n i T cells (p ∷ w)) where
  pub event-here : W.event i ≡ p.event
  event-here = let e : i ≡ i + 0 = omega arith in ap W.event e ∙ (along.goes 0 (omega arith)).0

  pub time-here : W.time i ≡ T + p.wait
  time-here = let e : i ≡ i + 0 = omega arith in ap W.time e ∙ (along.goes 0 (omega arith)).1

  size-here : length (aged p.wait cells) ≡ 8
  size-here = length-map cells (option_map (λ v. v + p.wait)) ∙ along.size

  others-here : (a : ℕ) → n ≤ a → get_or (aged p.wait cells) a None ≡ None
  others-here a past = get_or-mapped (λ v. v + p.wait) cells a ∙ ap (option_map (λ v. v + p.wait)) (along.others a past)

  pub clock-here : (a : ℕ) → a < n → Clock W i a (get_or (aged p.wait cells) a None)
  clock-here a low =
      clock-from-since W i a _ (subst (λ s. Since W i s a (get_or (aged p.wait cells) a None)) (sym time-here) (known-aged W n i T p.wait cells along.known a low))

  pub along-more : Along W n (suc i) (T + p.wait) (restarted n p.event (aged p.wait cells)) w
  along-more = record {
    goes = λ k h.
        let e : suc i + k ≡ i + suc k = omega arith in
        let g = along.goes (suc k) (omega arith) in
        (ap W.event e ∙ g.0, ap W.time e ∙ g.1 ∙ omega arith);
    few = along.few;
    size = length-restarted n p.event (aged p.wait cells) ∙ size-here;
    known = known-restarted W n i (T + p.wait) p.event (aged p.wait cells) (omega (arith, along.few, size-here)) event-here time-here
        (known-aged W n i T p.wait cells along.known);
    others = λ a past. restarted-others n p.event a (aged p.wait cells) past ∙ others-here a past;
  }

-- At every position of the rest, the reading is that of the clocks.
readings-along : (w : List Pair) (W : TimedWord) (n i T : ℕ) (cells : Cells) → Along W n i T cells w
    → (j : ℕ) (m : Move) → slice_get (moves aged n cells w) j ≡ Some m
    → (length m.reading ≡ 8) × ((a : ℕ) → a < n → Clock W (i + j) a (get_or m.reading a None)) × ((a : ℕ) → n ≤ a → get_or m.reading a None ≡ None)
readings-along [] W n i T cells along j m is = absurd (let z : ◌≡◌ {A = ℕ} 0 1 = cc in omega arith)
readings-along (p ∷ w) W n i T cells along zero m is =
    let e : aged p.wait cells ≡ m.reading = ap read is in (
      ap length (sym e) ∙ size-here along,
      λ a low. let at : i ≡ i + 0 = omega arith in subst (λ x. Clock W (i + 0) a (get_or x a None)) e (subst (λ x. Clock W x a (get_or (aged p.wait cells) a None)) at (clock-here along a low)),
      λ a past. ap (λ x. get_or x a None) (sym e) ∙ others-here along a past,
    )
  where
    read : Option Move → Cells
    read None = []
    read (Some x) = x.reading
readings-along (p ∷ w) W n i T cells along (suc j) m is =
    let rest = readings-along w W n (suc i) (T + p.wait) _ (along-more along) j m is in
    (rest.0, λ a low. let e : suc i + j ≡ i + suc j = omega arith in subst (λ x. Clock W x a (get_or m.reading a None)) e (rest.1 a low), rest.2)

pub reading-at : (n : ℕ) (w : List Pair) → n ≤ 8 → (j : ℕ) (m : Move) → slice_get (moves aged n never w) j ≡ Some m → Reads n w j m.reading
reading-at n w few j m is =
    let all = readings-along w (timed w) n 0 0 never (along-at-first n w few) j m is in
    record { size = all.0; clocks = λ a low. subst (λ x. Clock (timed w) x a (get_or m.reading a None)) (zero-add j) (all.1 a low); others = all.2 }
