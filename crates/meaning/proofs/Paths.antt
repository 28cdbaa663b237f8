-- A table accepts a list of pairs exactly when a path over its moves leads from a start to a final place. Assumes nothing.
use Rattle.std.proofs.Common.{◌≡◌, ℕ, zero, suc, ◌+◌, ◌<◌, ◌≤◌, true, List, [], ◌∷◌, length, get_or, None, sym, refl, ap, ◌∙◌, subst, inl, inr, ⊎_elim, zero-add, arith}
use mathlib.Core.List.{Memᴰ}
use Rattle.std.proofs.lemmas.Bool.{cases_lt}
use Rattle.std.specs.List.{AllByRecursion}
use Rattle.meaning.specs.declared.values.Pair.{Pair}
use Rattle.meaning.specs.declared.values.Bound.TheVariants.{Any}
use Rattle.meaning.specs.declared.values.Edge.{Edge}
use Rattle.meaning.specs.Published.{TimedWord, Clock, Arc, Automaton, Step, Holds}
use Rattle.meaning.specs.Words.{timed}
use Rattle.meaning.specs.Tables.{Contents, arc, automaton, Accepts}
use Rattle.meaning.specs.Stepping.{Cells, Move, never, aged, moves, holds_all}
use Rattle.meaning.proofs.Readings.{Along, along-at-first, along-more, clock-here, event-here}
use Rattle.meaning.proofs.Bounds.{Read, read-from-places, bounds-hold, constraint-holds}

-- edges that take the moves in turn, from place l to place q
abbrev pub Path : List Edge → ℕ → List Move → ℕ → Type 0
Path es l [] q = l ≡ q
Path es l (m ∷ ms) q =
    (e : Edge) × Memᴰ e es × (e.source ≡ l) × (e.event ≡ m.event) × (holds_all e.bounds m.reading ≡ true) × Path es e.target ms q

-- past the first n events an edge asks nothing
abbrev pub Within : ℕ → List Edge → Type 0
Within n es = (e : Edge) → Memᴰ e es → (k : ℕ) → n ≤ k → get_or e.bounds k Any ≡ Any

-- Part of a computation: n steps from position i on, from place l to place q.
pub record Segment (A : Automaton) (w : TimedWord) (i n l q : ℕ) : Type 0 where
  pub location : ℕ → ℕ
  pub arc : ℕ → Arc
  pub begins : location 0 ≡ l
  pub ends : location n ≡ q
  pub step : (k : ℕ) → k < n → Step A w (i + k) (arc k) (location k) (location (suc k))

abbrev before : {X : Type 0} → X → (ℕ → X) → ℕ → X
before x f zero = x
before x f (suc k) = f k

step-at : {A : Automaton} {w : TimedWord} {e : Arc} {l q : ℕ} (i j : ℕ) → i ≡ j → Step A w i e l q → Step A w j e l q
step-at {A} {w} {e} {l} {q} i j p s = subst (λ k. Step A w k e l q) p s

module _ (t : Contents) (W : TimedWord) (n : ℕ) (within : Within n t.edges) where
  abbrev A : Automaton
  A = automaton t

  read_here : {i T : ℕ} {cells : Cells} {p : Pair} {w : List Pair} (along : Along W n i T cells (p ∷ w)) (e : Edge) → Memᴰ e t.edges
      → Read W i 0 e.bounds (aged p.wait cells)
  read_here {i} {T} {cells} {p} {w} along e mem = read-from-places W i 0 e.bounds (aged p.wait cells) (λ k. ⊎_elim
      (λ low. inr (subst (λ a. Clock W i a (get_or (aged p.wait cells) k None)) (sym (zero-add k)) (clock-here along k low)))
      (λ high. inl (within e mem k high))
      (cases_lt k n))

  -- one step, and then a segment
  joined-segment : (i m l k q : ℕ) (a : Arc) (rest : Segment A W (suc i) m k q) → Step A W i a l (rest.location 0) → Segment A W i (suc m) l q
  joined-segment i m l k q a rest first = record {
    location = before l rest.location;
    arc = before a rest.arc;
    begins = refl;
    ends = rest.ends;
    step = steps;
  }
    where
      steps : (j : ℕ) → j < suc m → Step A W (i + j) (before a rest.arc j) (before l rest.location j) (before l rest.location (suc j))
      steps zero h = step-at i (i + 0) (omega arith) first
      steps (suc j) h = step-at (suc i + j) (i + suc j) (omega arith) (rest.step j (omega arith))

  -- what is left of a segment after its first step
  tail-segment : (i m l q k : ℕ) (seg : Segment A W i (suc m) l q) → seg.location 1 ≡ k → Segment A W (suc i) m k q
  tail-segment i m l q k seg is = record {
    location = λ j. seg.location (suc j);
    arc = λ j. seg.arc (suc j);
    begins = is;
    ends = seg.ends;
    step = λ j h. step-at (i + suc j) (suc i + j) (omega arith) (seg.step (suc j) (omega arith));
  }

  segment-from-path : (w : List Pair) (i T : ℕ) (cells : Cells) (l q : ℕ) → Along W n i T cells w
      → Path t.edges l (moves aged n cells w) q → Segment A W i (length w) l q
  segment-from-path [] i T cells l q along path =
      record { location = λ _. l; arc = λ _. record { source = 0; target = 0; event = 0; constraint = [] }; begins = refl; ends = path; step = λ k h. absurd (omega arith) }
  segment-from-path (p ∷ w) i T cells l q along path =
      let e = path.0 in
      let rest = segment-from-path w (suc i) (T + p.wait) _ e.target q (along-more along) path.5 in
      joined-segment i (length w) l e.target q (arc e) rest (record {
        edge = (e, path.1, refl);
        source = path.2;
        target = sym rest.begins;
        event = path.3 ∙ sym (event-here along);
        constraint = constraint-holds W i 0 e.bounds _ (read_here along e path.1) path.4;
      })

  path-from-segment : (w : List Pair) (i T : ℕ) (cells : Cells) (l q : ℕ) → Along W n i T cells w
      → Segment A W i (length w) l q → Path t.edges l (moves aged n cells w) q
  path-from-segment [] i T cells l q along seg = sym seg.begins ∙ seg.ends
  path-from-segment (p ∷ w) i T cells l q along seg =
      let first = step-at (i + 0) i (omega arith) (seg.step 0 (omega arith)) in
      let e = first.edge.0 in
      let mem = first.edge.1 in
      let is = first.edge.2 in
      let tail = tail-segment i (length w) l q e.target seg (sym first.target ∙ ap (λ a. a.target) is) in (
        e,
        mem,
        ap (λ a. a.source) (sym is) ∙ first.source ∙ seg.begins,
        ap (λ a. a.event) (sym is) ∙ first.event ∙ event-here along,
        bounds-hold W i 0 e.bounds _ (read_here along e mem) (subst (λ a. AllByRecursion (Holds W i) a.constraint) is first.constraint),
        path-from-segment w (suc i) (T + p.wait) _ e.target q (along-more along) tail,
      )

-- A path over the moves of the list of pairs leads from a start to a final place.
abbrev pub Reaches : Contents → ℕ → List Pair → Type 0
Reaches t n w =
    (l : ℕ) × (q : ℕ) × (automaton t).start l × (automaton t).final q × Path t.edges l (moves aged n never w) q

module _ (t : Contents) (n : ℕ) (few : n ≤ 8) (within : Within n t.edges) where
  pub reaches-from-accepts : (w : List Pair) → Accepts t w → Reaches t n w
  reaches-from-accepts w h =
      let c = h.0 in (
        c.location 0,
        c.location (length w),
        c.begins,
        h.1,
        path-from-segment t (timed w) n within w 0 0 never (c.location 0) (c.location (length w)) (along-at-first n w few)
            (record { location = c.location; arc = c.arc; begins = refl; ends = refl; step = λ k l. step-at k (0 + k) (sym (zero-add k)) (c.step k l) }),
      )

  pub accepts-from-reaches : (w : List Pair) → Reaches t n w → Accepts t w
  accepts-from-reaches w h =
      let seg = segment-from-path t (timed w) n within w 0 0 never h.0 h.1 (along-at-first n w few) h.4 in (
        record {
          location = seg.location;
          arc = seg.arc;
          begins = subst (automaton t).start (sym seg.begins) h.2;
          step = λ i l. step-at (0 + i) i (zero-add i) (seg.step i l);
        },
        subst (automaton t).final (sym seg.ends) h.3,
      )
