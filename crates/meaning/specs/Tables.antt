-- What a table stands for: an event-recording automaton, and its behaviours.
use Rattle.std.specs.Prelude.{◌≡◌, ℕ, suc, true, List, [], ◌∷◌, ◌++◌, map, length, Some}
use mathlib.Core.List.{Memᴰ}
use Rattle.std.specs.List.{slice_get}
use Rattle.meaning.specs.declared.values.Pair.{Pair}
use Rattle.meaning.specs.declared.values.Bound.{Bound}
use Rattle.meaning.specs.declared.values.Bound.TheVariants.{Any, Never, AtLeast, Between}
use Rattle.meaning.specs.declared.values.Place.{Place}
use Rattle.meaning.specs.declared.values.Edge.{Edge}
use Rattle.meaning.specs.Published.{Test, undefined, at_least, at_most, Atom, Arc, Automaton, Accepting}
use Rattle.meaning.specs.Words.{timed, Word}

-- What a table holds: its tick in milliseconds, the names of its events, its places and its edges.
pub record Contents : Type 0 where
  pub tick : ℕ
  pub names : List (List ℕ)
  pub places : List Place
  pub edges : List Edge

-- A bound as a conjunction of tests of one clock.
abbrev pub tests : Bound → List Test
tests Any = []
tests Never = undefined ∷ []
tests (AtLeast a) = at_least a ∷ []
tests (Between a b) = at_least a ∷ at_most b ∷ []

-- The bounds in turn are those of the clocks of events i, i + 1, ….
abbrev pub atoms : ℕ → List Bound → List Atom
atoms i [] = []
atoms i (b ∷ bs) = map (λ t. record { clock = i; test = t }) (tests b) ++ atoms (suc i) bs

abbrev pub arc : Edge → Arc
arc e = record { source = e.source; target = e.target; event = e.event; constraint = atoms 0 e.bounds }

abbrev pub automaton : Contents → Automaton
automaton t = record {
  start = λ l. (p : Place) × (slice_get t.places l ≡ Some p) × (p.start ≡ true);
  final = λ l. (p : Place) × (slice_get t.places l ≡ Some p) × (p.accepting ≡ true);
  edge = λ a. (e : Edge) × Memᴰ e t.edges × (a ≡ arc e);
}

-- The table accepts a list of pairs: an accepting computation over the timed word that they stand for.
abbrev pub Accepts : Contents → List Pair → Type 0
Accepts t w = Accepting (automaton t) (timed w)

-- A behaviour is a word over the table's events that the table accepts.
abbrev pub Behaviour : Contents → List Pair → Type 0
Behaviour t w = Word (length t.names) w × Accepts t w
