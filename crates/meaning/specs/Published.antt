-- Event-recording automata and the timed words that they accept, as the literature defines them, at whole ticks.
-- Nothing of this product stands here, and nothing is assumed.
use Rattle.std.specs.Prelude.{◌≡◌, ℕ, suc, ◌+◌, ◌<◌, ◌≤◌, List, Some, None, Option, ◌≢◌}
use Rattle.std.specs.List.{AllByRecursion}

-- A timed word (a₀, t₀) (a₁, t₁) …: at each position below its size an event and a time stamp, and no stamp is below the one before it.
-- What stands from the size on does not count.
pub record TimedWord : Type 0 where
  pub size : ℕ
  pub event : ℕ → ℕ
  pub time : ℕ → ℕ
  pub ordered : (i : ℕ) → suc i < size → time i ≤ time (suc i)

-- The value of the clock of event a at position j: the time since the last earlier position of a, and undefined (None) if there is none.
abbrev pub Clock : TimedWord → ℕ → ℕ → Option ℕ → Type 0
Clock w j a (Some v) =
    (i : ℕ) × (i < j) × (w.event i ≡ a) × ((k : ℕ) → i < k → k < j → w.event k ≢ a) × (w.time i + v ≡ w.time j)
Clock w j a None = (k : ℕ) → k < j → w.event k ≢ a

-- What an atom asks of a clock's value.
pub data Test : Type 0 where
  undefined : Test
  at_least : ℕ → Test
  at_most : ℕ → Test

pub record Atom : Type 0 where
  pub clock : ℕ
  pub test : Test

-- Only `undefined` holds of an undefined clock.
abbrev pub Passes : Test → Option ℕ → Type 0
Passes undefined None = Unit {0}
Passes undefined (Some v) = ⊥
Passes (at_least c) None = ⊥
Passes (at_least c) (Some v) = c ≤ v
Passes (at_most c) None = ⊥
Passes (at_most c) (Some v) = v ≤ c

-- An atom holds at position j of a timed word.
abbrev pub Holds : TimedWord → ℕ → Atom → Type 0
Holds w j a = (v : Option ℕ) × Clock w j a.clock v × Passes a.test v

-- An edge from a source to a target location, with its event and its clock constraint, a conjunction of atoms.
pub record Arc : Type 0 where
  pub source : ℕ
  pub target : ℕ
  pub event : ℕ
  pub constraint : List Atom

-- An event-recording automaton: which locations are starts, which are final, and which edges it has.
pub record Automaton : Type 1 where
  pub start : ℕ → Type 0
  pub final : ℕ → Type 0
  pub edge : Arc → Type 0

-- At position i an edge leads from one location to another.
pub record Step (A : Automaton) (w : TimedWord) (i : ℕ) (e : Arc) (from to : ℕ) : Type 0 where
  pub edge : A.edge e
  pub source : e.source ≡ from
  pub target : e.target ≡ to
  pub event : e.event ≡ w.event i
  pub constraint : AllByRecursion (Holds w i) e.constraint

-- A computation over a timed word: locations ℓ₀ ℓ₁ … and edges e₀ e₁ …, which begin at a start and take the pairs in turn.
pub record Computation (A : Automaton) (w : TimedWord) : Type 0 where
  pub location : ℕ → ℕ
  pub arc : ℕ → Arc
  pub begins : A.start (location 0)
  pub step : (i : ℕ) → i < w.size → Step A w i (arc i) (location i) (location (suc i))

-- An automaton accepts a timed word if some computation over it ends in a final location.
abbrev pub Accepting : Automaton → TimedWord → Type 0
Accepting A w = (c : Computation A w) × A.final (c.location w.size)
