-- Worked examples, stated with the published definitions.
use Rattle.std.specs.Prelude.{ℕ, true, false, [], ◌∷◌, Some, None, codes, Option}
use Rattle.std.specs.List.{AllByRecursion}
use Rattle.meaning.specs.declared.values.Pair.{Pair}
use Rattle.meaning.specs.declared.values.Bound.{Bound}
use Rattle.meaning.specs.declared.values.Bound.TheVariants.{Any, Never, AtLeast, Between}
use Rattle.meaning.specs.declared.values.Edge.{Edge}
use Rattle.meaning.specs.Published.{Clock, Passes}
use Rattle.meaning.specs.Words.{timed}
use Rattle.meaning.specs.Tables.{Contents, tests, Behaviour}

-- a bound holds of a clock's value
abbrev pub Allows : Bound → Option ℕ → Type 0
Allows b v = AllByRecursion (λ t. Passes t v) (tests b)

-- The events of the examples: open is 0, steam is 1.
abbrev pub open' : ℕ → Pair
open' d = record { event = 0; wait = d }

abbrev pub steam : ℕ → Pair
steam d = record { event = 1; wait = d }

abbrev pub edge : ℕ → ℕ → ℕ → Bound → Bound → Edge
edge from to on a b =
    record { source = from; target = to; event = on; bounds = a ∷ b ∷ Any ∷ Any ∷ Any ∷ Any ∷ Any ∷ Any ∷ [] }

-- A driver that opens once, and then lets steam 2 or 3 ticks after each opening, once only.
abbrev pub driver : Contents
driver = record {
  tick = 100;
  names = codes "open" ∷ codes "steam" ∷ [];
  places = record { start = true; accepting = false } ∷ record { start = false; accepting = true } ∷ [];
  edges = edge 0 1 0 Never Never ∷ edge 1 1 1 (Between 2 3) Never ∷ [];
}

pub record Examples : Type 0 where
  pub span-fails-below : Allows (Between 2 3) (Some 1) → ⊥
  pub span-fails-above : Allows (Between 2 3) (Some 4) → ⊥
  pub span-fails-for-never : Allows (Between 2 3) None → ⊥
  pub any-holds-for-never : Allows Any None
  pub from-zero-fails-for-never : Allows (AtLeast 0) None → ⊥
  pub open-reads-three : Clock (timed (open' 7 ∷ open' 2 ∷ steam 3 ∷ [])) 2 0 (Some 3)
  pub steam-reads-never : Clock (timed (open' 7 ∷ open' 2 ∷ steam 3 ∷ [])) 2 1 None
  pub steam-in-time : Behaviour driver (open' 9 ∷ steam 2 ∷ [])
  pub steam-too-late : Behaviour driver (open' 9 ∷ steam 4 ∷ []) → ⊥
