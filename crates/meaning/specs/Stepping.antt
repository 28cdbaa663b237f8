-- Behaviours as the code finds them: eight clock cells stepped along a word, and the set of places reached so far.
-- That this is the published meaning is proved, and told by the contracts that cite `Behaviour`.
use Rattle.std.specs.Prelude.{◌≡◌, ℕ, suc, ◌+◌, ◌/◌, ◌%◌, ◌^◌, min, max, Bool, true, false, cond, not, ◌&&◌, List, [], ◌∷◌, map, length, replicate, Some, None, Option, ◌==◌, bit_and, bit_or, nat_le, nat_lt, slice_set}
use Rattle.std.specs.Option.{option_map}
use Rattle.meaning.specs.declared.values.Pair.{Pair}
use Rattle.meaning.specs.declared.values.Bound.{Bound}
use Rattle.meaning.specs.declared.values.Bound.TheVariants.{Any, Never, AtLeast, Between}
use Rattle.meaning.specs.declared.values.Place.{Place}
use Rattle.meaning.specs.declared.values.Edge.{Edge}
use Rattle.meaning.specs.Words.{Reads}
use Rattle.meaning.specs.Tables.{Contents}

-- A reading: for each event the ticks since it last came, or None for never. The code keeps eight cells.
abbrev pub Cells : Type 0
Cells = List (Option ℕ)

abbrev pub never : Cells
never = replicate 8 None

-- a wait passes
abbrev pub aged : ℕ → Cells → Cells
aged d cells = map (option_map (λ v. v + d)) cells

-- each number above the cap becomes the cap plus 1
abbrev pub capped : ℕ → Cells → Cells
capped c cells = map (option_map (λ v. min v (c + 1))) cells

abbrev pub advanced : ℕ → ℕ → Cells → Cells
advanced c d cells = capped c (aged d cells)

-- event a comes: its cell becomes 0. An event at or past the count n changes no cell.
abbrev pub restarted : ℕ → ℕ → Cells → Cells
restarted n a cells = cond (nat_lt a n) (slice_set cells a (Some 0)) cells

-- The reading at position j of a word over n events, capped at c.
abbrev pub CappedReads : ℕ → ℕ → List Pair → ℕ → Cells → Type 0
CappedReads c n w j cells = (whole : Cells) × Reads n w j whole × (cells ≡ capped c whole)

-- One pair of a word as an edge sees it: the event, and the reading when it comes, before its own cell is set to 0.
pub record Move : Type 0 where
  pub event : ℕ
  pub reading : Cells

-- The moves of a word over n events, from given cells; `age` says how a wait changes the cells.
abbrev pub moves : (ℕ → Cells → Cells) → ℕ → Cells → List Pair → List Move
moves age n cells [] = []
moves age n cells (p ∷ w) =
    record { event = p.event; reading = age p.wait cells } ∷ moves age n (restarted n p.event (age p.wait cells)) w

-- the cells after all pairs of a word
abbrev pub cells_after : (ℕ → Cells → Cells) → ℕ → Cells → List Pair → Cells
cells_after age n cells [] = cells
cells_after age n cells (p ∷ w) = cells_after age n (restarted n p.event (age p.wait cells)) w

abbrev pub holds : Bound → Option ℕ → Bool
holds Any v = true
holds Never None = true
holds Never (Some v) = false
holds (AtLeast a) None = false
holds (AtLeast a) (Some v) = nat_le a v
holds (Between a b) None = false
holds (Between a b) (Some v) = nat_le a v && nat_le v b

-- each bound holds for the cell at its place; a cell that is not there is never
abbrev pub holds_all : List Bound → Cells → Bool
holds_all [] cells = true
holds_all (b ∷ bs) [] = holds b None && holds_all bs []
holds_all (b ∷ bs) (v ∷ cells) = holds b v && holds_all bs cells

-- A set of places is a number in which place p counts 2 ^ p.
abbrev pub in_set : ℕ → ℕ → Bool
in_set s p = s / 2 ^ p % 2 == 1

-- two sets have a place in common
abbrev pub meets : ℕ → ℕ → Bool
meets s t = not (bit_and s t == 0)

-- the places of which a test holds, where the first of the list is place i
abbrev pub places_from : (Place → Bool) → ℕ → List Place → ℕ
places_from f i [] = 0
places_from f i (p ∷ ps) = cond (f p) (bit_or (2 ^ i) (places_from f (suc i) ps)) (places_from f (suc i) ps)

abbrev pub starts : List Place → ℕ
starts ps = places_from (λ p. p.start) 0 ps

abbrev pub finals : List Place → ℕ
finals ps = places_from (λ p. p.accepting) 0 ps

-- an edge leaves a set of places under an event and a reading
abbrev pub leaves : Edge → ℕ → ℕ → Cells → Bool
leaves e s a cells = in_set s e.source && (e.event == a && holds_all e.bounds cells)

-- the targets of all edges that leave the set under the event and the reading
abbrev pub targets : List Edge → ℕ → ℕ → Cells → ℕ
targets [] s a cells = 0
targets (e ∷ es) s a cells = cond (leaves e s a cells) (bit_or (2 ^ e.target) (targets es s a cells)) (targets es s a cells)

-- the places where computations over the moves end that begin in the set
abbrev pub ends : List Edge → ℕ → List Move → ℕ
ends es s [] = s
ends es s (m ∷ ms) = ends es (targets es s m.event m.reading) ms

-- the places where computations of a table over a word end, with cells capped at c
abbrev pub reached : ℕ → Contents → List Pair → ℕ
reached c t w = ends t.edges (starts t.places) (moves (advanced c) (length t.names) never w)

-- The cap of a table is the largest number in its bounds, or 0.
abbrev pub top : Bound → ℕ
top Any = 0
top Never = 0
top (AtLeast a) = a
top (Between a b) = max a b

abbrev pub top_of_bounds : List Bound → ℕ
top_of_bounds [] = 0
top_of_bounds (b ∷ bs) = max (top b) (top_of_bounds bs)

abbrev pub cap_of : List Edge → ℕ
cap_of [] = 0
cap_of (e ∷ es) = max (top_of_bounds e.bounds) (cap_of es)
