-- What is so of the parts of a table text wherever its lines lead, stage by stage. A distance text has the same tick sheet.
use Rattle.std.specs.Prelude.{◌≡◌, ℕ, true, ◌≤◌, List, [], ◌∷◌, length}
use Rattle.texts.specs.Numbers.{every}
use Rattle.tables.specs.Lawful.{lawful_edge, lawful_names}
use Rattle.formats.specs.declared.stage.Stage.{Stage}
use Rattle.formats.specs.declared.stage.Stage.TheVariants.{TickHead, TickRows, PlaceHead, PlaceRows, EdgeHead, EdgeRows}
use Rattle.formats.specs.TableText.{Parts}

-- at most one tick, in range
abbrev pub Ticked : List ℕ → Type 0
Ticked [] = Unit {0}
Ticked (n ∷ []) = (1 ≤ n) × (n ≤ 60000)
Ticked (n ∷ m ∷ ns) = ⊥

-- one tick, in range
abbrev pub OneTick : List ℕ → Type 0
OneTick ticks = Ticked ticks × (1 ≤ length ticks)

-- within the limits of the sheets so far, with nothing of those to come
abbrev pub GoodAt : Stage → Parts → Type 0
GoodAt TickHead s = (s.ticks ≡ []) × (s.places ≡ []) × (s.edges ≡ [])
GoodAt TickRows s = Ticked s.ticks × (s.places ≡ []) × (s.edges ≡ [])
GoodAt PlaceHead s = OneTick s.ticks × (s.places ≡ []) × (s.edges ≡ [])
GoodAt PlaceRows s = OneTick s.ticks × (length s.places ≤ 32) × (s.edges ≡ [])
GoodAt EdgeHead s = OneTick s.ticks × ((1 ≤ length s.places) × (length s.places ≤ 32)) × (s.edges ≡ [])
GoodAt EdgeRows s =
    OneTick s.ticks × ((1 ≤ length s.places) × (length s.places ≤ 32)) × (lawful_names s.names ≡ true)
    × ((length s.edges ≤ 64) × (every (lawful_edge (length s.names) (length s.places)) s.edges ≡ true))
