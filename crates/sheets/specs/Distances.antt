-- What a list of distances and its reader hold, and what reading promises.
use Rattle.std.specs.Prelude.{◌≡◌, ℕ, max, List, length, Ok, Err, vec_items, Result}
use Rattle.sheets.specs.declared.list.DistanceList.{DistanceList}
use Rattle.formats.specs.declared.fault.SheetFault.{SheetFault}
use Rattle.formats.specs.Faults.{refusal}
use Rattle.formats.specs.Least.{Refused}
use Rattle.formats.specs.DistanceText.{Distances, IsDistances, OnlyDistances, blank_distances, distance_format}

abbrev pub distances_in : DistanceList → Distances
distances_in l = record { tick = l.tick; lines = vec_items l.lines }

-- A list is for as many events as there are names, and for one where there is none.
abbrev pub IsListOf : List (List ℕ) → List ℕ → DistanceList → Type 0
IsListOf names t list = OnlyDistances names t (distances_in list) × (list.events ≡ max (length names) 1)

abbrev pub IsBlankList : DistanceList → Type 0
IsBlankList list = (distances_in list ≡ blank_distances) × (list.events ≡ 1)

-- The list that was read, or why there is none.
abbrev pub ListRead : Result DistanceList SheetFault → List (List ℕ) → List ℕ → Type 0
ListRead (Ok list) names t = IsListOf names t list
ListRead (Err e) names t = Refused (distance_format names) t (IsDistances names t) (refusal e)

-- A text that is taken is that of the list; one that is refused is that of none, the refusal is its least fault, and the lent list is blank.
abbrev pub ListTaken : Result (Unit {0}) SheetFault → List (List ℕ) → List ℕ → DistanceList → Type 0
ListTaken (Ok _) names t after = IsListOf names t after
ListTaken (Err e) names t after = Refused (distance_format names) t (IsDistances names t) (refusal e) × IsBlankList after
