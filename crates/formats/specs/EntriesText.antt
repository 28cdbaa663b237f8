-- The text of entries, with a number or none for each event of a given list: how it is written, and how it is read line by line.
use Rattle.std.specs.Prelude.{◌≡◌, ℕ, ◌-◌, ◌≤◌, Bool, true, not, ◌&&◌, List, [], ◌∷◌, ◌++◌, map, length, take, drop, replicate, is_some, Some, None, Ok, Err, codes, Option, Result, ◌==◌, nat_le, slice_index_or}
use Rattle.texts.specs.Lines.{unlines, unwords}
use Rattle.texts.specs.Numbers.{every}
use Rattle.rows.specs.Rows.{row_line, number_in, claimed_in}
use Rattle.rows.specs.declared.cell.Cell.{Cell}
use Rattle.rows.specs.declared.cell.Cell.TheVariants.{Number, Absent}
use Rattle.rows.specs.declared.cell.RowKind.TheVariants.{Claim as Claim'}
use Rattle.formats.specs.declared.claim.Claim.{Claim}
use Rattle.formats.specs.declared.claim.EntryStage.{EntryStage}
use Rattle.formats.specs.declared.claim.EntryStage.TheVariants.{Head, Rows}
use Rattle.formats.specs.declared.fault.SheetFault.{SheetFault}
use Rattle.formats.specs.Walk.{Refusal, Line, Limits, head_step, row_step, reading}
use Rattle.formats.specs.Faults.{refusal}
use Rattle.formats.specs.Least.{Due, Format, Least, OneOf, Refused, head_due, row_due}
use Rattle.formats.specs.TableText.{head_is}

-- a number that a text can write, or none
abbrev pub lawful_number : Option ℕ → Bool
lawful_number None = true
lawful_number (Some n) = nat_le n 9999999999

-- There are eight cells, and past the n events they are none.
abbrev pub lawful_claim : ℕ → Claim → Bool
lawful_claim n c =
    (nat_le c.place 9999999999 && nat_le c.state 9999999999)
    && (length c.cells == 8 && (every lawful_number (take n c.cells) && every (λ o. not (is_some o)) (drop n c.cells)))

-- At most `room` claims.
abbrev pub lawful_claims : List (List ℕ) → ℕ → List Claim → Bool
lawful_claims names room claims = nat_le (length claims) room && every (lawful_claim (length names)) claims

-- ---- how it is written

abbrev pub entry_head : List (List ℕ) → List ℕ
entry_head names = unwords (codes "at" ∷ codes "state" ∷ names)

abbrev pub claim_cell : Option ℕ → Cell
claim_cell None = Absent
claim_cell (Some n) = Number n

-- the cells of the n events
abbrev pub claim_cells : ℕ → Claim → List Cell
claim_cells n c = Number c.place ∷ Number c.state ∷ map claim_cell (take n c.cells)

-- One sheet.
abbrev pub entry_lines : List (List ℕ) → List Claim → List (List ℕ)
entry_lines names claims = entry_head names ∷ map (λ c. row_line names (claim_cells (length names) c)) claims

-- Claims have one text.
abbrev pub entries_text : List (List ℕ) → List Claim → List ℕ
entries_text names claims = unlines (entry_lines names claims)

-- ---- how it is read

-- what has been read so far, and where the next line stands
pub record EntryParts : Type 0 where
  pub stage : EntryStage
  pub claims : List Claim

abbrev pub entry_start : EntryParts
entry_start = record { stage = Head; claims = [] }

-- where all lines of a text of these claims have been read
abbrev pub entries_read : List Claim → EntryParts
entries_read claims = record { stage = Rows; claims = claims }

abbrev pub claim_from : ℕ → List Cell → Claim
claim_from n cells = record {
  place = number_in (slice_index_or cells 0 Absent);
  state = number_in (slice_index_or cells 1 Absent);
  cells = map claimed_in (drop 2 cells) ++ replicate (8 - n) None;
}

abbrev pub with_claim : EntryParts → Claim → EntryParts
with_claim s c = record { stage = Rows; claims = s.claims ++ (c ∷ []) }

abbrev pub entry_limits : ℕ → Limits
entry_limits room = record { least = 0; most = room; more = 0 }

abbrev pub entry_step_at : List (List ℕ) → ℕ → EntryStage → EntryParts → Line → Result EntryParts ℕ
entry_step_at names room Head s l = head_step 0 (head_is (entry_head names) l.bytes) l (entries_read s.claims)
entry_step_at names room Rows s l =
    row_step (entry_limits room) (length s.claims) (Claim' (length names)) names l (λ cells. with_claim s (claim_from (length names) cells)) s

abbrev pub entry_step : List (List ℕ) → ℕ → EntryParts → Line → Result EntryParts ℕ
entry_step names room s l = entry_step_at names room s.stage s l

-- The claims that a text stands for, or why it stands for none.
abbrev pub read_entries : List (List ℕ) → ℕ → List ℕ → Result EntryParts Refusal
read_entries names room t = reading 65536 (entry_step names room) entry_start t

-- ---- what it is refused for

abbrev pub entry_due : List (List ℕ) → ℕ → EntryStage → EntryParts → Due
entry_due names room Head s = head_due 0 (head_is (entry_head names))
entry_due names room Rows s = row_due (entry_limits room) (length s.claims) (Claim' (length names)) names

abbrev pub entries_format : List (List ℕ) → ℕ → Format EntryParts
entries_format names room = record { most = 65536; start = entry_start; due = λ s. entry_due names room s.stage s; step = entry_step names room }

-- ---- what reading promises

-- The text of lawful claims, if it is not too long.
abbrev pub IsEntries : List (List ℕ) → ℕ → List ℕ → List Claim → Type 0
IsEntries names room t claims = (lawful_claims names room claims ≡ true) × (entries_text names claims ≡ t) × (length t ≤ 65536)

-- The text of these claims, and of no others.
abbrev pub OnlyEntries : List (List ℕ) → ℕ → List ℕ → List Claim → Type 0
OnlyEntries names room t claims = IsEntries names room t claims × ((others : List Claim) → IsEntries names room t others → others ≡ claims)

-- The claims of a text that is taken come first in the list, and what stands after them stays.
-- A text that is refused is that of no claims, the refusal is its least fault, and the list stays as it was. Memory is never wanting.
abbrev pub EntriesTaken : Result ℕ SheetFault → List (List ℕ) → List ℕ → List Claim → List Claim → Type 0
EntriesTaken (Ok n) names t before after =
    (claims : List Claim) × OnlyEntries names (length before) t claims × (length claims ≡ n) × (after ≡ claims ++ drop n before)
EntriesTaken (Err e) names t before after =
    (q : Refusal) × (refusal e ≡ Some q) × Refused (entries_format names (length before)) t (IsEntries names (length before) t) (Some q) × (after ≡ before)

-- Exactly one of the two: the text of claims, or a text with a least fault.
abbrev pub EntriesOrFault : List (List ℕ) → ℕ → List ℕ → Type 0
EntriesOrFault names room t = OneOf ((claims : List Claim) × IsEntries names room t claims) ((q : Refusal) × Least (entries_format names room) t q)
