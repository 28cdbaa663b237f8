-- What one line of an entries text gives where it stands, and how answers about a line and about the text say what is defined.
use Rattle.std.specs.Prelude.{◌≡◌, ℕ, cond, List, ◌++◌, map, length, take, drop, Some, None, Ok, Err, Option, Result, nat_le, slice_index_or}
use Rattle.rows.specs.Rows.{row_of, number_in, claimed_in}
use Rattle.rows.specs.declared.cell.Cell.{Cell}
use Rattle.rows.specs.declared.cell.Cell.TheVariants.{Absent}
use Rattle.rows.specs.declared.cell.RowKind.TheVariants.{Claim as Claim'}
use Rattle.formats.specs.declared.claim.Claim.{Claim}
use Rattle.formats.specs.declared.claim.EntryStage.{EntryStage}
use Rattle.formats.specs.declared.claim.EntryStage.TheVariants.{Head, Rows}
use Rattle.formats.specs.declared.fault.LineFault.{LineFault}
use Rattle.formats.specs.declared.fault.SheetFault.{SheetFault}
use Rattle.formats.specs.Faults.{FailsAs, line_number, refusal}
use Rattle.formats.specs.TableText.{head_is}
use Rattle.formats.specs.EntriesText.{EntryParts, entry_head, claim_from, entries_read, with_claim}
use Rattle.clocks.specs.Texts.{text}
use Rattle.clocks.specs.declared.name.Name.{Name}
use Rattle.formats.specs.Walk.{Refusal, Line, misspaced, head_step, row_gives}

-- An answer about a line says what is defined; want of memory says nothing, so it is no answer.
abbrev pub Says : {X : Type 0} → Result X LineFault → Result X ℕ → Type 0
Says (Ok x) d = d ≡ Ok x
Says (Err e) d = FailsAs d (line_number e)

-- the claim in the eleven cells of a row
abbrev pub claim_in : List Cell → Claim
claim_in cells = record { place = number_in (slice_index_or cells 0 Absent); state = number_in (slice_index_or cells 1 Absent); cells = take 8 (map claimed_in (drop 2 cells)) }

-- A line among the rows, with `count` claims before it and room for `room`.
abbrev pub entry_row : List (List ℕ) → ℕ → ℕ → Line → Result Claim ℕ
entry_row names room count l =
    cond (misspaced l) (Err 3) (cond (nat_le room count) (Err 7) (row_gives (row_of (Claim' (length names)) names l.bytes) (claim_from (length names))))

abbrev pub some_claim : Result Claim ℕ → Result (Option Claim) ℕ
some_claim (Ok c) = Ok (Some c)
some_claim (Err n) = Err n

-- The head gives no claim, and a row gives one.
abbrev pub entry_gives : List (List ℕ) → ℕ → EntryStage → ℕ → Line → Result (Option Claim) ℕ
entry_gives names room Head count l = head_step 0 (head_is (entry_head names) l.bytes) l None
entry_gives names room Rows count l = some_claim (entry_row names room count l)

-- what has been read after a line that gave this
abbrev pub entry_next : EntryParts → Option Claim → EntryParts
entry_next s None = entries_read s.claims
entry_next s (Some c) = with_claim s c

-- ---- the whole text

-- the names of the events, at most eight
abbrev pub event_names : List Name → List (List ℕ)
event_names names = take 8 (map text names)

-- The number of claims, or the refusal.
abbrev pub Counts : Result ℕ SheetFault → Result EntryParts Refusal → Type 0
Counts (Ok n) d = (s : EntryParts) × (d ≡ Ok s) × (length s.claims ≡ n)
Counts (Err e) d = FailsAs d (refusal e)

-- Where a text is taken, its claims come first in the list, and what stands after them stays; a refused text leaves the list.
abbrev pub Fills : Result ℕ SheetFault → Result EntryParts Refusal → List Claim → List Claim → Type 0
Fills (Ok n) d before after = (s : EntryParts) × (d ≡ Ok s) × (length s.claims ≡ n) × (after ≡ s.claims ++ drop n before)
Fills (Err e) d before after = FailsAs d (refusal e) × (after ≡ before)
