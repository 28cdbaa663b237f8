-- Counting the claims of an entries text, line by line.
use Rattle.std.specs.Prelude.{ℕ, ◌+◌, List, length, Some, None, Ok, Option, Result}
use Rattle.rows.specs.Rows.{and_then}
use Rattle.formats.specs.declared.claim.Claim.{Claim}
use Rattle.formats.specs.declared.claim.EntryStage.{EntryStage}
use Rattle.formats.specs.declared.claim.EntryStage.TheVariants.{Rows}
use Rattle.formats.specs.EntriesText.{EntryParts}
use Rattle.formats.specs.EntryLines.{entry_gives}
use Rattle.formats.specs.Walk.{Line}

-- where the next line stands, and how many claims there are before it
pub record Counted : Type 0 where
  pub stage : EntryStage
  pub count : ℕ

-- what is counted of what was read
abbrev pub counted : EntryParts → Counted
counted p = record { stage = p.stage; count = length p.claims }

abbrev pub count_next : Counted → Option Claim → Counted
count_next s None = record { stage = Rows; count = s.count }
count_next s (Some c) = record { stage = Rows; count = s.count + 1 }

-- one line more, where there may be `room` claims
abbrev pub count_step : List (List ℕ) → ℕ → Counted → Line → Result Counted ℕ
count_step names room s l = and_then (entry_gives names room s.stage s.count l) (λ x. Ok (count_next s x))
