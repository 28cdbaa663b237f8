use Rattle.std.proofs.Common.{◌≡◌, ℕ, ◌++◌, length, drop}
use Rattle.formats.specs.EntriesText.{EntryParts}
use Rattle.sheets.proofs.EntriesWalk.{Reading}
use Rattle.sheets.proofs.entries.fill_claims.Given as goal

abbrev pub invariant-loop-line : goal.invariant-loop-line
invariant-loop-line l =
    (p : EntryParts) × (k : ℕ) × Reading l.events (length l.initial.claims) l.text l.stage l.count l.line-iterator k p
    × (l.claims ≡ p.claims ++ drop l.count l.initial.claims)
