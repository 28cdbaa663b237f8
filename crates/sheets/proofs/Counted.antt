-- Counting claims follows reading them: each line leads both to the same count. Assumes nothing.
use Rattle.std.proofs.Common.{◌≡◌, ℕ, suc, Bool, true, false, cond, ltb, List, [], ◌∷◌, length, Some, None, Ok, Err, Option, Result, sym, refl, ap, ◌∙◌, arith}
use Rattle.std.proofs.lemmas.List.{length_push}
use Rattle.std.specs.Option.{option_map}
use Rattle.rows.specs.Rows.{and_then}
use Rattle.texts.specs.Lines.{lines, ended, bad_byte}
use Rattle.formats.specs.declared.claim.Claim.{Claim}
use Rattle.formats.specs.declared.claim.EntryStage.TheVariants.{Rows}
use Rattle.formats.specs.declared.fault.SheetFault.{SheetFault}
use Rattle.formats.specs.EntriesText.{EntryParts, entry_start, entry_step, read_entries}
use Rattle.formats.specs.EntryLines.{Counts, entry_gives}
use Rattle.formats.specs.Faults.{refusal}
use Rattle.formats.specs.Walk.{Refusal, Line, empty, line_here, at_line, walk, checked, reading}
use Rattle.sheets.specs.Counting.{Counted, counted, count_next, count_step}
use Rattle.sheets.specs.Reading.{FailsOr}
use Rattle.sheets.proofs.EntriesWalk.{on_parts, step_gives}

abbrev tally : {E : Type 0} → Result EntryParts E → Result Counted E
tally d = and_then d (λ q. Ok (counted q))

module _ (names : List (List ℕ)) (room : ℕ) where
  step_counts : (p : EntryParts) (l : Line) → count_step names room (counted p) l ≡ tally (entry_step names room p l)
  step_counts p l = go (entry_gives names room p.stage (length p.claims) l) ∙ ap tally (sym (step_gives names room p.stage p l))
    where
      go : (d : Result (Option Claim) ℕ) → and_then d (λ x. Ok (count_next (counted p) x)) ≡ tally (on_parts p d)
      go (Ok None) = refl
      go (Ok (Some c)) = ap (λ n. Ok (record { stage = Rows; count = n })) (sym (length_push p.claims c))
      go (Err n) = refl

  walk_counts : (whole : Bool) (ls : List (List ℕ)) (p : EntryParts) (k : ℕ) → walk (count_step names room) whole (counted p) k ls ≡ tally (walk (entry_step names room) whole p k ls)
  walk_counts whole [] p k = refl
  walk_counts whole (l ∷ ls) p k =
      ap (λ r. and_then (at_line k r) (λ next. walk (count_step names room) whole next (suc k) ls)) (step_counts p (line_here whole l ls))
      ∙ go (λ q. walk_counts whole ls q (suc k)) (entry_step names room p (line_here whole l ls))
    where
      go : ((q : EntryParts) → walk (count_step names room) whole (counted q) (suc k) ls ≡ tally (walk (entry_step names room) whole q (suc k) ls))
          → (r : Result EntryParts ℕ) → and_then (at_line k (tally r)) (λ next. walk (count_step names room) whole next (suc k) ls)
          ≡ tally (and_then (at_line k r) (λ next. walk (entry_step names room) whole next (suc k) ls))
      go later (Ok q) = later q
      go later (Err n) = refl

  reading_counts : (t : List ℕ) → reading 65536 (count_step names room) (counted entry_start) t ≡ tally (read_entries names room t)
  reading_counts t = go (ltb 65536 (length t)) (bad_byte t) (empty t)
    where
      go : (a : Bool) (b : Option ℕ) (c : Bool)
          → cond a (Err (record { number = 1; line = 0 })) (checked b (cond c (Err (record { number = 3; line = 0 })) (walk (count_step names room) (ended t) (counted entry_start) 1 (lines t))))
          ≡ tally (cond a (Err (record { number = 1; line = 0 })) (checked b (cond c (Err (record { number = 3; line = 0 })) (walk (entry_step names room) (ended t) entry_start 1 (lines t)))))
      go true b c = refl
      go false (Some k) c = refl
      go false None true = refl
      go false None false = walk_counts (ended t) (lines t) entry_start 1

-- what is counted of a text that is taken is the number of its claims
pub counts_taken : (names : List (List ℕ)) (room : ℕ) (t : List ℕ) (s : Counted) → reading 65536 (count_step names room) (counted entry_start) t ≡ Ok s → Counts (Ok s.count) (read_entries names room t)
counts_taken names room t s h = go (read_entries names room t) (sym (reading_counts names room t) ∙ h)
  where
    go : (d : Result EntryParts Refusal) → tally d ≡ Ok s → Counts (Ok s.count) d
    go (Ok p) h' = (p, refl, (let same : counted p ≡ s = cc in ap (λ x. x.count) same))
    go (Err q) h' = absurd (let z : ◌≡◌ {A = ℕ} 0 1 = cc in omega arith)

-- and a text that is refused is refused for the same
pub counts_refused : (names : List (List ℕ)) (room : ℕ) (t : List ℕ) (e : SheetFault) → FailsOr ⊥ (reading 65536 (count_step names room) (counted entry_start) t) (refusal e)
    → Counts (Err e) (read_entries names room t)
counts_refused names room t e h = go (refusal e) h
  where
    told : (d : Result EntryParts Refusal) (q : Refusal) → tally d ≡ Err q → d ≡ Err q
    told (Ok p) q h' = absurd (let z : ◌≡◌ {A = ℕ} 0 1 = cc in omega arith)
    told (Err r) q h' = let same : r ≡ q = cc in ap Err same

    go : (o : Option Refusal) → FailsOr ⊥ (reading 65536 (count_step names room) (counted entry_start) t) o → Some (read_entries names room t) ≡ option_map Err o
    go None h' = absurd h'
    go (Some q) h' = ap Some (told (read_entries names room t) q (sym (reading_counts names room t) ∙ h'))
