-- What is read of an entries text is written so, and is lawful. Assumes nothing.
use Rattle.std.proofs.Common.{◌≡◌, ℕ, zero, suc, ◌-◌, ◌≤◌, min, true, not, List, [], ◌∷◌, ◌++◌, map, length, replicate, is_some, Some, None, Ok, Option, sym, refl, ap, ◌∙◌, subst, ⊎_elim, arith}
use Rattle.std.proofs.lemmas.List.{length_push, length-append, length-replicate, take_at, drop_at}
use Rattle.std.proofs.lemmas.Bool.{and_from, le-leb, eq-eqb, false≢true}
use Rattle.texts.specs.Lines.{unlines}
use Rattle.texts.specs.Numbers.{every}
use Rattle.rows.specs.Rows.{suits, suits_all, columns, number_in, claimed_in}
use Rattle.rows.specs.declared.cell.Cell.{Cell}
use Rattle.rows.specs.declared.cell.Cell.TheVariants.{Number, Absent, Flag, Event, Bounded}
use Rattle.rows.specs.declared.cell.Column.TheVariants.{Within, NumberOrNone}
use Rattle.rows.specs.declared.cell.RowKind.TheVariants.{Claim as Claim'}
use Rattle.rows.proofs.Rows.{row-is-written}
use Rattle.formats.specs.declared.claim.Claim.{Claim}
use Rattle.formats.specs.declared.claim.EntryStage.{EntryStage}
use Rattle.formats.specs.declared.claim.EntryStage.TheVariants.{Head, Rows}
use Rattle.formats.specs.Walk.{Line}
use Rattle.formats.specs.TableText.{head_is}
use Rattle.formats.specs.EntriesText.{lawful_number, lawful_claim, lawful_claims, entry_head, claim_cell, claim_cells, entry_lines, entries_text, EntryParts, entry_start, entries_read, claim_from, with_claim, entry_limits, entry_step_at, entry_step, read_entries}
use Rattle.formats.proofs.Steps.{head-taken, row-taken}
use Rattle.formats.proofs.Columns.{within-is, split, alike-are}
use Rattle.formats.proofs.Taken.{every-push, map_back, head-is, rows-push, ended-when-fine, taken-was-walked}

-- ---- one claim

claim-is : (names : List (List ℕ)) (before : ℕ) (x : Cell) → suits NumberOrNone names before x ≡ true → (x ≡ claim_cell (claimed_in x)) × (lawful_number (claimed_in x) ≡ true)
claim-is names before (Number n) h = (refl, h)
claim-is names before Absent h = (refl, refl)
claim-is names before (Flag b) h = absurd (false≢true h)
claim-is names before (Event i) h = absurd (false≢true h)
claim-is names before (Bounded b) h = absurd (false≢true h)

pub unclaimed : (os : List (Option ℕ)) → map claimed_in (map claim_cell os) ≡ os
unclaimed os = map_back claim_cell claimed_in told os
  where
    told : (o : Option ℕ) → claimed_in (claim_cell o) ≡ o
    told None = refl
    told (Some n) = refl

none_told : (m : ℕ) → every {X = Option ℕ} (λ o. not (is_some o)) (replicate m None) ≡ true
none_told zero = refl
none_told (suc m) = none_told m

-- the claim of a place, a state and what is told of the n events
abbrev claim_of : ℕ → ℕ → ℕ → List (Option ℕ) → Claim
claim_of n place state told = record { place = place; state = state; cells = told ++ replicate (8 - n) None }

pub claim-row : (n : ℕ) (names : List (List ℕ)) (cells : List Cell) → n ≤ 8 → suits_all (columns (Claim' n)) names 0 cells ≡ true
    → (claim_cells n (claim_from n cells) ≡ cells) × (lawful_claim n (claim_from n cells) ≡ true)
claim-row n names cells few h =
    let one = split (Within 0 9999999999) (Within 0 9999999999 ∷ replicate (min n 8) NumberOrNone) names 0 cells h in
    let place = within-is names 0 0 9999999999 one.0 one.3 in
    let two = split (Within 0 9999999999) (replicate (min n 8) NumberOrNone) names (number_in one.0) one.1 one.4 in
    let state = within-is names (number_in one.0) 0 9999999999 two.0 two.3 in
    let told = alike-are claim_cell lawful_number NumberOrNone claimed_in claim-is (min n 8) names (number_in two.0) two.1 two.4 in
    let are : cells ≡ Number place.0 ∷ Number state.0 ∷ map claim_cell told.values =
    one.2 ∙ (λ i. place.1 i ∷ (two.2 ∙ (λ j. state.1 j ∷ told.cells_are j)) i) in
    let claim : claim_from n cells ≡ claim_of n place.0 state.0 told.values =
    ap (claim_from n) are ∙ ap (claim_of n place.0 state.0) (unclaimed told.values) in
    let count : length told.values ≡ n = omega (arith, told.count) in
    let rest = replicate {A = Option ℕ} (8 - n) None in (
      ap (claim_cells n) claim ∙ ap (λ os. Number place.0 ∷ Number state.0 ∷ map claim_cell os) (take_at told.values rest n count) ∙ sym are,
      ap (lawful_claim n) claim
          ∙ and_from _ _ (and_from _ _ (le-leb place.0 9999999999 place.3) (le-leb state.0 9999999999 state.3))
          (and_from _ _ (eq-eqb _ 8 (omega (arith, length-append told.values rest, length-replicate {A = Option ℕ} (8 - n) None, count)))
          (and_from _ _ (ap (every lawful_number) (take_at told.values rest n count) ∙ told.lawful)
          (ap (every (λ o. not (is_some o))) (drop_at told.values rest n count) ∙ none_told (8 - n)))),
    )

module _ (names : List (List ℕ)) (room : ℕ) where
  -- ---- the lines that have been read, and what is kept of the parts, stage by stage

  abbrev so_far_at : EntryStage → EntryParts → List (List ℕ)
  so_far_at Head s = []
  so_far_at Rows s = entry_lines names s.claims

  abbrev GoodAt : EntryStage → EntryParts → Type 0
  GoodAt Head s = s.claims ≡ []
  GoodAt Rows s = (length s.claims ≤ room) × (every (lawful_claim (length names)) s.claims ≡ true)

  abbrev Kept : List (List ℕ) → EntryParts → Type 0
  Kept before s = (so_far_at s.stage s ≡ before) × GoodAt s.stage s

  -- ---- one line more

  pub keeps : length names ≤ 8 → (stage : EntryStage) (s t : EntryParts) (l : Line) → GoodAt stage s → entry_step_at names room stage s l ≡ Ok t → Kept (so_far_at stage s ++ (l.bytes ∷ [])) t
  keeps few Head s t l good h =
      let head = head-taken 0 (head_is (entry_head names) l.bytes) l (entries_read s.claims) t h in
      subst (Kept (l.bytes ∷ [])) head.goes (
        ap (entry_lines names) good ∙ ap (λ x. x ∷ []) (sym (head-is (entry_head names) l.bytes head.right)),
        (omega (arith, ap length good), ap (every (lawful_claim (length names))) good),
      )
  keeps few Rows s t l good h = ⊎_elim
      (λ ended. absurd (omega (arith, ended.more)))
      (λ row.
      let n = length names in
      let is = row-is-written (Claim' n) names l.bytes row.cells row.row in
      let one = claim-row n names row.cells few is.1 in
      let c = claim_from n row.cells in
      subst (Kept (entry_lines names s.claims ++ (l.bytes ∷ []))) row.goes (
        ap (λ x. entry_head names ∷ x) (rows-push names (claim_cells n) s.claims c row.cells l.bytes is.0 one.0),
        (omega (arith, length_push s.claims c, row.room), every-push (lawful_claim n) s.claims c good.1 one.1),
      ))
      (row-taken (entry_limits room) (length s.claims) (Claim' (length names)) names l (λ cells. with_claim s (claim_from (length names) cells)) s t h)

  -- ---- the last line

  pub last_line : (stage : EntryStage) (s t : EntryParts) (l : Line) → entry_step_at names room stage s l ≡ Ok t → (t.stage ≡ Rows) × (l.ended ≡ true)
  last_line Head s t l h =
      let head = head-taken 0 (head_is (entry_head names) l.bytes) l (entries_read s.claims) t h in
      (ap (λ x. x.stage) (sym head.goes), ended-when-fine l head.fine)
  last_line Rows s t l h = ⊎_elim
      (λ ended. absurd (omega (arith, ended.more)))
      (λ row. (ap (λ x. x.stage) (sym row.goes), ended-when-fine l row.fine))
      (row-taken (entry_limits room) (length s.claims) (Claim' (length names)) names l (λ cells. with_claim s (claim_from (length names) cells)) s t h)

  -- ---- the whole text

  finished : (stage : EntryStage) (s : EntryParts) → stage ≡ Rows → GoodAt stage s → (so_far_at stage s ≡ entry_lines names s.claims) × (lawful_claims names room s.claims ≡ true)
  finished Head s e good = absurd (let z : ◌≡◌ {A = ℕ} 0 1 = cc in omega arith)
  finished Rows s e good = (refl, and_from _ _ (le-leb _ room good.0) good.1)

  -- A text that is taken is the text of the claims that are read, which are lawful; it is read to its end.
  pub taken-is-written : length names ≤ 8 → (t : List ℕ) (s : EntryParts) → read_entries names room t ≡ Ok s
      → (t ≡ entries_text names s.claims) × (lawful_claims names room s.claims ≡ true) × (s.stage ≡ Rows)
  taken-is-written few t s h =
      let all = taken-was-walked 65536 (entry_step names room) entry_start (λ p before. Kept before p) (λ p. p.stage ≡ Rows) (refl, refl)
      (λ p q before l now taken. subst (λ x. Kept (x ++ (l.bytes ∷ [])) q) now.0 (keeps few p.stage p q l now.1 taken))
      (λ p q l taken last. last_line p.stage p q l taken)
      t s h in
      let done = finished s.stage s all.1 all.0.1 in
      (all.2 ∙ ap unlines (sym all.0.0 ∙ done.0), done.1, all.1)
