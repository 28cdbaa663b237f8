-- The text of lawful claims is taken if it is short enough, and gives those claims. Assumes nothing.
use Rattle.std.proofs.Common.{◌≡◌, ℕ, ◌-◌, ◌≤◌, min, true, not, ◌&&◌, eqb, leb, List, [], ◌∷◌, ◌++◌, map, length, take, drop, replicate, is_some, Some, None, Ok, codes, Option, sym, refl, ap, ◌∙◌, subst, arith}
use Rattle.std.proofs.lemmas.Slice.Eq.{bytes_eq-Decides}
use Rattle.std.proofs.lemmas.List.{length-take, length-drop, length-replicate, take-append-drop}
use Rattle.std.proofs.lemmas.Bool.{and_parts, and_from, leb-true, le-leb, eqb-true, cond-true, false≢true}
use Rattle.std.specs.Str.{bytes_eq}
use Rattle.texts.specs.Numbers.{every}
use Rattle.clocks.specs.Letters.{lawful_name}
use Rattle.tables.specs.Lawful.{different}
use Rattle.rows.specs.Rows.{row_line, suits, suits_all, columns}
use Rattle.rows.specs.declared.cell.Column.TheVariants.{NumberOrNone}
use Rattle.rows.specs.declared.cell.RowKind.TheVariants.{Claim as Claim'}
use Rattle.formats.specs.declared.claim.Claim.{Claim}
use Rattle.formats.specs.Walk.{line_here}
use Rattle.formats.specs.TableText.{head_is}
use Rattle.formats.specs.EntriesText.{lawful_number, lawful_claim, lawful_claims, entry_head, claim_cell, claim_cells, entry_lines, entries_text, entry_start, entries_read, claim_from, entry_step, read_entries}
use Rattle.formats.proofs.Clean.{clean}
use Rattle.formats.proofs.EntriesRead.{unclaimed}
use Rattle.formats.proofs.Steps.{head-goes}
use Rattle.formats.proofs.Written.{fine, last-sheet, names-are-spaced, names-are-clean, alike-suit, Walks, goes, rows-are-clean, rows-walk, text-is-taken}

-- ---- one claim

number-suits : (names : List (List ℕ)) (before : ℕ) (o : Option ℕ) → lawful_number o ≡ true → suits NumberOrNone names before (claim_cell o) ≡ true
number-suits names before None h = refl
number-suits names before (Some n) h = h

all_none : (os : List (Option ℕ)) → every (λ o. not (is_some o)) os ≡ true → os ≡ replicate (length os) None
all_none [] h = refl
all_none (None ∷ os) h = ap (λ xs. None ∷ xs) (all_none os h)
all_none (Some n ∷ os) h = absurd (false≢true h)

module _ (n : ℕ) (names : List (List ℕ)) (few : n ≤ 8) (c : Claim) (h : lawful_claim n c ≡ true) where
  numbers : (c.place ≤ 9999999999) × (c.state ≤ 9999999999)
  numbers =
      let both = and_parts (leb c.place 9999999999) _ (and_parts (leb c.place 9999999999 && leb c.state 9999999999) _ h).0 in
      (leb-true c.place 9999999999 both.0, leb-true c.state 9999999999 both.1)

  told : (length c.cells ≡ 8) × (every lawful_number (take n c.cells) ≡ true) × (every (λ o. not (is_some o)) (drop n c.cells) ≡ true)
  told =
      let sized = and_parts (eqb (length c.cells) 8) _ (and_parts (leb c.place 9999999999 && leb c.state 9999999999) _ h).1 in
      let both = and_parts (every lawful_number (take n c.cells)) _ sized.1 in
      (eqb-true _ 8 sized.0, both.0, both.1)

  claim-suits : suits_all (columns (Claim' n)) names 0 (claim_cells n c) ≡ true
  claim-suits =
      let size : length (take n c.cells) ≡ min n 8 = omega (arith, length-take n c.cells, told.0) in
      and_from _ _ (and_from _ _ (and_from _ _ (le-leb 0 c.place (omega arith)) (le-leb c.place 9999999999 numbers.0)) (le-leb c.place 9999999999 numbers.0))
      (and_from _ _ (and_from _ _ (and_from _ _ (le-leb 0 c.state (omega arith)) (le-leb c.state 9999999999 numbers.1)) (le-leb c.state 9999999999 numbers.1))
      (subst (λ k. suits_all (replicate k NumberOrNone) names c.state (map claim_cell (take n c.cells)) ≡ true) size
      (alike-suit claim_cell lawful_number NumberOrNone number-suits names c.state (take n c.cells) told.1)))

  claim-back : claim_from n (claim_cells n c) ≡ c
  claim-back =
      let left : length (drop n c.cells) ≡ 8 - n = omega (arith, length-drop n c.cells, told.0) in
      ap (λ os. record { place = c.place; state = c.state; cells = os })
      (ap (λ os. os ++ replicate (8 - n) None) (unclaimed (take n c.cells))
      ∙ ap (λ os. take n c.cells ++ os) (ap (λ k. replicate k None) (sym left) ∙ sym (all_none (drop n c.cells) told.2))
      ∙ take-append-drop n c.cells)

-- ---- the whole text

module _ (names : List (List ℕ)) (named : every lawful_name names ≡ true) (apart : different names ≡ true) (few : length names ≤ 8) (room : ℕ) (claims : List Claim)
    (h : lawful_claims names room claims ≡ true) where
  suit : (c : Claim) → lawful_claim (length names) c ≡ true → suits_all (columns (Claim' (length names))) names 0 (claim_cells (length names) c) ≡ true
  suit c g = claim-suits (length names) names few c g

  claims-split : (leb (length claims) room ≡ true) × (every (lawful_claim (length names)) claims ≡ true)
  claims-split = and_parts (leb (length claims) room) _ h

  pub lines-are-taken : Walks (entry_step names room) entry_start (entry_lines names claims) (entries_read claims)
  lines-are-taken =
      let n = length names in
      let head = entry_head names in
      let after = map (λ c. row_line names (claim_cells n c)) claims in
      goes (entry_step names room) entry_start (entries_read []) (entries_read claims) head after
      (head-goes 0 (head_is head head) (line_here true head after) (entries_read [])
      (fine head after (names-are-spaced (codes "at") (codes "state" ∷ names) named))
      (last-sheet (line_here true head after))
      (cond-true (bytes_eq head head) 0 4 ((bytes_eq-Decides head head).1 refl)))
      (rows-walk (Claim' n) names (claim_cells n) (lawful_claim n) named suit
      (entry_step names room) entries_read 0 room (claim_from n) apart (λ front l. refl) (λ c g. claim-back n names few c g)
      claims [] (omega (arith, leb-true (length claims) room claims-split.0)) claims-split.1)

  lines-are-clean : every (clean 143) (entry_lines names claims) ≡ true
  lines-are-clean =
      and_from _ _ (names-are-clean (codes "at") (codes "state" ∷ names) named (omega (arith, few)))
      (rows-are-clean (Claim' (length names)) names (claim_cells (length names)) (lawful_claim (length names)) named suit
      (omega (arith, length-replicate (min (length names) 8) NumberOrNone)) claims claims-split.1)

  -- The text of lawful claims is taken if it is short enough, and gives them.
  pub written-is-taken : length (entries_text names claims) ≤ 65536 → read_entries names room (entries_text names claims) ≡ Ok (entries_read claims)
  written-is-taken short =
      text-is-taken 65536 (entry_step names room) entry_start (entries_read claims) (entry_head names) (map (λ c. row_line names (claim_cells (length names) c)) claims)
      lines-are-clean short lines-are-taken
