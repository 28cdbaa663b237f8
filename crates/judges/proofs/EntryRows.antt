-- The claim of a row, and what a line of an entries text does to what has been read. Assumes nothing.
use Rattle.std.proofs.Common.{◌≡◌, ℕ, zero, suc, ◌+◌, ◌-◌, ◌<◌, ◌≤◌, min, false, cond, ◌&&◌, eqb, leb, List, [], ◌∷◌, ◌++◌, map, length, take, drop, replicate, Some, None, Ok, Err, Option, Result, sym, refl, ap, ◌∙◌, ⊎_elim, arith}
use Rattle.std.proofs.lemmas.List.{length-map, length-append, length-replicate}
use Rattle.std.proofs.lemmas.Bool.{and_parts, cases_lt, eqb-true, lt-leb}
use Rattle.rows.specs.Rows.{row_of, row_result, cells_of, padded, claimed_in}
use Rattle.rows.specs.declared.cell.Cell.{Cell}
use Rattle.rows.specs.declared.cell.Cell.TheVariants.{Absent}
use Rattle.rows.specs.declared.cell.Column.TheVariants.{Within, NumberOrNone}
use Rattle.rows.specs.declared.cell.Row.{Row}
use Rattle.rows.specs.declared.cell.RowKind.TheVariants.{Claim as Claim'}
use Rattle.rows.specs.declared.cell.WordFault.{WordFault}
use Rattle.rows.specs.declared.cell.WordFault.TheVariants.{Misfit}
use Rattle.texts.specs.Lines.{words}
use Rattle.std.specs.Option.{option_map}
use Rattle.rows.proofs.Rows.{row-is-written}
use Rattle.formats.specs.declared.claim.Claim.{Claim}
use Rattle.formats.specs.Faults.{line_number, row_fault}
use Rattle.formats.specs.Walk.{Line, misspaced, row_gives}
use Rattle.formats.specs.EntriesText.{claim_from, claim_cells}
use Rattle.formats.specs.EntryLines.{claim_in, entry_row}
use Rattle.formats.proofs.EntriesRead.{claim-row}
use Rattle.formats.proofs.Steps.{row-refused}

-- ---- the claim of a row

pub absent_none : (m : ℕ) → map claimed_in (replicate m Absent) ≡ replicate m None
absent_none zero = refl
absent_none (suc m) = ap (λ os. None ∷ os) (absent_none m)

claimed-append : (xs ys : List Cell) → map claimed_in (xs ++ ys) ≡ map claimed_in xs ++ map claimed_in ys
claimed-append [] ys = refl
claimed-append (x ∷ xs) ys = ap (λ os. claimed_in x ∷ os) (claimed-append xs ys)

front-alike : {X : Type 0} (m : ℕ) (z : X) → take m (replicate (suc m) z) ≡ replicate m z
front-alike zero z = refl
front-alike (suc m) z = ap (λ zs. z ∷ zs) (front-alike m z)

front_of : {X : Type 0} (k : ℕ) (xs : List X) (z : X) (m : ℕ) → length xs + m ≡ k → take k (xs ++ replicate (suc m) z) ≡ xs ++ replicate m z
front_of k [] z m h = let e : k ≡ m = omega (arith, h) in ap (λ n. take n (replicate (suc m) z)) e ∙ front-alike m z
front_of zero (x ∷ xs) z m h = absurd (omega (arith, h))
front_of (suc k) (x ∷ xs) z m h = ap (λ zs. x ∷ zs) (front_of k xs z m (omega (arith, h)))

claim-padded : (n : ℕ) (cells : List Cell) → n ≤ 8 → length cells ≡ 2 + n → claim_in (padded cells) ≡ claim_from n cells
claim-padded n [] few h = absurd (omega (arith, h))
claim-padded n (a ∷ []) few h = absurd (omega (arith, h))
claim-padded n (a ∷ b ∷ rest) few h =
    let more : 11 - length (a ∷ b ∷ rest) ≡ suc (8 - n) = omega (arith, h) in
    let eight : length (map claimed_in rest) + (8 - n) ≡ 8 = omega (arith, h, length-map rest claimed_in) in
    ap (λ os. record { place = (claim_from n (a ∷ b ∷ rest)).place; state = (claim_from n (a ∷ b ∷ rest)).state; cells = os })
    (ap (λ k. take 8 (map claimed_in (rest ++ replicate k Absent))) more
    ∙ ap (take 8) (claimed-append rest (replicate (suc (8 - n)) Absent) ∙ ap (λ os. map claimed_in rest ++ os) (absent_none (suc (8 - n))))
    ∙ front_of 8 (map claimed_in rest) None (8 - n) eight)

two-first : (n : ℕ) (c : Claim) (cells : List Cell) → claim_cells n c ≡ cells → 2 ≤ length cells
two-first n c cells h = omega (arith, ap length h)

drop-two : (cells : List Cell) → 2 ≤ length cells → length cells ≡ 2 + length (drop 2 cells)
drop-two [] h = absurd (omega arith)
drop-two (a ∷ []) h = absurd (omega arith)
drop-two (a ∷ b ∷ rest) h = omega arith

few-claim-of-row : (n : ℕ) (names : List (List ℕ)) (line : List ℕ) (cells : List Cell) → n ≤ 8 → row_of (Claim' n) names line ≡ Ok cells → claim_in (padded cells) ≡ claim_from n cells
few-claim-of-row n names line cells few h =
    let both = claim-row n names cells few (row-is-written (Claim' n) names line cells h).1 in
    let c = claim_from n cells in
    let sized = and_parts (eqb (length c.cells) 8) _ (and_parts (leb c.place 9999999999 && leb c.state 9999999999) _ both.1).1 in
    let eight : length c.cells ≡ 8 = eqb-true (length c.cells) 8 sized.0 in
    let two = drop-two cells (two-first n c cells both.0) in
    claim-padded n cells few
    (omega (arith, two, eight, length-append (map claimed_in (drop 2 cells)) (replicate (8 - n) None), length-map (drop 2 cells) claimed_in, length-replicate {A = Option ℕ} (8 - n) None))

-- past eight events a claim's row is that of eight
abbrev row-with : List (List ℕ) → List ℕ → ℕ → Result (List Cell) WordFault
row-with names line m =
    let cols = Within 0 9999999999 ∷ Within 0 9999999999 ∷ replicate m NumberOrNone in
    cond (eqb (length (words line)) (length cols)) (cells_of cols names 0 (words line)) (Err Misfit)

many-claim-row : (n : ℕ) (names : List (List ℕ)) (line : List ℕ) → 8 ≤ n → row_of (Claim' n) names line ≡ row_of (Claim' 8) names line
many-claim-row n names line many = let e : min n 8 ≡ 8 = omega arith in ap (row-with names line) e

claim-of-row : (n : ℕ) (names : List (List ℕ)) (line : List ℕ) (cells : List Cell) → row_of (Claim' n) names line ≡ Ok cells → claim_in (padded cells) ≡ claim_from n cells
claim-of-row n names line cells h = ⊎_elim
    (λ few. few-claim-of-row n names line cells (omega arith) h)
    (λ many.
    let none : 0 ≡ 8 - n = omega arith in
    few-claim-of-row 8 names line cells (omega arith) (sym (many-claim-row n names line many) ∙ h)
    ∙ ap (λ m. record { place = (claim_from n cells).place; state = (claim_from n cells).state; cells = map claimed_in (drop 2 cells) ++ replicate m None }) none)
    (cases_lt n 8)

-- ---- a line among the rows

module _ (names : List (List ℕ)) (room count : ℕ) (l : Line) (fine : misspaced l ≡ false) (rest : count < room) where
  row-comes : entry_row names room count l ≡ row_gives (row_of (Claim' (length names)) names l.bytes) (claim_from (length names))
  row-comes =
      let some : leb room count ≡ false = lt-leb room count rest in
      λ i. cond (fine i) (Err 3) (cond (some i) (Err 7) (row_gives (row_of (Claim' (length names)) names l.bytes) (claim_from (length names))))

  pub row-claims : (n : ℕ) → n ≡ length names → (row : Row) → Ok row ≡ row_result (row_of (Claim' n) names l.bytes) → entry_row names room count l ≡ Ok (claim_in row.cells)
  row-claims n is row h = row-comes ∙ go (row_of (Claim' (length names)) names l.bytes) refl (h ∙ ap (λ k. row_result (row_of (Claim' k) names l.bytes)) is)
    where
      go : (r : Result (List Cell) WordFault) → row_of (Claim' (length names)) names l.bytes ≡ r → Ok row ≡ row_result r → row_gives r (claim_from (length names)) ≡ Ok (claim_in row.cells)
      go (Ok cells) e g =
          let same : row ≡ record { cells = padded cells } = cc in
          ap Ok (sym (claim-of-row (length names) names l.bytes cells e) ∙ ap (λ x. claim_in x.cells) (sym same))
      go (Err f) e g = absurd (let z : ◌≡◌ {A = ℕ} 0 1 = cc in omega arith)

  pub row-fails : (n : ℕ) → n ≡ length names → (f : WordFault) → Err f ≡ row_result (row_of (Claim' n) names l.bytes) → Some (entry_row names room count l) ≡ option_map Err (line_number (row_fault f))
  row-fails n is f h =
      ap Some row-comes ∙ row-refused (claim_from (length names)) (row_of (Claim' (length names)) names l.bytes) f (h ∙ ap (λ k. row_result (row_of (Claim' k) names l.bytes)) is)
