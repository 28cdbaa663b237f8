-- The words of a line are read from the left, each in its column. Assumes nothing.
use Rattle.std.proofs.Common.{◌≡◌, ℕ, ◌+◌, ◌-◌, ◌<◌, ◌≤◌, cond, eqb, List, [], ◌∷◌, ◌++◌, length, get_or, take, drop, set, replicate, Some, Ok, Err, Result, sym, refl, ap, ◌∙◌, zero-add, arith}
use Rattle.std.proofs.lemmas.List.{append-nil, append_assoc, length-set, length-take-le, take-append-drop, take_more_set, drop-set-lt, drop-drop, drop_all, drop_more, drop-replicate}
use Rattle.std.proofs.lemmas.List.FromFn.{length-enumerate_from, get_or-enumerate_from}
use Rattle.std.proofs.lemmas.Option.{slice_get_within, get_or_from_slice_get}
use Rattle.std.specs.List.{slice_get, slice_split, onto_first, enumerate_from}
use Rattle.texts.specs.Lines.{onto, words}
use Rattle.rows.specs.declared.cell.Cell.{Cell}
use Rattle.rows.specs.declared.cell.Cell.TheVariants.{Absent}
use Rattle.rows.specs.declared.cell.Column.{Column}
use Rattle.rows.specs.declared.cell.WordFault.{WordFault}
use Rattle.rows.specs.Rows.{number_in, and_then, cell_of, cells_of, padded, row_result}

-- the cells that are read already, before those that are still to be read
abbrev pub after : List Cell → Result (List Cell) WordFault → Result (List Cell) WordFault
after done (Ok cells) = Ok (done ++ cells)
after done (Err e) = Err e

after-one-more : (done : List Cell) (cell : Cell) (r : Result (List Cell) WordFault) → after done (and_then r (λ more. Ok (cell ∷ more))) ≡ after (done ++ cell ∷ []) r
after-one-more done cell (Ok cells) = ap Ok (sym (append_assoc done (cell ∷ []) cells))
after-one-more done cell (Err e) = refl

-- what was never written is absent
whole_row : (place : ℕ) (cells : List Cell) → place ≤ 11 → length cells ≡ 11 → drop place cells ≡ replicate (11 - place) Absent → cells ≡ padded (take place cells ++ [])
whole_row place cells within long empty =
    let size : length (take place cells ++ []) ≡ place = ap length (append-nil (take place cells)) ∙ length-take-le place cells (omega arith) in
    sym (take-append-drop place cells)
    ∙ ap (λ rest. take place cells ++ rest) empty
    ∙ (λ i. sym (append-nil (take place cells)) i ++ replicate (11 - sym size i) Absent)

-- ---- a turn of the loop

-- The library's pieces of a line at its spaces are its words.
onto-is-onto_first : (b : ℕ) (ws : List (List ℕ)) → onto_first b ws ≡ onto b ws
onto-is-onto_first b [] = refl
onto-is-onto_first b (w ∷ ws) = refl

split-is-words : (line : List ℕ) → slice_split (λ b. eqb b 32) line ≡ words line
split-is-words [] = refl
split-is-words (b ∷ line) =
    let rest = split-is-words line in
    λ i. cond (eqb b 32) ([] ∷ rest i) ((ap (onto_first b) rest ∙ onto-is-onto_first b (words line)) i)

-- The turn of a loop over the words and their places that comes after n others.
pub this_turn : (line : List ℕ) (n place : ℕ) (w : List ℕ)
    → (n < length (enumerate_from 0 (slice_split (λ b. eqb b 32) line))) × ((place, w) ≡ get_or (enumerate_from 0 (slice_split (λ b. eqb b 32) line)) n (place, w))
    → (place ≡ n) × (n < length (words line)) × (w ≡ get_or (words line) n w)
this_turn line n place w turn =
    let same = split-is-words line in
    let within : n < length (words line) = omega (arith, turn.0, length-enumerate_from 0 (slice_split (λ b. eqb b 32) line), ap length same) in
    let item : (place, w) ≡ (0 + n, get_or (words line) n w) =
    turn.1 ∙ ap (λ ws. get_or (enumerate_from 0 ws) n (place, w)) same ∙ get_or-enumerate_from 0 (words line) n (place, w) within in
    (ap (λ p. p.0) item ∙ zero-add n, within, ap (λ p. p.1) item)

-- After the last turn no word is left.
pub all_turns : (line : List ℕ) (n : ℕ) → n ≡ length (enumerate_from 0 (slice_split (λ b. eqb b 32) line)) → n ≡ length (words line)
all_turns line n is = is ∙ length-enumerate_from 0 (slice_split (λ b. eqb b 32) line) ∙ ap length (split-is-words line)

-- The first `place` words are read; `before` is the number in the last cell.
pub record Read (cs : List Column) (names : List (List ℕ)) (ws : List (List ℕ)) (place before : ℕ) (cells : List Cell) : Type 0 where
  pub long : length cells ≡ 11
  pub empty : drop place cells ≡ replicate (11 - place) Absent
  pub so_far : after (take place cells) (cells_of (drop place cs) names before (drop place ws)) ≡ cells_of cs names 0 ws

module _ (cs : List Column) (names : List (List ℕ)) (ws : List (List ℕ)) (place before : ℕ) (cells : List Cell) (so : Read cs names ws place before cells) where
  module _ (c : Column) (is : Some c ≡ slice_get cs place) (w : List ℕ) (here : (place < length ws) × (w ≡ get_or ws place w)) where
    first : drop place cs ≡ c ∷ drop (place + 1) cs
    first = drop_more cs place c (slice_get_within cs place c (sym is)) ∙ ap (λ x. x ∷ drop (place + 1) cs) (get_or_from_slice_get cs place c c (sym is))

    next : drop place ws ≡ w ∷ drop (place + 1) ws
    next = drop_more ws place w here.0 ∙ ap (λ v. v ∷ drop (place + 1) ws) (sym here.1)

    abbrev rest : Result Cell WordFault → Result (List Cell) WordFault
    rest r = and_then r (λ cell. and_then (cells_of (drop (place + 1) cs) names (number_in cell) (drop (place + 1) ws)) (λ more. Ok (cell ∷ more)))

    goes_on : (r : Result Cell WordFault) → r ≡ cell_of c names before w → after (take place cells) (rest r) ≡ cells_of cs names 0 ws
    goes_on r reads =
        ap (λ v. after (take place cells) (rest v)) reads
        ∙ (λ i. after (take place cells) (cells_of (sym first i) names before (sym next i)))
        ∙ so.so_far

    pub read-fails : (e : WordFault) → Err e ≡ cell_of c names before w → Err e ≡ row_result (cells_of cs names 0 ws)
    read-fails e reads = ap row_result (goes_on (Err e) reads)

    pub read_more : (cell : Cell) (n : ℕ) → place < 11 → Ok cell ≡ cell_of c names before w → n ≡ number_in cell → Read cs names ws (place + 1) n (set cells place cell)
    read_more cell n within reads told = record {
      long = length-set cells place cell ∙ so.long;
      empty =
          drop-set-lt (place + 1) cells place cell (omega arith)
          ∙ sym (drop-drop 1 place cells)
          ∙ ap (drop 1) so.empty
          ∙ drop-replicate 1 (11 - place) Absent
          ∙ (let e : 11 - place - 1 ≡ 11 - (place + 1) = omega arith in ap (λ k. replicate k Absent) e);
      so_far =
          (λ i. after (take_more_set cells place cell (omega (arith, so.long, within)) i) (cells_of (drop (place + 1) cs) names (told i) (drop (place + 1) ws)))
          ∙ sym (after-one-more (take place cells) cell (cells_of (drop (place + 1) cs) names (number_in cell) (drop (place + 1) ws)))
          ∙ goes_on (Ok cell) reads;
    }

  pub read_all : place ≡ length ws → length ws ≡ length cs → length cs ≤ 11 → Ok (record { cells = cells }) ≡ row_result (cells_of cs names 0 ws)
  read_all end count few =
      ap (λ v. Ok (record { cells = v })) (whole_row place cells (omega arith) so.long so.empty)
      ∙ ap row_result ((λ i. after (take place cells) (cells_of (sym (drop_all place cs (omega arith)) i) names before (sym (drop_all place ws (omega arith)) i))) ∙ so.so_far)
