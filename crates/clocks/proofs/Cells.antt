-- What the code of a reading does to its cells. Assumes nothing.
use Rattle.std.proofs.Common.{◌≡◌, ℕ, ◌+◌, ◌<◌, ◌≤◌, min, Bool, ◌&&◌, eqb, List, [], ◌∷◌, ◌++◌, map, length, get_or, take, drop, set, Some, None, Decides, Option, sym, refl, ap, ◌∙◌, true≢false, append-nil, arith}
use Rattle.std.proofs.lemmas.List.Edits.{map_over_more}
use Rattle.std.proofs.lemmas.List.{take_all, drop_all, get_or_default, length-append, length-map, length-take, length-drop}
use mathlib.Core.List.{map-map}
use Rattle.std.proofs.lemmas.Slice.Eq.{slice_eq-Decides}
use Rattle.std.proofs.lemmas.Bool.{eqb-true, eq-eqb}
use Rattle.std.specs.List.{list_all, zip}
use lib.Pointwise.{pointwise}
use Rattle.std.specs.Option.{option_eq, option_map}
use Rattle.meaning.specs.Stepping.{Cells, advanced, holds, holds_all}
use Rattle.meaning.specs.declared.values.Bound.{Bound}
use Rattle.clocks.specs.Cells.{advanced_cell}
use Rattle.clocks.specs.declared.reading.Reading.{Reading}

-- ---- a wait passes

-- ys is xs with the first i cells advanced
abbrev pub Advanced : ℕ → ℕ → Cells → Cells → ℕ → Type 0
Advanced c d xs ys i = ys ≡ map (advanced_cell c d) (take i xs) ++ drop i xs

pub advanced-more : (c d : ℕ) (xs ys : Cells) (i : ℕ) (e v : Option ℕ) → i < length xs → Advanced c d xs ys i → v ≡ advanced_cell c d (get_or ys i e) → Advanced c d xs (set ys i v) (i + 1)
advanced-more c d xs ys i e v h inv new =
    let long = simp (length-append, length-map, length-take, length-drop) at (ap length inv) in
    let read = get_or_default ys i e (get_or ys i e) (omega arith) in
    ap (set ys i) new ∙ map_over_more (advanced_cell c d) xs ys i (get_or ys i e) h inv read

-- A wait advances each cell by itself.
pub advanced_by_cells : (c d : ℕ) (cells : Cells) → map (advanced_cell c d) cells ≡ advanced c d cells
advanced_by_cells c d cells = sym (map-map (option_map (λ n. min n (c + 1))) (option_map (λ n. n + d)) cells)

pub advanced-all : (c d : ℕ) (xs ys : Cells) (i : ℕ) → length xs ≤ i → Advanced c d xs ys i → ys ≡ advanced c d xs
advanced-all c d xs ys i h inv =
    let front = take_all i xs h in
    let back = drop_all i xs h in
    let whole = append-nil (map (advanced_cell c d) xs) in
    inv ∙ (λ j. map (advanced_cell c d) (front j) ++ back j) ∙ whole ∙ advanced_by_cells c d xs

-- ---- the bounds hold

-- Where each bound has its cell, the bounds hold if each holds of its own.
pub holds_all_by_pairs : (bs : List Bound) (cells : Cells) → length bs ≤ length cells → list_all (λ p. holds p.0 p.1) (zip bs cells) ≡ holds_all bs cells
holds_all_by_pairs [] cells h = refl
holds_all_by_pairs (b ∷ bs) [] h = absurd (omega arith)
holds_all_by_pairs (b ∷ bs) (v ∷ cells) h = ap (λ rest. holds b v && rest) (holds_all_by_pairs bs cells (omega arith))

-- ---- the same reading

cell-decides : (p q : Option ℕ) → Decides (option_eq eqb p q) (p ≡ q)
cell-decides None None = (λ _. refl, λ _. refl)
cell-decides None (Some y) = (λ h. absurd (true≢false (sym h)), λ e. cc)
cell-decides (Some x) None = (λ h. absurd (true≢false (sym h)), λ e. cc)
cell-decides (Some x) (Some y) = (λ h. ap Some (eqb-true x y h), λ e. eq-eqb x y (cc))

-- What `==` answers of two readings decides whether they are the same.
pub readings_decide : (r s : Reading) (b : Bool) → b ≡ pointwise (option_eq eqb) r.cells s.cells → Decides b (r ≡ s)
readings_decide r s b is =
    let cells = slice_eq-Decides cell-decides r.cells s.cells b is in
    (λ h. ap (λ l. record { cells = l }) (cells.0 h), λ e. cells.1 (ap (λ t. t.cells) e))
