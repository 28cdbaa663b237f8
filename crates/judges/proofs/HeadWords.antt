-- The head of the edges is its own three words, and a space before each name. Assumes nothing.
use Rattle.std.proofs.Common.{◌≡◌, ℕ, true, false, cond, ◌&&◌, eqb, List, [], ◌∷◌, ◌++◌, length, take, drop, Ok, Err, codes, sym, refl, ap, ◌∙◌, ⊎_elim}
use Rattle.std.proofs.lemmas.Bool.{and_parts, cases_Bool, both_ways, cond-false}
use Rattle.std.proofs.lemmas.List.{take-append-drop}
use Rattle.std.proofs.lemmas.List.Splits.{join_with_byte-slice_split}
use Rattle.std.proofs.lemmas.Slice.Eq.{bytes_eq-Decides}
use Rattle.std.specs.List.{join_with_byte, onto_first, slice_split}
use Rattle.std.specs.Str.{bytes_eq}
use Rattle.texts.specs.Lines.{onto, words}
use Rattle.formats.specs.TableText.{names_wrong, edge_head_wrong}
use Rattle.judges.specs.Heads.{edge_names, judged_names}

-- ---- the words of a line are what the library's `split` gives

onto-same : (b : ℕ) (ws : List (List ℕ)) → onto b ws ≡ onto_first b ws
onto-same b [] = refl
onto-same b (w ∷ ws) = refl

pub words-split : (l : List ℕ) → words l ≡ slice_split (λ b. eqb b 32) l
words-split [] = refl
words-split (b ∷ l) =
    ap (λ ws. cond (eqb b 32) ([] ∷ ws) (onto b ws)) (words-split l)
    ∙ ap (λ ws. cond (eqb b 32) ([] ∷ slice_split (λ b. eqb b 32) l) ws) (onto-same b (slice_split (λ b. eqb b 32) l))

joined : (l : List ℕ) → join_with_byte 32 (words l) ≡ l
joined l = ap (join_with_byte 32) (words-split l) ∙ join_with_byte-slice_split 32 l

-- ---- the words of its own

own-first : (ws : List (List ℕ)) → bytes_eq (take 10 (join_with_byte 32 (codes "from" ∷ codes "to" ∷ codes "on" ∷ ws))) (codes "from to on") ≡ true
own-first [] = refl
own-first (w ∷ ws) = refl

other-words : (ws : List (List ℕ)) → bytes_eq (take 10 (join_with_byte 32 ws)) (codes "from to on") ≡ false → edge_head_wrong ws ≡ 4
other-words [] h = refl
other-words (a ∷ []) h = refl
other-words (a ∷ b ∷ []) h = refl
other-words (a ∷ b ∷ c ∷ ws) h = ⊎_elim
    (λ own.
    let one = and_parts (bytes_eq a (codes "from")) _ own in
    let two = and_parts (bytes_eq b (codes "to")) _ one.1 in
    let x : a ≡ codes "from" = (bytes_eq-Decides a (codes "from")).0 one.0 in
    let y : b ≡ codes "to" = (bytes_eq-Decides b (codes "to")).0 two.0 in
    let z : c ≡ codes "on" = (bytes_eq-Decides c (codes "on")).0 two.1 in
    let same : a ∷ b ∷ c ∷ ws ≡ codes "from" ∷ codes "to" ∷ codes "on" ∷ ws = λ i. x i ∷ y i ∷ z i ∷ ws in
    absurd (both_ways _ h (ap (λ l. bytes_eq (take 10 (join_with_byte 32 l)) (codes "from to on")) same ∙ own-first ws)))
    (λ other. cond-false _ (names_wrong ws) 4 other)
    (cases_Bool (bytes_eq a (codes "from") && (bytes_eq b (codes "to") && bytes_eq c (codes "on"))))

refused : (ws : List (List ℕ)) → edge_head_wrong ws ≡ 4 → edge_names ws ≡ Err 4
refused ws h = ap (λ n. cond (eqb n 0) (Ok (drop 3 ws)) (Err n)) h

-- another head
pub other-head : (line : List ℕ) → bytes_eq (take 10 line) (codes "from to on") ≡ false → edge_names (words line) ≡ Err 4
other-head line h = refused (words line) (other-words (words line) (ap (λ l. bytes_eq (take 10 l) (codes "from to on")) (joined line) ∙ h))

-- names
stripped : (s p rest : List ℕ) → bytes_eq (take (length p) s) p ≡ true → rest ≡ drop (length p) s → s ≡ p ++ rest
stripped s p rest h e = sym (take-append-drop (length p) s) ∙ (λ i. (bytes_eq-Decides (take (length p) s) p).0 h i ++ sym e i)

pub then-names : (line rest part : List ℕ) → bytes_eq (take 10 line) (codes "from to on") ≡ true → rest ≡ drop 10 line → bytes_eq (take 1 rest) (codes " ") ≡ true → part ≡ drop 1 rest
    → edge_names (words line) ≡ judged_names (words part)
then-names line rest part h e k f =
    ap (λ l. edge_names (words l)) (stripped line (codes "from to on") rest h e ∙ ap (λ r. codes "from to on" ++ r) (stripped rest (codes " ") part k f))
