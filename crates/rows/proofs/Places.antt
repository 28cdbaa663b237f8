-- The words of a line by their places in it, from one word to the next, for callers who cut them by `word_stop`. Assumes nothing.
use Rattle.std.proofs.Common.{◌≡◌, ℕ, ◌+◌, ◌-◌, ◌<◌, ◌≤◌, cond, ltb, leb, List, [], ◌∷◌, length, take, drop, ap, ◌∙◌, ⊎_elim, arith}
use Rattle.std.proofs.lemmas.List.{length-drop, drop-drop}
use Rattle.std.proofs.lemmas.Bool.{cases_lt, cond-true, cond-false, le-leb, lt-leb}
use Rattle.std.proofs.lemmas.Bool.Decides.{nat_tests}
use Rattle.texts.specs.Lines.{words}
use Rattle.texts.proofs.Pieces.{before, words_step}
use Rattle.rows.specs.Rows.{words_from, word_stop}

pub words-from-start : (line : List ℕ) → words_from line 0 ≡ words line
words-from-start line = cond-true _ _ _ (le-leb 0 (length line) (omega arith))

-- where there is a word, it begins within the line
pub word-begins-within : (line : List ℕ) (from : ℕ) → 0 < length (words_from line from) → from ≤ length line
word-begins-within line from some = ⊎_elim
    (λ past. absurd (omega (arith, some, ap length (cond-false _ (words (drop from line)) [] (lt-leb from (length line) past)))))
    (λ within. within)
    (cases_lt (length line) from)

ltb-leb : (from k n m : ℕ) → from ≤ n → m ≡ n - from → ltb k m ≡ leb (from + k + 1) n
ltb-leb from k n m within is = grind (arith, nat_tests)

pub words-from-word : (line : List ℕ) (from end : ℕ) → from ≤ length line → end ≡ word_stop line from → words_from line from ≡ take (end - from) (drop from line) ∷ words_from line (end + 1)
words-from-word line from end within is =
    let k = before 32 (drop from line) in
    let stop : end ≡ from + k = omega (arith, is) in
    let long : k ≡ end - from = omega (arith, stop) in
    let next : from + (k + 1) ≡ end + 1 = omega (arith, stop) in
    let test : ltb k (length (drop from line)) ≡ leb (end + 1) (length line) =
    ltb-leb from k (length line) (length (drop from line)) within (length-drop from line) ∙ (let e : from + k + 1 ≡ end + 1 = omega (arith, stop) in ap (λ n. leb n (length line)) e) in
    cond-true _ _ _ (le-leb from (length line) within)
    ∙ words_step (drop from line)
    ∙ (λ i. take (long i) (drop from line) ∷ cond (test i) (words ((drop-drop (k + 1) from line ∙ ap (λ n. drop n line) next) i)) [])
