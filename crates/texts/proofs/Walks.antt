-- The words of a line by their places in the whole text, from one word to the next. Assumes nothing.
use Rattle.std.proofs.Common.{◌≡◌, ℕ, suc, ◌+◌, ◌-◌, ◌<◌, ◌≤◌, true, false, cond, not, ◌||◌, eqb, ltb, List, [], ◌∷◌, length, take, drop, sym, refl, ap, ◌∙◌, ⊎_elim, arith}
use Rattle.std.proofs.lemmas.List.{take-take, drop-drop, length-take-le, length-drop}
use Rattle.std.proofs.lemmas.Slice.{between_is}
use Rattle.std.proofs.lemmas.List.Sums.{prefix_len-le-length}
use Rattle.std.proofs.lemmas.Bool.{cases_Bool, or_right}
use Rattle.std.proofs.lemmas.Bool.Decides.{nat_tests}
use Rattle.std.specs.List.{prefix_len}
use Rattle.texts.specs.Lines.{words, in_line, in_word, line_end, word_end}
use Rattle.texts.proofs.Lists.{leading-yes, leading-no, leading-rest}
use Rattle.texts.proofs.Pieces.{before, before_here, before-later, words_step}

no-word-at-end : (b : ℕ) → eqb b 10 ≡ true → in_word b ≡ false
no-word-at-end b end = ap not (or_right (eqb b 32) _ end)

-- In a line the first word ends at the first space, and in the text at a space or the line's end.
word-in-line : (s : List ℕ) → before 32 (take (before 10 s) s) ≡ prefix_len in_word s
word-in-line [] = refl
word-in-line (b ∷ s) = ⊎_elim
    (λ end. ap (λ n. before 32 (take n (b ∷ s))) (before_here 10 b s end) ∙ sym (leading-no in_word b s (no-word-at-end b end)))
    (λ in'. ap (λ n. before 32 (take n (b ∷ s))) (before-later 10 b s in') ∙ ⊎_elim
    (λ space. before_here 32 b (take (before 10 s) s) space ∙ sym (leading-no in_word b s (ap (λ e. not (e || eqb b 10)) space)))
    (λ other. before-later 32 b (take (before 10 s) s) other ∙ ap suc (word-in-line s) ∙ sym (leading-yes in_word b s (λ i. not (other i || in' i))))
    (cases_Bool (eqb b 32)))
    (cases_Bool (eqb b 10))

-- the first line of a text
module _ (s : List ℕ) where
  line-length : length (take (before 10 s) s) ≡ before 10 s
  line-length = length-take-le (before 10 s) s (prefix_len-le-length in_line s)

  word-within : prefix_len in_word s ≤ before 10 s
  word-within = omega (arith, word-in-line s, line-length, prefix_len-le-length (λ b. not (eqb b 32)) (take (before 10 s) s))

  words-of-line : words (take (before 10 s) s)
      ≡ take (prefix_len in_word s) s ∷ cond (ltb (prefix_len in_word s) (before 10 s)) (words (take (before 10 s - (prefix_len in_word s + 1)) (drop (prefix_len in_word s + 1) s))) []
  words-of-line =
      words_step (take (before 10 s) s)
      ∙ (λ i. take (word-in-line s i) (take (before 10 s) s) ∷ cond (ltb (word-in-line s i) (line-length i)) (words (drop (word-in-line s i + 1) (take (before 10 s) s))) [])
      ∙ (λ i. take-take (prefix_len in_word s) (before 10 s) s word-within i
      ∷ cond (ltb (prefix_len in_word s) (before 10 s)) (words (sym (between_is s (prefix_len in_word s + 1) (before 10 s)) i)) [])

module _ (t : List ℕ) (from end stop : ℕ) (within : from ≤ length t) (is : end ≡ line_end t from) (at : stop ≡ word_end t from) where
  line-from : end ≡ from + before 10 (drop from t)
  line-from = omega (arith, is)

  word-from : stop ≡ from + prefix_len in_word (drop from t)
  word-from = omega (arith, at)

  -- The words of what is left of a line from `from` on: the first stops at `stop`, and the others follow if the line goes on.
  pub words-from : words (take (end - from) (drop from t)) ≡ take (stop - from) (drop from t) ∷ cond (ltb stop end) (words (take (end - (stop + 1)) (drop (stop + 1) t))) []
  words-from =
      let n = before 10 (drop from t) in
      let k = prefix_len in_word (drop from t) in
      let long : end - from ≡ n = omega (arith, line-from) in
      let short : k ≡ stop - from = omega (arith, word-from) in
      let test : ltb k n ≡ ltb stop end = ltb-from k n stop end from word-from line-from in
      let left : n - (k + 1) ≡ end - (stop + 1) = omega (arith, word-from, line-from) in
      let next : from + (k + 1) ≡ stop + 1 = omega (arith, word-from) in
      ap (λ m. words (take m (drop from t))) long
      ∙ words-of-line (drop from t)
      ∙ (λ i. take (short i) (drop from t) ∷ cond (test i) (words (take (left i) ((drop-drop (k + 1) from t ∙ ap (λ m. drop m t) next) i))) [])
    where
      ltb-from : (k n stop end from : ℕ) → stop ≡ from + k → end ≡ from + n → ltb k n ≡ ltb stop end
      ltb-from k n stop end from a b = grind (arith, nat_tests)

  -- the next word stands in the same line
  pub line-goes-on : stop < end → end ≡ line_end t (stop + 1)
  line-goes-on more =
      let k = prefix_len in_word (drop from t) in
      let next : drop (k + 1) (drop from t) ≡ drop (stop + 1) t = drop-drop (k + 1) from t ∙ (let e : from + (k + 1) ≡ stop + 1 = omega (arith, word-from) in ap (λ m. drop m t) e) in
      let rest : k + 1 + prefix_len in_line (drop (k + 1) (drop from t)) ≡ before 10 (drop from t) =
      leading-rest in_line (drop from t) (k + 1) (omega (arith, more, word-from, line-from)) in
      omega (arith, rest, ap (prefix_len in_line) next, more, word-from, line-from, prefix_len-le-length in_line (drop from t), length-drop from t)
