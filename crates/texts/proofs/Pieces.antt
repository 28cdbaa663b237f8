-- The lines of a text and the words of a line: they join to what they came from, and they come one by one from the front. Assumes nothing.
use Rattle.std.proofs.Common.{◌≡◌, ℕ, suc, ◌+◌, ◌<◌, Bool, true, false, cond, not, eqb, ltb, List, [], ◌∷◌, ◌++◌, length, take, drop, sym, refl, ap, ◌∙◌, ⊎_elim, arith}
use Rattle.std.proofs.lemmas.List.{append-nil}
use Rattle.std.proofs.lemmas.Bool.{eqb-true, lt-ltb, and_parts, not-true, cases_Bool, cond-true, cond-false, both_ways}
use Rattle.std.proofs.lemmas.Bool.Decides.{nat_tests}
use Rattle.std.specs.List.{prefix_len}
use Rattle.texts.specs.Numbers.{every}
use Rattle.texts.specs.Lines.{onto, lines, words, ended_after, ended, unlines, unwords, lacks}
use Rattle.texts.proofs.Lists.{leading-yes, leading-no}

-- ---- one byte in front

module _ (b : ℕ) (t : List ℕ) where
  pub lines-at-end : eqb b 10 ≡ true → lines (b ∷ t) ≡ [] ∷ lines t
  lines-at-end h = cond-true _ _ _ h

  pub lines-in-line : eqb b 10 ≡ false → lines (b ∷ t) ≡ onto b (lines t)
  lines-in-line h = cond-false _ _ _ h

  pub words-at-space : eqb b 32 ≡ true → words (b ∷ t) ≡ [] ∷ words t
  words-at-space h = cond-true _ _ _ h

  pub words-in-word : eqb b 32 ≡ false → words (b ∷ t) ≡ onto b (words t)
  words-in-word h = cond-false _ _ _ h

some-onto : (b : ℕ) (ls : List (List ℕ)) → 0 < length (onto b ls)
some-onto b [] = omega arith
some-onto b (l ∷ ls) = omega arith

some-cond : (t : Bool) (ls : List (List ℕ)) (b : ℕ) (ms : List (List ℕ)) → 0 < length (cond t ([] ∷ ls) (onto b ms))
some-cond true ls b ms = omega arith
some-cond false ls b ms = some-onto b ms

pub some-line : (b : ℕ) (t : List ℕ) → 0 < length (lines (b ∷ t))
some-line b t = some-cond (eqb b 10) (lines t) b (lines t)

pub some_word : (l : List ℕ) → 0 < length (words l)
some_word [] = omega arith
some_word (b ∷ l) = some-cond (eqb b 32) (words l) b (words l)

-- ---- joined and taken apart again

pub lines-after-line : (l t : List ℕ) → lacks 10 l ≡ true → lines (l ++ (10 ∷ t)) ≡ l ∷ lines t
lines-after-line [] t h = refl
lines-after-line (b ∷ l) t h =
    let parts = and_parts (not (eqb b 10)) _ h in
    lines-in-line b (l ++ (10 ∷ t)) (not-true _ parts.0) ∙ ap (onto b) (lines-after-line l t parts.1)

pub lines-of-unlines : (ls : List (List ℕ)) → every (lacks 10) ls ≡ true → lines (unlines ls) ≡ ls
lines-of-unlines [] h = refl
lines-of-unlines (l ∷ ls) h =
    let parts = and_parts (lacks 10 l) _ h in
    lines-after-line l (unlines ls) parts.0 ∙ ap (λ ms. l ∷ ms) (lines-of-unlines ls parts.1)

pub words-after-word : (w l : List ℕ) → lacks 32 w ≡ true → words (w ++ (32 ∷ l)) ≡ w ∷ words l
words-after-word [] l h = refl
words-after-word (b ∷ w) l h =
    let parts = and_parts (not (eqb b 32)) _ h in
    words-in-word b (w ++ (32 ∷ l)) (not-true _ parts.0) ∙ ap (onto b) (words-after-word w l parts.1)

pub words-of-word : (w : List ℕ) → lacks 32 w ≡ true → words w ≡ w ∷ []
words-of-word [] h = refl
words-of-word (b ∷ w) h =
    let parts = and_parts (not (eqb b 32)) _ h in
    words-in-word b w (not-true _ parts.0) ∙ ap (onto b) (words-of-word w parts.1)

pub words-of-unwords : (w : List ℕ) (ws : List (List ℕ)) → every (lacks 32) (w ∷ ws) ≡ true → words (unwords (w ∷ ws)) ≡ w ∷ ws
words-of-unwords w [] h = ap words (append-nil w) ∙ words-of-word w (and_parts (lacks 32 w) _ h).0
words-of-unwords w (v ∷ ws) h =
    let parts = and_parts (lacks 32 w) _ h in
    words-after-word w (unwords (v ∷ ws)) parts.0 ∙ ap (λ vs. w ∷ vs) (words-of-unwords v ws parts.1)

-- ---- taken apart and joined again

unlines-onto : (b : ℕ) (ls : List (List ℕ)) → 0 < length ls → unlines (onto b ls) ≡ b ∷ unlines ls
unlines-onto b [] h = absurd (omega arith)
unlines-onto b (l ∷ ls) h = refl

some-line-before-end : (b : ℕ) (t : List ℕ) → eqb b 10 ≡ false → ended_after b t ≡ true → 0 < length (lines t)
some-line-before-end b [] h e = absurd (both_ways _ h e)
some-line-before-end b (c ∷ t) h e = some-line c t

unlines-after : (b : ℕ) (t : List ℕ) → ended_after b t ≡ true → unlines (lines t) ≡ t
unlines-after b [] e = refl
unlines-after b (c ∷ t) e =
    let rest : unlines (lines t) ≡ t = unlines-after c t e in
    ⊎_elim
    (λ h. ap unlines (lines-at-end c t h) ∙ (λ i. sym (eqb-true c 10 h) i ∷ rest i))
    (λ h. ap unlines (lines-in-line c t h) ∙ unlines-onto c (lines t) (some-line-before-end c t h e) ∙ ap (λ s. c ∷ s) rest)
    (cases_Bool (eqb c 10))

pub unlines-of-lines : (t : List ℕ) → ended t ≡ true → unlines (lines t) ≡ t
unlines-of-lines t e = unlines-after 10 t e

unwords-onto : (b : ℕ) (ws : List (List ℕ)) → 0 < length ws → unwords (onto b ws) ≡ b ∷ unwords ws
unwords-onto b [] h = absurd (omega arith)
unwords-onto b (w ∷ ws) h = refl

unwords-after-empty : (ws : List (List ℕ)) → 0 < length ws → unwords ([] ∷ ws) ≡ 32 ∷ unwords ws
unwords-after-empty [] h = absurd (omega arith)
unwords-after-empty (w ∷ ws) h = refl

pub unwords-of-words : (l : List ℕ) → unwords (words l) ≡ l
unwords-of-words [] = refl
unwords-of-words (b ∷ l) =
    let rest : unwords (words l) ≡ l = unwords-of-words l in
    ⊎_elim
    (λ h. ap unwords (words-at-space b l h) ∙ unwords-after-empty (words l) (some_word l) ∙ (λ i. sym (eqb-true b 32 h) i ∷ rest i))
    (λ h. ap unwords (words-in-word b l h) ∙ unwords-onto b (words l) (some_word l) ∙ ap (λ s. b ∷ s) rest)
    (cases_Bool (eqb b 32))

-- ---- from the front

-- how many bytes come before the first c
abbrev pub before : ℕ → List ℕ → ℕ
before c t = prefix_len (λ b. not (eqb b c)) t

pub before_here : (c b : ℕ) (t : List ℕ) → eqb b c ≡ true → before c (b ∷ t) ≡ 0
before_here c b t h = leading-no (λ x. not (eqb x c)) b t (ap not h)

pub before-later : (c b : ℕ) (t : List ℕ) → eqb b c ≡ false → before c (b ∷ t) ≡ suc (before c t)
before-later c b t h = leading-yes (λ x. not (eqb x c)) b t (ap not h)

-- the first line of n bytes, and the lines after it
abbrev lines_by : ℕ → List ℕ → List (List ℕ)
lines_by n t = take n t ∷ lines (drop (n + 1) t)

lines_by-more : (n b : ℕ) (t : List ℕ) → onto b (lines_by n t) ≡ lines_by (suc n) (b ∷ t)
lines_by-more n b t = let longer : suc (n + 1) ≡ suc n + 1 = omega arith in ap (λ k. (b ∷ take n t) ∷ lines (drop k (b ∷ t))) longer

lines-by-first : (b : ℕ) (t : List ℕ) → onto b (lines t) ≡ lines_by (suc (before 10 t)) (b ∷ t) → lines (b ∷ t) ≡ lines_by (before 10 (b ∷ t)) (b ∷ t)
lines-by-first b t in' = ⊎_elim
    (λ h. lines-at-end b t h ∙ ap (λ n. lines_by n (b ∷ t)) (sym (before_here 10 b t h)))
    (λ h. lines-in-line b t h ∙ in' ∙ ap (λ n. lines_by n (b ∷ t)) (sym (before-later 10 b t h)))
    (cases_Bool (eqb b 10))

lines-first : (b : ℕ) (t : List ℕ) → lines (b ∷ t) ≡ lines_by (before 10 (b ∷ t)) (b ∷ t)
lines-first b [] = lines-by-first b [] refl
lines-first b (c ∷ t) = lines-by-first b (c ∷ t) (ap (onto b) (lines-first c t) ∙ lines_by-more (before 10 (c ∷ t)) b (c ∷ t))

pub lines_step : (t : List ℕ) → 0 < length t → lines t ≡ take (before 10 t) t ∷ lines (drop (before 10 t + 1) t)
lines_step [] h = absurd (omega arith)
lines_step (b ∷ t) h = lines-first b t

-- the first word of n bytes, and the words after it, if the line goes on
abbrev words_by : ℕ → List ℕ → List (List ℕ)
words_by n l = take n l ∷ cond (ltb n (length l)) (words (drop (n + 1) l)) []

ltb-suc : (m n : ℕ) → ltb m n ≡ ltb (suc m) (suc n)
ltb-suc m n = grind (arith, nat_tests)

words_by-more : (n b : ℕ) (l : List ℕ) → onto b (words_by n l) ≡ words_by (suc n) (b ∷ l)
words_by-more n b l =
    let longer : suc (n + 1) ≡ suc n + 1 = omega arith in
    λ i. (b ∷ take n l) ∷ cond (ltb-suc n (length l) i) (words (drop (longer i) (b ∷ l))) []

pub words_step : (l : List ℕ) → words l ≡ take (before 32 l) l ∷ cond (ltb (before 32 l) (length l)) (words (drop (before 32 l + 1) l)) []
words_step [] = refl
words_step (b ∷ l) = ⊎_elim
    (λ h. words-at-space b l h ∙ ap (λ ws. [] ∷ ws) (sym (cond-true _ _ _ (lt-ltb 0 (suc (length l)) (omega arith))))
    ∙ ap (λ n. words_by n (b ∷ l)) (sym (before_here 32 b l h)))
    (λ h. words-in-word b l h ∙ ap (onto b) (words_step l) ∙ words_by-more (before 32 l) b l ∙ ap (λ n. words_by n (b ∷ l)) (sym (before-later 32 b l h)))
    (cases_Bool (eqb b 32))
