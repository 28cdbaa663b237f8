-- One line of a text after the other: what is left, and where the line stands. Assumes nothing.
use Rattle.std.proofs.Common.{◌≡◌, ℕ, zero, suc, ◌+◌, ◌-◌, ◌<◌, ◌≤◌, Bool, true, false, cond, not, ◌||◌, eqb, ltb, leb, List, [], ◌∷◌, length, drop, sym, refl, ap, ◌∙◌, ⊎_elim, arith}
use Rattle.std.proofs.lemmas.List.{length-drop}
use Rattle.std.proofs.lemmas.List.Sums.{prefix_len-le-length}
use Rattle.std.proofs.lemmas.Bool.{cases_Bool, cases_lt, lt-ltb, le-ltb, lt-leb, le-leb}
use Rattle.texts.specs.Lines.{lines, onto, ended, ended_after, in_line, line_end}
use Rattle.texts.proofs.Pieces.{before, before_here, before-later, some-line}
use Rattle.formats.specs.Walk.{is_nil}

-- ---- nothing is left

some-not-nil : {X : Type 0} (xs : List X) → 0 < length xs → is_nil xs ≡ false
some-not-nil [] h = absurd (omega arith)
some-not-nil (x ∷ xs) h = refl

nil-lines : (s : List ℕ) → is_nil (lines s) ≡ leb (length s) 0
nil-lines [] = refl
nil-lines (b ∷ s) = some-not-nil (lines (b ∷ s)) (some-line b s) ∙ sym (lt-leb (suc (length s)) 0 (omega arith))

-- ---- whether the last line is ended

ended-from : (b : ℕ) (t : List ℕ) (n : ℕ) → n < length t → ended_after b t ≡ ended_after 10 (drop n t)
ended-from b [] n h = absurd (omega arith)
ended-from b (c ∷ t) zero h = refl
ended-from b (c ∷ t) (suc n) h = ended-from c t n (omega arith)

last-ended : (b : ℕ) (s : List ℕ) → length (b ∷ s) ≤ before 10 (b ∷ s) + 1 → ended_after b s ≡ ltb (before 10 (b ∷ s)) (length (b ∷ s))
last-ended b [] h = ⊎_elim
    (λ e. e ∙ sym (lt-ltb (before 10 (b ∷ [])) 1 (omega (arith, before_here 10 b [] e))))
    (λ e. e ∙ sym (le-ltb (before 10 (b ∷ [])) 1 (omega (arith, before-later 10 b [] e))))
    (cases_Bool (eqb b 10))
last-ended b (c ∷ s) h = ⊎_elim
    (λ e. absurd (omega (arith, before_here 10 b (c ∷ s) e)))
    (λ e.
    let more = before-later 10 b (c ∷ s) e in
    let rest = last-ended c s (omega (arith, more)) in
    rest ∙ ltb-shift (before 10 (c ∷ s)) (length (c ∷ s)) ∙ ap (λ n. ltb n (suc (length (c ∷ s)))) (sym more))
    (cases_Bool (eqb b 10))
  where
    ltb-shift : (m n : ℕ) → ltb m n ≡ ltb (suc m) (suc n)
    ltb-shift m n = ⊎_elim
        (λ l. lt-ltb m n l ∙ sym (lt-ltb (suc m) (suc n) (omega arith)))
        (λ g. le-ltb m n g ∙ sym (le-ltb (suc m) (suc n) (omega arith)))
        (cases_lt m n)

ended-last : (s : List ℕ) → 0 < length s → length s ≤ before 10 s + 1 → ended s ≡ ltb (before 10 s) (length s)
ended-last [] some h = absurd (omega arith)
ended-last (b ∷ s) some h = last-ended b s h

-- ---- the line at a place

module _ (t : List ℕ) (at end : ℕ) (is : end ≡ line_end t at) (in' : at < length t) where
  pub last-here : leb (length t) (end + 1) ≡ is_nil (lines (drop (end + 1) t))
  last-here =
      let size : length (drop (end + 1) t) ≡ length t - (end + 1) = length-drop (end + 1) t in
      ⊎_elim
      (λ l. lt-leb (length t) (end + 1) l ∙ sym (lt-leb (length (drop (end + 1) t)) 0 (omega (arith, size))) ∙ sym (nil-lines (drop (end + 1) t)))
      (λ g. le-leb (length t) (end + 1) g ∙ sym (le-leb (length (drop (end + 1) t)) 0 (omega (arith, size))) ∙ sym (nil-lines (drop (end + 1) t)))
      (cases_lt (end + 1) (length t))

  pub ended_here : ltb end (length t) ≡ (not (is_nil (lines (drop (end + 1) t))) || ended t)
  ended_here = ⊎_elim
      (λ l. lt-ltb end (length t) (omega arith) ∙ ap (λ b. not b || ended t) (sym (sym last-here' ∙ lt-leb (length t) (end + 1) l)))
      (λ g.
      let s = drop at t in
      let size : length s ≡ length t - at = length-drop at t in
      let far : before 10 s + at ≡ end = omega (arith, is) in
      let few : before 10 s ≤ length s = prefix_len-le-length in_line s in
      let one : ended t ≡ ltb (before 10 s) (length s) = ended-from 10 t at in' ∙ ended-last s (omega (arith, size)) (omega (arith, size, far)) in
      let two : ltb end (length t) ≡ ltb (before 10 s) (length s) = shifted (before 10 s) (length s) (omega (arith, far)) (omega (arith, size)) in
      two ∙ sym one ∙ ap (λ b. not b || ended t) (sym (sym last-here' ∙ le-leb (length t) (end + 1) g)))
      (cases_lt (end + 1) (length t))
    where
      last-here' : leb (length t) (end + 1) ≡ is_nil (lines (drop (end + 1) t))
      last-here' = last-here

      shifted : (m n : ℕ) → end ≡ m + at → length t ≡ n + at → ltb end (length t) ≡ ltb m n
      shifted m n e f = ⊎_elim
          (λ l. lt-ltb end (length t) (omega arith) ∙ sym (lt-ltb m n l))
          (λ g. le-ltb end (length t) (omega arith) ∙ sym (le-ltb m n g))
          (cases_lt m n)

-- ---- how many lines

lines-onto : (b : ℕ) (ls : List (List ℕ)) (n : ℕ) → length ls ≤ n → length (onto b ls) ≤ suc n
lines-onto b [] n h = omega arith
lines-onto b (l ∷ ls) n h = omega arith

-- A text has no more lines than bytes.
pub few-lines : (t : List ℕ) → length (lines t) ≤ length t
few-lines [] = omega arith
few-lines (b ∷ t) = go (eqb b 10) (few-lines t)
  where
    go : (c : Bool) → length (lines t) ≤ length t → length (cond c ([] ∷ lines t) (onto b (lines t))) ≤ suc (length t)
    go true h = omega arith
    go false h = lines-onto b (lines t) (length t) h
