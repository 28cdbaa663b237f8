-- A line that is sought by its number, from the start of one line to the start of the next. Assumes nothing.
use Rattle.std.proofs.Common.{◌≡◌, ℕ, suc, ◌+◌, ◌-◌, ◌<◌, List, ◌∷◌, length, take, drop, sym, refl, ap, ◌∙◌, ⊎_elim, arith}
use Rattle.std.proofs.lemmas.List.{drop-drop, length-drop}
use Rattle.std.proofs.lemmas.List.Sums.{prefix_len-drop_all}
use Rattle.std.proofs.lemmas.Bool.{cases_lt}
use Rattle.std.specs.List.{slice_get}
use Rattle.texts.specs.Lines.{lines, in_line, line_end}
use Rattle.texts.proofs.Pieces.{before, lines_step}

module _ (t : List ℕ) (start end : ℕ) (is : end ≡ line_end t start) where
  -- the line from `start` on, and those after it
  pub lines_from : start < length t → lines (drop start t) ≡ take (end - start) (drop start t) ∷ lines (drop (end + 1) t)
  lines_from in' =
      let long : end - start ≡ before 10 (drop start t) = omega (arith, is) in
      let next : start + (before 10 (drop start t) + 1) ≡ end + 1 = omega (arith, is) in
      lines_step (drop start t) (omega (arith, length-drop start t))
      ∙ (λ i. take (sym long i) (drop start t) ∷ lines ((drop-drop (before 10 (drop start t) + 1) start t ∙ ap (λ k. drop k t) next) i))

  start-within : end < length t → start < length t
  start-within more = ⊎_elim
      (λ in'. in')
      (λ past. absurd (omega (arith, is, prefix_len-drop_all in_line t start past)))
      (cases_lt start (length t))

-- A later line than the one from `start` on is sought from the next start.
pub sought_next : (t : List ℕ) (start k : ℕ) → line_end t start < length t → 0 < k
    → slice_get (lines (drop start t)) k ≡ slice_get (lines (drop (line_end t start + 1) t)) (k - 1)
sought_next t start k more later =
    let one : k ≡ suc (k - 1) = omega arith in
    let end = line_end t start in
    ap (slice_get (lines (drop start t))) one ∙ ap (λ ls. slice_get ls (suc (k - 1))) (lines_from t start end refl (start-within t start end refl more))
