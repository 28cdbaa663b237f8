-- The end of a text, with the byte 10 there or without it. Assumes nothing.
use Rattle.std.proofs.Common.{◌≡◌, ℕ, zero, suc, ◌-◌, ◌<◌, Bool, true, false, cond, ◌==◌, eqb, List, [], ◌∷◌, length, get_or, take, refl, sym, ap, ◌∙◌, arith}
use Rattle.std.proofs.lemmas.Bool.{cond-false}
use Rattle.std.specs.List.{slice_split}
use Rattle.texts.specs.Lines.{lines, onto, unended}

-- The lines of a text that is not empty are what stands between its bytes 10, less the last of these if it ends the text.
pub lines_by_split : (t : List ℕ) → 0 < length t → lines t ≡ slice_split (λ b. b == 10) (unended t)
lines_by_split [] some = absurd (omega arith)
lines_by_split (b ∷ []) some = by (eqb b 10) refl
  where
    by : (e : Bool) → eqb b 10 ≡ e → cond e ([] ∷ []) (onto b []) ≡ slice_split (λ c. c == 10) (cond e [] (b ∷ []))
    by true h = refl
    by false h = sym (cond-false _ _ _ h)
lines_by_split (b ∷ (c ∷ t)) some =
    let rest = lines_by_split (c ∷ t) (omega arith) in
    λ i. cond (eqb b 10) ([] ∷ rest i) (onto b (rest i))

last-is : (t : List ℕ) (n : ℕ) → length t ≡ suc n → unended t ≡ cond (eqb (get_or t n 0) 10) (take n t) t
last-is [] n long = absurd (omega (arith, long))
last-is (b ∷ []) zero long = refl
last-is (b ∷ []) (suc n) long = absurd (omega (arith, long))
last-is (b ∷ (c ∷ t)) zero long = absurd (omega (arith, long))
last-is (b ∷ (c ∷ t)) (suc n) long = ap (λ s. b ∷ s) (last-is (c ∷ t) n (omega (arith, long))) ∙ under (eqb (get_or (c ∷ t) n 0) 10) (take n (c ∷ t)) (c ∷ t)
  where
    under : (e : Bool) (x y : List ℕ) → b ∷ cond e x y ≡ cond e (b ∷ x) (b ∷ y)
    under true x y = refl
    under false x y = refl

pub unended_is : (t : List ℕ) → 0 < length t → unended t ≡ cond (eqb (get_or t (length t - 1) 0) 10) (take (length t - 1) t) t
unended_is t some = last-is t (length t - 1) (omega arith)
