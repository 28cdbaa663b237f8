-- The head of the edges as the code judges it. Assumes nothing.
use Rattle.std.proofs.Common.{◌≡◌, ℕ, ◌<◌, ◌≤◌, Bool, true, false, cond, ◌&&◌, eqb, leb, List, length, Some, None, Ok, Err, Option, Result, refl, ap, ◌∙◌, arith}
use Rattle.std.proofs.lemmas.Bool.{and_left, and_right, and_from, lt-leb, le-leb}
use Rattle.texts.specs.Numbers.{every}
use Rattle.clocks.specs.Letters.{lawful_name}
use Rattle.tables.specs.Lawful.{different}
use Rattle.rows.proofs.Outcomes.{never-ok, same-from-ok}
use Rattle.formats.specs.Faults.{Fails}
use Rattle.judges.specs.Heads.{name_list, judged_names}

-- names that are refused, are too few or too many, or are taken
list_of : (ws names : List (List ℕ)) → name_list ws ≡ Ok names → ((every lawful_name ws && different ws) ≡ true) × (ws ≡ names)
list_of ws names h = go (every lawful_name ws && different ws) h
  where
    go : (b : Bool) → ◌≡◌ {A = Result (List (List ℕ)) ℕ} (cond b (Ok ws) (Err 4)) (Ok names) → (b ≡ true) × (ws ≡ names)
    go true e = (refl, same-from-ok ws names e)
    go false e = never-ok 4 names e

pub names-refused : (ws : List (List ℕ)) (o : Option ℕ) → Fails (name_list ws) o → Fails (judged_names ws) o
names-refused ws None h = tt
names-refused ws (Some n) h = go (every lawful_name ws && different ws) refl h
  where
    go : (b : Bool) → (every lawful_name ws && different ws) ≡ b → ◌≡◌ {A = Result (List (List ℕ)) ℕ} (cond b (Ok ws) (Err 4)) (Err n) → judged_names ws ≡ Err n
    go true e g = absurd (let z : ◌≡◌ {A = ℕ} 0 1 = cc in omega arith)
    go false e g = ap (λ b. cond (eqb (cond b (cond (leb 1 (length ws) && leb (length ws) 8) 0 7) 4) 0) (Ok ws) (Err (cond b (cond (leb 1 (length ws) && leb (length ws) 8) 0 7) 4))) e ∙ g

counted-as : (ws : List (List ℕ)) (b : Bool) → (every lawful_name ws && different ws) ≡ true → (leb 1 (length ws) && leb (length ws) 8) ≡ b → judged_names ws ≡ cond b (Ok ws) (Err 7)
counted-as ws true lawful e = λ i. cond (eqb (cond (lawful i) (cond (e i) 0 7) 4) 0) (Ok ws) (Err (cond (lawful i) (cond (e i) 0 7) 4))
counted-as ws false lawful e = λ i. cond (eqb (cond (lawful i) (cond (e i) 0 7) 4) 0) (Ok ws) (Err (cond (lawful i) (cond (e i) 0 7) 4))

module _ (ws names : List (List ℕ)) (h : name_list ws ≡ Ok names) where
  same : ws ≡ names
  same = (list_of ws names h).1

  pub names-too-few : length names ≡ 0 → judged_names ws ≡ Err 7
  names-too-few e = counted-as ws false (list_of ws names h).0 (and_left _ (leb (length ws) 8) (lt-leb 1 (length ws) (omega (arith, ap length same))))

  pub names-too-many : 8 < length names → judged_names ws ≡ Err 7
  names-too-many e = counted-as ws false (list_of ws names h).0 (and_right (leb 1 (length ws)) _ (lt-leb (length ws) 8 (omega (arith, ap length same))))

  pub names-counted : (length names ≡ 0 → ⊥) → length names ≤ 8 → judged_names ws ≡ Ok names
  names-counted some few =
      counted-as ws true (list_of ws names h).0 (and_from _ _ (le-leb 1 (length ws) (omega (arith, ap length same))) (le-leb (length ws) 8 (omega (arith, ap length same)))) ∙ ap Ok same
