-- Lines that a text may have, and the text that they make. Assumes nothing.
use Rattle.std.proofs.Common.{◌≡◌, ℕ, suc, ◌*◌, ◌≤◌, Bool, true, ◌&&◌, leb, List, [], ◌∷◌, ◌++◌, length, refl, ◌∙◌, add-mul, arith}
use Rattle.std.proofs.lemmas.List.{length-append}
use Rattle.std.proofs.lemmas.Bool.{and_parts, and_from, leb-true}
use Rattle.texts.specs.Lines.{lacks, allowed, unlines, ended_after, ended}
use Rattle.texts.specs.Numbers.{every}
use Rattle.rows.proofs.Plain.{every_append}

-- no line's end within, bytes that are allowed, and not over the most
abbrev pub clean : ℕ → List ℕ → Bool
clean most l = lacks 10 l && (every allowed l && leb (length l) most)

pub clean-lacks : (most : ℕ) (ls : List (List ℕ)) → every (clean most) ls ≡ true → every (lacks 10) ls ≡ true
clean-lacks most [] h = refl
clean-lacks most (l ∷ ls) h =
    let both = and_parts (clean most l) _ h in
    and_from _ _ (and_parts (lacks 10 l) _ both.0).0 (clean-lacks most ls both.1)

pub clean-is-allowed : (most : ℕ) (ls : List (List ℕ)) → every (clean most) ls ≡ true → every allowed (unlines ls) ≡ true
clean-is-allowed most [] h = refl
clean-is-allowed most (l ∷ ls) h =
    let both = and_parts (clean most l) _ h in
    let rest = (and_parts (lacks 10 l) _ both.0).1 in
    every_append allowed l (10 ∷ unlines ls) (and_parts (every allowed l) _ rest).0 (and_from (allowed 10) _ refl (clean-is-allowed most ls both.1))

pub clean-is-short : (most : ℕ) (ls : List (List ℕ)) → every (clean most) ls ≡ true → length (unlines ls) ≤ length ls * suc most
clean-is-short most [] h = omega arith
clean-is-short most (l ∷ ls) h =
    let both = and_parts (clean most l) _ h in
    let rest = (and_parts (lacks 10 l) _ both.0).1 in
    let small = leb-true (length l) most (and_parts (every allowed l) _ rest).1 in
    omega (arith, length-append l (10 ∷ unlines ls), small, clean-is-short most ls both.1, add-mul 1 (length ls) (suc most))

ends-after : (b : ℕ) (l t : List ℕ) → ended_after b (l ++ (10 ∷ t)) ≡ ended_after 10 t
ends-after b [] t = refl
ends-after b (c ∷ l) t = ends-after c l t

pub unlines-is-ended : (ls : List (List ℕ)) → ended (unlines ls) ≡ true
unlines-is-ended [] = refl
unlines-is-ended (l ∷ ls) = ends-after 10 l (unlines ls) ∙ unlines-is-ended ls
