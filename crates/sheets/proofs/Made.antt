-- An array that is made of another, element by element. Assumes nothing.
use Rattle.std.proofs.Common.{◌≡◌, ℕ, zero, suc, ◌+◌, List, ◌∷◌, map, length, get_or, drop, sym, ap, ◌∙◌, arith}
use Rattle.std.proofs.lemmas.List.{ext_get_or, get_or-map, length-map, drop_all, drop_more}
use Rattle.std.specs.List.{range_with_len}
use Rattle.std.specs.Array.{IsMapOf}
use Rattle.std.specs.Fn.{Called}
use denote.Param.Members.{Mut}

pub mapped_of : {F A B : Type 0} (g : Mut F (A × Unit {0}) B) (f : F) (h : A → B) (xs : List A) (ys : List B) (n : ℕ) (d : A) (e : B)
    → ((p q : F) (x : A) (y : B) → Called g p (x, tt) y q → y ≡ h x) → IsMapOf g f xs ys n → length xs ≡ n → ys ≡ map h xs
mapped_of g f h xs ys n d e gives all long =
    ext_get_or e ys (map h xs) (all.long ∙ sym long ∙ sym (length-map xs h)) (λ i l.
    let at = all.at i d e (omega (arith, all.long)) in
    gives at.0 at.1 _ _ at.2 ∙ sym (get_or-map h xs i d e (omega (arith, all.long, long))))

-- the elements from the one at i on, written out
pub written_out : {A : Type 0} (xs : List A) (d : A) (n i : ℕ) → i + n ≡ length xs → map (λ k. get_or xs k d) (range_with_len i n) ≡ drop i xs
written_out xs d zero i long = sym (drop_all i xs (omega arith))
written_out xs d (suc n) i long = ap (λ ys. get_or xs i d ∷ ys) (written_out xs d n (i + 1) (omega arith)) ∙ sym (drop_more xs i d (omega arith))
