-- Sets of places as the code builds and asks them. Assumes nothing.
use Rattle.std.proofs.Common.{◌≡◌, ℕ, ◌+◌, ◌*◌, ◌/◌, ◌%◌, ◌^◌, ◌<◌, ◌≤◌, Bool, true, false, cond, eqb, List, length, get_or, drop, sym, ap, ◌∙◌, add-one}
use lib.Bits.{bit_and, bit_or, or_zero_r, and_mask}
use Rattle.std.proofs.lemmas.Nat.{one_shl}
use Rattle.std.proofs.lemmas.List.{at_drop_more, at_drop_all}
use Rattle.meaning.specs.declared.values.Place.{Place}
use Rattle.meaning.specs.declared.values.Edge.{Edge}
use Rattle.meaning.specs.Stepping.{Cells, in_set, places_from, leaves, targets}
use Rattle.meaning.proofs.Bits.{union_assoc}

-- `(set >> place) & 1 == 1`
pub bit-is-in-set : (s p : ℕ) → eqb (bit_and (s / 2 ^ p) 1) 1 ≡ in_set s p
bit-is-in-set s p = ap (λ x. eqb x 1) (and_mask (s / 2 ^ p) 1)

-- one place more
grown : (acc q rest : ℕ) → q < 32 → bit_or (bit_or acc ((1 * 2 ^ q) % 2 ^ 32)) rest ≡ bit_or acc (bit_or (2 ^ q) rest)
grown acc q rest h = ap (λ x. bit_or (bit_or acc x) rest) (one_shl q 32 h) ∙ union_assoc acc (2 ^ q) rest

module _ (f : Place → Bool) (ps : List Place) (i acc whole : ℕ) (d : Place) (in' : i < length ps)
    (so : bit_or acc (places_from f i (drop i ps)) ≡ whole) where
  places-split : bit_or acc (cond (f (get_or ps i d)) (bit_or (2 ^ i) (places_from f (i + 1) (drop (i + 1) ps))) (places_from f (i + 1) (drop (i + 1) ps))) ≡ whole
  places-split =
      ap (λ k. bit_or acc (cond (f (get_or ps i d)) (bit_or (2 ^ i) (places_from f k (drop (i + 1) ps))) (places_from f k (drop (i + 1) ps)))) (add-one i)
      ∙ ap (bit_or acc) (sym (at_drop_more (places_from f i) ps i d in')) ∙ so

  pub places-take : i < 32 → true ≡ f (get_or ps i d) → bit_or (bit_or acc ((1 * 2 ^ i) % 2 ^ 32)) (places_from f (i + 1) (drop (i + 1) ps)) ≡ whole
  places-take low yes' =
      grown acc i _ low
      ∙ ap (λ b. bit_or acc (cond b (bit_or (2 ^ i) (places_from f (i + 1) (drop (i + 1) ps))) (places_from f (i + 1) (drop (i + 1) ps)))) yes' ∙ places-split

  pub places-pass : false ≡ f (get_or ps i d) → bit_or acc (places_from f (i + 1) (drop (i + 1) ps)) ≡ whole
  places-pass no' =
      ap (λ b. bit_or acc (cond b (bit_or (2 ^ i) (places_from f (i + 1) (drop (i + 1) ps))) (places_from f (i + 1) (drop (i + 1) ps)))) no' ∙ places-split

pub places-all : (f : Place → Bool) (ps : List Place) (i acc whole : ℕ) → length ps ≤ i → bit_or acc (places_from f i (drop i ps)) ≡ whole → acc ≡ whole
places-all f ps i acc whole past so = sym (or_zero_r acc) ∙ sym (ap (bit_or acc) (at_drop_all (places_from f i) ps i past)) ∙ so

module _ (es : List Edge) (s a : ℕ) (cells : Cells) (i acc whole : ℕ) (d : Edge) (in' : i < length es)
    (so : bit_or acc (targets (drop i es) s a cells) ≡ whole) where
  targets-split : bit_or acc (cond (leaves (get_or es i d) s a cells) (bit_or (2 ^ (get_or es i d).target) (targets (drop (i + 1) es) s a cells)) (targets (drop (i + 1) es) s a cells)) ≡ whole
  targets-split = ap (bit_or acc) (sym (at_drop_more (λ l. targets l s a cells) es i d in')) ∙ so

  pub targets-take : (get_or es i d).target < 32 → true ≡ leaves (get_or es i d) s a cells
      → bit_or (bit_or acc ((1 * 2 ^ (get_or es i d).target) % 2 ^ 32)) (targets (drop (i + 1) es) s a cells) ≡ whole
  targets-take low yes' =
      grown acc (get_or es i d).target _ low
      ∙ ap (λ b. bit_or acc (cond b (bit_or (2 ^ (get_or es i d).target) (targets (drop (i + 1) es) s a cells)) (targets (drop (i + 1) es) s a cells))) yes' ∙ targets-split

  pub targets-pass : false ≡ leaves (get_or es i d) s a cells → bit_or acc (targets (drop (i + 1) es) s a cells) ≡ whole
  targets-pass no' =
      ap (λ b. bit_or acc (cond b (bit_or (2 ^ (get_or es i d).target) (targets (drop (i + 1) es) s a cells)) (targets (drop (i + 1) es) s a cells))) no' ∙ targets-split

pub targets-all : (es : List Edge) (s a : ℕ) (cells : Cells) (i acc whole : ℕ) → length es ≤ i → bit_or acc (targets (drop i es) s a cells) ≡ whole → acc ≡ whole
targets-all es s a cells i acc whole past so = sym (or_zero_r acc) ∙ sym (ap (bit_or acc) (at_drop_all (λ l. targets l s a cells) es i past)) ∙ so
