-- Capping at the cap plus 1 changes no bound and no later step. Assumes nothing.
use Rattle.std.proofs.Common.{◌≡◌, ℕ, ◌+◌, ◌^◌, ◌≤◌, min, Bool, true, false, cond, ◌&&◌, eqb, ltb, leb, List, [], ◌∷◌, map, set, Some, None, Option, sym, refl, ap, ◌∙◌, arith}
use lib.Bits.{bit_or}
use Rattle.std.proofs.lemmas.List.{map-set}
use Rattle.std.proofs.lemmas.Bool.Decides.{nat_tests}
use Rattle.std.specs.Option.{option_map}
use Rattle.meaning.specs.declared.values.Pair.{Pair}
use Rattle.meaning.specs.declared.values.Bound.{Bound}
use Rattle.meaning.specs.declared.values.Bound.TheVariants.{Any, Never, AtLeast, Between}
use Rattle.meaning.specs.declared.values.Edge.{Edge}
use Rattle.meaning.specs.Stepping.{Cells, Move, aged, capped, advanced, restarted, moves, holds, holds_all, in_set, targets, ends, top, top_of_bounds, cap_of}

abbrev limited : ℕ → Option ℕ → Option ℕ
limited c v = option_map (λ x. min x (c + 1)) v

map-map : {X Y Z : Type 0} (f : Y → Z) (g : X → Y) (xs : List X) → map f (map g xs) ≡ map (λ x. f (g x)) xs
map-map f g [] = refl
map-map f g (x ∷ xs) = ap (λ ys. f (g x) ∷ ys) (map-map f g xs)

-- A wait after capping, capped again, is the wait, capped.
pub advanced-capped : (c d : ℕ) (cells : Cells) → advanced c d (capped c cells) ≡ capped c (aged d cells)
advanced-capped c d [] = refl
advanced-capped c d (None ∷ cells) = ap (λ ys. None ∷ ys) (advanced-capped c d cells)
advanced-capped c d (Some v ∷ cells) =
    let e : min (min v (c + 1) + d) (c + 1) ≡ min (v + d) (c + 1) = omega arith in
    λ i. Some (e i) ∷ advanced-capped c d cells i

pub restarted-capped : (n a c : ℕ) (cells : Cells) → restarted n a (capped c cells) ≡ capped c (restarted n a cells)
restarted-capped n a c cells = go (ltb a n)
  where
    zeroed : set (capped c cells) a (Some 0) ≡ capped c (set cells a (Some 0))
    zeroed = let e : ◌≡◌ {A = ℕ} 0 (min 0 (c + 1)) = omega arith in
        ap (λ x. set (capped c cells) a (Some x)) e ∙ sym (map-set (limited c) cells a (Some 0))

    go : (b : Bool) → cond b (set (capped c cells) a (Some 0)) (capped c cells) ≡ capped c (cond b (set cells a (Some 0)) cells)
    go true = zeroed
    go false = refl

abbrev pub capped_move : ℕ → Move → Move
capped_move c m = record { event = m.event; reading = capped c m.reading }

-- The moves with capped cells are the moves, capped.
pub moves-capped : (c n : ℕ) (cells : Cells) (w : List Pair)
    → moves (advanced c) n (capped c cells) w ≡ map (capped_move c) (moves aged n cells w)
moves-capped c n cells [] = refl
moves-capped c n cells (p ∷ w) =
    let here = advanced-capped c p.wait cells in
    let later : restarted n p.event (advanced c p.wait (capped c cells)) ≡ capped c (restarted n p.event (aged p.wait cells)) =
    ap (restarted n p.event) here ∙ restarted-capped n p.event c (aged p.wait cells) in
    let rest = ap (λ x. moves (advanced c) n x w) later ∙ moves-capped c n (restarted n p.event (aged p.wait cells)) w in
    λ i. record { event = p.event; reading = here i } ∷ rest i

-- A bound whose numbers are at most the cap does not see the capping.
pub holds-capped : (c : ℕ) (b : Bound) (v : Option ℕ) → top b ≤ c → holds b (option_map (λ x. min x (c + 1)) v) ≡ holds b v
holds-capped c Any v h = refl
holds-capped c Never None h = refl
holds-capped c Never (Some v) h = refl
holds-capped c (AtLeast a) None h = refl
holds-capped c (AtLeast a) (Some v) h = grind (arith, nat_tests)
holds-capped c (Between a b) None h = refl
holds-capped c (Between a b) (Some v) h =
    let low : leb a (min v (c + 1)) ≡ leb a v = grind (arith, nat_tests) in
    let high : leb (min v (c + 1)) b ≡ leb v b = grind (arith, nat_tests) in
    λ i. low i && high i

pub holds_all-capped : (c : ℕ) (bs : List Bound) (cells : Cells) → top_of_bounds bs ≤ c → holds_all bs (capped c cells) ≡ holds_all bs cells
holds_all-capped c [] cells h = refl
holds_all-capped c (b ∷ bs) [] h = refl
holds_all-capped c (b ∷ bs) (v ∷ cells) h =
    λ i. holds-capped c b v (omega arith) i && holds_all-capped c bs cells (omega arith) i

pub targets-capped : (c : ℕ) (es : List Edge) (s a : ℕ) (cells : Cells) → cap_of es ≤ c → targets es s a (capped c cells) ≡ targets es s a cells
targets-capped c [] s a cells h = refl
targets-capped c (e ∷ es) s a cells h =
    let rest = targets-capped c es s a cells (omega arith) in
    let here = holds_all-capped c e.bounds cells (omega arith) in
    λ i. cond (in_set s e.source && (eqb e.event a && here i)) (bit_or (2 ^ e.target) (rest i)) (rest i)

pub ends-capped : (c : ℕ) (es : List Edge) (s : ℕ) (ms : List Move) → cap_of es ≤ c → ends es s (map (capped_move c) ms) ≡ ends es s ms
ends-capped c es s [] h = refl
ends-capped c es s (m ∷ ms) h =
    ap (λ x. ends es x (map (capped_move c) ms)) (targets-capped c es s m.event m.reading h) ∙ ends-capped c es (targets es s m.event m.reading) ms h
