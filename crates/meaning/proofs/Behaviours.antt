-- The set of places after a word decides whether it is a behaviour. Assumes nothing.
use Rattle.std.proofs.Common.{◌≡◌, ℕ, zero, suc, ◌<◌, ◌≤◌, Bool, true, ◌&&◌, ltb, List, [], ◌∷◌, map, length, Some, Decides, sym, refl, ap, ◌∙◌, subst, zero-add, arith}
use mathlib.Core.List.{Memᴰ}
use Rattle.std.proofs.lemmas.Bool.{and_parts, and_from, ltb-true, lt-ltb}
use Rattle.std.specs.List.{slice_get, AllByRecursion}
use Rattle.meaning.specs.declared.values.Pair.{Pair}
use Rattle.meaning.specs.declared.values.Place.{Place}
use Rattle.meaning.specs.declared.values.Edge.{Edge}
use Rattle.meaning.specs.Tables.{Contents, Accepts, Behaviour}
use Rattle.meaning.specs.Stepping.{Cells, Move, CappedReads, never, aged, advanced, restarted, moves, in_set, meets, places_from, starts, finals, ends, reached, cap_of}
use Rattle.meaning.proofs.Readings.{reading-at}
use Rattle.meaning.proofs.Paths.{Path, Within, reaches-from-accepts, accepts-from-reaches}
use Rattle.meaning.proofs.Sets.{path-from-end, end-from-path, marked-from-place, place-from-marked}
use Rattle.meaning.proofs.Bits.{meets-tells, meets-from}
use Rattle.meaning.proofs.Capping.{capped_move, moves-capped, ends-capped}

-- What the theorem needs of a table: at most eight events, edges under events that it has, and nothing asked of the clocks of others.
pub record Fair (t : Contents) : Type 0 where
  pub few : length t.names ≤ 8
  pub within : Within (length t.names) t.edges
  pub events : (e : Edge) → Memᴰ e t.edges → e.event < length t.names

abbrev pub behaves : ℕ → Contents → List Pair → Bool
behaves c t w = ltb 0 (length w) && meets (reached c t w) (finals t.places)

module _ (t : Contents) (fair : Fair t) where
  place_at : (f : Place → Bool) (l : ℕ) → in_set (places_from f 0 t.places) l ≡ true → (p : Place) × (slice_get t.places l ≡ Some p) × (f p ≡ true)
  place_at f l h =
      let m = marked-from-place f 0 t.places l h in
      (m.1, ap (slice_get t.places) (sym m.2 ∙ zero-add m.0) ∙ m.3, m.4)

  at_place : (f : Place → Bool) (l : ℕ) → (p : Place) × (slice_get t.places l ≡ Some p) × (f p ≡ true) → in_set (places_from f 0 t.places) l ≡ true
  at_place f l h = place-from-marked f 0 t.places l l h.0 (zero-add l) h.1 h.2

  words-only : (w : List Pair) (cells : Cells) (l q : ℕ) → Path t.edges l (moves aged (length t.names) cells w) q
      → AllByRecursion (λ p. p.event < length t.names) w
  words-only [] cells l q path = tt
  words-only (p ∷ w) cells l q path = (
    subst (λ a. a < length t.names) path.3 (fair.events path.0 path.1),
    words-only w (restarted (length t.names) p.event (aged p.wait cells)) path.0.target q path.5,
  )

  -- capping at the table's cap, or above it, changes nothing
  pub reached-capped : (c : ℕ) → cap_of t.edges ≤ c → (w : List Pair)
      → reached c t w ≡ ends t.edges (starts t.places) (moves aged (length t.names) never w)
  reached-capped c high w =
      ap (ends t.edges (starts t.places)) (moves-capped c (length t.names) never w)
      ∙ ends-capped c t.edges (starts t.places) (moves aged (length t.names) never w) high

  pub accepts-tells : (c : ℕ) → cap_of t.edges ≤ c → (w : List Pair) → meets (reached c t w) (finals t.places) ≡ true → Accepts t w
  accepts-tells c high w h =
      let both = meets-tells _ _ h in
      let end = path-from-end t.edges (starts t.places) (moves aged (length t.names) never w) both.0
      (ap (λ s. in_set s both.0) (sym (reached-capped c high w)) ∙ both.1) in
      accepts-from-reaches t (length t.names) fair.few fair.within w
      (end.0, both.0, place_at (λ p. p.start) end.0 end.1, place_at (λ p. p.accepting) both.0 both.2, end.2)

  pub accepts-told : (c : ℕ) → cap_of t.edges ≤ c → (w : List Pair) → Accepts t w → meets (reached c t w) (finals t.places) ≡ true
  accepts-told c high w h =
      let r = reaches-from-accepts t (length t.names) fair.few fair.within w h in
      meets-from _ _ r.1
      (ap (λ s. in_set s r.1) (reached-capped c high w)
      ∙ end-from-path t.edges (starts t.places) (moves aged (length t.names) never w) r.1 (r.0, at_place (λ p. p.start) r.0 r.2, r.4))
      (at_place (λ p. p.accepting) r.1 r.3)

  pub behaves-decides : (c : ℕ) → cap_of t.edges ≤ c → (w : List Pair) → Decides (behaves c t w) (Behaviour t w)
  behaves-decides c high w = (
    λ yes'.
        let parts = and_parts _ _ yes' in
        let accepts = accepts-tells c high w parts.1 in
        let r = reaches-from-accepts t (length t.names) fair.few fair.within w accepts in
        ((ltb-true 0 (length w) parts.0, words-only w never r.0 r.1 r.4), accepts),
    λ b. and_from _ _ (lt-ltb 0 (length w) b.0.0) (accepts-told c high w b.1),
  )

nth-map-some : {X Y : Type 0} (f : X → Y) (xs : List X) (i : ℕ) (y : Y) → slice_get (map f xs) i ≡ Some y → (x : X) × (slice_get xs i ≡ Some x) × (f x ≡ y)
nth-map-some f [] i y h = absurd (let z : ◌≡◌ {A = ℕ} 0 1 = cc in omega arith)
nth-map-some f (x ∷ xs) zero y h = (x, refl, (let e : f x ≡ y = cc in e))
nth-map-some f (x ∷ xs) (suc i) y h = nth-map-some f xs i y h

-- What the moves with capped cells hold at a position is the reading there, capped.
pub capped-reading-at : (c n : ℕ) (w : List Pair) → n ≤ 8 → (j : ℕ) (m : Move) → slice_get (moves (advanced c) n never w) j ≡ Some m → CappedReads c n w j m.reading
capped-reading-at c n w few j m is =
    let k = nth-map-some (capped_move c) (moves aged n never w) j m (ap (λ l. slice_get l j) (sym (moves-capped c n never w)) ∙ is) in
    (k.0.reading, reading-at n w few j k.0 k.1, ap (λ x. x.reading) (sym k.2))
