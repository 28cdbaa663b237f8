-- The walk along a word, turn by turn, and what it tells at its end. Assumes nothing.
use Rattle.std.proofs.Common.{◌≡◌, ℕ, zero, suc, ◌+◌, ◌<◌, ◌≤◌, true, not, ◌&&◌, eqb, ltb, List, [], ◌∷◌, length, get_or, take, drop, Some, Decides, sym, refl, ◌∙◌, subst, arith}
use lib.Bits.{bit_and}
use Rattle.std.proofs.lemmas.List.{at_drop_more, at_drop_all}
use Rattle.std.proofs.lemmas.Bool.{lt-ltb}
use Rattle.std.proofs.lemmas.Bool.Decides.{Decides-at}
use Rattle.std.specs.List.{slice_get}
use Rattle.meaning.specs.declared.values.Pair.{Pair}
use Rattle.meaning.specs.Tables.{Contents, Behaviour}
use Rattle.meaning.specs.Stepping.{Cells, CappedReads, never, advanced, restarted, moves, cells_after, finals, targets, ends, starts, reached, cap_of}
use Rattle.meaning.proofs.Behaviours.{Fair, behaves-decides, capped-reading-at}

-- What is left of the word leads from here to where the whole word leads.
pub record Walks (t : Contents) (c : ℕ) (w : List Pair) (i s : ℕ) (cells : Cells) : Type 0 where
  pub set : ends t.edges s (moves (advanced c) (length t.names) cells (drop i w)) ≡ reached c t w
  pub reading : cells_after (advanced c) (length t.names) cells (drop i w) ≡ cells_after (advanced c) (length t.names) never w

module _ (t : Contents) (c : ℕ) (w : List Pair) where
  pub walks-at-first : (s : ℕ) (cells : Cells) → s ≡ starts t.places → cells ≡ never → Walks t c w 0 s cells
  walks-at-first s cells at is = record {
    set = λ i. ends t.edges (at i) (moves (advanced c) (length t.names) (is i) w);
    reading = λ i. cells_after (advanced c) (length t.names) (is i) w;
  }

  pub walks-on : (i : ℕ) (d : Pair) (s : ℕ) (cells : Cells) → i < length w → Walks t c w i s cells → (s' : ℕ) (after : Cells)
      → s' ≡ targets t.edges s (get_or w i d).event (advanced c (get_or w i d).wait cells)
      → after ≡ restarted (length t.names) (get_or w i d).event (advanced c (get_or w i d).wait cells) → Walks t c w (i + 1) s' after
  walks-on i d s cells in' so s' after at is = record {
    set = (λ j. ends t.edges (at j) (moves (advanced c) (length t.names) (is j) (drop (i + 1) w)))
        ∙ sym (at_drop_more (λ l. ends t.edges s (moves (advanced c) (length t.names) cells l)) w i d in') ∙ so.set;
    reading = (λ j. cells_after (advanced c) (length t.names) (is j) (drop (i + 1) w))
        ∙ sym (at_drop_more (cells_after (advanced c) (length t.names) cells) w i d in') ∙ so.reading;
  }

  pub walked_all : (i s : ℕ) (cells : Cells) → length w ≤ i → Walks t c w i s cells
      → (s ≡ reached c t w) × (cells ≡ cells_after (advanced c) (length t.names) never w)
  walked_all i s cells past so = (
    sym (at_drop_all (λ l. ends t.edges s (moves (advanced c) (length t.names) cells l)) w i past) ∙ so.set,
    sym (at_drop_all (cells_after (advanced c) (length t.names) cells) w i past) ∙ so.reading,
  )

-- A word with a pair is a behaviour exactly when the places reached have a final one.
pub word-decides : (t : Contents) → Fair t → (w : List Pair) (r f : ℕ) → r ≡ reached (cap_of t.edges) t w → f ≡ finals t.places → 0 < length w
    → Decides (not (eqb (bit_and r f) 0)) (Behaviour t w)
word-decides t fair w r f is fin some =
    Decides-at _ _
    (let long : ltb 0 (length w) ≡ true = lt-ltb 0 (length w) some in
    λ i. sym long i && not (eqb (bit_and (is i) (fin i)) 0))
    (behaves-decides t fair (cap_of t.edges) (omega arith) w)

-- The move at a position, from the cells after the pairs before it.
pub move_at : (age : ℕ → Cells → Cells) (n : ℕ) (w : List Pair) (cells : Cells) (j : ℕ) (d : Pair) → j < length w
    → slice_get (moves age n cells w) j ≡ Some (record { event = (get_or w j d).event; reading = age (get_or w j d).wait (cells_after age n cells (take j w)) })
move_at age n [] cells j d h = absurd (omega arith)
move_at age n (p ∷ w) cells zero d h = refl
move_at age n (p ∷ w) cells (suc j) d h = move_at age n w (restarted n p.event (age p.wait cells)) j d (omega arith)

-- The reading at a position, as the code finds it.
pub reads_here : (c n : ℕ) (w : List Pair) (j : ℕ) (d : Pair) → n ≤ 8 → j < length w → (k : ℕ) (before r : Cells) → k ≡ c
    → before ≡ cells_after (advanced c) n never (take j w) → r ≡ advanced k (get_or w j d).wait before → CappedReads c n w j r
reads_here c n w j d few in' k before r same came is =
    let e : r ≡ advanced c (get_or w j d).wait (cells_after (advanced c) n never (take j w)) = is ∙ (λ i. advanced (same i) (get_or w j d).wait (came i)) in
    subst (CappedReads c n w j) (sym e) (capped-reading-at c n w few j _ (move_at (advanced c) n w never j d in'))
