-- The walk refuses a text with the least of its faults, and takes it where there is none. Assumes nothing.
use Rattle.std.proofs.Common.{◌≡◌, ℕ, zero, suc, ◌+◌, ◌<◌, ◌≤◌, Bool, true, false, cond, not, ◌&&◌, ◌||◌, eqb, ltb, leb, ◌⊎◌, List, [], ◌∷◌, length, Some, None, Ok, Err, Option, Result, sym, refl, ap, ◌∙◌, subst, inl, inr, ⊎_elim, arith}
use Rattle.std.proofs.lemmas.Bool.{false≢true, ltb-true, ltb-false, eqb-true, and_parts, not-false}
use Rattle.std.proofs.lemmas.List.{nil_from_length}
use Rattle.texts.specs.Lines.{lines, words, ended, bad_byte}
use Rattle.rows.specs.Rows.{and_then, cell_of, cells_of, columns, number_in, row_of}
use Rattle.rows.specs.declared.cell.Cell.{Cell}
use Rattle.rows.specs.declared.cell.Column.{Column}
use Rattle.rows.specs.declared.cell.RowKind.{RowKind}
use Rattle.rows.specs.declared.cell.WordFault.{WordFault}
use Rattle.rows.specs.declared.cell.WordFault.TheVariants.{Misfit, OutOfRange}
use Rattle.rows.proofs.Outcomes.{never-ok, same-from-ok}
use Rattle.formats.specs.Faults.{word_number}
use Rattle.formats.specs.Walk.{Refusal, Line, Limits, empty, misspaced, lacks_sheet, head_step, row_step, row_gives, line_here, at_line, walk, checked, reading}
use Rattle.formats.specs.Least.{cell_wrong, said_in, word_wrong, Due, head_due, row_due, ends_sheet, LineWrong, Format, InLines, Faulty, Least}

never-err : {X : Type 0} {E : Type 0} {Y : Type 0} (x : X) (e : E) → ◌≡◌ {A = Result X E} (Ok x) (Err e) → Y
never-err x e h = absurd (let z : ◌≡◌ {A = ℕ} 0 1 = cc in omega arith)

never-some : {X Y : Type 0} (x : X) → ◌≡◌ {A = Option X} None (Some x) → Y
never-some x h = absurd (let z : ◌≡◌ {A = ℕ} 0 1 = cc in omega arith)

-- ---- the words from the left

pub record FirstWord (cs : List Column) (names : List (List ℕ)) (before : ℕ) (ws : List (List ℕ)) (n : ℕ) : Type 0 where
  pub place : ℕ
  pub fault : word_wrong cs names before ws place ≡ Some n
  pub first : (k m : ℕ) → word_wrong cs names before ws k ≡ Some m → place ≤ k

pub words-fail : (cs : List Column) (names : List (List ℕ)) (before : ℕ) (ws : List (List ℕ)) → length ws ≡ length cs → (f : WordFault) → cells_of cs names before ws ≡ Err f
    → FirstWord cs names before ws (word_number f)
words-fail [] names before [] size f h = never-err [] f h
words-fail [] names before (w ∷ ws) size f h = absurd (omega (arith, size))
words-fail (c ∷ cs) names before [] size f h = absurd (omega (arith, size))
words-fail (c ∷ cs) names before (w ∷ ws) size f h =
    go (cell_of c names before w) refl (λ cell g. words-fail cs names (number_in cell) ws (omega (arith, size)) f g) h
  where
    inner : (cell : Cell) (r : Result (List Cell) WordFault) → and_then r (λ cells. Ok (cell ∷ cells)) ≡ Err f → r ≡ Err f
    inner cell (Ok cells) g = never-err _ f g
    inner cell (Err e) g = g'
      where
        g' : ◌≡◌ {A = Result (List Cell) WordFault} (Err e) (Err f)
        g' = let same : e ≡ f = cc in ap Err same

    later : (cell : Cell) → cell_of c names before w ≡ Ok cell → FirstWord cs names (number_in cell) ws (word_number f) → FirstWord (c ∷ cs) names before (w ∷ ws) (word_number f)
    later cell e rest =
        let same : said_in (cell_of c names before w) ≡ number_in cell = ap said_in e in
        record { place = suc rest.place; fault = ap (λ b. word_wrong cs names b ws rest.place) same ∙ rest.fault; first = first' same }
      where
        first' : said_in (cell_of c names before w) ≡ number_in cell → (k m : ℕ) → word_wrong (c ∷ cs) names before (w ∷ ws) k ≡ Some m → suc rest.place ≤ k
        first' same zero m g = never-some m (sym (ap cell_wrong e) ∙ g)
        first' same (suc k) m g = omega (arith, rest.first k m (ap (λ b. word_wrong cs names b ws k) (sym same) ∙ g))

    go : (r : Result Cell WordFault) → cell_of c names before w ≡ r
        → ((cell : Cell) → cells_of cs names (number_in cell) ws ≡ Err f → FirstWord cs names (number_in cell) ws (word_number f))
        → and_then r (λ cell. and_then (cells_of cs names (number_in cell) ws) (λ cells. Ok (cell ∷ cells))) ≡ Err f
        → FirstWord (c ∷ cs) names before (w ∷ ws) (word_number f)
    go (Ok cell) e on g = later cell e (on cell (inner cell (cells_of cs names (number_in cell) ws) g))
    go (Err x) e on g =
        let same : x ≡ f = cc in
        record { place = 0; fault = ap cell_wrong e ∙ ap (λ y. Some (word_number y)) same; first = λ k m _. omega arith }

pub words-fine : (cs : List Column) (names : List (List ℕ)) (before : ℕ) (ws : List (List ℕ)) (cells : List Cell) → cells_of cs names before ws ≡ Ok cells
    → (k m : ℕ) → word_wrong cs names before ws k ≡ Some m → ⊥
words-fine [] names before ws cells h k m g = never-some m g
words-fine (c ∷ cs) names before [] cells h k m g = never-some m g
words-fine (c ∷ cs) names before (w ∷ ws) cells h k m g =
    go (cell_of c names before w) refl (λ cell rest e j g'. words-fine cs names (number_in cell) ws rest e j m g') h k g
  where
    inner : (cell : Cell) (r : Result (List Cell) WordFault) → and_then r (λ xs. Ok (cell ∷ xs)) ≡ Ok cells → (rest : List Cell) × (r ≡ Ok rest)
    inner cell (Ok rest) e = (rest, refl)
    inner cell (Err f) e = never-ok f cells e

    go : (r : Result Cell WordFault) → cell_of c names before w ≡ r
        → ((cell : Cell) (rest : List Cell) → cells_of cs names (number_in cell) ws ≡ Ok rest → (j : ℕ) → word_wrong cs names (number_in cell) ws j ≡ Some m → ⊥)
        → and_then r (λ cell. and_then (cells_of cs names (number_in cell) ws) (λ xs. Ok (cell ∷ xs))) ≡ Ok cells
        → (j : ℕ) → word_wrong (c ∷ cs) names before (w ∷ ws) j ≡ Some m → ⊥
    go (Err f) e on h' j g' = never-ok f cells h'
    go (Ok cell) e on h' zero g' = never-some m (sym (ap cell_wrong e) ∙ g')
    go (Ok cell) e on h' (suc j) g' =
        let rest = inner cell (cells_of cs names (number_in cell) ws) h' in
        on cell rest.0 rest.1 j (ap (λ b. word_wrong cs names b ws j) (sym (ap said_in e)) ∙ g')

-- ---- a line

-- A judgement of a line refuses it with the least of its faults, and takes it where it has none.
pub record Judges {S : Type 0} (due : Due) (l : Line) (d : Result S ℕ) : Type 0 where
  pub fails : (n : ℕ) → d ≡ Err n → (j : ℕ) × LineWrong due l j n × ((i m : ℕ) → LineWrong due l i m → j ≤ i)
  pub fine : (s : S) → d ≡ Ok s → (j n : ℕ) → LineWrong due l j n → ⊥

abbrev in_order : {S : Type 0} → Due → Line → Result S ℕ → Result S ℕ
in_order due l x = cond (due.spacing l) (Err 3) (cond (due.head l) (Err 4) (cond (due.count l) (Err 7) (cond (due.size l) (Err 5) x)))

module _ {S : Type 0} (due : Due) (l : Line) (x : Result S ℕ)
    (refused : due.size l ≡ false → (n : ℕ) → x ≡ Err n → (i : ℕ) × (due.word l i ≡ Some n) × ((k m : ℕ) → due.word l k ≡ Some m → i ≤ k))
    (taken : due.size l ≡ false → (s : S) → x ≡ Ok s → (i n : ℕ) → due.word l i ≡ Some n → ⊥) where
  order-judges : Judges due l (in_order due l x)
  order-judges = go (due.spacing l) (due.head l) (due.count l) (due.size l) refl refl refl refl
    where
      go : (a b c e : Bool) → due.spacing l ≡ a → due.head l ≡ b → due.count l ≡ c → due.size l ≡ e
          → Judges due l (cond a (Err 3) (cond b (Err 4) (cond c (Err 7) (cond e (Err 5) x))))
      go true b c e is-a is_b is_c is-e = record {
        fails = λ n h. (0, (is-a, (let same : n ≡ 3 = cc in same)), λ i m w. omega arith);
        fine = λ s h j n w. never-ok 3 s h;
      }
      go false true c e is-a is_b is_c is-e = record {
        fails = λ n h. (1, (is_b, (let same : n ≡ 4 = cc in same)), past);
        fine = λ s h j n w. never-ok 4 s h;
      }
        where
          past : (i m : ℕ) → LineWrong due l i m → 1 ≤ i
          past zero m w = absurd (false≢true (sym is-a ∙ w.0))
          past (suc i) m w = omega arith
      go false false true e is-a is_b is_c is-e = record {
        fails = λ n h. (2, (is_c, (let same : n ≡ 7 = cc in same)), past);
        fine = λ s h j n w. never-ok 7 s h;
      }
        where
          past : (i m : ℕ) → LineWrong due l i m → 2 ≤ i
          past zero m w = absurd (false≢true (sym is-a ∙ w.0))
          past (suc zero) m w = absurd (false≢true (sym is_b ∙ w.0))
          past (suc (suc i)) m w = omega arith
      go false false false true is-a is_b is_c is-e = record {
        fails = λ n h. (3, (is-e, (let same : n ≡ 5 = cc in same)), past);
        fine = λ s h j n w. never-ok 5 s h;
      }
        where
          past : (i m : ℕ) → LineWrong due l i m → 3 ≤ i
          past zero m w = absurd (false≢true (sym is-a ∙ w.0))
          past (suc zero) m w = absurd (false≢true (sym is_b ∙ w.0))
          past (suc (suc zero)) m w = absurd (false≢true (sym is_c ∙ w.0))
          past (suc (suc (suc i))) m w = omega arith
      go false false false false is-a is_b is_c is-e = record {
        fails = λ n h. let first = refused is-e n h in (suc (suc (suc (suc first.0))), first.1, past first.0 first.2);
        fine = none;
      }
        where
          past : (p : ℕ) → ((k m : ℕ) → due.word l k ≡ Some m → p ≤ k) → (i m : ℕ) → LineWrong due l i m → suc (suc (suc (suc p))) ≤ i
          past p first zero m w = absurd (false≢true (sym is-a ∙ w.0))
          past p first (suc zero) m w = absurd (false≢true (sym is_b ∙ w.0))
          past p first (suc (suc zero)) m w = absurd (false≢true (sym is_c ∙ w.0))
          past p first (suc (suc (suc zero))) m w = absurd (false≢true (sym is-e ∙ w.0))
          past p first (suc (suc (suc (suc i)))) m w = omega (arith, first i m w)

          none : (s : S) → x ≡ Ok s → (j n : ℕ) → LineWrong due l j n → ⊥
          none s h zero n w = absurd (false≢true (sym is-a ∙ w.0))
          none s h (suc zero) n w = absurd (false≢true (sym is_b ∙ w.0))
          none s h (suc (suc zero)) n w = absurd (false≢true (sym is_c ∙ w.0))
          none s h (suc (suc (suc zero))) n w = absurd (false≢true (sym is-e ∙ w.0))
          none s h (suc (suc (suc (suc i)))) n w = taken is-e s h i n w

-- ---- heads and rows

module _ {S : Type 0} (more : ℕ) (wrong : List ℕ → ℕ) (l : Line) (next : S) where
  abbrev v : ℕ
  v = wrong l.bytes

  by-head : (a b : Bool) → ((v ≡ 0) ⊎ ((v ≡ 4) ⊎ (v ≡ 7)))
      → ◌≡◌ {A = Result S ℕ} (cond a (Err 3) (cond (b || eqb v 4) (Err 4) (cond (eqb v 7) (Err 7) (Ok next)))) (cond a (Err 3) (cond b (Err 4) (cond (eqb v 0) (Ok next) (Err v))))
  by-head true b known = refl
  by-head false true known = refl
  by-head false false known = ⊎_elim (λ e. subst here (sym e) refl) (⊎_elim (λ e. subst here (sym e) refl) (λ e. subst here (sym e) refl)) known
    where
      here : ℕ → Type 0
      here n = ◌≡◌ {A = Result S ℕ} (cond (eqb n 4) (Err 4) (cond (eqb n 7) (Err 7) (Ok next))) (cond (eqb n 0) (Ok next) (Err n))

  -- `wrong` has no other number.
  pub head-judges : ((v ≡ 0) ⊎ ((v ≡ 4) ⊎ (v ≡ 7))) → Judges (head_due more wrong) l (head_step more v l next)
  head-judges known =
      subst (Judges (head_due more wrong) l) (by-head (misspaced l) (lacks_sheet more l) known)
      (order-judges (head_due more wrong) l (Ok next) (λ _ n h. never-err next n h) (λ _ s h i n g. never-some n g))

module _ {S : Type 0} (limits : Limits) (count : ℕ) (kind : RowKind) (names : List (List ℕ)) (l : Line) (next : List Cell → S) (closed : S) where
  abbrev due : Due
  due = row_due limits count kind names

  abbrev judged : Bool → Result S ℕ
  judged b =
      cond b (cond l.last (Err 4) (cond (ltb count limits.least) (Err 7) (Ok closed)))
      (cond (misspaced l) (Err 3) (cond (lacks_sheet limits.more l) (Err 4) (cond (leb limits.most count) (Err 7) (row_gives (row_of kind names l.bytes) next))))

  pub row-judges : Judges due l (row_step limits count kind names l next closed)
  row-judges = go (ends_sheet limits l) refl
    where
      words-judged : (r : Result (List Cell) WordFault) → (n : ℕ) → row_gives r next ≡ Err n → (f : WordFault) × (r ≡ Err f) × (n ≡ word_number f)
      words-judged (Ok cells) n h = never-err _ n h
      words-judged (Err Misfit) n h = (Misfit, refl, (let same : n ≡ 5 = cc in same))
      words-judged (Err OutOfRange) n h = (OutOfRange, refl, (let same : n ≡ 6 = cc in same))

      words-taken : (r : Result (List Cell) WordFault) (s : S) → row_gives r next ≡ Ok s → (cells : List Cell) × (r ≡ Ok cells)
      words-taken (Ok cells) s h = (cells, refl)
      words-taken (Err Misfit) s h = never-ok 5 s h
      words-taken (Err OutOfRange) s h = never-ok 6 s h

      ended : ends_sheet limits l ≡ true → Judges due l (judged true)
      ended e =
          let more = (and_parts (empty l.bytes) (ltb 0 limits.more) e).1 in
          let lacks : (l.last && ltb 0 limits.more) ≡ l.last = ap (λ b. l.last && b) more ∙ last l.last in
          subst (Judges due l)
          (λ i. cond (cond (e i) false (misspaced l)) (Err 3) (cond (lacks i) (Err 4)
          (cond (cond (e i) (ltb count limits.least) (leb limits.most count)) (Err 7)
          (cond (cond (e i) false (not (eqb (length (words l.bytes)) (length (columns kind))))) (Err 5) (Ok closed)))))
          (order-judges due l (Ok closed) (λ _ n h. never-err closed n h) (λ _ s h i n g. never-some n (ap (λ b. cond b None (word_wrong (columns kind) names 0 (words l.bytes) i)) (sym e) ∙ g)))
        where
          last : (b : Bool) → (b && true) ≡ b
          last true = refl
          last false = refl

      open' : ends_sheet limits l ≡ false → Judges due l (judged false)
      open' e =
          let all = cells_of (columns kind) names 0 (words l.bytes) in
          let word : (i : ℕ) → due.word l i ≡ word_wrong (columns kind) names 0 (words l.bytes) i = λ i. ap (λ b. cond b None (word_wrong (columns kind) names 0 (words l.bytes) i)) e in
          let few : due.size l ≡ not (eqb (length (words l.bytes)) (length (columns kind))) =
          ap (λ b. cond b false (not (eqb (length (words l.bytes)) (length (columns kind))))) e in
          subst (Judges due l)
          ((λ i. cond (cond (e i) false (misspaced l)) (Err 3) (cond (lacks_sheet limits.more l) (Err 4)
          (cond (cond (e i) (ltb count limits.least) (leb limits.most count)) (Err 7) (cond (few i) (Err 5) (row_gives all next)))))
          ∙ ap (λ r. cond (misspaced l) (Err 3) (cond (lacks_sheet limits.more l) (Err 4) (cond (leb limits.most count) (Err 7) r))) (sized (eqb (length (words l.bytes)) (length (columns kind)))))
          (order-judges due l (row_gives all next)
          (λ size n h.
          let bad = words-judged all n h in
          let first = words-fail (columns kind) names 0 (words l.bytes) (eqb-true _ _ (not-false _ (sym few ∙ size))) bad.0 bad.1 in
          (first.place, word first.place ∙ first.fault ∙ ap Some (sym bad.2), λ k m g. first.first k m (sym (word k) ∙ g)))
          (λ size s h i n g.
          let good = words-taken all s h in
          words-fine (columns kind) names 0 (words l.bytes) good.0 good.1 i n (sym (word i) ∙ g)))
        where
          sized : (z : Bool) → ◌≡◌ {A = Result S ℕ} (cond (not z) (Err 5) (row_gives (cells_of (columns kind) names 0 (words l.bytes)) next))
              (row_gives (cond z (cells_of (columns kind) names 0 (words l.bytes)) (Err Misfit)) next)
          sized true = refl
          sized false = refl

      go : (b : Bool) → ends_sheet limits l ≡ b → Judges due l (judged b)
      go true e = ended e
      go false e = open' e

-- ---- all lines

module _ {S : Type 0} (f : Format S) (whole : Bool) (judges : (s : S) (l : Line) → Judges (f.due s) l (f.step s l)) where
  -- A fault of some lines, with nothing before it.
  pub record FirstFault (s : S) (ls : List (List ℕ)) (k : ℕ) (q : Refusal) : Type 0 where
    pub place : ℕ
    pub within : ℕ
    pub fault : InLines f whole s ls place within q.number
    pub line-is : q.line ≡ k + place
    pub first : (a b n : ℕ) → InLines f whole s ls a b n → (place < a) ⊎ ((place ≡ a) × (within ≤ b))

  pub walk-fails : (ls : List (List ℕ)) (s : S) (k : ℕ) (q : Refusal) → walk f.step whole s k ls ≡ Err q → FirstFault s ls k q
  walk-fails [] s k q h = never-err s q h
  walk-fails (l ∷ ls) s k q h = go (f.step s (line_here whole l ls)) refl (λ next g. walk-fails ls next (suc k) q g) h
    where
      here : (n : ℕ) → f.step s (line_here whole l ls) ≡ Err n → record { number = n; line = k } ≡ q → FirstFault s (l ∷ ls) k q
      here n e same =
          let bad = (judges s (line_here whole l ls)).fails n e in
          record {
            place = 0;
            within = bad.0;
            fault = subst (LineWrong (f.due s) (line_here whole l ls) bad.0) (ap (λ r. r.number) same) bad.1;
            line-is = (let at : k ≡ q.line = ap (λ r. r.line) same in omega (arith, at));
            first = first' bad.0 bad.2;
          }
        where
          first' : (p : ℕ) → ((i m : ℕ) → LineWrong (f.due s) (line_here whole l ls) i m → p ≤ i) → (a b m : ℕ) → InLines f whole s (l ∷ ls) a b m → (0 < a) ⊎ ((0 ≡ a) × (p ≤ b))
          first' p least zero b m w = inr (refl, least b m w)
          first' p least (suc a) b m w = inl (omega arith)

      later : (next : S) → f.step s (line_here whole l ls) ≡ Ok next → FirstFault next ls (suc k) q → FirstFault s (l ∷ ls) k q
      later next e rest = record {
        place = suc rest.place;
        within = rest.within;
        fault = (next, e, rest.fault);
        line-is = omega (arith, rest.line-is);
        first = first';
      }
        where
          first' : (a b m : ℕ) → InLines f whole s (l ∷ ls) a b m → (suc rest.place < a) ⊎ ((suc rest.place ≡ a) × (rest.within ≤ b))
          first' zero b m w = absurd ((judges s (line_here whole l ls)).fine next e b m w)
          first' (suc a) b m w =
              let same : w.0 ≡ next = same-from-ok w.0 next (sym w.1 ∙ e) in
              ⊎_elim (λ less. inl (omega arith)) (λ both. inr (ap suc both.0, both.1)) (rest.first a b m (subst (λ x. InLines f whole x ls a b m) same w.2))

      go : (r : Result S ℕ) → f.step s (line_here whole l ls) ≡ r → ((next : S) → walk f.step whole next (suc k) ls ≡ Err q → FirstFault next ls (suc k) q)
          → and_then (at_line k r) (λ next. walk f.step whole next (suc k) ls) ≡ Err q → FirstFault s (l ∷ ls) k q
      go (Ok next) e on g = later next e (on next g)
      go (Err n) e on g = here n e (let same : record { number = n; line = k } ≡ q = cc in same)

  pub walk_fine : (ls : List (List ℕ)) (s t : S) (k : ℕ) → walk f.step whole s k ls ≡ Ok t → (a b n : ℕ) → InLines f whole s ls a b n → ⊥
  walk_fine [] s t k h a b n w = w
  walk_fine (l ∷ ls) s t k h a b n w = go (f.step s (line_here whole l ls)) refl (λ next g c. walk_fine ls next t (suc k) g c b n) h a w
    where
      go : (r : Result S ℕ) → f.step s (line_here whole l ls) ≡ r
          → ((next : S) → walk f.step whole next (suc k) ls ≡ Ok t → (c : ℕ) → InLines f whole next ls c b n → ⊥)
          → and_then (at_line k r) (λ next. walk f.step whole next (suc k) ls) ≡ Ok t → (c : ℕ) → InLines f whole s (l ∷ ls) c b n → ⊥
      go (Err m) e on g c v = never-ok _ t g
      go (Ok next) e on g zero v = (judges s (line_here whole l ls)).fine next e b n v
      go (Ok next) e on g (suc c) v = on next g c (subst (λ x. InLines f whole x ls c b n) (same-from-ok v.0 next (sym v.1 ∙ e)) v.2)

-- ---- the whole text

module _ {S : Type 0} (f : Format S) (judges : (s : S) (l : Line) → Judges (f.due s) l (f.step s l)) (t : List ℕ) where
  abbrev read : Result S Refusal
  read = reading f.most f.step f.start t

  abbrev read_as : Bool → Option ℕ → Bool → Result S Refusal
  read_as a o e =
      cond a (Err (record { number = 1; line = 0 })) (checked o (cond e (Err (record { number = 3; line = 0 })) (walk f.step (ended t) f.start 1 (lines t))))

  not-long : ltb f.most (length t) ≡ false → {Y : Type 0} → f.most < length t → Y
  not-long e long = absurd (let few = ltb-false f.most (length t) e in omega (arith, few, long))

  pub refused-is-least : (q : Refusal) → read ≡ Err q → Least f t q
  refused-is-least q h = go (ltb f.most (length t)) (bad_byte t) (empty t) refl refl refl h
    where
      long : f.most < length t → record { number = 1; line = 0 } ≡ q → Least f t q
      long e same = record { place = 0; within = 0; fault = (e, sym same, refl); least = least' }
        where
          least' : (a j : ℕ) (p : Refusal) → Faulty f t a j p → (0 < a) ⊎ ((0 ≡ a) × (0 ≤ j))
          least' zero j p w = inr (refl, omega arith)
          least' (suc a) j p w = inl (omega arith)

      byte : ltb f.most (length t) ≡ false → (k : ℕ) → bad_byte t ≡ Some k → record { number = 2; line = k } ≡ q → Least f t q
      byte short k e same = record { place = 1; within = 0; fault = (e ∙ ap (λ r. Some r.line) same, ap (λ r. r.number) (sym same), refl); least = least' }
        where
          least' : (a j : ℕ) (p : Refusal) → Faulty f t a j p → (1 < a) ⊎ ((1 ≡ a) × (0 ≤ j))
          least' zero j p w = not-long short w.0
          least' (suc zero) j p w = inr (refl, omega arith)
          least' (suc (suc a)) j p w = inl (omega arith)

      none : ltb f.most (length t) ≡ false → bad_byte t ≡ None → empty t ≡ true → record { number = 3; line = 0 } ≡ q → Least f t q
      none short clean e same = record { place = 2; within = 0; fault = (nil_from_length t (eqb-true (length t) 0 e), sym same, refl); least = least' }
        where
          least' : (a j : ℕ) (p : Refusal) → Faulty f t a j p → (2 < a) ⊎ ((2 ≡ a) × (0 ≤ j))
          least' zero j p w = not-long short w.0
          least' (suc zero) j p w = never-some p.line (sym clean ∙ w.0)
          least' (suc (suc zero)) j p w = inr (refl, omega arith)
          least' (suc (suc (suc a))) j p w = inl (omega arith)

      line : ltb f.most (length t) ≡ false → bad_byte t ≡ None → empty t ≡ false → FirstFault f (ended t) judges f.start (lines t) 1 q → Least f t q
      line short clean some first = record {
        place = suc (suc (suc first.place));
        within = first.within;
        fault = (first.fault, omega (arith, first.line-is));
        least = least';
      }
        where
          least' : (a j : ℕ) (p : Refusal) → Faulty f t a j p → (suc (suc (suc first.place)) < a) ⊎ ((suc (suc (suc first.place)) ≡ a) × (first.within ≤ j))
          least' zero j p w = not-long short w.0
          least' (suc zero) j p w = never-some p.line (sym clean ∙ w.0)
          least' (suc (suc zero)) j p w = absurd (false≢true (sym some ∙ ap empty w.0))
          least' (suc (suc (suc a))) j p w =
              ⊎_elim (λ less. inl (omega arith)) (λ both. inr (ap (λ n. suc (suc (suc n))) both.0, both.1)) (first.first a j p.number w.0)

      go : (a : Bool) (o : Option ℕ) (e : Bool) → ltb f.most (length t) ≡ a → bad_byte t ≡ o → empty t ≡ e → read_as a o e ≡ Err q → Least f t q
      go true o e is-a is-o is-e h' = long (ltb-true f.most (length t) is-a) (let same : record { number = 1; line = 0 } ≡ q = cc in same)
      go false (Some k) e is-a is-o is-e h' = byte is-a k is-o (let same : record { number = 2; line = k } ≡ q = cc in same)
      go false None true is-a is-o is-e h' = none is-a is-o is-e (let same : record { number = 3; line = 0 } ≡ q = cc in same)
      go false None false is-a is-o is-e h' = line is-a is-o is-e (walk-fails f (ended t) judges (lines t) f.start 1 q h')

  pub taken-is-faultless : (s : S) → read ≡ Ok s → (a j : ℕ) (q : Refusal) → Faulty f t a j q → ⊥
  taken-is-faultless s h = go (ltb f.most (length t)) (bad_byte t) (empty t) refl refl refl h
    where
      go : (b : Bool) (o : Option ℕ) (e : Bool) → ltb f.most (length t) ≡ b → bad_byte t ≡ o → empty t ≡ e → read_as b o e ≡ Ok s → (a j : ℕ) (q : Refusal) → Faulty f t a j q → ⊥
      go true o e is_b is-o is-e h' a j q w = never-ok _ s h'
      go false (Some k) e is_b is-o is-e h' a j q w = never-ok _ s h'
      go false None true is_b is-o is-e h' a j q w = never-ok _ s h'
      go false None false is_b is-o is-e h' zero j q w = not-long is_b w.0
      go false None false is_b is-o is-e h' (suc zero) j q w = never-some q.line (sym is-o ∙ w.0)
      go false None false is_b is-o is-e h' (suc (suc zero)) j q w = false≢true (sym is-e ∙ ap empty w.0)
      go false None false is_b is-o is-e h' (suc (suc (suc a))) j q w = walk_fine f (ended t) judges (lines t) f.start s 1 h' a j q.number w.0
