-- When a line is taken where it stands, and what the walk then goes on with. Assumes nothing.
use Rattle.std.proofs.Common.{◌≡◌, ℕ, suc, ◌<◌, ◌≤◌, Bool, true, false, cond, ◌&&◌, eqb, ltb, leb, ◌⊎◌, List, [], ◌∷◌, ◌++◌, length, Some, None, Ok, Err, Option, Result, sym, refl, ap, ◌∙◌, subst, inl, inr, append_assoc, append-nil, arith}
use Rattle.std.proofs.lemmas.Bool.{eqb-true, leb-false, ltb-false, and_parts, and_from, lt-leb, le-ltb, lt-ltb, ltb-true, and_left, ne_eqb}
use Rattle.std.specs.Option.{option_map}
use Rattle.rows.specs.Rows.{and_then, row_of, row_result, padded}
use Rattle.rows.specs.declared.cell.Row.{Row}
use Rattle.rows.proofs.Outcomes.{never-ok, same-from-ok}
use Rattle.rows.specs.declared.cell.Cell.{Cell}
use Rattle.rows.specs.declared.cell.RowKind.{RowKind}
use Rattle.rows.specs.declared.cell.WordFault.{WordFault}
use Rattle.rows.specs.declared.cell.WordFault.TheVariants.{Misfit, OutOfRange}
use Rattle.formats.specs.Faults.{Agrees, Fails, line_number, row_fault}
use Rattle.formats.specs.EntryLines.{Says}
use Rattle.formats.specs.declared.fault.LineFault.{LineFault}
use Rattle.formats.specs.Walk.{Refusal, Line, Limits, empty, misspaced, lacks_sheet, head_step, row_step, row_gives, line_here, at_line, walk}

-- a test that would refuse failed
passed : {S : Type 0} (b : Bool) (n : ℕ) (r : Result S ℕ) (s : S) → cond b (Err n) r ≡ Ok s → (b ≡ false) × (r ≡ Ok s)
passed true n r s h = never-ok n s h
passed false n r s h = (refl, h)

-- ---- heads

pub record HeadTaken {S : Type 0} (more wrong : ℕ) (l : Line) (next s : S) : Type 0 where
  pub fine : misspaced l ≡ false
  pub whole : lacks_sheet more l ≡ false
  pub right : wrong ≡ 0
  pub goes : next ≡ s

pub head-taken : {S : Type 0} (more wrong : ℕ) (l : Line) (next s : S) → head_step more wrong l next ≡ Ok s → HeadTaken more wrong l next s
head-taken {S} more wrong l next s h =
    let one = passed (misspaced l) 3 _ s h in
    let two = passed (lacks_sheet more l) 4 _ s one.1 in
    let three = right (eqb wrong 0) two.1 in
    record { fine = one.0; whole = two.0; right = eqb-true wrong 0 three.0; goes = same-from-ok next s three.1 }
  where
    right : (b : Bool) → ◌≡◌ {A = Result S ℕ} (cond b (Ok next) (Err wrong)) (Ok s) → (b ≡ true) × (◌≡◌ {A = Result S ℕ} (Ok next) (Ok s))
    right true e = (refl, e)
    right false e = never-ok wrong s e

pub head-goes : {S : Type 0} (more wrong : ℕ) (l : Line) (next : S) → misspaced l ≡ false → lacks_sheet more l ≡ false → wrong ≡ 0
    → head_step more wrong l next ≡ Ok next
head-goes {S} more wrong l next fine whole right =
    λ i. cond (fine i) (Err 3) (cond (whole i) (Err 4) (cond (eqb (right i) 0) (Ok next) (Err (right i))))

-- ---- rows

pub record RowTaken {S : Type 0} (limits : Limits) (count : ℕ) (kind : RowKind) (names : List (List ℕ)) (l : Line) (next : List Cell → S) (s : S) : Type 0 where
  pub fine : misspaced l ≡ false
  pub whole : lacks_sheet limits.more l ≡ false
  pub room : count < limits.most
  pub cells : List Cell
  pub row : row_of kind names l.bytes ≡ Ok cells
  pub goes : next cells ≡ s

pub record SheetEnded {S : Type 0} (limits : Limits) (count : ℕ) (l : Line) (closed s : S) : Type 0 where
  pub none : length l.bytes ≡ 0
  pub more : 0 < limits.more
  pub later : l.last ≡ false
  pub enough : limits.least ≤ count
  pub goes : closed ≡ s

module _ {S : Type 0} (limits : Limits) (count : ℕ) (kind : RowKind) (names : List (List ℕ)) (l : Line) (next : List Cell → S) (closed s : S) where
  row-of : (r : Result (List Cell) WordFault) → row_gives r next ≡ Ok s → (cells : List Cell) × (r ≡ Ok cells) × (next cells ≡ s)
  row-of (Ok cells) h = (cells, refl, same-from-ok _ s h)
  row-of (Err Misfit) h = never-ok _ s h
  row-of (Err OutOfRange) h = never-ok _ s h

  pub row-taken : row_step limits count kind names l next closed ≡ Ok s → SheetEnded limits count l closed s ⊎ RowTaken limits count kind names l next s
  row-taken h = go (empty l.bytes && ltb 0 limits.more) refl h
    where
      go : (b : Bool) → (empty l.bytes && ltb 0 limits.more) ≡ b
          → cond b (cond l.last (Err 4) (cond (ltb count limits.least) (Err 7) (Ok closed)))
          (cond (misspaced l) (Err 3) (cond (lacks_sheet limits.more l) (Err 4) (cond (leb limits.most count) (Err 7) (row_gives (row_of kind names l.bytes) next)))) ≡ Ok s
          → SheetEnded limits count l closed s ⊎ RowTaken limits count kind names l next s
      go true e h' =
          let both = and_parts (empty l.bytes) (ltb 0 limits.more) e in
          let one = passed l.last 4 _ s h' in
          let two = passed (ltb count limits.least) 7 _ s one.1 in
          inl (record {
            none = eqb-true _ 0 both.0;
            more = ltb-true 0 _ both.1;
            later = one.0;
            enough = ltb-false count _ two.0;
            goes = same-from-ok closed s two.1;
          })
      go false e h' =
          let one = passed (misspaced l) 3 _ s h' in
          let two = passed (lacks_sheet limits.more l) 4 _ s one.1 in
          let three = passed (leb limits.most count) 7 _ s two.1 in
          let four = row-of (row_of kind names l.bytes) three.1 in
          inr (record { fine = one.0; whole = two.0; room = leb-false _ count three.0; cells = four.0; row = four.1; goes = four.2 })

  pub row_goes : (cells : List Cell) → 0 < length l.bytes → misspaced l ≡ false → lacks_sheet limits.more l ≡ false → count < limits.most
      → row_of kind names l.bytes ≡ Ok cells → row_step limits count kind names l next closed ≡ Ok (next cells)
  row_goes cells some fine whole room row =
      let none : (empty l.bytes && ltb 0 limits.more) ≡ false = and_left _ (ltb 0 limits.more) (ne_eqb (length l.bytes) 0 (λ e. omega arith)) in
      let few : leb limits.most count ≡ false = lt-leb limits.most count room in
      λ i. cond (none i) (cond l.last (Err 4) (cond (ltb count limits.least) (Err 7) (Ok closed)))
      (cond (fine i) (Err 3) (cond (whole i) (Err 4) (cond (few i) (Err 7) (row_gives (row i) next))))

  pub sheet-ends : l.bytes ≡ [] → 0 < limits.more → l.last ≡ false → limits.least ≤ count
      → row_step limits count kind names l next closed ≡ Ok closed
  sheet-ends none more later enough =
      let both : (empty l.bytes && ltb 0 limits.more) ≡ true = and_from _ _ (ap empty none) (lt-ltb 0 limits.more more) in
      let full : ltb count limits.least ≡ false = le-ltb count limits.least enough in
      λ i. cond (both i) (cond (later i) (Err 4) (cond (full i) (Err 7) (Ok closed)))
      (cond (misspaced l) (Err 3) (cond (lacks_sheet limits.more l) (Err 4) (cond (leb limits.most count) (Err 7) (row_gives (row_of kind names l.bytes) next))))

-- ---- the walk

pub walk-goes : {S : Type 0} (step : S → Line → Result S ℕ) (whole : Bool) (s t : S) (k : ℕ) (l : List ℕ) (ls : List (List ℕ))
    → step s (line_here whole l ls) ≡ Ok t → walk step whole s k (l ∷ ls) ≡ walk step whole t (suc k) ls
walk-goes step whole s t k l ls h = ap (λ r. and_then (at_line k r) (λ next. walk step whole next (suc k) ls)) h

-- What holds at the start and is kept by every line that is taken holds where the walk ends.
pub walk-keeps : {S : Type 0} (step : S → Line → Result S ℕ) (whole : Bool) (P : S → List (List ℕ) → Type 0)
    → ((s t : S) (before : List (List ℕ)) (l : List ℕ) (ls : List (List ℕ)) → P s before → step s (line_here whole l ls) ≡ Ok t → P t (before ++ (l ∷ [])))
    → (ls before : List (List ℕ)) (s t : S) (k : ℕ) → P s before → walk step whole s k ls ≡ Ok t → P t (before ++ ls)
walk-keeps step whole P keeps [] before s t k p h = subst (P t) (sym (append-nil before)) (subst (λ x. P x before) (same-from-ok s t h) p)
walk-keeps {S} step whole P keeps (l ∷ ls) before s t k p h =
    go (λ u e h'. walk-keeps step whole P keeps ls (before ++ (l ∷ [])) u t (suc k) (keeps s u before l ls p e) h') (step s (line_here whole l ls)) refl h
  where
    go : ((u : S) → step s (line_here whole l ls) ≡ Ok u → walk step whole u (suc k) ls ≡ Ok t → P t ((before ++ (l ∷ [])) ++ ls))
        → (r : Result S ℕ) → step s (line_here whole l ls) ≡ r → and_then (at_line k r) (λ next. walk step whole next (suc k) ls) ≡ Ok t → P t (before ++ (l ∷ ls))
    go on (Ok u) e h' = subst (P t) (append_assoc before (l ∷ []) ls) (on u e h')
    go on (Err n) e h' = never-ok _ t h'

-- ---- as the code judges a row

module _ (limits : Limits) (count : ℕ) (kind : RowKind) (names : List (List ℕ)) (l : Line)
    (open' : (empty l.bytes && ltb 0 limits.more) ≡ false) (fine : misspaced l ≡ false) (whole : lacks_sheet limits.more l ≡ false) (room : count < limits.most) where
  pub row-judged : {S : Type 0} (next : List Cell → S) (closed : S) → row_step limits count kind names l next closed ≡ row_gives (row_of kind names l.bytes) next
  row-judged next closed =
      let few : leb limits.most count ≡ false = lt-leb limits.most count room in
      λ i. cond (open' i) (cond l.last (Err 4) (cond (ltb count limits.least) (Err 7) (Ok closed)))
      (cond (fine i) (Err 3) (cond (whole i) (Err 4) (cond (few i) (Err 7) (row_gives (row_of kind names l.bytes) next))))

-- a row that is read, as the code has it
abbrev pub some_row : List Cell → Option Row
some_row cells = Some (record { cells = padded cells })

-- what the row reader answered
pub row-given : (r : Result (List Cell) WordFault) (row : Row) → Ok row ≡ row_result r → Ok (Some row) ≡ row_gives r some_row
row-given (Ok cells) row h = let e : row ≡ record { cells = padded cells } = cc in ap (λ x. Ok (Some x)) e
row-given (Err e) row h = absurd (let z : ◌≡◌ {A = ℕ} 0 1 = cc in omega arith)

pub row-refused : {S : Type 0} (next : List Cell → S) (r : Result (List Cell) WordFault) (e : WordFault) → Err e ≡ row_result r → Some (row_gives r next) ≡ option_map Err (line_number (row_fault e))
row-refused next (Ok cells) e h = absurd (let z : ◌≡◌ {A = ℕ} 0 1 = cc in omega arith)
row-refused next (Err f) e h = let same : f ≡ e = cc in ap (λ x. Some (row_gives (Err x) next)) same ∙ told e
  where
    told : (f : WordFault) → Some (row_gives (Err f) next) ≡ option_map Err (line_number (row_fault f))
    told Misfit = refl
    told OutOfRange = refl

-- ---- what the judgement of a row tells of every step that goes by it

module _ (limits : Limits) (count : ℕ) (kind : RowKind) (names : List (List ℕ)) (l : Line) {S : Type 0} (next : List Cell → S) (closed : S) where
  abbrev judgement : Result (Option Row) ℕ
  judgement = row_step limits count kind names l some_row None

  abbrev step : Result S ℕ
  step = row_step limits count kind names l next closed

  -- a taken row, with its cells
  pub record RowRead (given : Row) : Type 0 where
    pub cells : List Cell
    pub row : row_of kind names l.bytes ≡ Ok cells
    pub padding : padded cells ≡ given.cells
    pub room : count < limits.most
    pub goes : step ≡ Ok (next cells)

  abbrev ending : {X : Type 0} → Bool → Bool → X → Result X ℕ
  ending b c x = cond b (Err 4) (cond c (Err 7) (Ok x))

  end_is : (b c : Bool) (s : Option Row) → ending b c None ≡ Ok s → (s ≡ None) × (ending b c closed ≡ Ok closed)
  end_is true c s h = never-ok 4 s h
  end_is false true s h = never-ok 7 s h
  end_is false false s h = (sym (same-from-ok None s h), refl)

  pub sheet-ended : judgement ≡ Ok None → step ≡ Ok closed
  sheet-ended h = go (empty l.bytes && ltb 0 limits.more) refl h
    where
      gives : (r : Result (List Cell) WordFault) → row_gives r some_row ≡ Ok None → step ≡ Ok closed
      gives (Ok cells) e = absurd (let z : ◌≡◌ {A = ℕ} 0 1 = cc in omega arith)
      gives (Err Misfit) e = never-ok _ _ e
      gives (Err OutOfRange) e = never-ok _ _ e

      go : (b : Bool) → (empty l.bytes && ltb 0 limits.more) ≡ b
          → cond b (cond l.last (Err 4) (cond (ltb count limits.least) (Err 7) (Ok None)))
          (cond (misspaced l) (Err 3) (cond (lacks_sheet limits.more l) (Err 4) (cond (leb limits.most count) (Err 7) (row_gives (row_of kind names l.bytes) some_row)))) ≡ Ok None
          → step ≡ Ok closed
      go true e g =
          ap (λ b. cond b (cond l.last (Err 4) (cond (ltb count limits.least) (Err 7) (Ok closed)))
          (cond (misspaced l) (Err 3) (cond (lacks_sheet limits.more l) (Err 4) (cond (leb limits.most count) (Err 7) (row_gives (row_of kind names l.bytes) next))))) e
          ∙ (end_is l.last (ltb count limits.least) None g).1
      go false e g =
          let one = passed (misspaced l) 3 _ None g in
          let two = passed (lacks_sheet limits.more l) 4 _ None one.1 in
          let three = passed (leb limits.most count) 7 _ None two.1 in
          gives (row_of kind names l.bytes) three.1

  pub row_read : (given : Row) → judgement ≡ Ok (Some given) → RowRead given
  row_read given h = go (empty l.bytes && ltb 0 limits.more) refl h
    where
      go : (b : Bool) → (empty l.bytes && ltb 0 limits.more) ≡ b
          → cond b (cond l.last (Err 4) (cond (ltb count limits.least) (Err 7) (Ok None)))
          (cond (misspaced l) (Err 3) (cond (lacks_sheet limits.more l) (Err 4) (cond (leb limits.most count) (Err 7) (row_gives (row_of kind names l.bytes) some_row)))) ≡ Ok (Some given)
          → RowRead given
      go true e g = absurd (let none = (end_is l.last (ltb count limits.least) (Some given) g).0 in let z : ◌≡◌ {A = ℕ} 0 1 = cc in omega arith)
      go false e g =
          let one = passed (misspaced l) 3 _ (Some given) g in
          let two = passed (lacks_sheet limits.more l) 4 _ (Some given) one.1 in
          let three = passed (leb limits.most count) 7 _ (Some given) two.1 in
          let room = leb-false limits.most count three.0 in
          let four = row-of limits count kind names l some_row None (Some given) (row_of kind names l.bytes) three.1 in
          record {
            cells = four.0;
            row = four.1;
            padding = (let same : record { cells = padded four.0 } ≡ given = (let e' = four.2 in cc) in ap (λ x. x.cells) same);
            room = room;
            goes = row-judged limits count kind names l e one.0 two.0 room next closed ∙ ap (λ r. row_gives r next) four.1;
          }

  pub row-fails : (n : ℕ) → judgement ≡ Err n → step ≡ Err n
  row-fails n h = go (empty l.bytes && ltb 0 limits.more) h
    where
      ended : (b c : Bool) → ending {X = Option Row} b c None ≡ Err n → ending b c closed ≡ Err n
      ended true c e = let s : 4 ≡ n = cc in ap Err s
      ended false true e = let s : 7 ≡ n = cc in ap Err s
      ended false false e = absurd (let z : ◌≡◌ {A = ℕ} 0 1 = cc in omega arith)

      row : (r : Result (List Cell) WordFault) → row_gives r some_row ≡ Err n → row_gives r next ≡ Err n
      row (Ok cells) e = absurd (let z : ◌≡◌ {A = ℕ} 0 1 = cc in omega arith)
      row (Err Misfit) e = let s : 5 ≡ n = cc in ap Err s
      row (Err OutOfRange) e = let s : 6 ≡ n = cc in ap Err s

      test : (b : Bool) (k : ℕ) (d : Result (Option Row) ℕ) (d' : Result S ℕ) → (d ≡ Err n → d' ≡ Err n) → cond b (Err k) d ≡ Err n → cond b (Err k) d' ≡ Err n
      test true k d d' on e = let s : k ≡ n = cc in ap Err s
      test false k d d' on e = on e

      go : (b : Bool)
          → cond b (cond l.last (Err 4) (cond (ltb count limits.least) (Err 7) (Ok None)))
          (cond (misspaced l) (Err 3) (cond (lacks_sheet limits.more l) (Err 4) (cond (leb limits.most count) (Err 7) (row_gives (row_of kind names l.bytes) some_row)))) ≡ Err n
          → cond b (cond l.last (Err 4) (cond (ltb count limits.least) (Err 7) (Ok closed)))
          (cond (misspaced l) (Err 3) (cond (lacks_sheet limits.more l) (Err 4) (cond (leb limits.most count) (Err 7) (row_gives (row_of kind names l.bytes) next)))) ≡ Err n
      go true e = ended l.last (ltb count limits.least) e
      go false e = test (misspaced l) 3 _ _ (test (lacks_sheet limits.more l) 4 _ _ (test (leb limits.most count) 7 _ _ (row (row_of kind names l.bytes)))) e

-- a head that is refused is so whatever it leads to
pub head-fails : {X S : Type 0} (more wrong : ℕ) (l : Line) (x : X) (s : S) (n : ℕ) → head_step more wrong l x ≡ Err n → head_step more wrong l s ≡ Err n
head-fails {X} {S} more wrong l x s n h = test (misspaced l) 3 _ _ (test (lacks_sheet more l) 4 _ _ (last (eqb wrong 0))) h
  where
    last : (b : Bool) → ◌≡◌ {A = Result X ℕ} (cond b (Ok x) (Err wrong)) (Err n) → ◌≡◌ {A = Result S ℕ} (cond b (Ok s) (Err wrong)) (Err n)
    last true e = absurd (let z : ◌≡◌ {A = ℕ} 0 1 = cc in omega arith)
    last false e = let same : wrong ≡ n = cc in ap Err same

    test : (b : Bool) (k : ℕ) (d : Result X ℕ) (d' : Result S ℕ) → (d ≡ Err n → d' ≡ Err n) → cond b (Err k) d ≡ Err n → cond b (Err k) d' ≡ Err n
    test true k d d' on e = let same : k ≡ n = cc in ap Err same
    test false k d d' on e = on e

-- a line that fails is where the walk fails
pub fails-through : {S : Type 0} (step : S → Line → Result S ℕ) (whole : Bool) (s : S) (k : ℕ) (l : List ℕ) (ls : List (List ℕ)) (d : Result S Refusal) (o : Option Refusal)
    → walk step whole s k (l ∷ ls) ≡ d → (line : Line) → line ≡ line_here whole l ls → Fails (at_line k (step s line)) o → Fails d o
fails-through step whole s k l ls d None on line is h = tt
fails-through step whole s k l ls d (Some r) on line is h =
    sym on ∙ ap (λ x. and_then x (λ next. walk step whole next (suc k) ls)) (ap (λ y. at_line k (step s y)) (sym is) ∙ h)

-- ---- an answer about a line, and what is defined

-- what fails with every number that another fails with, is said of as that is
pub says-so : {X S : Type 0} (d : Result X ℕ) (d' : Result S ℕ) (o : Option ℕ) → Some d ≡ option_map Err o → ((n : ℕ) → d ≡ Err n → d' ≡ Err n) → Some d' ≡ option_map Err o
says-so d d' None h on = absurd (let z : ◌≡◌ {A = ℕ} 0 1 = cc in omega arith)
says-so d d' (Some n) h on = ap Some (on n (let same : d ≡ Err n = cc in same))

pub fails-said : {S : Type 0} (d : Result S ℕ) (o : Option ℕ) → Some d ≡ option_map Err o → Fails d o
fails-said d None h = tt
fails-said d (Some n) h = let same : d ≡ Err n = cc in same

pub fails-on : {X S : Type 0} (d : Result X ℕ) (d' : Result S ℕ) → ((n : ℕ) → d ≡ Err n → d' ≡ Err n) → (o : Option ℕ) → Fails d o → Fails d' o
fails-on d d' on None h = tt
fails-on d d' on (Some n) h = on n h

pub fails-so : {X S : Type 0} (d : Result X ℕ) (d' : Result S ℕ) (o : Option ℕ) → Some d ≡ option_map Err o → ((n : ℕ) → d ≡ Err n → d' ≡ Err n) → Fails d' o
fails-so d d' o h on = fails-said d' o (says-so d d' o h on)

-- what an answer says is said of what goes by it
pub agrees-after : {X S : Type 0} (f : X → S) (r : Result X LineFault) (d : Result X ℕ) → Says r d → Agrees f r (and_then d (λ x. Ok (f x)))
agrees-after f (Ok x) d h = ap (λ e. and_then e (λ y. Ok (f y))) h
agrees-after f (Err e) d h = fails-so d (and_then d (λ x. Ok (f x))) (line_number e) h (λ n g. ap (λ y. and_then y (λ x. Ok (f x))) g)

-- ---- a step that goes by what another gives

pub row-natural : {X S : Type 0} (limits : Limits) (count : ℕ) (kind : RowKind) (names : List (List ℕ)) (l : Line) (next : List Cell → X) (closed : X) (on : X → S)
    → row_step limits count kind names l (λ cells. on (next cells)) (on closed) ≡ and_then (row_step limits count kind names l next closed) (λ x. Ok (on x))
row-natural {X} {S} limits count kind names l next closed on =
    go (empty l.bytes && ltb 0 limits.more) l.last (ltb count limits.least) (misspaced l) (lacks_sheet limits.more l) (leb limits.most count) (row_of kind names l.bytes)
  where
    go : (a b c d e f : Bool) (r : Result (List Cell) WordFault)
        → cond a (cond b (Err 4) (cond c (Err 7) (Ok (on closed)))) (cond d (Err 3) (cond e (Err 4) (cond f (Err 7) (row_gives r (λ cells. on (next cells))))))
        ≡ and_then (cond a (cond b (Err 4) (cond c (Err 7) (Ok closed))) (cond d (Err 3) (cond e (Err 4) (cond f (Err 7) (row_gives r next))))) (λ x. Ok (on x))
    go true true c d e f r = refl
    go true false true d e f r = refl
    go true false false d e f r = refl
    go false b c true e f r = refl
    go false b c false true f r = refl
    go false b c false false true r = refl
    go false b c false false false (Ok cells) = refl
    go false b c false false false (Err Misfit) = refl
    go false b c false false false (Err OutOfRange) = refl
