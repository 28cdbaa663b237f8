-- Which cells a row of each kind has. Assumes nothing.
use Rattle.std.proofs.Common.{◌≡◌, ℕ, zero, suc, ◌+◌, ◌<◌, ◌≤◌, min, Bool, true, ◌&&◌, leb, List, [], ◌∷◌, map, length, replicate, refl, ap, ◌∙◌, arith}
use Rattle.std.proofs.lemmas.Bool.{and_parts, and_from, leb-true, false≢true}
use Rattle.meaning.specs.declared.values.Bound.{Bound}
use Rattle.texts.specs.Numbers.{every}
use Rattle.tables.specs.Lawful.{lawful_bound}
use Rattle.rows.specs.Rows.{suits, suits_all, number_in, bound_in, columns}
use Rattle.rows.specs.declared.cell.Cell.{Cell}
use Rattle.rows.specs.declared.cell.Cell.TheVariants.{Number, Absent, Flag, Event, Bounded}
use Rattle.rows.specs.declared.cell.Column.{Column}
use Rattle.rows.specs.declared.cell.Column.TheVariants.{Within, YesOrNo, EventName, Limit}
use Rattle.rows.specs.declared.cell.RowKind.TheVariants.{Tick, Place, Edge}

module _ (names : List (List ℕ)) (before : ℕ) where
  pub within-is : (least most : ℕ) (x : Cell) → suits (Within least most) names before x ≡ true → (n : ℕ) × (x ≡ Number n) × (least ≤ n) × (n ≤ most)
  within-is least most (Number n) h =
      let both = and_parts (leb least n && leb n most) _ h in
      let ends = and_parts (leb least n) (leb n most) both.0 in
      (n, refl, leb-true least n ends.0, leb-true n most ends.1)
  within-is least most Absent h = absurd (false≢true h)
  within-is least most (Flag b) h = absurd (false≢true h)
  within-is least most (Event i) h = absurd (false≢true h)
  within-is least most (Bounded b) h = absurd (false≢true h)

  flag_is : (x : Cell) → suits YesOrNo names before x ≡ true → (b : Bool) × (x ≡ Flag b)
  flag_is (Number n) h = absurd (false≢true h)
  flag_is Absent h = absurd (false≢true h)
  flag_is (Flag b) h = (b, refl)
  flag_is (Event i) h = absurd (false≢true h)
  flag_is (Bounded b) h = absurd (false≢true h)

  pub event-is : (x : Cell) → suits EventName names before x ≡ true → (i : ℕ) × (x ≡ Event i) × (i < length names)
  event-is (Number n) h = absurd (false≢true h)
  event-is Absent h = absurd (false≢true h)
  event-is (Flag b) h = absurd (false≢true h)
  event-is (Event i) h = (i, refl, omega (arith, leb-true (i + 1) (length names) h))
  event-is (Bounded b) h = absurd (false≢true h)

  limit_is : (x : Cell) → suits Limit names before x ≡ true → (x ≡ Bounded (bound_in x)) × (lawful_bound (bound_in x) ≡ true)
  limit_is (Number n) h = absurd (false≢true h)
  limit_is Absent h = absurd (false≢true h)
  limit_is (Flag b) h = absurd (false≢true h)
  limit_is (Event i) h = absurd (false≢true h)
  limit_is (Bounded b) h = (refl, h)

-- a row that has one cell, and then others
pub split : (c : Column) (cs : List Column) (names : List (List ℕ)) (before : ℕ) (cells : List Cell) → suits_all (c ∷ cs) names before cells ≡ true
    → (x : Cell) × (rest : List Cell) × (cells ≡ x ∷ rest) × (suits c names before x ≡ true) × (suits_all cs names (number_in x) rest ≡ true)
split c cs names before [] h = absurd (false≢true h)
split c cs names before (x ∷ rest) h = let both = and_parts (suits c names before x) _ h in (x, rest, refl, both.0, both.1)

pub none_left : (names : List (List ℕ)) (before : ℕ) (cells : List Cell) → suits_all [] names before cells ≡ true → cells ≡ []
none_left names before [] h = refl
none_left names before (x ∷ cells) h = absurd (false≢true h)

-- as many values as there are events, each in a cell of its own
pub record Alike {X : Type 0} (wrap : X → Cell) (good : X → Bool) (n : ℕ) (cells : List Cell) : Type 0 where
  pub values : List X
  pub cells_are : cells ≡ map wrap values
  pub count : length values ≡ n
  pub lawful : every good values ≡ true

pub alike-are : {X : Type 0} (wrap : X → Cell) (good : X → Bool) (c : Column) (value : Cell → X)
    → ((names : List (List ℕ)) (before : ℕ) (x : Cell) → suits c names before x ≡ true → (x ≡ wrap (value x)) × (good (value x) ≡ true))
    → (n : ℕ) (names : List (List ℕ)) (before : ℕ) (cells : List Cell) → suits_all (replicate n c) names before cells ≡ true → Alike wrap good n cells
alike-are wrap good c value is zero names before cells h =
    record { values = []; cells_are = none_left names before cells h; count = refl; lawful = refl }
alike-are wrap good c value is (suc n) names before cells h =
    let parts = split c (replicate n c) names before cells h in
    let x = parts.0 in
    let here = is names before x parts.3 in
    let rest = alike-are wrap good c value is n names (number_in x) parts.1 parts.4 in
    record {
      values = value x ∷ rest.values;
      cells_are = parts.2 ∙ (λ i. here.0 i ∷ rest.cells_are i);
      count = ap suc rest.count;
      lawful = and_from _ _ here.1 rest.lawful;
    }

pub tick-row : (cells : List Cell) → suits_all (columns Tick) [] 0 cells ≡ true → (n : ℕ) × (cells ≡ Number n ∷ []) × (1 ≤ n) × (n ≤ 60000)
tick-row cells h =
    let parts = split (Within 1 60000) [] [] 0 cells h in
    let n = within-is [] 0 1 60000 parts.0 parts.3 in
    (n.0, parts.2 ∙ (λ i. n.1 i ∷ none_left [] (number_in parts.0) parts.1 parts.4 i), n.2, n.3)

pub place-row : (k : ℕ) (cells : List Cell) → suits_all (columns (Place k)) [] 0 cells ≡ true
    → (a : Bool) × (b : Bool) × (cells ≡ Number k ∷ Flag a ∷ Flag b ∷ [])
place-row k cells h =
    let one = split (Within k k) (YesOrNo ∷ YesOrNo ∷ []) [] 0 cells h in
    let n = within-is [] 0 k k one.0 one.3 in
    let two = split YesOrNo (YesOrNo ∷ []) [] (number_in one.0) one.1 one.4 in
    let a = flag_is [] (number_in one.0) two.0 two.3 in
    let three = split YesOrNo [] [] (number_in two.0) two.1 two.4 in
    let b = flag_is [] (number_in two.0) three.0 three.3 in
    let same : n.0 ≡ k = omega (arith, n.2, n.3) in (
      a.0,
      b.0,
      one.2 ∙ (λ i. (n.1 ∙ ap Number same) i ∷ (two.2 ∙ (λ j. a.1 j ∷ (three.2 ∙ (λ m. b.1 m ∷ none_left [] (number_in three.0) three.1 three.4 m)) j)) i),
    )

pub record EdgeRow (most n : ℕ) (names : List (List ℕ)) (cells : List Cell) : Type 0 where
  pub source : ℕ
  pub target : ℕ
  pub event : ℕ
  pub bounds : List Bound
  pub cells_are : cells ≡ Number source ∷ Number target ∷ Event event ∷ map Bounded bounds
  pub from : source ≤ most
  pub to : target ≤ most
  pub on : event < length names
  pub count : length bounds ≡ min n 8
  pub lawful : every lawful_bound bounds ≡ true

pub edge_row : (most n : ℕ) (names : List (List ℕ)) (cells : List Cell) → suits_all (columns (Edge most n)) names 0 cells ≡ true → EdgeRow most n names cells
edge_row most n names cells h =
    let one = split (Within 0 most) (Within 0 most ∷ EventName ∷ replicate (min n 8) Limit) names 0 cells h in
    let s = within-is names 0 0 most one.0 one.3 in
    let two = split (Within 0 most) (EventName ∷ replicate (min n 8) Limit) names (number_in one.0) one.1 one.4 in
    let t = within-is names (number_in one.0) 0 most two.0 two.3 in
    let three = split EventName (replicate (min n 8) Limit) names (number_in two.0) two.1 two.4 in
    let e = event-is names (number_in two.0) three.0 three.3 in
    let bs = alike-are Bounded lawful_bound Limit bound_in limit_is (min n 8) names (number_in three.0) three.1 three.4 in
    record {
      source = s.0;
      target = t.0;
      event = e.0;
      bounds = bs.values;
      cells_are = one.2 ∙ (λ i. s.1 i ∷ (two.2 ∙ (λ j. t.1 j ∷ (three.2 ∙ (λ m. e.1 m ∷ bs.cells_are m)) j)) i);
      from = s.3;
      to = t.3;
      on = e.2;
      count = bs.count;
      lawful = bs.lawful;
    }
