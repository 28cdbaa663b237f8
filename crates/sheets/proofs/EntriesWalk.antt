-- The lines of an entries text are walked by the cursor, one claim after the other. Assumes nothing.
use Rattle.std.proofs.Common.{◌≡◌, ℕ, suc, ◌+◌, ◌<◌, Bool, true, false, cond, ◌&&◌, eqb, ltb, leb, List, [], ◌∷◌, ◌++◌, length, drop, set, Some, None, Ok, Err, Option, Result, sym, refl, ap, ◌∙◌, arith}
use Rattle.std.proofs.lemmas.List.{length_push, append_assoc, drop_more, set_at}
use Rattle.std.proofs.lemmas.Bool.{and_right, leb-false}
use Rattle.std.specs.Option.{option_map}
use Rattle.rows.specs.Rows.{row_of}
use Rattle.rows.specs.declared.cell.Cell.{Cell}
use Rattle.rows.specs.declared.cell.RowKind.TheVariants.{Claim as Claim'}
use Rattle.rows.specs.declared.cell.WordFault.{WordFault}
use Rattle.rows.specs.declared.cell.WordFault.TheVariants.{Misfit, OutOfRange}
use Rattle.rows.proofs.Outcomes.{never-ok}
use Rattle.formats.specs.declared.claim.Claim.{Claim}
use Rattle.formats.specs.declared.claim.EntryStage.{EntryStage}
use Rattle.formats.specs.declared.claim.EntryStage.TheVariants.{Head, Rows}
use Rattle.judges.specs.declared.cursor.Lines.{Lines}
use Rattle.formats.specs.declared.line.TextLine.{TextLine}
use Rattle.judges.specs.Cursor.{Starts, Takes}
use Rattle.formats.specs.EntriesText.{EntryParts, entry_start, entry_head, entry_step, entry_step_at, with_claim, claim_from}
use Rattle.formats.specs.EntryLines.{entry_gives, entry_next, some_claim}
use Rattle.formats.specs.Faults.{line_in}
use Rattle.formats.specs.TableText.{head_is}
use Rattle.formats.specs.Walk.{Refusal, Line, empty, misspaced, lacks_sheet, row_gives, at_line}
use Rattle.formats.proofs.Steps.{head-taken}
use Rattle.sheets.proofs.Walking.{Walking, walked, begins, goes_on, fails}

-- ---- one line

abbrev pub on_parts : EntryParts → Result (Option Claim) ℕ → Result EntryParts ℕ
on_parts p (Ok x) = Ok (entry_next p x)
on_parts p (Err n) = Err n

module _ (names : List (List ℕ)) (room : ℕ) where
  pub step_gives : (stage : EntryStage) (p : EntryParts) (l : Line) → entry_step_at names room stage p l ≡ on_parts p (entry_gives names room stage (length p.claims) l)
  step_gives Head p l = go (misspaced l) (lacks_sheet 0 l) (eqb (head_is (entry_head names) l.bytes) 0)
    where
      wrong : ℕ
      wrong = head_is (entry_head names) l.bytes

      go : (a b c : Bool) → cond a (Err 3) (cond b (Err 4) (cond c (Ok (entry_next p None)) (Err (head_is (entry_head names) l.bytes))))
          ≡ on_parts p (cond a (Err 3) (cond b (Err 4) (cond c (Ok None) (Err (head_is (entry_head names) l.bytes)))))
      go true b c = refl
      go false true c = refl
      go false false true = refl
      go false false false = refl
  step_gives Rows p l =
      let n = length names in
      let next : List Cell → EntryParts = λ cells. with_claim p (claim_from n cells) in
      let one : (empty l.bytes && ltb 0 0) ≡ false = and_right (empty l.bytes) (ltb 0 0) refl in
      let two : (l.last && ltb 0 0) ≡ false = and_right l.last (ltb 0 0) refl in
      (λ i. cond (one i) (cond l.last (Err 4) (cond (ltb (length p.claims) 0) (Err 7) (Ok p)))
      (cond (misspaced l) (Err 3) (cond (two i) (Err 4) (cond (leb room (length p.claims)) (Err 7) (row_gives (row_of (Claim' n) names l.bytes) next)))))
      ∙ go (misspaced l) (leb room (length p.claims)) (row_of (Claim' n) names l.bytes)
    where
      go : (m q : Bool) (r : Result (List Cell) WordFault)
          → cond m (Err 3) (cond q (Err 7) (row_gives r (λ cells. with_claim p (claim_from (length names) cells))))
          ≡ on_parts p (some_claim (cond m (Err 3) (cond q (Err 7) (row_gives r (claim_from (length names))))))
      go true q r = refl
      go false true r = refl
      go false false (Ok cells) = refl
      go false false (Err Misfit) = refl
      go false false (Err OutOfRange) = refl

  pub claim-has-room : (stage : EntryStage) (count : ℕ) (l : Line) (c : Claim) → entry_gives names room stage count l ≡ Ok (Some c) → count < room
  claim-has-room Head count l c h =
      let never = (head-taken 0 (head_is (entry_head names) l.bytes) l None (Some c) h).goes in
      absurd (let z : ◌≡◌ {A = ℕ} 0 1 = cc in omega arith)
  claim-has-room Rows count l c h = go (misspaced l) (leb room count) refl h
    where
      go : (m q : Bool) → leb room count ≡ q → some_claim (cond m (Err 3) (cond q (Err 7) (row_gives (row_of (Claim' (length names)) names l.bytes) (claim_from (length names))))) ≡ Ok (Some c) → count < room
      go true q e g = absurd (let z : ◌≡◌ {A = ℕ} 0 1 = cc in omega arith)
      go false true e g = absurd (let z : ◌≡◌ {A = ℕ} 0 1 = cc in omega arith)
      go false false e g = leb-false room count e

  -- ---- all lines

  -- The lines before the cursor gave these parts, and the next line has the number k.
  pub record Reading (t : List ℕ) (stage : EntryStage) (count : ℕ) (cursor : Lines) (k : ℕ) (parts : EntryParts) : Type 0 where
    pub stage_is : parts.stage ≡ stage
    pub count-is : length parts.claims ≡ count
    pub walking : Walking (entry_step names room) entry_start t cursor k parts

  pub reading_begins : (t : List ℕ) (cursor : Lines) → Starts t cursor → (k : ℕ) → k ≡ 1 → Reading t Head 0 cursor k entry_start
  reading_begins t cursor h k one = record { stage_is = refl; count-is = refl; walking = begins (entry_step names room) entry_start t cursor h k one }

  module _ (t : List ℕ) (stage : EntryStage) (count : ℕ) (from : Lines) (k : ℕ) (p : EntryParts) (r : Reading t stage count from k p) (to : Lines) (line : TextLine) (h : Takes from to line) where
    step-here : (d : Result (Option Claim) ℕ) → entry_gives names room stage count (line_in line) ≡ d → entry_step names room p (line_in line) ≡ on_parts p d
    step-here d g =
        step_gives p.stage p (line_in line)
        ∙ ap (on_parts p) ((λ i. entry_gives names room (r.stage_is i) (r.count-is i) (line_in line)) ∙ g)

    module _ (j : ℕ) (one : j ≡ suc k) where
      on : (x : Option Claim) → entry_gives names room stage count (line_in line) ≡ Ok x → Walking (entry_step names room) entry_start t to j (entry_next p x)
      on x g = goes_on (entry_step names room) entry_start t from k p r.walking to line h (entry_next p x) (step-here (Ok x) g) j one

      pub past_head : entry_gives names room stage count (line_in line) ≡ Ok None → Reading t Rows count to j (entry_next p None)
      past_head g = record { stage_is = refl; count-is = r.count-is; walking = on None g }

      pub past-claim : (c : Claim) → entry_gives names room stage count (line_in line) ≡ Ok (Some c) → Reading t Rows (count + 1) to j (with_claim p c)
      past-claim c g = record { stage_is = refl; count-is = omega (arith, length_push p.claims c, r.count-is); walking = on (Some c) g }

    stops : (n : ℕ) → entry_gives names room stage count (line_in line) ≡ Err n → walked (entry_step names room) entry_start t ≡ Err (record { number = n; line = k })
    stops n g = fails (entry_step names room) entry_start t from k p r.walking to line h (Some (record { number = n; line = k })) (ap (at_line k) (step-here (Err n) g))

    -- a fault of the line is the refusal of the text
    pub refused : (o : Option ℕ) → Some (entry_gives names room stage count (line_in line)) ≡ option_map Err o
        → (f : Option Refusal) → f ≡ option_map (λ n. record { number = n; line = k }) o → Some (walked (entry_step names room) entry_start t) ≡ option_map Err f
    refused (Some n) g f e =
        let is : entry_gives names room stage count (line_in line) ≡ Err n = cc in
        ap Some (stops n is) ∙ ap (option_map Err) (sym e)
    refused None g f e = absurd (let z : ◌≡◌ {A = ℕ} 0 1 = cc in omega arith)

    -- where the text is taken, no line is at fault
    pub not-refused : (o : Option ℕ) → Some (entry_gives names room stage count (line_in line)) ≡ option_map Err o → (s : EntryParts) → walked (entry_step names room) entry_start t ≡ Ok s → ⊥
    not-refused (Some n) g s taken =
        let is : entry_gives names room stage count (line_in line) ≡ Err n = cc in
        never-ok _ s (sym (stops n is) ∙ taken)
    not-refused None g s taken = let z : ◌≡◌ {A = ℕ} 0 1 = cc in omega arith

-- ---- the claims so far stand in front

pub one_more : (front all now : List Claim) (n : ℕ) (c : Claim) → length front ≡ n → n < length all → now ≡ front ++ drop n all
    → set now n c ≡ (front ++ (c ∷ [])) ++ drop (n + 1) all
one_more front all now n c long in' is =
    ap (λ xs. set xs n c) (is ∙ ap (λ xs. front ++ xs) (drop_more all n c in'))
    ∙ set_at front _ (drop (n + 1) all) c n long
    ∙ sym (append_assoc front (c ∷ []) (drop (n + 1) all))
