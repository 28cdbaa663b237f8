use Rattle.std.proofs.Common.{rules, ◌≡◌, ℕ, List, [], Some, None, Ok, Option, arith, subst, refl}
use Rattle.rows.specs.declared.cell.Row.{Row}
use Rattle.rows.specs.declared.cell.Cell.TheVariants.{Number}
use Rattle.rows.specs.declared.cell.RowKind.TheVariants.{Tick}
use Rattle.formats.specs.Faults.{FailsAs, limits_in, line_in, line_number}
use Rattle.formats.specs.TableText.{tick_in}
use Rattle.formats.specs.Walk.{row_step}
use Rattle.formats.proofs.ReaderSteps.{judged-as, tick-fails, tick-ends, tick-read}
use Rattle.formats.proofs.Steps.{says-so, some_row}
use Rattle.judges.proofs.judging.judge_ticks.Goals as goal
use Rattle.judges.proofs.judging.judge_ticks.Goals.{In_ok-row}

-- The table of no events has no names.
as-told : (c : In_ok-row) (row : Option Row) → c.in_ok-row.row ≡ row → row_step (limits_in c.args.rows.limits) c.args.rows.count Tick [] (line_in c.args.line) some_row None ≡ Ok row
as-told c row e =
    judged-as _ c.in_ok-row.row row
    (subst (λ (ns : List (List ℕ)). row_step (limits_in c.args.rows.limits) c.args.rows.count Tick ns (line_in c.args.line) some_row None ≡ Ok c.in_ok-row.row)
    c.first_eight.ensures c.in_ok-row.ensures.row) e

pub returns-in_err-row : goal.returns-in_err-row
returns-in_err-row c =
    let fault = line_number c.in_err-row.field-0.0 in
    let told =
    subst (λ (ns : List (List ℕ)). FailsAs (row_step (limits_in c.args.rows.limits) c.args.rows.count Tick ns (line_in c.args.line) some_row None) fault)
    c.first_eight.ensures c.in_err-row.ensures.row in
    let fails = says-so _ _ fault told (tick-fails (limits_in c.args.rows.limits) c.args.rows.count (line_in c.args.line)) in
    search rules

-- A tick in a row is at most 60000, which a `u16` holds.
pub map-requires : goal.map-requires
map-requires c = λ x is. (
  λ blocks own. search rules,
  λ blocks own u number_in.
      omega (arith, (tick-read (limits_in c.args.rows.limits) c.args.rows.count (line_in c.args.line) x _ number_in.result (as-told c (Some x) is) number_in.ensures).1),
)

pub returns : goal.returns
returns c = go c.in_ok-row.row refl c.map.result refl
  where
    go : (row : Option Row) → c.in_ok-row.row ≡ row → (told : Option ℕ) → c.map.result ≡ told → tick_in (limits_in c.args.rows.limits) c.args.rows.count (line_in c.args.line) ≡ Ok told
    go None e None f = tick-ends (limits_in c.args.rows.limits) c.args.rows.count (line_in c.args.line) (as-told (goal.at.returns c).In_ok-row None e)
    go None e (Some v) f = search rules
    go (Some x) e None f = search rules
    go (Some x) e (Some v) f =
        (tick-read (limits_in c.args.rows.limits) c.args.rows.count (line_in c.args.line) x (Number 0) v (as-told (goal.at.returns c).In_ok-row (Some x) e) (search rules)).0
