use Rattle.std.proofs.Common.{ℕ, List, sym, subst}
use Rattle.std.specs.Option.{option_to_list}
use Rattle.formats.specs.Faults.{Agrees, line_in}
use Rattle.formats.specs.TableText.{step_at}
use Rattle.formats.specs.declared.stage.Stage.{Stage}
use Rattle.formats.specs.declared.stage.Stage.TheVariants.{TickRows, PlaceHead}
use Rattle.sheets.specs.Reader.{parts_of}
use Rattle.sheets.specs.Reading.{TakesLine, tick_step}
use Rattle.sheets.proofs.Ticks.{takes_tick}
use Rattle.sheets.proofs.reader.steps.TableReaderLineReader.line.Goals as goal

pub returns-in-TickRows-clause-line : goal.returns-in-TickRows-clause-line
returns-in-TickRows-clause-line c =
    let s = parts_of c.args.self.now in
    let l = line_in c.args.line in
    let r = c.tick_row.result in
    let after : Stage × List ℕ = (c.tick_row.new.stage, option_to_list c.tick_row.new.tick) in
    subst (λ stage. TakesLine (Unit {0}) r (record { stage = after.0; ticks = after.1; places = s.places; names = s.names; edges = s.edges }) (step_at stage s l)) (sym c.in-TickRows.is)
    (takes_tick 2 TickRows PlaceHead s.ticks l (λ x. record { stage = x.0; ticks = x.1; places = s.places; names = s.names; edges = s.edges }) r after
    (subst (λ stage. Agrees (λ _. after) r (tick_step 2 stage PlaceHead s.ticks l)) c.in-TickRows.is c.tick_row.ensures))
