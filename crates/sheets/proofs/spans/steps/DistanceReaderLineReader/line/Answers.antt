use Rattle.std.proofs.Common.{ℕ, List, sym, subst}
use Rattle.std.specs.Option.{option_to_list}
use Rattle.formats.specs.DistanceText.{distance_step_at}
use Rattle.formats.specs.Faults.{Agrees, line_in}
use Rattle.formats.specs.declared.distance.DistanceStage.{DistanceStage}
use Rattle.formats.specs.declared.distance.DistanceStage.TheVariants.{TickRows, LineHead}
use Rattle.sheets.specs.DistanceReading.{distance_parts_of}
use Rattle.sheets.specs.Reading.{TakesLine, tick_step}
use Rattle.sheets.proofs.Ticks.{takes_tick}
use Rattle.sheets.proofs.spans.steps.DistanceReaderLineReader.line.Goals as goal

pub returns-in-TickRows-clause-line : goal.returns-in-TickRows-clause-line
returns-in-TickRows-clause-line c =
    let s = distance_parts_of c.args.self.now in
    let names = c.args.self.now.events in
    let l = line_in c.args.line in
    let r = c.tick_row.result in
    let after : DistanceStage × List ℕ = (c.tick_row.new.stage, option_to_list c.tick_row.new.tick) in
    subst (λ stage. TakesLine (Unit {0}) r (record { stage = after.0; ticks = after.1; lines = s.lines }) (distance_step_at names stage s l)) (sym c.in-TickRows.is)
    (takes_tick 1 TickRows LineHead s.ticks l (λ x. record { stage = x.0; ticks = x.1; lines = s.lines }) r after
    (subst (λ stage. Agrees (λ _. after) r (tick_step 1 stage LineHead s.ticks l)) c.in-TickRows.is c.tick_row.ensures))
