use Rattle.std.proofs.Common.{◌≡◌, ◌-◌, ◌≤◌, map, length, take, Some, None, Ok, vec_items, sym, refl, ap, ◌∙◌, arith}
use Rattle.std.proofs.lemmas.List.{length-map, take_all}
use Rattle.std.proofs.lemmas.Result.{err_from_is_err_and}
use Rattle.clocks.specs.Texts.{text}
use Rattle.formats.specs.Faults.{line_in, line_number}
use Rattle.sheets.specs.Reader.{parts_of}
use Rattle.formats.specs.declared.stage.Stage.TheVariants.{EdgeRows}
use Rattle.formats.proofs.Steps.{fails-so}
use Rattle.formats.proofs.ReaderSteps.{judged-as, edge-fails, edges-do-not-end, edge-read}
use Rattle.sheets.proofs.reader.TableReader.edge_row.Goals as goal
use Rattle.sheets.proofs.reader.TableReader.edge_row.Goals.{After-judge_row_for}

few : (c : After-judge_row_for) → length (map text (vec_items c.args.self.now.names)) ≤ 8
few c = omega (arith, length-map (vec_items c.args.self.now.names) text, c.requires.names)

named : (c : After-judge_row_for) → c.first_eight-events.result ≡ map text (vec_items c.args.self.now.names)
named c = c.first_eight-events.ensures ∙ ap (λ ns. take 8 (map text ns)) c.as_slice.ensures.value ∙ take_all 8 _ (few c)

counted : (c : After-judge_row_for) → c.len.result ≡ length (vec_items c.args.self.now.edges)
counted c = c.len.ensures ∙ c.args.self.now.edges.ok.0

most : (c : After-judge_row_for) → c.saturating_sub-most.result ≡ length (vec_items c.args.self.now.places) - 1
most c = c.saturating_sub-most.ensures ∙ ap (λ n. n - 1) (c.len-2.ensures ∙ c.args.self.now.places.ok.0)

events : (c : After-judge_row_for) → c.count.result ≡ length (map text (vec_items c.args.self.now.names))
events c = c.count.ensures ∙ ap length (named c)

pub returns-in_err-row : goal.returns-in_err-row
returns-in_err-row c =
    let w = (goal.at.returns-in_err-row c).After-judge_row_for in
    let p = err_from_is_err_and c.from_residual.result c.from_residual.ensures.1 in
    rw (p.1, p.2) (fails-so _ _ (line_number c.in_err-row.field-0.0) c.in_err-row.ensures.row
    (edge-fails (parts_of c.args.self.now) (line_in c.args.line) c.len.result c.saturating_sub-most.result c.count.result (few w) c.requires.places
    c.first_eight-events.result (counted w) (most w) (events w) (named w)))

pub returns-in_default : goal.returns-in_default
returns-in_default c =
    let w = (goal.at.returns-in_default c).After-judge_row_for in
    absurd (edges-do-not-end (parts_of c.args.self.now) (line_in c.args.line) c.len.result c.saturating_sub-most.result c.count.result (few w) c.requires.places
    c.first_eight-events.result (counted w) (most w) (events w) (named w)
    (judged-as _ c.in_ok-row.field-0 None c.in_ok-row.ensures.row c.in_default.is))

pub returns-in_ok-push : goal.returns-in_ok-push
returns-in_ok-push c =
    let w = (goal.at.returns-in_ok-push c).After-judge_row_for in
    let s = parts_of c.args.self.now in
    (edge-read s (line_in c.args.line) c.len.result c.saturating_sub-most.result c.count.result (few w) c.requires.places
    c.first_eight-events.result (counted w) (most w) (events w) (named w)
    c.in-Some.row _ c.number_in-source.result c.number_in-target.result c.event_in-event.result c.bounds_in-bounds.result
    (judged-as _ c.in_ok-row.field-0 (Some c.in-Some.row) c.in_ok-row.ensures.row c.in-Some.is)
    c.number_in-source.ensures c.number_in-target.ensures c.event_in-event.ensures c.bounds_in-bounds.ensures).0
    ∙ ap (λ es. Ok (record { stage = EdgeRows; ticks = s.ticks; places = s.places; names = s.names; edges = es })) (sym c.in_ok-push.ensures.items)

pub overflow_cast-source : goal.overflow_cast-source
overflow_cast-source c =
    let w = (goal.at.overflow_cast-source c).After-judge_row_for in
    let read =
    edge-read (parts_of c.args.self.now) (line_in c.args.line) c.len.result c.saturating_sub-most.result c.count.result (few w) c.requires.places
    c.first_eight-events.result (counted w) (most w) (events w) (named w)
    c.in-Some.row _ c.number_in-source.result _ _ _
    (judged-as _ c.in_ok-row.field-0 (Some c.in-Some.row) c.in_ok-row.ensures.row c.in-Some.is) c.number_in-source.ensures refl refl refl in
    omega (arith, read.1)

pub overflow_cast-target : goal.overflow_cast-target
overflow_cast-target c =
    let w = (goal.at.overflow_cast-target c).After-judge_row_for in
    let read =
    edge-read (parts_of c.args.self.now) (line_in c.args.line) c.len.result c.saturating_sub-most.result c.count.result (few w) c.requires.places
    c.first_eight-events.result (counted w) (most w) (events w) (named w)
    c.in-Some.row _ _ c.number_in-target.result _ _
    (judged-as _ c.in_ok-row.field-0 (Some c.in-Some.row) c.in_ok-row.ensures.row c.in-Some.is) refl c.number_in-target.ensures refl refl in
    omega (arith, read.2)
