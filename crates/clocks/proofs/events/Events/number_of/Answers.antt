use Rattle.std.proofs.Common.{sym, ap, ◌∙◌}
use Rattle.std.specs.Option.{option_map}
use Rattle.std.specs.Str.{bytes_eq}
use Rattle.clocks.specs.Search.{first_of}
use Rattle.clocks.specs.Texts.{text}
use Rattle.clocks.proofs.Names.{names-equal}
use Rattle.clocks.proofs.EventNames.{no_event_named, event_named}
use Rattle.clocks.proofs.events.Events.number_of.Goals as goal

pub returns-in_err-name : goal.returns-in_err-name
returns-in_err-name c =
    c.from_residual.ensures
    ∙ no_event_named c.self.inside.names.now c.args.word.now (ap (option_map text) (sym (c.in_err-name.was)) ∙ c.new.ensures)
    ∙ ap (first_of (λ name. bytes_eq name c.args.word.now)) c.self.view_is

pub returns-in_err-event : goal.returns-in_err-event
returns-in_err-event c =
    c.from_residual-in_err-event.ensures
    ∙ event_named c.self.inside.names.now c.args.word.now c.in_ok-name.name _ (ap (option_map text) (sym (c.in_ok-name.was)) ∙ c.new.ensures)
    (sym (c.in_err-event.was) ∙ c.position.ensures.value names-equal)
    ∙ ap (first_of (λ name. bytes_eq name c.args.word.now)) c.self.view_is

pub returns : goal.returns
returns c =
    event_named c.self.inside.names.now c.args.word.now c.in_ok-name.name _ (ap (option_map text) (sym (c.in_ok-name.was)) ∙ c.new.ensures)
    (sym (c.in_ok-event.was) ∙ c.position.ensures.value names-equal)
    ∙ ap (first_of (λ name. bytes_eq name c.args.word.now)) c.self.view_is
