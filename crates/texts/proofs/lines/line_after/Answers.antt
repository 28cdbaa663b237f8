use Rattle.std.proofs.Common.{◌≡◌, sym, ap, ◌∙◌, rules, tests}
use Rattle.std.proofs.lemmas.Iterator.Consumers.{nth_from_yields_List}
use Rattle.std.proofs.lemmas.Iterator.Splits.{YieldsList-from_slice_split}
use Rattle.std.specs.List.{slice_get}
use Rattle.texts.specs.Lines.{unended}
use Rattle.texts.proofs.Ends.{lines_by_split}
use Rattle.texts.proofs.lines.line_after.Goals as goal

pub returns : goal.returns
returns c =
    let same : c.in_ok-then_some.field-0.now ≡ unended c.args.text.now = search rules in
    nth_from_yields_List c.nth.result _ c.args.before c.nth.ensures.ran
    (YieldsList-from_slice_split _ _ (unended c.args.text.now) (c.split.ensures.rest ∙ same) c.split.ensures.done c.split.ensures.closure (λ x r q k. search (rules, tests)))
    ∙ ap (λ ls. slice_get ls c.args.before) (sym (lines_by_split c.args.text.now (search (rules, tests))))
