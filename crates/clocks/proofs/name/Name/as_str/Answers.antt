use Rattle.std.proofs.Common.{ap, sym, ◌∙◌, subst}
use Rattle.std.specs.Str.{IsUtf8}
use Rattle.clocks.proofs.Spelling.{names_are_text, read_of_text}
use Rattle.clocks.proofs.name.Name.as_str.Goals as goal

pub returns : goal.returns
returns c =
    ap (λ s. s.now) c.unwrap_or.ensures
    ∙ read_of_text _ _ _ _ (subst IsUtf8 (sym c.bytes.ensures) (names_are_text c.args.self.now)) c.from_utf8.ensures.cases
    ∙ c.bytes.ensures
