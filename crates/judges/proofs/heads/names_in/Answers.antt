use Rattle.std.proofs.Common.{rules, map, vec_items, sym, subst}
use Rattle.clocks.specs.Texts.{text}
use Rattle.texts.specs.Lines.{words}
use Rattle.formats.specs.Faults.{Fails, Agrees, line_number}
use Rattle.judges.proofs.EdgeHeads.{names-refused}
use Rattle.judges.proofs.HeadWords.{other-head, then-names}
use Rattle.judges.proofs.heads.names_in.Goals as goal

pub returns-in_err-rest : goal.returns-in_err-rest
returns-in_err-rest c = let e = other-head c.args.line.now (rw c.in_err-rest.ensures.ok_part at c.strip_prefix.ensures.cases) in search rules

pub returns-in_err-names_of : goal.returns-in_err-names_of
returns-in_err-names_of c =
    let one = (rw c.in_ok-rest.ensures.ok_part at c.strip_prefix.ensures.cases) in
    let two = (rw c.in_ok-part.ensures.ok_part at c.strip_prefix-2.ensures.cases) in
    let h = subst (λ d. Fails d (line_number c.in_err-names_of.field-0.0)) (sym (then-names c.args.line.now c.in_ok-rest.rest.now c.in_ok-part.part.now one.0 one.1 two.0 two.1))
    (names-refused (words c.in_ok-part.part.now) (line_number c.in_err-names_of.field-0.0) c.in_err-names_of.ensures) in
    search rules

pub returns : goal.returns
returns c =
    let one = (rw c.in_ok-rest.ensures.ok_part at c.strip_prefix.ensures.cases) in
    let two = (rw c.in_ok-part.ensures.ok_part at c.strip_prefix-2.ensures.cases) in
    subst (λ d. Agrees (λ v. map text (vec_items v)) c.counted.result d) (sym (then-names c.args.line.now c.in_ok-rest.rest.now c.in_ok-part.part.now one.0 one.1 two.0 two.1))
    (c.counted.ensures (words c.in_ok-part.part.now) c.in_ok-names_of.ensures)
