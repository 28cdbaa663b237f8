use Rattle.std.proofs.Common.{◌≡◌, ◌+◌, ◌-◌, ◌∷◌, length, take, drop, sym, refl, ap, ◌∙◌, arith}
use Rattle.std.proofs.lemmas.List.{length-take, length-drop}
use Rattle.texts.specs.Lines.{lines, ended}
use Rattle.formats.specs.Walk.{line_here}
use Rattle.texts.proofs.Sought.{lines_from}
use Rattle.judges.proofs.InTurn.{last-here, ended_here}
use Rattle.judges.proofs.cursor.line_at.Goals as goal

pub returns : goal.returns
returns c =
    let t = c.args.text.now in
    let at = c.args.at in
    let end = c.line_end-end.result in
    let is = c.line_end-end.ensures.value in
    let more = c.requires in
    let bytes = take (end - at) (drop at t) in
    let size : length bytes ≡ end - at = omega (arith, length-take (end - at) (drop at t), length-drop at t, c.line_end-end.ensures.within) in
    let next : at + (length bytes + 1) ≡ end + 1 = omega (arith, size, more, c.line_end-end.ensures.within, c.line_end-end.ensures.after) in
    record {
      within = omega (arith, next, c.line_end-end.ensures.within);
      here = lines_from t at end is more ∙ ap (λ n. bytes ∷ lines (drop n t)) (sym next);
      stands = (λ i. record { bytes = bytes; last = last-here t at end is more i; ended = (c.is_ended.ensures ∙ ended_here t at end is more) i })
          ∙ ap (λ n. line_here (ended t) bytes (lines (drop n t))) (sym next);
      numbered = refl;
    }
