use Rattle.std.proofs.Common.{rules, eqb, map, vec_items, sym, ap, ◌∙◌}
use Rattle.std.proofs.iter.Serving.{serving}
use Rattle.std.proofs.lemmas.Iterator.Splits.{YieldsList-from_slice_split}
use Rattle.std.specs.List.{slice_split}
use Rattle.std.specs.Option.{option_map}
use Rattle.std.specs.Slice.Iter.{split_rest, split_done, split_callee}
use Rattle.clocks.specs.Texts.{text}
use Rattle.texts.specs.Lines.{words}
use Rattle.judges.proofs.HeadWords.{words-split}
use Rattle.judges.proofs.NameLists.{naming-at-first, naming-done, loop-refused, loop-goes}
use Rattle.judges.proofs.heads.names_of.Goals as goal

pub loop-word-init : goal.loop-word-init
loop-word-init c =
    let e = c.into_iter-word-iterator.ensures.into_iter_gives in (
      grind serving,
      search rules,
      naming-at-first _ c.into_iter-word-iterator.result (vec_items c.new-names.result) (words c.args.part.now) (slice_split (λ b. eqb b 32) c.args.part.now)
          c.new-names.ensures.items (words-split c.args.part.now)
          (YieldsList-from_slice_split _ (λ b. eqb b 32) c.args.part.now (ap split_rest e ∙ c.split-word-items.ensures.rest)
          (ap split_done e ∙ c.split-word-items.ensures.done) (ap split_callee e ∙ c.split-word-items.ensures.closure) (λ x b q k. search rules)),
    )

pub returns-in_err-name : goal.returns-in_err-name
returns-in_err-name c =
    let r = loop-refused _ c.loop-word.word-iterator c.next.new.self (vec_items c.loop-word.names) c.as_slice.result.now (words c.args.part.now) c.in-Some.word
    c.as_slice.ensures.value c.loop-word.invariant.2 c.in-Some.ensures.steps (sym (ap (option_map text) c.in_err-name.ensures.ok_part) ∙ c.new_name.ensures) in
    search rules

pub loop-word-preserved : goal.loop-word-preserved
loop-word-preserved c = (
  grind serving,
  search rules,
  loop-goes _ c.loop-word.word-iterator c.next.new.self (vec_items c.loop-word.names) c.as_slice.result.now (words c.args.part.now) c.in-Some.word
      c.as_slice.ensures.value c.loop-word.invariant.2 c.in-Some.ensures.steps c.in_ok-name.name (vec_items c.push.new.self)
      (sym (ap (option_map text) c.in_ok-name.ensures.ok_part) ∙ c.new_name.ensures) c.in_ok-push.ensures.items,
)

pub returns : goal.returns
returns c = naming-done _ c.loop-word.word-iterator c.next.new.self (map text (vec_items c.loop-word.names)) (words c.args.part.now) c.loop-word.invariant.2 c.in-None.ensures.steps
