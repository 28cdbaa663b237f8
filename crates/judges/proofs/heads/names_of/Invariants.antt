use Rattle.std.proofs.Common.{map, vec_items}
use Rattle.clocks.specs.Texts.{text}
use Rattle.texts.specs.Lines.{words}
use Rattle.judges.proofs.NameLists.{Naming}
use Rattle.judges.proofs.heads.names_of.Given as goal

abbrev pub invariant-loop-word : goal.invariant-loop-word
invariant-loop-word l =
    (goal.iterator-loop-word).can_next l.word-iterator
    × (goal.iterator-loop-word).is_finite l.word-iterator
    × Naming (goal.iterator-loop-word).next_gives l.word-iterator (map text (vec_items l.names)) (words l.part)
