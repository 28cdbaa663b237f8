use Rattle.meaning.proofs.Worked.{examples}
use Rattle.meaning.proofs.examples.examples_stand.Goals as goal

pub returns : goal.returns
returns c = examples
