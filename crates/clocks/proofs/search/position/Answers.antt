use Rattle.std.proofs.Common.{rules}
use Rattle.clocks.proofs.Firsts.{first-is-first_of}
use Rattle.clocks.proofs.search.position.Goals as goal

pub returns-clause-value : goal.returns-clause-value
returns-clause-value g c = λ o. first-is-first_of (λ x. g.T.PartialEq.eq x c.args.sought.now) c.args.list.now _ (search rules)
