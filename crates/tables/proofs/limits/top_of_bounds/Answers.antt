use Rattle.std.proofs.Common.{◌≡◌, max, ◌∙◌, rules}
use Rattle.std.proofs.iter.runs.Made.{chains}
use Rattle.std.specs.List.{fold}
use Rattle.meaning.specs.Stepping.{top}
use Rattle.tables.proofs.Lawfulness.{top_by_fold}
use Rattle.tables.proofs.limits.top_of_bounds.Goals as goal

pub returns : goal.returns
returns c =
    let all : c.fold.result ≡ fold (λ m b. max (top b) m) 0 c.args.bounds.now = search (rules, chains) in
    all ∙ top_by_fold c.args.bounds.now
