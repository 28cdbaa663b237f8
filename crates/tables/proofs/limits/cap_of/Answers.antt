use Rattle.std.proofs.Common.{◌≡◌, max, ◌∙◌, rules}
use Rattle.std.proofs.iter.runs.Made.{chains}
use Rattle.std.specs.List.{fold}
use Rattle.meaning.specs.Stepping.{top_of_bounds}
use Rattle.tables.proofs.Lawfulness.{cap_by_fold}
use Rattle.tables.proofs.limits.cap_of.Goals as goal

pub returns : goal.returns
returns c =
    let all : c.fold.result ≡ fold (λ m e. max (top_of_bounds e.bounds) m) 0 c.args.edges.now = search (rules, chains) in
    all ∙ cap_by_fold c.args.edges.now
