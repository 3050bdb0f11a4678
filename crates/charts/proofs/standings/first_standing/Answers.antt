use Rattle.std.proofs.Common.{get_or, rules}
use Rattle.logic.specs.Formula.{on}
use Rattle.charts.proofs.standings.first_standing.Goals as goal

pub returns : goal.returns
unfolding on
returns c = c.pack.ensures (λ i. on c.args.place (get_or c.args.labels.now i 0)) (λ i r l h. search rules)
