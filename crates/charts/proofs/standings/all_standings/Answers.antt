use Rattle.std.proofs.Common.{[]}
use Rattle.charts.proofs.standings.all_standings.Goals as goal

pub returns : goal.returns
returns c = record { charted = c.all_states.ensures [] }
