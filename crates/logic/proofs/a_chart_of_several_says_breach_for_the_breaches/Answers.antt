use Rattle.logic.proofs.Standings.{chart_of_any}
use Rattle.logic.proofs.a_chart_of_several_says_breach_for_the_breaches.Goals as goal

pub returns : goal.returns
returns c = chart_of_any
