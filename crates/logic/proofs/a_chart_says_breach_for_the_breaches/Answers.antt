use Rattle.logic.proofs.Standings.{chart_is_right}
use Rattle.logic.proofs.a_chart_says_breach_for_the_breaches.Goals as goal

pub returns : goal.returns
returns c = chart_is_right
