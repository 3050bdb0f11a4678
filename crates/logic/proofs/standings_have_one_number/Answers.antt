use Rattle.logic.proofs.Tables.{standings_counted}
use Rattle.logic.proofs.standings_have_one_number.Goals as goal

pub returns : goal.returns
returns c = standings_counted
