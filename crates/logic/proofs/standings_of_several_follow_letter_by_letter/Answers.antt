use Rattle.logic.proofs.Standings.{standings_of_any}
use Rattle.logic.proofs.standings_of_several_follow_letter_by_letter.Goals as goal

pub returns : goal.returns
returns c = standings_of_any
