use Rattle.logic.proofs.Standings.{standings_are_right}
use Rattle.logic.proofs.standings_follow_letter_by_letter.Goals as goal

pub returns : goal.returns
returns c = standings_are_right
