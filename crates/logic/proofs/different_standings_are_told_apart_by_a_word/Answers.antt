use Rattle.logic.proofs.Standings.{told_apart}
use Rattle.logic.proofs.different_standings_are_told_apart_by_a_word.Goals as goal

pub returns : goal.returns
returns c = told_apart
