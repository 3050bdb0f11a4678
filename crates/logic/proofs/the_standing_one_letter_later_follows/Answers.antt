use Rattle.logic.proofs.Standings.{standing_one_letter_later}
use Rattle.logic.proofs.the_standing_one_letter_later_follows.Goals as goal

pub returns : goal.returns
returns c = standing_one_letter_later
