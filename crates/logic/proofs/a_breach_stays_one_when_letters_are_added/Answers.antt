use Rattle.logic.proofs.Longer.{breach_stays}
use Rattle.logic.proofs.a_breach_stays_one_when_letters_are_added.Goals as goal

pub returns : goal.returns
returns c = breach_stays
