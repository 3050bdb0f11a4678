use Rattle.logic.proofs.Standings.{breach_by_empty_label}
use Rattle.logic.proofs.a_breach_is_told_by_the_empty_label_in_its_standing.Goals as goal

pub returns : goal.returns
returns c = breach_by_empty_label
