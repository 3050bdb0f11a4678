use Rattle.logic.proofs.Sat.{breach_is_sat}
use Rattle.logic.proofs.a_breach_is_decided_by_recursion.Goals as goal

pub returns : goal.returns
returns c = breach_is_sat
