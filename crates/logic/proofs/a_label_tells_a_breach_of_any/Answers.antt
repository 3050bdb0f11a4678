use Rattle.logic.proofs.Standings.{any_decided}
use Rattle.logic.proofs.a_label_tells_a_breach_of_any.Goals as goal

pub returns : goal.returns
returns c = any_decided
