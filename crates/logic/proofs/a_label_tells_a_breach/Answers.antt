use Rattle.logic.proofs.Standings.{one_decided}
use Rattle.logic.proofs.a_label_tells_a_breach.Goals as goal

pub returns : goal.returns
returns c = one_decided
