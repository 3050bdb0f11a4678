use Rattle.logic.proofs.Labels.{kept_closed}
use Rattle.logic.proofs.kept_formulas_hold_what_is_kept_of_them.Goals as goal

pub returns : goal.returns
returns c = kept_closed
