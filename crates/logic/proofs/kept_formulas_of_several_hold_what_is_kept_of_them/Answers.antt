use Rattle.logic.proofs.Labels.{kept_of_closed}
use Rattle.logic.proofs.kept_formulas_of_several_hold_what_is_kept_of_them.Goals as goal

pub returns : goal.returns
returns c = kept_of_closed
