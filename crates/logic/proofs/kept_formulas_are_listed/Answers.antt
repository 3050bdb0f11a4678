use Rattle.logic.proofs.Kept.{kept_listed}
use Rattle.logic.proofs.kept_formulas_are_listed.Goals as goal

pub returns : goal.returns
returns c = kept_listed
