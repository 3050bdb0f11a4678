use Rattle.logic.proofs.Kept.{kept_once}
use Rattle.logic.proofs.kept_formulas_are_listed_once.Goals as goal

pub returns : goal.returns
returns c = kept_once
