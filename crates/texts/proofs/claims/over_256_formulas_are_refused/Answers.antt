use Rattle.texts.proofs.OfClaims.{over_256_formulas_are_refused}
use Rattle.texts.proofs.claims.over_256_formulas_are_refused.Goals as goal

pub returns : goal.returns
returns c = over_256_formulas_are_refused
