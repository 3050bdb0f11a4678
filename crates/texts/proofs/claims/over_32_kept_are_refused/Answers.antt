use Rattle.texts.proofs.OfClaims.{over_32_kept_are_refused}
use Rattle.texts.proofs.claims.over_32_kept_are_refused.Goals as goal

pub returns : goal.returns
returns c = over_32_kept_are_refused
