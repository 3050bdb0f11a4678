use Rattle.texts.proofs.OfClaims.{accepted_texts_mean_rules}
use Rattle.texts.proofs.claims.accepted_texts_mean_rules.Goals as goal

pub returns : goal.returns
returns c = accepted_texts_mean_rules
