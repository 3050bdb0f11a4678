use Rattle.texts.proofs.OfClaims.{bytes_behind_a_rule_are_refused}
use Rattle.texts.proofs.claims.bytes_behind_a_rule_are_refused.Goals as goal

pub returns : goal.returns
returns c = bytes_behind_a_rule_are_refused
