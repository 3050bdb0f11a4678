use Rattle.texts.proofs.OfClaims.{rules_with_room_are_accepted}
use Rattle.texts.proofs.claims.rules_with_room_are_accepted.Goals as goal

pub returns : goal.returns
returns c = rules_with_room_are_accepted
