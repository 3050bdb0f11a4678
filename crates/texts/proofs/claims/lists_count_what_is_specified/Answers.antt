use Rattle.texts.proofs.OfEntered.{lists_count_what_is_specified}
use Rattle.texts.proofs.claims.lists_count_what_is_specified.Goals as goal

pub returns : goal.returns
returns c = lists_count_what_is_specified
