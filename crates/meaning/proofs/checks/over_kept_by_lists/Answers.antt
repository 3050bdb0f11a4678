use Rattle.meaning.proofs.OfFull.{over_kept_by_lists}
use Rattle.meaning.proofs.checks.over_kept_by_lists.Goals as goal

pub returns : goal.returns
returns c = over_kept_by_lists
