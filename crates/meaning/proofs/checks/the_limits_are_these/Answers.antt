use Rattle.meaning.proofs.OfLimits.{limits}
use Rattle.meaning.proofs.checks.the_limits_are_these.Goals as goal

pub returns : goal.returns
returns c = limits
