use Rattle.meaning.proofs.OfLaws.{stuck_layers_are_lawful}
use Rattle.meaning.proofs.checks.stuck_layers_are_lawful.Goals as goal

pub returns : goal.returns
returns c = stuck_layers_are_lawful
