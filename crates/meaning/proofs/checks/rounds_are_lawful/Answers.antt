use Rattle.meaning.proofs.OfLaws.{rounds_are_lawful}
use Rattle.meaning.proofs.checks.rounds_are_lawful.Goals as goal

pub returns : goal.returns
returns c = rounds_are_lawful
