use Rattle.meaning.proofs.ByWorked.{worked_examples}
use Rattle.meaning.proofs.checks.the_worked_examples_hold.Goals as goal

pub returns : goal.returns
returns c = worked_examples
