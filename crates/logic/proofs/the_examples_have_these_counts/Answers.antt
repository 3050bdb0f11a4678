use Rattle.logic.proofs.Examples.{examples}
use Rattle.logic.proofs.the_examples_have_these_counts.Goals as goal

pub returns : goal.returns
returns c = examples
