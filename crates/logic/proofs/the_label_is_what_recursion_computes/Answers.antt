use Rattle.logic.proofs.Labels.{label_is}
use Rattle.logic.proofs.the_label_is_what_recursion_computes.Goals as goal

pub returns : goal.returns
returns c = label_is
