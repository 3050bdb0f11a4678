use Rattle.logic.proofs.Labels.{label_back}
use Rattle.logic.proofs.the_label_of_a_longer_word_follows.Goals as goal

pub returns : goal.returns
returns c = label_back
