use Rattle.logic.proofs.Masks.{masks_differ}
use Rattle.logic.proofs.different_labels_have_different_numbers.Goals as goal

pub returns : goal.returns
returns c = masks_differ
