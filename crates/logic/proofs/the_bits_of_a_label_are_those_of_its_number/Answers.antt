use Rattle.logic.proofs.Masks.{masks_are_right}
use Rattle.logic.proofs.the_bits_of_a_label_are_those_of_its_number.Goals as goal

pub returns : goal.returns
returns c = masks_are_right
