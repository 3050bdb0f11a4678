use Rattle.logic.proofs.Tables.{labels_counted}
use Rattle.logic.proofs.labels_have_one_number.Goals as goal

pub returns : goal.returns
returns c = labels_counted
