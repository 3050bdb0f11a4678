use Rattle.logic.proofs.Tables.{label_rooms}
use Rattle.logic.proofs.labels_exceed_a_room_or_fit_it.Goals as goal

pub returns : goal.returns
returns c = label_rooms
