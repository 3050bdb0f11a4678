use Rattle.logic.proofs.Tables.{standing_rooms}
use Rattle.logic.proofs.standings_exceed_a_room_or_fit_it.Goals as goal

pub returns : goal.returns
returns c = standing_rooms
