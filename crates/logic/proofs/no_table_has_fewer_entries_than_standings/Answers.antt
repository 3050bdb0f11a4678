use Rattle.logic.proofs.Tables.{no_smaller_table}
use Rattle.logic.proofs.no_table_has_fewer_entries_than_standings.Goals as goal

pub returns : goal.returns
returns c = no_smaller_table
