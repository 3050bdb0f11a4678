use Rattle.meaning.proofs.OfFull.{full_sheets_by_lists}
use Rattle.meaning.proofs.checks.full_sheets_by_lists.Goals as goal

pub returns : goal.returns
returns c = full_sheets_by_lists
