use Rattle.meaning.proofs.OfRows.{refusals_have_their_rows}
use Rattle.meaning.proofs.checks.refusals_have_their_rows.Goals as goal

pub returns : goal.returns
returns c = refusals_have_their_rows
