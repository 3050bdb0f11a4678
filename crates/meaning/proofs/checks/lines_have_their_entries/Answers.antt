use Rattle.meaning.proofs.OfEntries.{lines_have_their_entries}
use Rattle.meaning.proofs.checks.lines_have_their_entries.Goals as goal

pub returns : goal.returns
returns c = lines_have_their_entries
