use Rattle.texts.proofs.OfWriting.{what_is_written_is_read}
use Rattle.texts.proofs.claims.what_is_written_is_read.Goals as goal

pub returns : goal.returns
returns c = what_is_written_is_read
