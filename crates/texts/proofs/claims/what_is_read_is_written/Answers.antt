use Rattle.texts.proofs.OfWriting.{what_is_read_is_written}
use Rattle.texts.proofs.claims.what_is_read_is_written.Goals as goal

pub returns : goal.returns
returns c = what_is_read_is_written
