use Rattle.logs.proofs.OfLines.{lines_tell_the_calls_that_they_write}
use Rattle.logs.proofs.claims.lines_tell_the_calls_that_they_write.Goals as goal

pub returns : goal.returns
returns c = lines_tell_the_calls_that_they_write
