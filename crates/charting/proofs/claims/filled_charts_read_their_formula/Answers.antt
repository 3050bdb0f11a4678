use Rattle.charting.proofs.OfWhole.{filled_charts_read}
use Rattle.charting.proofs.claims.filled_charts_read_their_formula.Goals as goal

pub returns : goal.returns
returns c = filled_charts_read
