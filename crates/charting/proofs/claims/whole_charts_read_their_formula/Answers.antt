use Rattle.charting.proofs.OfWhole.{whole_charts_read}
use Rattle.charting.proofs.claims.whole_charts_read_their_formula.Goals as goal

pub returns : goal.returns
returns c = whole_charts_read
