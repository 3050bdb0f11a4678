use Rattle.charting.proofs.OfWhole.{filled_charts_are_whole}
use Rattle.charting.proofs.claims.filled_charts_are_whole.Goals as goal

pub returns : goal.returns
returns c = filled_charts_are_whole
