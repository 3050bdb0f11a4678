use Rattle.std.proofs.Common.{refl}
use Rattle.logic.specs.Formula.{on}
use Rattle.charting.specs.Sets.{bit_of}
use Rattle.charts.proofs.standings.has_label.Goals as goal

pub returns : goal.returns
unfolding bit_of on
returns c = refl
