use Rattle.std.proofs.Common.{sym}
use Rattle.charting.specs.Breaches.{kept_of}
use Rattle.charting.proofs.LabelEnds.{mask_empty}
use Rattle.charts.proofs.labels.BreachFormulaAutomaton.first.Goals as goal

pub returns : goal.returns
returns c = sym (mask_empty (kept_of c.args.self.now))
