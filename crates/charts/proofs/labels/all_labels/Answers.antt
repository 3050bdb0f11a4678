use Rattle.std.proofs.Common.{length}
use Rattle.charting.specs.Breaches.{kept_of}
use Rattle.charting.proofs.LabelEnds.{labels_told}
use Rattle.charts.proofs.labels.all_labels.Goals as goal

pub returns : goal.returns
returns c = record { labelled = labels_told (kept_of c.args.formula.now) (length c.args.area.now) c.all_states.result c.all_states.new.area c.all_states.new.next (c.all_states.ensures 0) }
