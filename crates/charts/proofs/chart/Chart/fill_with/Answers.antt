use Rattle.std.proofs.Common.{[]}
use Rattle.charts.proofs.SoundSteps.{filled_sound}
use Rattle.charts.proofs.chart.Chart.fill_with.Goals as goal

pub invariant_of-self-2-clause-enough : goal.invariant_of-self-2-clause-enough
invariant_of-self-2-clause-enough c = let e = c.in_ok-a.ensures in e.filling.filled.within [] tt

pub invariant_of-self-2-clause-whole : goal.invariant_of-self-2-clause-whole
invariant_of-self-2-clause-whole c = filled_sound _ _ _ _ _ _ _ c.in_ok-a.ensures
