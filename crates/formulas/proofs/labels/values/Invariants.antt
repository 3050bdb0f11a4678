use Rattle.formulas.specs.Values.{GroupValued}
use Rattle.formulas.proofs.labels.values.Given as goal

abbrev pub invariant-loop-k : goal.invariant-loop-k
invariant-loop-k l = GroupValued l.nodes l.group l.was l.k l.holds
