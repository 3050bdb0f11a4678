use Rattle.fixed.specs.Held.{held}
use Rattle.formulas.specs.Marks.{Picked}
use Rattle.formulas.proofs.marks.pick.Given as goal

abbrev pub invariant-loop-k : goal.invariant-loop-k
invariant-loop-k l = Picked l.flags l.k (held l.numbers)
