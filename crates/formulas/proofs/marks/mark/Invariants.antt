use Rattle.formulas.proofs.Marking.{Behind}
use Rattle.formulas.proofs.marks.mark.Given as goal

abbrev pub invariant-loop-k : goal.invariant-loop-k
invariant-loop-k l = let it = l.k-iterator.iter in Behind l.nodes l.root it.count it.iter.rest.now l.under l.flags
