use Rattle.formulas.specs.Values.{Spread}
use Rattle.formulas.proofs.labels.spread.Given as goal

abbrev pub invariant-loop-j : goal.invariant-loop-j
invariant-loop-j l = Spread l.keep l.j l.label l.was
