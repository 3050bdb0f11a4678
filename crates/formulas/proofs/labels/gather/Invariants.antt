use Rattle.formulas.proofs.Steps.{Gathered}
use Rattle.formulas.proofs.labels.gather.Given as goal

abbrev pub invariant-loop-word : goal.invariant-loop-word
invariant-loop-word l = Gathered l.words l.b l.word-iterator.iter.rest.now l.label
