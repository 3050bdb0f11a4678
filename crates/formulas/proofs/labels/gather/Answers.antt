use Rattle.std.proofs.Common.{arith}
use Rattle.formulas.proofs.Steps.{gather_fits, gathered_more}
use Rattle.formulas.proofs.labels.gather.Goals as goal

pub overflow_mul-label : goal.overflow_mul-label
overflow_mul-label c = omega (arith, gather_fits _ c.in-Some.word.now c.in-Some.ensures.steps c.requires.few c.loop-word.invariant)

pub overflow_add-label : goal.overflow_add-label
overflow_add-label c = omega (arith, gather_fits _ c.in-Some.word.now c.in-Some.ensures.steps c.requires.few c.loop-word.invariant)

pub loop-word-preserved : goal.loop-word-preserved
loop-word-preserved c = gathered_more _ c.in-Some.word.now c.in-Some.ensures.steps c.loop-word.invariant
