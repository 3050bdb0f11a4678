use Rattle.std.proofs.Common.{arith}
use Rattle.formulas.proofs.Steps.{kept_are}
use Rattle.formulas.proofs.labels.kept_words.Goals as goal

pub returns : goal.returns
returns c =
    let i = c.loop-j.invariant in
    kept_are c.args.keep.now c.args.holds.now c.loop-j.words (omega (arith, i.0, c.requires.few)) (λ k l. i.1 k (omega arith))
