use Rattle.std.proofs.Common.{ap, ◌∙◌, not}
use Rattle.pairs.proofs.Adding.{adds_keeps}
use Rattle.breaches.specs.Counts.{tally_of}
use Rattle.breaches.proofs.kept.KeptPairs.keep.Goals as goal

pub returns-else-is_none : goal.returns-else-is_none
returns-else-is_none c = adds_keeps _ (tally_of c.args.self.now) _ _ _ _ (c.is_none.ensures ∙ ap not c.if-is_none.false) c.add.ensures.adds
