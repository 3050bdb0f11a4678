use Rattle.std.proofs.Common.{◌∙◌}
use Rattle.rules.proofs.OfLed.{counted}
use Rattle.rules.proofs.sheet.Sheet.rule_count.Goals as goal

pub returns-clause-entered : goal.returns-clause-entered
returns-clause-entered c = λ ns ts h. c.len.ensures.is ∙ counted c.args.self.now ns ts h
