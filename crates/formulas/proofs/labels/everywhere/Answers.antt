use Rattle.std.proofs.Common.{sym, ◌∙◌}
use Rattle.formulas.proofs.Words.{all_on, none_on}
use Rattle.formulas.proofs.labels.everywhere.Goals as goal

pub returns-then-flag : goal.returns-then-flag
returns-then-flag c = λ b l. all_on b l ∙ sym c.if-flag.true

pub returns-else-flag : goal.returns-else-flag
returns-else-flag c = λ b l. none_on b ∙ sym c.if-flag.false
