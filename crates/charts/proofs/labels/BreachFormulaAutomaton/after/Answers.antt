use Rattle.std.proofs.Common.{◌∙◌, arith}
use Rattle.charts.proofs.labels.BreachFormulaAutomaton.after.Goals as goal

pub returns : goal.returns
returns c = λ from u a h. c.label_by.ensures ∙ (a.at c.args.letter (omega arith)).is u h
