use Rattle.std.proofs.Common.{string_bytes}
use Rattle.report.specs.Reported.{RulesLed}
use Rattle.report.proofs.report.report_short.Given as goal

abbrev pub invariant-loop-rule : goal.invariant-loop-rule
invariant-loop-rule l = RulesLed l.sheet l.table l.rule (string_bytes l.text)
