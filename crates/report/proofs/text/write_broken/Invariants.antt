use Rattle.std.proofs.Common.{◌++◌, length, take, codes}
use Rattle.std.specs.Fmt.{HasWritten, IsPlainFormatter}
use Rattle.meaning.specs.Printed.{field, fields, rule_text}
use Rattle.report.proofs.text.write_broken.Given as goal

abbrev pub invariant-loop-state : goal.invariant-loop-state
invariant-loop-state g l =
    IsPlainFormatter l.fn.f → HasWritten g.W.Write.write_str_gives l.fn.f (rule_text l.fn.rule (codes ",broken" ++ (field (length l.walk) ++ fields (take l.state-index l.walk)))) l.f
