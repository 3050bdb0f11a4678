use Rattle.std.proofs.Common.{length}
use Rattle.logs.proofs.ReadLines.{ReadLines}
use Rattle.logs.proofs.entries.read_log.Given as goal

abbrev pub invariant-loop-line : goal.invariant-loop-line
invariant-loop-line l = ReadLines l.fn.text l.rest l.log.numbers.items l.log.calls.items

abbrev pub decreases-loop-line : goal.decreases-loop-line
decreases-loop-line l = length l.rest
