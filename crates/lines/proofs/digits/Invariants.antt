use Rattle.std.proofs.Common.{◌≡◌, ◌≤◌, drop}
use Rattle.lines.specs.Fields.{figure}
use Rattle.lines.proofs.digits.Given as goal

abbrev pub invariant-loop-b : goal.invariant-loop-b
invariant-loop-b l = (l.n ≤ 65536) × (figure l.n (drop l.b-index l.text) ≡ figure 0 l.text)
