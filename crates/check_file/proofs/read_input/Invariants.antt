use Rattle.std.proofs.Common.{◌≡◌, ◌-◌, ◌≤◌, length}
use Rattle.check_file.proofs.read_input.Given as goal

abbrev pub invariant-loop-count : goal.invariant-loop-count
invariant-loop-count l = (l.count ≤ 8193) × (length l.bytes ≡ 8193)

abbrev pub decreases-loop-count : goal.decreases-loop-count
decreases-loop-count l = 8193 - l.count
