use Rattle.std.proofs.Common.{◌+◌}
use Rattle.rules.proofs.words.Reader.+readings.Given as goal

abbrev pub decreases-read : goal.decreases-read
decreases-read l = l.depth + l.depth

abbrev pub decreases-positive : goal.decreases-positive
decreases-positive l = l.depth + l.depth + 1

abbrev pub decreases-negated : goal.decreases-negated
decreases-negated l = l.depth + l.depth + 1
