use Rattle.charting.specs.Sets.{bit_of, Flags}
use Rattle.charts.proofs.standings.flags_of.Given as goal

abbrev pub invariant-loop-i : goal.invariant-loop-i
invariant-loop-i l = Flags (bit_of l.standing) l.i l.flags
