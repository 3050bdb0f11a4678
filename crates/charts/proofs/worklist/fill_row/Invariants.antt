use Rattle.std.proofs.Common.{get_or}
use Rattle.charting.proofs.WorklistSteps.{RowSoFar}
use Rattle.charts.proofs.worklist.fill_row.Given as goal

abbrev pub invariant-loop-letter : goal.invariant-loop-letter
invariant-loop-letter g l =
    RowSoFar g.A.State.Item.alike (g.A.Automaton.leads l.automaton) g.A.Automaton.longer l.fn.list.area l.fn.list.len l.fn.next l.i l.list.area l.list.len l.next l.letter
    × ((d : _) → g.A.Automaton.ahead_of l.automaton (get_or l.fn.list.area.now l.i d) l.ahead)
