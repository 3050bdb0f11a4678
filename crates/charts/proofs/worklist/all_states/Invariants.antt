use Rattle.std.proofs.Common.{◌-◌, ◌≤◌, length}
use Rattle.once.specs.Once.{GoesOn}
use Rattle.charting.specs.Worklists.{Reaches, LetterRows}
use Rattle.charts.proofs.worklist.all_states.Given as goal

abbrev pub invariant-loop-done : goal.invariant-loop-done
invariant-loop-done g l =
    GoesOn g.A.State.Item.alike l.initial.list.area l.initial.list.len l.list.area l.list.len
    × ((d : _) → Reaches d (g.A.Automaton.leads l.automaton) l.list.area.now l.list.len)
    × ((d : _) → LetterRows d (g.A.Automaton.leads l.automaton) g.A.Automaton.longer l.list.area.now l.list.len l.next l.done)
    × (l.done ≤ l.list.len)

abbrev pub decreases-loop-done : goal.decreases-loop-done
decreases-loop-done g l = length l.list.area.now - l.done
