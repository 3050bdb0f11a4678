use Rattle.std.proofs.Common.{take}
use Rattle.replay.specs.Objects.{objects}
use Rattle.replay.specs.Replayed.{Replayed}
use Rattle.replay.proofs.replay.replay.Given as goal

abbrev pub invariant-loop-call : goal.invariant-loop-call
invariant-loop-call g l =
    Replayed g.M.Machine.meaning g.M.Machine.lawful (take l.call-index l.calls) l.answers.items
    (objects l.initial.sheets l.initial.tables l.initial.charts) (objects l.sheets l.tables l.charts)
