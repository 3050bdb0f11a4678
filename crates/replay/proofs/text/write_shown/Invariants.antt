use Rattle.std.proofs.Common.{◌++◌, take, codes}
use Rattle.std.specs.Fmt.{HasWritten, IsPlainFormatter}
use Rattle.meaning.specs.Printed.{field, fields}
use Rattle.replay.proofs.text.write_shown.Given as goal

abbrev pub invariant-loop-state : goal.invariant-loop-state
invariant-loop-state g l =
    IsPlainFormatter l.fn.f → HasWritten g.W.Write.write_str_gives l.fn.f (codes "find,broken" ++ (field l.fn.states ++ fields (take l.state-index l.walk))) l.f
