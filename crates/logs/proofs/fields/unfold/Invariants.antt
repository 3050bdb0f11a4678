use Rattle.std.proofs.Common.{◌≡◌, take}
use Rattle.logs.specs.Told.{unfolded}
use Rattle.logs.proofs.fields.unfold.Given as goal

abbrev pub invariant-loop-b : goal.invariant-loop-b
invariant-loop-b l = l.file.items ≡ unfolded (take l.b-index l.text)
