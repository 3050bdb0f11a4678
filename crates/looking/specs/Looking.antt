-- Looking for a breach over a chart and a machine, as a call. Assumes nothing.
use Rattle.std.specs.Prelude.{List, ℕ}
use Rattle.meaning.specs.Calls.{Machine, Call, searching}

-- the chart's number, the machine, the number of entries of the pair area, and what the walk area holds
abbrev pub looking : ℕ → Machine → ℕ → List ℕ → Call
looking c k pairs walk = searching c k pairs walk
