use Rattle.std.proofs.Common.{◌≡◌, ℕ, ◌-◌, ◌≤◌, false, List, length}
use Rattle.meaning.specs.Walks.{Walk}
use Rattle.pairs.specs.Readers.{Broken}
use Rattle.pairs.specs.Stages.{Between}
use Rattle.breaches.specs.Charts.{reader_of}
use Rattle.breaches.specs.Counts.{Staged}
use Rattle.breaches.proofs.exploration.Exploration.run.Given as goal

abbrev pub invariant-loop-kept : goal.invariant-loop-kept
invariant-loop-kept g l = record {
  stage : Staged (g.M.Machine.meaning l.self.machine.now) l.self.chart.now l.kept;
  clean : (xs : List ℕ) → Walk (g.M.Machine.meaning l.self.machine.now) xs → length xs ≤ l.kept.depth → Broken (g.M.Machine.meaning l.self.machine.now) (reader_of l.self.chart.now) xs → ⊥;
  between : l.kept.full ≡ false → Between (g.M.Machine.meaning l.self.machine.now) (reader_of l.self.chart.now) l.kept.list.area.now l.kept.base l.kept.list.len l.kept.depth;
  walk : l.walk ≡ l.fn.walk;
  area : length l.kept.list.area.now ≡ length l.fn.kept.list.area.now;
}

abbrev pub decreases-loop-kept : goal.decreases-loop-kept
decreases-loop-kept g l = length l.fn.kept.list.area.now - l.kept.base
