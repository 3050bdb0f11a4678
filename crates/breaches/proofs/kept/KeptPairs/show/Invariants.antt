use Rattle.std.proofs.Common.{◌≡◌, ◌+◌, ◌<◌, ◌≤◌, drop}
use Rattle.pairs.specs.Stages.{depth_at}
use Rattle.pairs.proofs.Showing.{written}
use Rattle.breaches.proofs.kept.KeptPairs.show.Given as goal

abbrev pub invariant-loop-place : goal.invariant-loop-place
invariant-loop-place l = record {
  climbs : 0 < l.place → (l.at ≤ l.initial.at) × (depth_at l.self.list.area.now l.at ≡ l.place);
  writes : written l.self.list.area.now l.depth l.place l.at l.walk ≡ written l.self.list.area.now l.depth l.initial.place l.initial.at l.initial.walk;
  rest : drop (l.depth + 1) l.walk ≡ drop (l.depth + 1) l.initial.walk;
}
