use Rattle.std.proofs.Common.{◌≡◌, ℕ, ◌+◌, ◌*◌, ◌<◌, false, get_or, ap, ◌∙◌, arith, rules}
use Rattle.charting.specs.Sets.{bit_of}
use Rattle.charting.proofs.WalkSteps.{reached_step}
use Rattle.charts.proofs.standings.StandingsAutomaton.after.Goals as goal

pub returns : goal.returns
returns c =
    let s = c.args.self.now in
    λ from u told h. reached_step s.table.now s.count s.first s.closed u from c.pack.result c.args.letter (omega arith) h
    (c.pack.ensures (λ i. bit_of from (get_or s.table.now (i * 256 + c.args.letter) 0))
    (λ i r l p.
    let k = get_or s.table.now (i * 256 + c.args.letter) 0 in
    let below : k < 512 = omega (arith, s.closed.below (i * 256 + c.args.letter) (omega arith), s.closed.few) in
    let at = s.turned.at c.args.letter i (omega arith) l in
    let is : r ≡ get_or c.args.ahead.now (get_or s.columns.now (c.args.letter * 512 + i) 0) false = search rules in
    is ∙ ap (λ (j : ℕ). get_or c.args.ahead.now j false) at ∙ told.at k below))
