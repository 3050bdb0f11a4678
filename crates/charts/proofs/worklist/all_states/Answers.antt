use Rattle.std.proofs.Common.{◌<◌, ◌∙◌, arith, rules}
use Rattle.charting.specs.Worklists.{Complete}
use Rattle.charting.proofs.Growth.{goes_on_trans}
use Rattle.charting.proofs.WorklistSteps.{rows_more, rows_filled, overflows, complete}
use Rattle.charts.proofs.worklist.all_states.Goals as goal

pub loop-done-preserved : goal.loop-done-preserved
loop-done-preserved g c =
    let i = c.loop-done.invariant in
    let e = c.in_ok-fill_row.ensures in
    let known : c.loop-done.done < c.loop-done.list.len = omega arith in (
      goes_on_trans i.0 e.goes_on,
      e.walks,
      (λ d. rows_more g.A.State.Item.alike d (g.A.Automaton.leads c.args.automaton.now) g.A.Automaton.longer c.loop-done.next c.fill_row.new.next c.loop-done.done e.goes_on.grows known e.rest
          (e.row d) (i.2 d)),
      omega (arith, e.goes_on.grows.more),
    )

pub returns-in_err-fill_row : goal.returns-in_err-fill_row
returns-in_err-fill_row g c = λ d.
    let e = c.in_ok-add.ensures in
    let f = c.in_err-fill_row.ensures in
    let t = overflows g.A.State.Item.alike (g.A.Automaton.leads c.args.automaton.now) g.A.Automaton.longer c.new-list.result.area c.add.new.self.area c.new-list.result.len c.add.new.self.len
    c.new-list.ensures.len c.first.result c.first.ensures c.in_ok-add.field-0 e.adds e.goes_on c.fill_row.new.list.area c.fill_row.new.list.len
    (goes_on_trans c.loop-done.invariant.0 f.goes_on) d (f.walks d) (f.row d) in
    rw c.from_residual-in_err-fill_row.ensures (rw (← c.new-list.ensures.area) t)

pub returns : goal.returns
returns g c = λ d.
    let e = c.in_ok-add.ensures in
    let i = c.loop-done.invariant in
    let t : Complete g.A.State.Item.alike d (g.A.Automaton.leads c.args.automaton.now) g.A.Automaton.longer c.loop-done.list.area.now c.loop-done.list.len c.loop-done.next =
    complete g.A.State.Item.alike (g.A.Automaton.leads c.args.automaton.now) g.A.Automaton.longer c.new-list.result.area c.add.new.self.area c.new-list.result.len c.add.new.self.len
    c.new-list.ensures.len c.first.result c.first.ensures c.in_ok-add.field-0 e.adds e.goes_on c.loop-done.list.area c.loop-done.list.len i.0 d (i.1 d)
    c.loop-done.next c.loop-done.list.fits (rows_filled (i.2 d) (omega arith)) in
    let q = i.0.lent ∙ e.goes_on.lent ∙ c.new-list.ensures.lent in
    search rules
