use Rattle.std.proofs.Common.{◌≡◌, get_or, arith}
use Rattle.std.proofs.lemmas.List.{get_or_default}
use Rattle.charting.proofs.WorklistSteps.{row_filled, goes_on_filling, ends_filling}
use Rattle.charts.proofs.worklist.fill_row.Goals as goal

pub loop-letter-preserved : goal.loop-letter-preserved
loop-letter-preserved g c =
    let i = c.loop-letter.invariant in
    let xs = c.args.list.now.area.now in
    let from = get_or xs c.args.i c.after.result in
    let is : (d : _) → from ≡ get_or xs c.args.i d = λ d. get_or_default xs c.args.i _ d (omega (arith, c.args.list.now.fits, c.requires.known)) in
    let e = c.in_ok-k.ensures in (
      goes_on_filling g.A.State.Item.alike (g.A.Automaton.leads c.args.automaton.now) g.A.Automaton.longer (g.met.A.Automaton.same c.args.automaton.now) g.met.A.Automaton.lettered
          c.args.list.now.area c.args.list.now.len c.args.next.now c.args.i c.requires.known c.requires.walks from is
          c.loop-letter.list.area c.add.new.self.area c.loop-letter.list.len c.add.new.self.len c.loop-letter.next c.loop-letter.letter (omega arith) c.after.result (λ u h. c.after.ensures from u (i.1 c.after.result) h) i.0 e.goes_on c.in_ok-k.k (omega arith) e.adds e.number,
      i.1,
    )

pub returns-in_ok-k : goal.returns-in_ok-k
returns-in_ok-k g c =
    let i = c.loop-letter.invariant in
    let xs = c.args.list.now.area.now in
    let from = get_or xs c.args.i c.after.result in
    let is : (d : _) → from ≡ get_or xs c.args.i d = λ d. get_or_default xs c.args.i _ d (omega (arith, c.args.list.now.fits, c.requires.known)) in
    let e = c.in_ok-k.ensures in
    let t = goes_on_filling g.A.State.Item.alike (g.A.Automaton.leads c.args.automaton.now) g.A.Automaton.longer (g.met.A.Automaton.same c.args.automaton.now) g.met.A.Automaton.lettered
    c.args.list.now.area c.args.list.now.len c.args.next.now c.args.i c.requires.known c.requires.walks from is
    c.loop-letter.list.area c.add.new.self.area c.loop-letter.list.len c.add.new.self.len c.loop-letter.next c.loop-letter.letter (omega arith) c.after.result (λ u h. c.after.ensures from u (i.1 c.after.result) h) i.0 e.goes_on c.in_ok-k.k (omega arith) e.adds e.number in
    record { goes_on = t.goes_on; walks = t.walks; row = row_filled t (omega arith); rest = t.rest }

pub returns-in_err-k : goal.returns-in_err-k
returns-in_err-k g c =
    let i = c.loop-letter.invariant in
    let xs = c.args.list.now.area.now in
    let from = get_or xs c.args.i c.after.result in
    let is : (d : _) → from ≡ get_or xs c.args.i d = λ d. get_or_default xs c.args.i _ d (omega (arith, c.args.list.now.fits, c.requires.known)) in
    let e = c.in_err-k.ensures in
    let t = ends_filling g.A.State.Item.alike (g.A.Automaton.leads c.args.automaton.now) g.A.Automaton.longer (g.met.A.Automaton.same c.args.automaton.now) g.met.A.Automaton.lettered
    c.args.list.now.area c.args.list.now.len c.args.next.now c.args.i c.requires.known c.requires.walks from is
    c.loop-letter.list.area c.add.new.self.area c.loop-letter.list.len c.add.new.self.len c.loop-letter.next c.loop-letter.letter (omega arith) c.after.result (λ u h. c.after.ensures from u (i.1 c.after.result) h) i.0 e.goes_on e.adds in
    record { goes_on = t.0; walks = t.1; row = λ d. rw c.from_residual.ensures (t.2 d); rest = i.0.rest }
