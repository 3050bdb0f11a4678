use Rattle.std.proofs.Common.{◌≡◌, ◌≤◌, length, Err, rules, arith}
use Rattle.logic.specs.Formula.{on}
use Rattle.meaning.specs.declared.refusals.FillingFault.TheVariants.{StandingsExceed}
use Rattle.rules.specs.Kept.{formula_of}
use Rattle.charting.specs.Breaches.{kept_of}
use Rattle.charting.specs.Labels.{Labelled}
use Rattle.charting.specs.Walks.{Charted, Overfull}
use Rattle.charting.proofs.OfBreach.{root_bit}
use Rattle.charting.proofs.SetSteps.{packs_front}
use Rattle.charting.proofs.WalkSteps.{reached_first}
use Rattle.charting.proofs.StandingEnds.{filled_once, too_many_standings, rows_closed}
use Rattle.charts.proofs.filling.fill_places.Goals as goal

pub all_standings-requires-clause-closed : goal.all_standings-requires-clause-closed
all_standings-requires-clause-closed c =
    let lab : Labelled (kept_of c.args.formula.now) c.all_labels.new.area c.in_ok-a.a c.all_labels.new.table = search rules in
    rows_closed _ _ _ _ lab (omega (arith, lab.fits, c.requires.labels.few)) (omega (arith, lab.fits, c.requires.labels.room))

pub all_standings-requires-clause-start : goal.all_standings-requires-clause-start
all_standings-requires-clause-start c =
    let lab : Labelled (kept_of c.args.formula.now) c.all_labels.new.area c.in_ok-a.a c.all_labels.new.table = search rules in
    let few : c.in_ok-a.a ≤ 512 = omega (arith, lab.fits, c.requires.labels.few) in
    let starts = packs_front (on c.root_place-place.result) 0 c.all_labels.new.area c.in_ok-a.a c.first_standing-first.result lab.fits c.first_standing-first.ensures in
    reached_first c.all_labels.new.table c.in_ok-a.a _ _ few starts

pub returns-in_err-b : goal.returns-in_err-b
returns-in_err-b c =
    let lab : Labelled (kept_of c.args.formula.now) c.all_labels.new.area c.in_ok-a.a c.all_labels.new.table = search rules in
    let few : c.in_ok-a.a ≤ 512 = omega (arith, lab.fits, c.requires.labels.few) in
    let starts = packs_front (on c.root_place-place.result) 0 c.all_labels.new.area c.in_ok-a.a c.first_standing-first.result lab.fits c.first_standing-first.ensures in
    let b = c.args.formula.now in
    let at = c.root_place-place.ensures in
    let over : Overfull c.all_labels.new.table c.in_ok-a.a c.first_standing-first.result (length c.args.standings.now) = search rules in
    let is : c.from_residual-in_err-b.result ≡ Err StandingsExceed = search rules in
    rw is (record {
      labels = c.in_ok-a.a;
      label_count = lab.count;
      labels_fit = omega (arith, lab.fits);
      more = too_many_standings (formula_of b) (kept_of b) c.root_place-place.result (root_bit b c.root_place-place.result at.within at.is)
          c.all_labels.new.area c.all_labels.new.table c.in_ok-a.a few lab c.first_standing-first.result starts (length c.args.standings.now) over;
    })

pub returns : goal.returns
returns c =
    let lab : Labelled (kept_of c.args.formula.now) c.all_labels.new.area c.in_ok-a.a c.all_labels.new.table = search rules in
    let few : c.in_ok-a.a ≤ 512 = omega (arith, lab.fits, c.requires.labels.few) in
    let starts = packs_front (on c.root_place-place.result) 0 c.all_labels.new.area c.in_ok-a.a c.first_standing-first.result lab.fits c.first_standing-first.ensures in
    let b = c.args.formula.now in
    let at = c.root_place-place.ensures in
    let ch : Charted c.all_labels.new.table c.in_ok-a.a c.first_standing-first.result c.all_standings.new.area c.in_ok-b.b c.all_standings.new.next = search rules in
    filled_once (formula_of b) (kept_of b) c.root_place-place.result (root_bit b c.root_place-place.result at.within at.is)
    c.all_labels.new.area c.all_labels.new.table c.in_ok-a.a few lab c.first_standing-first.result starts
    c.all_standings.new.area c.in_ok-b.b c.all_standings.new.next ch (omega (arith, ch.fits, c.requires.standings.room))
