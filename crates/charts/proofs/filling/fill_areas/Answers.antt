use Rattle.std.proofs.Common.{◌≡◌, length, take, arith, length-take}
use Rattle.meaning.specs.Charts.{label_room, standing_room}
use Rattle.charting.specs.Filled.{areas_of}
use Rattle.charting.proofs.RoomEnds.{in_rooms}
use Rattle.charts.proofs.filling.fill_areas.Goals as goal

pub returns : goal.returns
returns c =
    let areas = areas_of c.args.labels.now c.args.standings.now c.args.next.now in
    let l : length (take (c.min-label_places.result) c.args.labels.now) ≡ label_room areas =
    simp length-take (omega (arith, c.min-label_places.ensures)) in
    let s : length (take (c.min-places.result) c.args.standings.now) ≡ standing_room areas =
    simp length-take (omega (arith, c.min-places.ensures, c.min.ensures)) in
    in_rooms c.args.formula.now areas _ _ l s c.fill_places.new.labels _ c.fill_places.new.standings _ c.fill_places.new.next
    c.fill_places.auto.labels c.fill_places.auto.standings c.fill_places.result c.fill_places.ensures
