use Rattle.std.proofs.Common.{[]}
use Rattle.texts.proofs.OfOpening.{fit_none}
use Rattle.rules.specs.Model.{Stands}
use Rattle.rules.proofs.OfStands.{by_parts}
use Rattle.rules.proofs.OfLed.{untouched_led}
use Rattle.rules.proofs.sheet.Sheet.new.Goals as goal

pub returns-clause-led : goal.returns-clause-led
returns-clause-led c =
    let st : Stands c.with_names.result [] [] = c.with_names.ensures [] c.none.ensures fit_none in
    untouched_led c.with_names.result (by_parts c.with_names.result [] [] st)
