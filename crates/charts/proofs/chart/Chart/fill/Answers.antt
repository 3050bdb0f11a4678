use Rattle.std.proofs.Common.{◌≡◌, ◌<◌, length, get_or, Err, rules}
use Rattle.logic.specs.Formula.{tru}
use Rattle.meaning.specs.declared.refusals.FillingFault.TheVariants.{NoRule}
use Rattle.rules.specs.Kept.{formula_of}
use Rattle.charts.proofs.LedFills.{fill_answered, left_of, fills_of}
use Rattle.charts.proofs.chart.Chart.fill.Goals as goal

pub returns-in_err-formula-clause-led : goal.returns-in_err-formula-clause-led
returns-in_err-formula-clause-led c =
    let d = c.args.self.now in
    let no : c.from_residual.result ≡ Err NoRule = search rules in
    λ h k s is led. fill_answered h k s c.args.rule c.args.sheet.now d d is c.from_residual.result (search rules) (λ ns fs st. rw no (search rules)) led

pub returns-clause-led : goal.returns-clause-led
returns-clause-led c =
    let d = c.args.self.now in
    let e = c.fill_with.new.self in
    let r = c.fill_with.result in
    let f = formula_of c.in_ok-formula.formula in
    λ h k s is led. fill_answered h k s c.args.rule c.args.sheet.now d e is r (left_of f d e r c.fill_with.ensures.left c.fill_with.ensures.filled)
    (λ ns fs st. let is : (c.args.rule < length fs) × (f ≡ get_or fs c.args.rule tru) = search rules in
    fills_of f d e fs c.args.rule is.0 is.1 r c.fill_with.ensures.filled) led
