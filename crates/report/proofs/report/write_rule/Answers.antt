use Rattle.std.proofs.Common.{ℕ, length, codes, ap, ◌++◌, ◌∙◌}
use Rattle.meaning.specs.Printed.{rule_line, field}
use Rattle.report.proofs.Told.{refused_told, rule_told, on_ok_then, if_ok_on, areas_are}
use Rattle.report.proofs.report.write_rule.Goals as goal

pub returns-in-Ok : goal.returns-in-Ok
returns-in-Ok c =
    let a = c.new-chart.ensures.areas in
    let areas = areas_are _ _ _
    (ap length a.0 ∙ c.as_mut_slice.ensures.len ∙ c.in_ok-labels.ensures.len)
    (ap length a.1 ∙ c.as_mut_slice-2.ensures.len ∙ c.in_ok-standings.ensures.len)
    (ap length a.2 ∙ c.as_mut_slice-3.ensures.len ∙ c.in_ok-next.ensures.len) in
    on_ok_then c.write_look.result
    (λ g. (g.0, g.1, rule_told c.args.sheet.now c.args.table.now c.new-chart.result c.fill.new.self c.args.rule _ c.fill.result c.in-Ok.field-0 g.0 areas c.new-chart.ensures.led c.fill.ensures.led c.in-Ok.is g.2))
    c.write_look.ensures

pub returns : goal.returns
returns c =
    let a = c.new-chart.ensures.areas in
    let areas = areas_are _ _ _
    (ap length a.0 ∙ c.as_mut_slice.ensures.len ∙ c.in_ok-labels.ensures.len)
    (ap length a.1 ∙ c.as_mut_slice-2.ensures.len ∙ c.in_ok-standings.ensures.len)
    (ap length a.2 ∙ c.as_mut_slice-3.ensures.len ∙ c.in_ok-next.ensures.len) in
    let line = λ (n : ℕ). rule_line c.args.rule (codes ",refused" ++ field n) in
    if_ok_on c.write_to.result
    (λ b. (line c.number.result, b, refused_told c.args.sheet.now c.args.table.now c.new-chart.result c.fill.new.self c.args.rule _ c.fill.result c.in-Err.fault _ areas c.new-chart.ensures.led c.fill.ensures.led c.in-Err.is (ap line c.number.ensures)))
    c.write_to.ensures
