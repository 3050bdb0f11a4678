use Rattle.std.proofs.Common.{◌+◌, sym, subst, string_bytes, ◌∙◌, arith}
use Rattle.report.specs.Reported.{RulesLed}
use Rattle.report.proofs.Told.{rules_told, refused_file_told, loaded_file_told, rooms_are, if_ok_then}
use Rattle.report.proofs.report.report_short.Goals as goal

pub returns-in-Err : goal.returns-in-Err
returns-in-Err c =
    let rooms = c.new-table.ensures.rooms ∙ rooms_are _ _ (c.as_mut_slice.ensures.len ∙ c.in_ok-states.ensures.len) (c.as_mut_slice-2.ensures.len ∙ c.in_ok-steps.ensures.len) in
    if_ok_then c.fault_line.result (λ s e. refused_file_told c.args.file.now _ c.load.result c.in-Err.fault (string_bytes s) rooms c.load.ensures.answer c.in-Err.is e) c.fault_line.ensures

pub loop-rule-init : goal.loop-rule-init
loop-rule-init c = λ h f. c.new-text.ensures.bytes

pub loop-rule-preserved : goal.loop-rule-preserved
loop-rule-preserved c =
    let g = c.in_ok-write_rule.ensures in
    subst (λ t. RulesLed c.load.new.sheet c.load.new.table (c.loop-rule.rule + 1) t) (sym g.1) (rules_told _ _ c.loop-rule.rule _ g.0 c.loop-rule.invariant g.2)

pub returns : goal.returns
returns c =
    let rooms = c.new-table.ensures.rooms ∙ rooms_are _ _ (c.as_mut_slice.ensures.len ∙ c.in_ok-states.ensures.len) (c.as_mut_slice-2.ensures.len ∙ c.in_ok-steps.ensures.len) in
    loaded_file_told c.args.file.now _ c.load.result c.in_default.field-0 c.load.new.sheet c.load.new.table c.rule_count-rule-end.result c.loop-rule.rule _ rooms c.load.ensures.answer c.in_default.is c.load.ensures.led c.rule_count-rule-end.ensures.entered (omega arith) c.loop-rule.invariant
