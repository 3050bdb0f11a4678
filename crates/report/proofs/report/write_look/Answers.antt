use Rattle.std.proofs.Common.{◌≡◌, take, ◌∙◌, ap}
use Rattle.std.proofs.lemmas.List.{take_at}
use Rattle.meaning.specs.Printed.{verdict, rule_line}
use Rattle.report.specs.Said.{said_text}
use Rattle.report.proofs.Told.{verdict_told, said_of_shown, said_of_clear, said_of_fault, if_ok_on}
use Rattle.report.proofs.report.write_look.Goals as goal
use Rattle.report.proofs.report.write_look.Goals.{in-Ok-Shown, in-Ok-Clear, in-Err}

pub returns : goal.returns
returns c =
    let k = c.find_breach.auto.walk in
    let l = c.as_mut_slice-2.ensures.len in
    let m = c.in_ok-walk.ensures.len in
    let p = c.as_mut_slice.ensures.len in
    let q = c.in_ok-pairs.ensures.len in
    let same : said_text c.match-find_breach.said ≡ verdict (c.find_breach.result, c.find_breach.new.walk) =
    elim c.match-find_breach.branch [
      | in-Ok-Shown w ↦ let x = w.in-Ok-Shown.ensures.within in
          said_of_shown _ _ _ _ _ _ w.said-is w.in-Ok-Shown.is w.in-Ok-Shown.field-0-is (ap (take w.in-Ok-Shown.states) (w.deref.ensures.value ∙ take_at _ _ _ (k ∙ l))) (rw w.in-Ok-Shown.field-0-is at x)
      | in-Ok-Clear w ↦ said_of_clear _ _ _ _ _ w.said-is w.in-Ok-Clear.is w.in-Ok-Clear.field-0-is
      | in-Err w ↦ said_of_fault _ _ _ _ _ w.said-is w.number.ensures w.in-Err.is
    ] in
    let told = verdict_told c.args.chart.now c.args.table.now c.args.rule _ _ (c.find_breach.result, c.find_breach.new.walk) _ (p ∙ q) (l ∙ m) c.find_breach.ensures.led (ap (rule_line c.args.rule) same) in
    if_ok_on c.write_to.result (λ b. (rule_line c.args.rule (said_text c.match-find_breach.said), b, told)) c.write_to.ensures
