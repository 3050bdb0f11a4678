use Rattle.std.proofs.Common.{◌+◌, ◌*◌, not, sym, ap, ◌∙◌}
use Rattle.std.specs.Bool.{beq}
use Rattle.logic.specs.Formula.{on}
use Rattle.formulas.proofs.Words.{on_not, as_true, as_false}
use Rattle.formulas.proofs.labels.wanted_word.Goals as goal

pub returns-then-wanted : goal.returns-then-wanted
returns-then-wanted c = λ b l.
    let s = on c.args.index (c.args.group * 64 + b) in
    c.signal_word-word.ensures b l ∙ sym (as_true s) ∙ ap (beq s) (sym c.if-wanted.true)

pub returns-else-wanted : goal.returns-else-wanted
returns-else-wanted c = λ b l.
    let s = on c.args.index (c.args.group * 64 + b) in
    on_not b c.signal_word-word.result c.signal_word-word.type_inv l ∙ ap not (c.signal_word-word.ensures b l) ∙ sym (as_false s) ∙ ap (beq s) (sym c.if-wanted.false)
