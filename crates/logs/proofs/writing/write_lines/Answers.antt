use Rattle.std.proofs.Common.{◌++◌, [], take, get_or, None, ap, sym, ◌∙◌}
use Rattle.std.proofs.lemmas.List.{take_all, take_more, flat_map_more}
use Rattle.logs.specs.Written.{written, answer_line}
use Rattle.logs.proofs.writing.write_lines.Goals as goal

pub loop-number-preserved : goal.loop-number-preserved
loop-number-preserved c =
    let f = answer_line c.args.answers.now in
    let ks = c.args.numbers.now in
    let i = c.loop-number.number-index in
    let k = get_or ks i None in
    c.in_ok-write_line.ensures ∙ (ap (λ t. t ++ f k) c.loop-number.invariant ∙ (flat_map_more f [] (take i ks) k ∙ ap (written c.args.answers.now) (sym (take_more ks i None c.loop-number-test.true))))

pub returns : goal.returns
returns c = c.loop-number.invariant ∙ ap (written c.args.answers.now) (take_all c.loop-number.number-index c.args.numbers.now c.loop-number-test.false)
