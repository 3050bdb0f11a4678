use Rattle.std.proofs.Common.{Some, None, rules}
use Rattle.std.proofs.lemmas.Result.{err_from_is_err_and}
use Rattle.meaning.specs.Files.{signals, rule, state, step}
use Rattle.machines.specs.Held.{held_lines, rooms_of}
use Rattle.loading.proofs.OfPlaces.{placed_is}
use Rattle.loading.proofs.OfTaking.{sheet_takes, table_takes, names_late, few_states}
use Rattle.loading.proofs.taking.take_line.Goals as goal

pub returns-in-Rule-clause-takes : goal.returns-in-Rule-clause-takes
returns-in-Rule-clause-takes c = λ k l.
    let t = c.args.table.now in
    let e = rule c.in-Rule.text.now in
    rw (placed_is k c.args.line.now (Some e) (few_states t k l.table) (search rules)) (sheet_takes (rooms_of t) k e c.take_rule.result c.take_rule.new.sheet (held_lines t) (c.take_rule.ensures (rooms_of t) k l.sheet l.table l.begun) l.table)

pub returns-in-State-clause-takes : goal.returns-in-State-clause-takes
returns-in-State-clause-takes c = λ k l.
    let t = c.args.table.now in
    let e = state c.in-State.number c.in-State.start c.in-State.letter in
    rw (placed_is k c.args.line.now (Some e) (few_states t k l.table) (search rules)) (table_takes (rooms_of t) k e c.take_state.result c.args.sheet.now (held_lines c.take_state.new.table) (c.take_state.ensures.takes k l.table l.begun) l.sheet)

pub returns-in-Step-clause-takes : goal.returns-in-Step-clause-takes
returns-in-Step-clause-takes c = λ k l.
    let t = c.args.table.now in
    let e = step c.in-Step.from c.in-Step.to in
    rw (placed_is k c.args.line.now (Some e) (few_states t k l.table) (search rules)) (table_takes (rooms_of t) k e c.take_step.result c.args.sheet.now (held_lines c.take_step.new.table) (c.take_step.ensures.takes k l.table l.begun) l.sheet)

pub returns-in-Signals-clause-takes : goal.returns-in-Signals-clause-takes
returns-in-Signals-clause-takes c = λ k l.
    let t = c.args.table.now in
    let e = signals c.in-Signals.field-0.now in
    rw (placed_is k c.args.line.now (Some e) (few_states t k l.table) (search rules)) (names_late (rooms_of t) k c.in-Signals.field-0.now l.begun)

pub returns-in_err-ok_or-clause-takes : goal.returns-in_err-ok_or-clause-takes
returns-in_err-ok_or-clause-takes c = λ k l.
    let p = err_from_is_err_and c.from_residual.result c.from_residual.ensures.1 in
    rw (placed_is k c.args.line.now None (few_states c.args.table.now k l.table) (search rules), p.1, p.2) (search rules)
