use Rattle.std.proofs.Common.{Some, None, arith, rules}
use Rattle.std.proofs.lemmas.Result.{err_from_is_err_and}
use Rattle.meaning.specs.Files.{signals, nothing}
use Rattle.lines.specs.Fields.{shown}
use Rattle.loading.proofs.OfPlaces.{placed_is}
use Rattle.loading.proofs.OfTaking.{names_taken, names_unfit, not_first}
use Rattle.loading.proofs.taking.take_first.Goals as goal

pub returns-in_err-open-in-Signals : goal.returns-in_err-open-in-Signals
returns-in_err-open-in-Signals c = λ r ls e.
    let p = err_from_is_err_and c.from_residual-in_err-open-in-Signals.result c.from_residual-in_err-open-in-Signals.ensures.1 in
    let t = c.in-Signals.names.now in
    rw (placed_is nothing c.args.line.now (Some (signals t)) (omega arith) (search rules), p.1, p.2) (names_unfit r t c.open.new.self ls c.in_err-open-in-Signals.field-0.0 (search rules))

pub returns-in_ok-open-in-Signals : goal.returns-in_ok-open-in-Signals
returns-in_ok-open-in-Signals c = λ r ls e.
    let t = c.in-Signals.names.now in
    let h = c.in_ok-open-in-Signals.ensures in
    rw (placed_is nothing c.args.line.now (Some (signals t)) (omega arith) (search rules)) (names_taken r t c.open.new.self ls e h.answer h.is)

pub returns-in_err-names : goal.returns-in_err-names
returns-in_err-names c = λ r ls e.
    let p = err_from_is_err_and c.from_residual.result c.from_residual.ensures.1 in
    rw (placed_is nothing c.args.line.now None (omega arith) (search rules), p.1, p.2) (search rules)

pub returns-in_default : goal.returns-in_default
returns-in_default c = λ r ls e.
    let x = c.in_ok-names.field-0 in
    rw (placed_is nothing c.args.line.now (Some (shown x)) (omega arith) (search rules)) (not_first r x c.in_default.not-Signals)
