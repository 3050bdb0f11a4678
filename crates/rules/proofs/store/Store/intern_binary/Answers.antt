use Rattle.rules.proofs.OfBuilt.{two_some, two_second, two_first}
use Rattle.rules.proofs.store.Store.intern_binary.Goals as goal

pub returns-in_err-a-clause-built : goal.returns-in_err-a-clause-built
returns-in_err-a-clause-built c = rw (c.from_residual.ensures, c.in_err-a.was) (two_first _ c.args.b _)

pub returns-in_err-b-clause-built : goal.returns-in_err-b-clause-built
returns-in_err-b-clause-built c = rw (c.from_residual-in_err-b.ensures, c.in_ok-a.was, c.in_err-b.was) (two_second _ _ _)

pub returns-clause-built : goal.returns-clause-built
returns-clause-built c = rw (c.in_ok-a.was, c.in_ok-b.was) (two_some _ _ _ _ _ _ _ c.binary_node.ensures c.intern.ensures.interned)
