use Rattle.rules.proofs.OfBuilt.{next_some, next_none}
use Rattle.rules.proofs.store.Store.intern_next.Goals as goal

pub returns-in_err-a-clause-built : goal.returns-in_err-a-clause-built
returns-in_err-a-clause-built c = rw (c.from_residual.ensures, c.in_err-a.was) (next_none _)

pub returns-clause-built : goal.returns-clause-built
returns-clause-built c = rw c.in_ok-a.was (next_some _ _ _ _ c.intern.ensures.interned)
