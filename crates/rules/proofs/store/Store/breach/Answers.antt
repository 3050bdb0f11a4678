use Rattle.rules.proofs.OfKept.{store_topological, breach_at}
use Rattle.rules.proofs.store.Store.breach.Goals as goal

pub returns : goal.returns
returns c = breach_at _ c.args.root c.of.result (store_topological c.args.self.now) c.requires _ c.as_slice.ensures.items c.of.ensures
