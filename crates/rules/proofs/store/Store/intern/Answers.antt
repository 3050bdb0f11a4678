use Rattle.std.proofs.Common.{◌<◌, ◌≤◌, arith, rules}
use Rattle.formulas.specs.Nodes.{reach, signal_of}
use Rattle.rules.specs.Stored.{nodes_held}
use Rattle.fixed.specs.Held.{held}
use Rattle.rules.proofs.OfNodes.{intern_old, intern_full, intern_new, Pushed, pushed, each_pushed}
use Rattle.rules.proofs.store.Store.intern.Goals as goal

pub returns-in-Some-clause-interned : goal.returns-in-Some-clause-interned
returns-in-Some-clause-interned c = λ gs m r. intern_old _ gs _ _ m (search rules)

pub returns-in_err-place-clause-interned : goal.returns-in_err-place-clause-interned
returns-in_err-place-clause-interned c = rw (c.from_residual.ensures, c.in_err-place.ensures.1) (λ gs m r. intern_full _ gs _ m r (search rules) (omega (arith, c.in_err-place.ensures.0)))

pub returns-clause-interned : goal.returns-clause-interned
returns-clause-interned c = let e = c.in_ok-place.ensures in rw (e.0, e.2) (λ gs m r. intern_new _ gs _ m r (search rules))

pub invariant_of-self : goal.invariant_of-self
invariant_of-self c =
    let p : Pushed (nodes_held c.args.self.now) (held c.push.new.self) c.args.node = pushed _ _ _ _ c.push.ensures in
    record { ordered = each_pushed (λ i n. reach n ≤ i) p c.args.self.now.ordered c.requires.before; signals = each_pushed (λ i n. signal_of n < 8) p c.args.self.now.signals c.requires.signal }
