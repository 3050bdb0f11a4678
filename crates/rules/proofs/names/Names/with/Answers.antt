use Rattle.std.proofs.Common.{◌<◌, length, sym, subst, arith}
use mathlib.Core.Logic.{∥∥₁_map}
use Rattle.texts.specs.Fit.{Fit}
use Rattle.texts.proofs.OfOpening.{fit_unnamed}
use Rattle.fixed.specs.Held.{held}
use Rattle.rules.proofs.OfOpening.{joined_names, placed_twice}
use Rattle.rules.proofs.names.Names.with.Goals as goal

pub returns-in_err-name : goal.returns-in_err-name
returns-in_err-name c = rw c.from_residual.ensures (λ f. fit_unnamed _ _ c.in_err-name.ensures)

pub returns-then-is_some : goal.returns-then-is_some
returns-then-is_some c = λ f. placed_twice _ _ c.place.result c.if-is_some.ensures c.place.ensures

pub returns : goal.returns
returns c =
    let q = c.in_ok-push.ensures in
    let h : length (held c.args.self.now.list) < 8 = omega (arith, q.0, q.1) in
    joined_names c.args.self.now (held c.push.new.self) _ _ h c.in_ok-name.ensures c.place.result c.if-is_some.ensures c.place.ensures q.2

pub invariant_of-result : goal.invariant_of-result
invariant_of-result c =
    let q = c.in_ok-push.ensures in
    let h : length (held c.args.self.now.list) < 8 = omega (arith, q.0, q.1) in
    record { fit = ∥∥₁_map c.args.self.now.fit (λ f. let j = joined_names c.args.self.now (held c.push.new.self) _ _ h c.in_ok-name.ensures c.place.result c.if-is_some.ensures c.place.ensures q.2 f in subst Fit (sym j.0) j.1) }
