use Rattle.std.proofs.Common.{[]}
use mathlib.Core.Logic.{∥∥₁_map}
use Rattle.rules.proofs.OfModel.{stands_blank}
use Rattle.rules.proofs.sheet.Sheet.with_names.Goals as goal

pub invariant_of-result-clause-stands : goal.invariant_of-result-clause-stands
invariant_of-result-clause-stands c = ∥∥₁_map c.args.names.fit (λ f. (_, [], [], stands_blank _ _ _ f c.blank.ensures c.new.ensures, tt))
