use Rattle.std.proofs.Common.{◌≡◌, ℕ, ◌<◌, List, length, get_or, Some, None, Option, IsSome, MatchOption, refl}
use mathlib.Core.HLevel.{⊥_prop}
use mathlib.Core.Logic.{∥∥₁_elim}
use Rattle.fixed.specs.Held.{held}
use Rattle.formulas.specs.declared.node.Node.{Node}
use Rattle.formulas.specs.Keeps.{Keeps, root}
use Rattle.formulas.proofs.breach.BreachFormula.root_place.Goals as goal

-- the root is among the kept numbers
root_found : (ns : List Node) (r : ℕ) (xs : List ℕ) → ∥ Keeps ns r xs ∥₁ → (o : Option ℕ)
    → MatchOption o ((j : ℕ) → j < length xs → get_or xs j 0 ≡ r → ⊥) (λ j. (j < length xs) × (get_or xs j 0 ≡ r)) → IsSome o
root_found ns r xs keeps (Some j) m = refl
root_found ns r xs keeps None m = absurd (∥∥₁_elim keeps ⊥_prop (λ k. let t = k.all r root in m t.0 t.1 t.2))

pub unwrap-requires : goal.unwrap-requires
unwrap-requires c =
    let s = c.args.self.now in
    root_found (held s.nodes) s.root (held s.kept) s.keeps c.place_in.result (rw c.as_slice.ensures.items at c.place_in.ensures)
