-- The formula and the kept formulas of a breach formula that is made of nodes. Assumes nothing.
use Rattle.std.proofs.Common.{◌≡◌, ℕ, ◌<◌, ◌≤◌, List, length, get_or, ap, ◌∙◌, arith}
use mathlib.Core.Logic.{∥∥₁_elim, ∥∥₁_prop}
use Rattle.std.proofs.lemmas.List.{length-map}
use Rattle.logic.specs.Formula.{on}
use Rattle.logic.specs.Sat.{sat}
use Rattle.logic.specs.Labels.{ListsKept, label}
use Rattle.logic.specs.Masks.{mask}
use Rattle.fixed.specs.Held.{held}
use Rattle.fixed.proofs.Held.{held_fits}
use Rattle.formulas.specs.Nodes.{formula}
use Rattle.formulas.specs.declared.breach.BreachFormula.{BreachFormula}
use Rattle.formulas.proofs.Kept.{lists_kept}
use Rattle.formulas.proofs.Placed.{topological}
use Rattle.formulas.proofs.Steps.{label_bit}
use Rattle.rules.specs.Kept.{formula_of}
use Rattle.charting.specs.Breaches.{kept_of}

module _ (b : BreachFormula) where
  pub few_kept : length (kept_of b) ≤ 32
  few_kept = omega (arith, length-map (held b.kept) (formula (held b.nodes)), held_fits b.kept)

  pub kept_listed : ListsKept (formula_of b) (kept_of b)
  kept_listed g =
      let ns = held b.nodes in
      let is = lists_kept ns (topological ns (held_fits b.nodes) b.ordered b.signals) b.root b.rooted (held b.kept) in
      (λ m. ∥∥₁_elim b.keeps ∥∥₁_prop (λ k. (is k g).0 m), λ m. ∥∥₁_elim b.keeps ∥∥₁_prop (λ k. (is k g).1 m))

  -- the bit of the formula itself in a label
  pub root_bit : (j : ℕ) → j < length (held b.kept) → get_or (held b.kept) j 0 ≡ b.root → (w : List ℕ) → on j (mask (label (kept_of b) w)) ≡ sat (formula_of b) w
  root_bit j l e w = label_bit (held b.nodes) (held b.kept) w j l ∙ ap (λ (k : ℕ). sat (formula (held b.nodes) k) w) e
