-- Stored nodes as a list of formulas in order, and how many are kept of one.
use Rattle.std.proofs.Common.{◌≡◌, ℕ, zero, suc, ◌<◌, ◌≤◌, List, length, get_or, Some, None, Option, sym, refl, ap, ◌∙◌, subst, ap₂, arith, MatchOption}
use mathlib.Core.Logic.{∥∥₁_elim, ∥∥₁_map}
use mathlib.Core.HLevel.{⊥_prop}
use native.Mathlib.Bridge.{le_prop}
use Rattle.fixed.specs.Held.{held}
use Rattle.fixed.proofs.Held.{held_fits}
use Rattle.logic.specs.Formula.{Formula, tru, next, and, or, until, release}
use Rattle.logic.specs.Labels.{kept}
use Rattle.formulas.specs.declared.node.Node.{Node}
use Rattle.formulas.specs.declared.node.Node.TheVariants.{True, False, Signal, And, Or, Next, Until, Release}
use Rattle.formulas.specs.declared.breach.BreachFormula.{BreachFormula}
use Rattle.formulas.specs.Nodes.{made_of, formula, reach, Topological}
use Rattle.formulas.specs.Keeps.{Part, Under, top, down, KeepsAt, KeptNode, root, at, Keeps}
use Rattle.formulas.specs.Marks.{ManyKept, Different}
use Rattle.formulas.proofs.Formulas.{made, formula_at}
use Rattle.formulas.proofs.Kept.{part_below}
use Rattle.formulas.proofs.Placed.{topological}
use Rattle.formulas.proofs.Differ.{many_kept, few_kept, not_many}
use Rattle.rules.specs.declared.store.Store.{Store}
use Rattle.rules.specs.Nodes.{Means, Longer}
use Rattle.rules.specs.Stored.{nodes_held}
use Rattle.rules.specs.Kept.{FewKept, BreachAt}

-- ---- their formulas

made_same : (F : ℕ → Formula) (gs : List Formula) (k : ℕ) (n : Node) → reach n ≤ k → ((a : ℕ) → a < k → F a ≡ get_or gs a tru) → made F n ≡ made_of gs n
made_same F gs k True h e = refl
made_same F gs k False h e = refl
made_same F gs k (Signal i p) h e = refl
made_same F gs k (And a b) h e = ap₂ and (e a (omega arith)) (e b (omega arith))
made_same F gs k (Or a b) h e = ap₂ or (e a (omega arith)) (e b (omega arith))
made_same F gs k (Next a) h e = ap next (e a (omega arith))
made_same F gs k (Until a b) h e = ap₂ until (e a (omega arith)) (e b (omega arith))
made_same F gs k (Release a b) h e = ap₂ release (e a (omega arith)) (e b (omega arith))

module _ (nodes : List Node) (gs : List Formula) (t : Topological nodes) (m : Means nodes gs) where
  formula_below : (b k : ℕ) → k < b → k < length nodes → formula nodes k ≡ get_or gs k tru
  formula_below zero k h c = absurd (omega arith)
  formula_below (suc b) k h c =
      formula_at nodes t k c ∙ made_same (formula nodes) gs k (get_or nodes k True) (m.before k True c) (λ a g. formula_below b a (omega arith) (omega arith)) ∙ sym (m.at k True c)

  -- a stored node is the formula that it means
  pub stored_formula : (k : ℕ) → k < length nodes → formula nodes k ≡ get_or gs k tru
  stored_formula k h = formula_below (suc k) k (omega arith) h

  stored_different : Different nodes
  stored_different i j h k e = m.differ i j h k (sym (stored_formula i (omega arith)) ∙ e ∙ stored_formula j k)

  pub over_kept : (k : ℕ) → k < length nodes → ManyKept nodes k → 32 < length (kept (get_or gs k tru))
  over_kept k h many = subst (λ (f : Formula). 32 < length (kept f)) (stored_formula k h) (many_kept nodes t stored_different k h many)

  pub within_kept : (k : ℕ) → k < length nodes → ∥ ((xs : List ℕ) × Keeps nodes k xs × (length xs ≤ 32)) ∥₁ → length (kept (get_or gs k tru)) ≤ 32
  within_kept k h few = ∥∥₁_elim few le_prop (λ x.
      let a = few_kept nodes t k h x.0 x.1 in
      subst (λ (f : Formula). length (kept f) ≤ 32) (stored_formula k h) (omega (arith, a, x.2)))

pub not_over : (nodes : List Node) (k : ℕ) → ∥ ((xs : List ℕ) × Keeps nodes k xs × (length xs ≤ 32)) ∥₁ → FewKept nodes k
not_over nodes k few many = ∥∥₁_elim few ⊥_prop (λ x. not_many nodes k x.0 x.1 x.2 many)

-- ---- the nodes of a store, and the breach formula that is made of them

pub store_topological : (s : Store) → Topological (nodes_held s)
store_topological s = topological (nodes_held s) (held_fits s.nodes) s.ordered s.signals

pub breach_at : (nodes : List Node) (k : ℕ) (r : Option BreachFormula) → Topological nodes → k < length nodes
    → (ns : List Node) → ns ≡ nodes → MatchOption r (Topological ns → k < length ns → ManyKept ns k) (λ b. (held b.nodes ≡ ns) × (b.root ≡ k)) → MatchOption r (ManyKept nodes k) (BreachAt nodes k)
breach_at nodes k r t h ns e c = made r (subst (λ (xs : List Node). MatchOption r (Topological xs → k < length xs → ManyKept xs k) (λ b. (held b.nodes ≡ xs) × (b.root ≡ k))) e c)
  where
    made : (r : Option BreachFormula) → MatchOption r (Topological nodes → k < length nodes → ManyKept nodes k) (λ b. (held b.nodes ≡ nodes) × (b.root ≡ k)) → MatchOption r (ManyKept nodes k) (BreachAt nodes k)
    made None c = c t h
    made (Some b) c = record {
      nodes_are = c.0;
      root_is = c.1;
      few = ∥∥₁_map b.keeps (λ x. (held b.kept, subst (λ (r : ℕ). Keeps nodes r (held b.kept)) c.1 (subst (λ (ns : List Node). Keeps ns b.root (held b.kept)) c.0 x), held_fits b.kept));
    }

-- ---- what is kept stays when nodes are added

module _ (xs ys : List Node) (w : Longer xs ys) (r : ℕ) (h : r < length xs) (t : Topological xs) where
  same_node : (k : ℕ) → k ≤ r → get_or ys k True ≡ get_or xs k True
  same_node k l = w.stays k True (omega arith)

  under_before : {k : ℕ} → Under ys r k → (k ≤ r) × Under xs r k
  under_before (top) = (omega arith, top)
  under_before (down {k = k} {c = c} u p) =
      let b = under_before u in
      let q = subst (λ (x : Node). Part x c) (same_node k b.0) p in
      let d = part_below k (get_or xs k True) c (t.placed k (omega (arith, b.0, h))) q in
      (omega (arith, b.0, d), down b.1 q)

  kept_before : {c : ℕ} → KeptNode ys r c → KeptNode xs r c
  kept_before (root) = root
  kept_before (at {k = k} {c = c} u p) =
      let b = under_before u in
      at b.1 (subst (λ (x : Node). KeepsAt k x c) (same_node k b.0) p)

  pub few_kept_stays : FewKept xs r → FewKept ys r
  few_kept_stays few many = few (record { number = many.number; rising = many.rising; are = λ j l. kept_before (many.are j l) })
