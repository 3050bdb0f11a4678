-- Two nodes are the same exactly where they are equal. Assumes nothing.
use Rattle.std.proofs.Common.{◌≡◌, ℕ, Bool, true, false, ◌&&◌, eqb, sym, refl, ap, ◌∙◌}
use mathlib.Core.Bool.{false≢true, beq}
use mathlib.Core.Path.{ap₂}
use Rattle.std.specs.Bool.{Decides}
use Rattle.std.specs.Cmp.{IsPartialEquivalence}
use Rattle.std.proofs.lemmas.Bool.{and_parts, and_from, eqb-true, eq-eqb}
use Rattle.formulas.specs.declared.node.Node.{Node}
use Rattle.formulas.specs.declared.node.Node.TheVariants.{True, False, Signal, And, Or, Next, Until, Release}
use Rattle.formulas.specs.Same.{same_node}

both : {A : Type 0} (make : ℕ → ℕ → A) (a b c d : ℕ) → (eqb a c && eqb b d) ≡ true → make a b ≡ make c d
both make a b c d e = let p = and_parts (eqb a c) (eqb b d) e in ap₂ make (eqb-true a c p.0) (eqb-true b d p.1)

also : (a b c d : ℕ) → a ≡ c → b ≡ d → (eqb a c && eqb b d) ≡ true
also a b c d e f = and_from (eqb a c) (eqb b d) (eq-eqb a c e) (eq-eqb b d f)

alike : (p q : Bool) → beq p q ≡ true → p ≡ q
alike true true e = refl
alike true false e = absurd (false≢true e)
alike false true e = absurd (false≢true e)
alike false false e = refl

as_itself : (p : Bool) → beq p p ≡ true
as_itself true = refl
as_itself false = refl

-- a node is the same as itself
pub same_node_reflexive : (x : Node) → same_node x x ≡ true
same_node_reflexive True = refl
same_node_reflexive False = refl
same_node_reflexive (Signal i p) = and_from (eqb i i) (beq p p) (eq-eqb i i refl) (as_itself p)
same_node_reflexive (And a b) = also a b a b refl refl
same_node_reflexive (Or a b) = also a b a b refl refl
same_node_reflexive (Next a) = eq-eqb a a refl
same_node_reflexive (Until a b) = also a b a b refl refl
same_node_reflexive (Release a b) = also a b a b refl refl

-- nodes that are the same are equal
pub same_nodes_are_equal : (x y : Node) → same_node x y ≡ true → x ≡ y
same_nodes_are_equal True True e = refl
same_nodes_are_equal False False e = refl
same_nodes_are_equal (Signal i p) (Signal j q) e = let h = and_parts (eqb i j) (beq p q) e in ap₂ (λ n b. Signal n b) (eqb-true i j h.0) (alike p q h.1)
same_nodes_are_equal (And a b) (And c d) e = both (λ m n. And m n) a b c d e
same_nodes_are_equal (Or a b) (Or c d) e = both (λ m n. Or m n) a b c d e
same_nodes_are_equal (Next a) (Next c) e = ap (λ n. Next n) (eqb-true a c e)
same_nodes_are_equal (Until a b) (Until c d) e = both (λ m n. Until m n) a b c d e
same_nodes_are_equal (Release a b) (Release c d) e = both (λ m n. Release m n) a b c d e
same_nodes_are_equal _ _ e = absurd (false≢true e)

-- being the same decides equality
pub same_node_decides : (x y : Node) → Decides (same_node x y) (x ≡ y)
same_node_decides x y = (same_nodes_are_equal x y, λ e. ap (same_node x) (sym e) ∙ same_node_reflexive x)

either : (b c : Bool) → (b ≡ true → c ≡ true) → (c ≡ true → b ≡ true) → b ≡ c
either true c f g = sym (f refl)
either false true f g = g refl
either false false f g = refl

-- so it is symmetric and transitive, as a derived equality has to be
pub same_node_laws : IsPartialEquivalence same_node
same_node_laws = record {
  symm = λ x y.
      either (same_node x y) (same_node y x)
      (λ e. (same_node_decides y x).1 (sym (same_nodes_are_equal x y e)))
      (λ e. (same_node_decides x y).1 (sym (same_nodes_are_equal y x e)));
  trans = λ x y z e f. (same_node_decides x z).1 (same_nodes_are_equal x y e ∙ same_nodes_are_equal y z f);
}
