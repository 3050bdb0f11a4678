-- Interning operators over operands that were read before.
use Rattle.std.proofs.Common.{◌≡◌, ℕ, suc, ◌<◌, ◌≤◌, max, List, length, get_or, Some, None, Option, sym, refl, ap, ◌∙◌, subst, arith}
use Rattle.logic.specs.Formula.{Formula, tru, next}
use Rattle.formulas.specs.declared.node.Node.{Node}
use Rattle.formulas.specs.declared.node.Node.TheVariants as N
use Rattle.formulas.specs.Nodes.{made_of, reach}
use Rattle.texts.specs.declared.words.Binary.{Binary}
use Rattle.texts.specs.declared.words.Binary.TheVariants.{And, Or, Implies, Until, Release}
use Rattle.texts.specs.Listed.{add, added, StandsAt}
use Rattle.texts.proofs.OfListed.{added_le, add_le, stands_after}
use Rattle.rules.specs.Nodes.{Means, Interned}
use Rattle.rules.specs.Readings.{binary_node, binary_formula, Outcome, Both}

-- ---- one operand, two operands

added_two : (op : Binary) (gs : List Formula) (f g : Formula) → added gs (binary_formula op f g) ≡ add (binary_formula op f g) (added (added gs f) g)
unfolding added
added_two And gs f g = refl
added_two Or gs f g = refl
added_two Implies gs f g = refl
added_two Until gs f g = refl
added_two Release gs f g = refl

added_next : (gs : List Formula) (f : Formula) → added gs (next f) ≡ add (next f) (added gs f)
unfolding added
added_next gs f = refl

made_of_two : (op : Binary) (hs : List Formula) (i j : ℕ) → made_of hs (binary_node op i j) ≡ binary_formula op (get_or hs i tru) (get_or hs j tru)
made_of_two And hs i j = refl
made_of_two Or hs i j = refl
made_of_two Implies hs i j = refl
made_of_two Until hs i j = refl
made_of_two Release hs i j = refl

reach_two : (op : Binary) (i j : ℕ) → reach (binary_node op i j) ≡ suc (max i j)
reach_two And i j = refl
reach_two Or i j = refl
reach_two Implies i j = refl
reach_two Until i j = refl
reach_two Release i j = refl

-- what keeping h over hs answers is what reading answers, where h is what is added last
pub interned_outcome : (gs hs : List Formula) (h : Formula) (r : Option ℕ) (nodes : List Node) → added gs h ≡ add h hs → Interned hs h r nodes → Outcome gs h r nodes
interned_outcome gs hs h (Some k) nodes e p =
    (subst (λ (x : List Formula). Means nodes x) (sym e) p.0, subst (λ (x : List Formula). StandsAt x h k) (sym e) p.1)
interned_outcome gs hs h None nodes e p = ((hs, p.0), subst (λ (x : List Formula). 256 < length x) (sym e) p.1)

abbrev pub Interning : List Node → Node → Option ℕ → List Node → Type 0
Interning nodes node r nodes' = (gs : List Formula) → Means nodes gs → reach node ≤ length nodes → Interned gs (made_of gs node) r nodes'

pub next_some : (nodes : List Node) (i : ℕ) (r : Option ℕ) (nodes' : List Node) → Interning nodes (N.Next i) r nodes'
    → (gs : List Formula) (f : Formula) → Outcome gs f (Some i) nodes → Outcome gs (next f) r nodes'
next_some nodes i r nodes' k gs f o =
    let s = o.0.size in
    let q = k (added gs f) o.0 (omega (arith, o.1.0)) in
    interned_outcome gs (added gs f) (next f) r nodes' (added_next gs f) (subst (λ (x : Formula). Interned (added gs f) (next x) r nodes') o.1.1 q)

pub next_none : (nodes : List Node) (gs : List Formula) (f : Formula) → Outcome gs f None nodes → Outcome gs (next f) None nodes
next_none nodes gs f o =
    let l = add_le (next f) (added gs f) in
    (o.0, subst (λ (x : List Formula). 256 < length x) (sym (added_next gs f)) (omega (arith, o.1)))

pub two_some : (nodes : List Node) (i j : ℕ) (op : Binary) (node : Node) (r : Option ℕ) (nodes' : List Node) → node ≡ binary_node op i j → Interning nodes node r nodes'
    → (gs : List Formula) (f g : Formula) → Both gs f g (Some i) (Some j) nodes → Outcome gs (binary_formula op f g) r nodes'
two_some nodes i j op node r nodes' n k gs f g b =
    let hs = added (added gs f) g in
    let s = b.1.0.size in
    let a = stands_after f g (added gs f) i b.0 in
    let t = ap reach n ∙ reach_two op i j in
    let q = k hs b.1.0 (omega (arith, a.0, b.1.1.0)) in
    let e : made_of hs node ≡ binary_formula op f g = ap (made_of hs) n ∙ made_of_two op hs i j ∙ ap (λ (x : Formula). binary_formula op x (get_or hs j tru)) a.1 ∙ ap (binary_formula op f) b.1.1.1 in
    interned_outcome gs hs (binary_formula op f g) r nodes' (added_two op gs f g) (subst (λ (x : Formula). Interned hs x r nodes') e q)

pub two_second : (nodes : List Node) (i : ℕ) (op : Binary) (gs : List Formula) (f g : Formula) → Both gs f g (Some i) None nodes → Outcome gs (binary_formula op f g) None nodes
two_second nodes i op gs f g b =
    let l = add_le (binary_formula op f g) (added (added gs f) g) in
    (b.1.0, subst (λ (x : List Formula). 256 < length x) (sym (added_two op gs f g)) (omega (arith, b.1.1)))

pub two_first : (nodes : List Node) (j : Option ℕ) (op : Binary) (gs : List Formula) (f g : Formula) → Both gs f g None j nodes → Outcome gs (binary_formula op f g) None nodes
two_first nodes j op gs f g b =
    let l = add_le (binary_formula op f g) (added (added gs f) g) in
    let m = added_le g (added gs f) in
    (b.0, subst (λ (x : List Formula). 256 < length x) (sym (added_two op gs f g)) (omega (arith, b.1)))
