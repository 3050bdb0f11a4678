-- The formula of each node. Assumes nothing.
use Rattle.std.proofs.Common.{◌≡◌, ℕ, zero, suc, ◌+◌, ◌<◌, List, [], ◌∷◌, ◌++◌, length, get_or, sym, refl, ap, ◌∙◌, subst, ap₂, arith, length-append}
use Rattle.std.proofs.Math.Seq.{get_or-append_seam}
use Rattle.std.proofs.lemmas.List.{get_or_append_left}
use Rattle.logic.specs.Formula.{Formula, tru, fls, lit, and, or, next, until, release}
use Rattle.formulas.specs.declared.node.Node.{Node}
use Rattle.formulas.specs.declared.node.Node.TheVariants.{True, False, Signal, And, Or, Next, Until, Release}
use Rattle.formulas.specs.Nodes.{made_of, grown, formulas, formula, Placed, Topological}

-- what is there stays
pub grown_front : (fs : List Formula) (ns : List Node) (k : ℕ) → k < length fs → get_or (grown fs ns) k tru ≡ get_or fs k tru
unfolding grown
grown_front fs [] k l = refl
grown_front fs (n ∷ ns) k l =
    grown_front (fs ++ (made_of fs n ∷ [])) ns k (simp length-append (omega arith))
    ∙ get_or_append_left fs (made_of fs n ∷ []) tru k l

-- a node is made of what stands before it
same_made : (fs gs : List Formula) (n : Node) (k : ℕ) → Placed k n → ((j : ℕ) → j < k → get_or gs j tru ≡ get_or fs j tru) → made_of gs n ≡ made_of fs n
same_made fs gs (And a b) k p h = ap₂ and (h a p.0) (h b p.1)
same_made fs gs (Or a b) k p h = ap₂ or (h a p.0) (h b p.1)
same_made fs gs (Next a) k p h = ap next (h a p)
same_made fs gs (Until a b) k p h = ap₂ until (h a p.0) (h b p.1)
same_made fs gs (Release a b) k p h = ap₂ release (h a p.0) (h b p.1)
same_made fs gs _ k p h = refl

grown_at : (fs : List Formula) (ns : List Node) → ((k : ℕ) → k < length ns → Placed (length fs + k) (get_or ns k True))
    → (k : ℕ) → k < length ns → get_or (grown fs ns) (length fs + k) tru ≡ made_of (grown fs ns) (get_or ns k True)
unfolding grown
grown_at fs [] placed k l = absurd (omega arith)
grown_at fs (n ∷ ns) placed zero l =
    let gs = fs ++ (made_of fs n ∷ []) in
    let z : length fs + 0 ≡ length fs = omega arith in
    let s : length fs < length gs = simp length-append (omega arith) in
    ap (λ j. get_or (grown gs ns) j tru) z
    ∙ grown_front gs ns (length fs) s ∙ get_or-append_seam fs (made_of fs n) [] tru
    ∙ sym (same_made fs (grown gs ns) n (length fs) (subst (λ (j : ℕ). Placed j n) z (placed 0 l))
    (λ j h. grown_front gs ns j (omega arith) ∙ get_or_append_left fs (made_of fs n ∷ []) tru j h))
grown_at fs (n ∷ ns) placed (suc k) l =
    let gs = fs ++ (made_of fs n ∷ []) in
    let e : length gs ≡ length fs + 1 = simp length-append in
    let q : (j : ℕ) → length gs + j ≡ length fs + suc j = λ j. omega arith in
    ap (λ (j : ℕ). get_or (grown gs ns) j tru) (sym (q k))
    ∙ grown_at gs ns (λ j h. subst (λ (i : ℕ). Placed i (get_or ns j True)) (sym (q j)) (placed (suc j) (omega arith))) k (omega arith)

-- the formula of a node, from the formulas of its parts
abbrev pub made : (ℕ → Formula) → Node → Formula
made F True = tru
made F False = fls
made F (Signal i p) = lit i p
made F (And a b) = and (F a) (F b)
made F (Or a b) = or (F a) (F b)
made F (Next a) = next (F a)
made F (Until a b) = until (F a) (F b)
made F (Release a b) = release (F a) (F b)

made_is : (ns : List Node) (n : Node) → made_of (formulas ns) n ≡ made (formula ns) n
unfolding formula
made_is ns (Next a) = refl
made_is ns _ = refl

pub formula_at : (ns : List Node) → Topological ns → (k : ℕ) → k < length ns → formula ns k ≡ made (formula ns) (get_or ns k True)
unfolding formula formulas
formula_at ns ordered k l =
    let z : (j : ℕ) → 0 + j ≡ j = λ j. omega arith in
    ap (λ (j : ℕ). get_or (grown [] ns) j tru) (sym (z k))
    ∙ grown_at [] ns (λ j h. subst (λ (i : ℕ). Placed i (get_or ns j True)) (sym (z j)) (ordered.placed j h)) k l
    ∙ made_is ns (get_or ns k True)
