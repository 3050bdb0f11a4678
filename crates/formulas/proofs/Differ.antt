-- The kept nodes are as many as the kept formulas, where no two nodes are the same formula. Assumes nothing.
use Rattle.std.proofs.Common.{◌≡◌, ℕ, ◌<◌, ◌≤◌, ◌⊎◌, List, ◌∷◌, length, get_or, sym, ap, ◌∙◌, subst, inl, inr, arith}
use Rattle.std.proofs.lemmas.Bool.{cases_lt}
use Rattle.logic.specs.Formula.{tru, same}
use Rattle.logic.specs.Labels.{temporal, kept}
use Rattle.logic.proofs.Kept.{kept_in, once_in, of_kept, kept_once, at_place, place_of, no_twice_apart}
use Rattle.logic.proofs.Tables.{pigeonhole}
use Rattle.formulas.specs.declared.node.Node.{Node}
use Rattle.formulas.specs.Nodes.{formula, Topological}
use Rattle.formulas.specs.Keeps.{Keeps}
use Rattle.formulas.specs.Marks.{ManyKept, Different}
use Rattle.formulas.proofs.Kept.{node_kept, kept_below, kept_is_node}

-- where each number below m has a partner below n, and no two have the same, m is at most n
module _ (m n : ℕ) (Of : ℕ → ℕ → Type 0) (has : (i : ℕ) → i < m → (j : ℕ) × (j < n) × Of i j) where
  partner : (i : ℕ) → (i < m) ⊎ (m ≤ i) → ℕ
  partner i (inl l) = (has i l).0
  partner i (inr l) = 0

  partnered : (i : ℕ) (d : (i < m) ⊎ (m ≤ i)) → i < m → (partner i d < n) × Of i (partner i d)
  unfolding partner
  partnered i (inl l) h = ((has i l).1, (has i l).2)
  partnered i (inr l) h = absurd (omega arith)

  no_more : ((i j k : ℕ) → i < j → j < m → Of i k → Of j k → ⊥) → m ≤ n
  no_more apart =
      pigeonhole n m (λ i. partner i (cases_lt i m)) (λ i l. (partnered i (cases_lt i m) l).0)
      (λ i j less l e. apart i j (partner i (cases_lt i m)) less l (partnered i (cases_lt i m) (omega arith)).1
      (subst (Of j) (sym e) (partnered j (cases_lt j m) l).1))

-- kept nodes that differ are kept formulas that differ
pub many_kept : (ns : List Node) → Topological ns → Different ns → (r : ℕ) → r < length ns → ManyKept ns r → 32 < length (kept (formula ns r))
many_kept ns ordered different r l m =
    let f = formula ns r in
    omega (
      arith,
      no_more 33 (length (kept f)) (λ i j. get_or (kept f) j tru ≡ formula ns (m.number i))
          (λ i b. place_of (kept f) (formula ns (m.number i)) tru (once_in same (formula ns (m.number i)) (f ∷ temporal f) (kept_in (node_kept ns ordered r l (m.are i b)))))
          (λ i j k less b p q. different (m.number i) (m.number j) (m.rising i j less b) (kept_below ns ordered r l (m.are j b)) (sym p ∙ q)),
    )

-- each kept formula is the formula of a kept node
pub few_kept : (ns : List Node) → Topological ns → (r : ℕ) → r < length ns → (xs : List ℕ) → Keeps ns r xs → length (kept (formula ns r)) ≤ length xs
few_kept ns ordered r l xs ks =
    let f = formula ns r in
    no_more (length (kept f)) (length xs) (λ i j. formula ns (get_or xs j 0) ≡ get_or (kept f) i tru)
    (λ i b.
    let t = kept_is_node ns ordered r l (of_kept f (get_or (kept f) i tru) (at_place (kept f) i tru b)) in
    let a = ks.all t.0 t.1 in
    (a.0, a.1, ap (formula ns) a.2 ∙ t.2))
    (λ i j k less b p q. no_twice_apart (kept f) tru (kept_once f) i j less b (sym p ∙ q))

-- no more than 32 are kept where the list of the kept nodes has no more
pub not_many : (ns : List Node) (r : ℕ) (xs : List ℕ) → Keeps ns r xs → length xs ≤ 32 → ManyKept ns r → ⊥
not_many ns r xs ks small m =
    omega (
      arith,
      no_more 33 (length xs) (λ i j. get_or xs j 0 ≡ m.number i) (λ i b. ks.all (m.number i) (m.are i b))
          (λ i j k less b p q. omega (arith, p, q, m.rising i j less b)),
    )
