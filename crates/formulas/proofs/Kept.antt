-- The kept nodes are the kept formulas of the root's formula. Assumes nothing.
use Rattle.std.proofs.Common.{◌≡◌, ℕ, zero, suc, ◌+◌, ◌<◌, ◌≤◌, List, [], ◌∷◌, map, length, get_or, sym, refl, ap, ◌∙◌, subst, inl, inr, ⊎_elim, arith}
use mathlib.Core.Logic.{∥∥₁_map}
use mathlib.Core.List.Memᴰ
use mathlib.Core.List.{Memᴰ}
use Rattle.logic.specs.Formula.{Formula, next, until, release, Sub}
use Rattle.logic.specs.Formula as F
use Rattle.logic.specs.Labels.{Kept, whole, a_next, an_until, a_release, an_operand, ListsKept}
use Rattle.logic.proofs.Subs.{sub_trans, split, Proper}
use Rattle.formulas.specs.declared.node.Node.{Node}
use Rattle.formulas.specs.declared.node.Node.TheVariants.{True, False, Signal, And, Or, Next, Until, Release}
use Rattle.formulas.specs.Nodes.{formula, Placed, Topological}
use Rattle.formulas.specs.Keeps.{Part, Under, top, down, KeepsAt, KeptNode, root, at, Keeps, kept_formulas}
use Rattle.formulas.proofs.Formulas.{made, formula_at}

pub part_below : (k : ℕ) (n : Node) (c : ℕ) → Placed k n → Part n c → c < k
part_below k True c p q = absurd q
part_below k False c p q = absurd q
part_below k (Signal i b) c p q = absurd q
part_below k (And a b) c p (inr e) = omega arith
part_below k (Or a b) c p (inr e) = omega arith
part_below k (Next a) c p e = omega arith
part_below k (Until a b) c p (inr e) = omega arith
part_below k (Release a b) c p (inr e) = omega arith
part_below k _ c p (inl e) = omega arith

pub keeps_part : (k : ℕ) (n : Node) (c : ℕ) → Placed k n → KeepsAt k n c → c ≤ k
keeps_part k (Next a) c p (inl e) = omega arith
keeps_part k (Next a) c p (inr e) = omega arith
keeps_part k (Until a b) c p e = omega arith
keeps_part k (Release a b) c p e = omega arith
keeps_part k _ c p q = absurd q

module _ (G : ℕ → Formula) where
  -- a part's formula is a part of the formula
  part_sub : (n : Node) (c : ℕ) → Part n c → Sub (G c) (made G n)
  part_sub (And a b) c (inl e) = F.and_left (subst (λ (x : ℕ). Sub (G c) (G x)) e F.itself)
  part_sub (And a b) c (inr e) = F.and_right (subst (λ (x : ℕ). Sub (G c) (G x)) e F.itself)
  part_sub (Or a b) c (inl e) = F.or_left (subst (λ (x : ℕ). Sub (G c) (G x)) e F.itself)
  part_sub (Or a b) c (inr e) = F.or_right (subst (λ (x : ℕ). Sub (G c) (G x)) e F.itself)
  part_sub (Next a) c e = F.next_of (subst (λ (x : ℕ). Sub (G c) (G x)) e F.itself)
  part_sub (Until a b) c (inl e) = F.until_left (subst (λ (x : ℕ). Sub (G c) (G x)) e F.itself)
  part_sub (Until a b) c (inr e) = F.until_right (subst (λ (x : ℕ). Sub (G c) (G x)) e F.itself)
  part_sub (Release a b) c (inl e) = F.release_left (subst (λ (x : ℕ). Sub (G c) (G x)) e F.itself)
  part_sub (Release a b) c (inr e) = F.release_right (subst (λ (x : ℕ). Sub (G c) (G x)) e F.itself)
  part_sub _ c q = absurd q

  -- and a proper subformula is one of a part's formula
  of_parts : {X : Type 0} (g : Formula) (n : Node) → ((c : ℕ) → Part n c → Sub g (G c) → X) → Proper g (made G n) → X
  of_parts g (And a b) rec (inl q) = rec a (inl refl) q
  of_parts g (And a b) rec (inr q) = rec b (inr refl) q
  of_parts g (Or a b) rec (inl q) = rec a (inl refl) q
  of_parts g (Or a b) rec (inr q) = rec b (inr refl) q
  of_parts g (Next a) rec q = rec a refl q
  of_parts g (Until a b) rec (inl q) = rec a (inl refl) q
  of_parts g (Until a b) rec (inr q) = rec b (inr refl) q
  of_parts g (Release a b) rec (inl q) = rec a (inl refl) q
  of_parts g (Release a b) rec (inr q) = rec b (inr refl) q
  of_parts g _ rec p = absurd p

  -- what a node keeps
  keeps_kept : (f : Formula) (k : ℕ) (n : Node) (c : ℕ) → G k ≡ made G n → Sub (G k) f → KeepsAt k n c → Kept f (G c)
  keeps_kept f k (Next a) c e s (inl h) = subst (Kept f) (sym (ap G h ∙ e)) (a_next (subst (λ x. Sub x f) e s))
  keeps_kept f k (Next a) c e s (inr h) = subst (Kept f) (sym (ap G h)) (an_operand (subst (λ x. Sub x f) e s))
  keeps_kept f k (Until a b) c e s h = subst (Kept f) (sym (ap G h ∙ e)) (an_until (subst (λ x. Sub x f) e s))
  keeps_kept f k (Release a b) c e s h = subst (Kept f) (sym (ap G h ∙ e)) (a_release (subst (λ x. Sub x f) e s))
  keeps_kept f k _ c e s q = absurd q

  next_keeps : (k : ℕ) (n : Node) (a : Formula) → made G n ≡ next a → KeepsAt k n k × ((c : ℕ) × KeepsAt k n c × (G c ≡ a))
  next_keeps k (Next x) a e = (inl refl, (x, inr refl, (cc)))
  next_keeps k _ a e = cc

  until_keeps : (k : ℕ) (n : Node) (a b : Formula) → made G n ≡ until a b → KeepsAt k n k
  until_keeps k (Next x) a b e = inl refl
  until_keeps k (Until x y) a b e = refl
  until_keeps k (Release x y) a b e = refl
  until_keeps k _ a b e = cc

  release_keeps : (k : ℕ) (n : Node) (a b : Formula) → made G n ≡ release a b → KeepsAt k n k
  release_keeps k (Next x) a b e = inl refl
  release_keeps k (Until x y) a b e = refl
  release_keeps k (Release x y) a b e = refl
  release_keeps k _ a b e = cc

  -- membership by place
  at_mem : (xs : List ℕ) (j : ℕ) → j < length xs → Memᴰ (G (get_or xs j 0)) (map G xs)
  at_mem [] j l = absurd (omega arith)
  at_mem (x ∷ xs) zero l = Memᴰ.head refl
  at_mem (x ∷ xs) (suc j) l = Memᴰ.tail (at_mem xs j (omega arith))

  mem_at : (xs : List ℕ) (g : Formula) → Memᴰ g (map G xs) → (j : ℕ) × (j < length xs) × (G (get_or xs j 0) ≡ g)
  mem_at [] g m = absurd (Memᴰ.not-nil m)
  mem_at (x ∷ xs) g m =
      ⊎_elim (λ e. (0, omega arith, sym e)) (λ q. let r = mem_at xs g q in (suc r.0, omega (arith, r.1), r.2)) (Memᴰ.cases_cons m)

module _ (ns : List Node) (ordered : Topological ns) (r : ℕ) (r_in : r < length ns) where
  pub under_below : {k : ℕ} → Under ns r k → k < length ns
  under_below top = r_in
  under_below (down {k = k} {c = c} u p) =
      let l = under_below u in
      omega (arith, part_below k (get_or ns k True) c (ordered.placed k l) p, l)

  pub kept_below : {k : ℕ} → KeptNode ns r k → k < length ns
  kept_below root = r_in
  kept_below (at {k = k} {c = c} u p) =
      let l = under_below u in
      omega (arith, keeps_part k (get_or ns k True) c (ordered.placed k l) p, l)

  under_sub : {k : ℕ} → Under ns r k → Sub (formula ns k) (formula ns r)
  under_sub top = F.itself
  under_sub (down {k = k} {c = c} u p) =
      let s : Sub (formula ns c) (formula ns k) =
      subst (λ x. Sub (formula ns c) x) (sym (formula_at ns ordered k (under_below u))) (part_sub (formula ns) (get_or ns k True) c p) in
      sub_trans s (under_sub u)

  sub_under : (g : Formula) (m k : ℕ) → k < m → Under ns r k → Sub g (formula ns k) → (c : ℕ) × Under ns r c × (formula ns c ≡ g)
  sub_under g zero k l u s = absurd (omega arith)
  sub_under g (suc m) k l u s =
      let b = under_below u in
      ⊎_elim (λ e. (k, u, formula_at ns ordered k b ∙ sym e))
      (of_parts (formula ns) g (get_or ns k True)
      (λ c p q. sub_under g m c (omega (arith, part_below k (get_or ns k True) c (ordered.placed k b) p)) (down u p) q))
      (split (subst (Sub g) (formula_at ns ordered k b) s))

  pub node_kept : {c : ℕ} → KeptNode ns r c → Kept (formula ns r) (formula ns c)
  node_kept root = whole
  node_kept (at {k = k} {c = c} u p) =
      keeps_kept (formula ns) (formula ns r) k (get_or ns k True) c (formula_at ns ordered k (under_below u)) (under_sub u) p

  pub kept_is_node : {g : Formula} → Kept (formula ns r) g → (c : ℕ) × KeptNode ns r c × (formula ns c ≡ g)
  kept_is_node whole = (r, root, refl)
  kept_is_node (a_next {a = a} q) =
      let t = sub_under (next a) (r + 1) r (omega arith) top q in
      (t.0, at t.1 (next_keeps (formula ns) t.0 (get_or ns t.0 True) a (sym (formula_at ns ordered t.0 (under_below t.1)) ∙ t.2)).0, t.2)
  kept_is_node (an_until {a = a} {b = b} q) =
      let t = sub_under (until a b) (r + 1) r (omega arith) top q in
      (t.0, at t.1 (until_keeps (formula ns) t.0 (get_or ns t.0 True) a b (sym (formula_at ns ordered t.0 (under_below t.1)) ∙ t.2)), t.2)
  kept_is_node (a_release {a = a} {b = b} q) =
      let t = sub_under (release a b) (r + 1) r (omega arith) top q in
      (t.0, at t.1 (release_keeps (formula ns) t.0 (get_or ns t.0 True) a b (sym (formula_at ns ordered t.0 (under_below t.1)) ∙ t.2)), t.2)
  kept_is_node (an_operand {a = a} q) =
      let t = sub_under (next a) (r + 1) r (omega arith) top q in
      let k = next_keeps (formula ns) t.0 (get_or ns t.0 True) a (sym (formula_at ns ordered t.0 (under_below t.1)) ∙ t.2) in
      (k.1.0, at t.1 k.1.1, k.1.2)

  pub lists_kept : (xs : List ℕ) → Keeps ns r xs → ListsKept (formula ns r) (kept_formulas ns xs)
  lists_kept xs ks g = (
    λ m. ∥∥₁_map m (λ d. let t = mem_at (formula ns) xs g d in subst (Kept (formula ns r)) t.2 (node_kept (ks.are t.0 t.1))),
    λ m. ∥∥₁_map m (λ d.
        let t = kept_is_node d in
        let j = ks.all t.0 t.1 in
        subst (λ x. Memᴰ x (kept_formulas ns xs)) (ap (formula ns) j.2 ∙ t.2) (at_mem (formula ns) xs j.0 j.1)),
  )
