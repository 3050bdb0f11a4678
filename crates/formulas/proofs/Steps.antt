-- One node, one bit. Assumes nothing.
use Rattle.std.proofs.Common.{◌≡◌, ℕ, suc, ◌+◌, ◌*◌, ◌/◌, ◌%◌, ◌^◌, ◌<◌, ◌≤◌, Bool, false, ◌&&◌, ◌||◌, List, [], ◌∷◌, ◌++◌, map, length, get_or, set, sym, refl, ap, ◌∙◌, subst, ap₂, inl, inr, ⊎_elim, arith, length-append, length-set, get_or-set_other, get_or-set_same, pow_mono, take, length-take-le, get_or-take}
use mathlib.Core.Logic.{∥∥₁_elim}
use native.Mathlib.Nat.{ℕ_set}
use Rattle.std.proofs.lemmas.Bool.{cases_eq}
use Rattle.std.proofs.lemmas.Grind.{common_steps, same_number_lists}
use Rattle.std.proofs.lemmas.List.{length-map, get_or-map, map-set, append_assoc}
use Rattle.std.proofs.lemmas.Simd.{map-map}
use Rattle.logic.specs.Formula.{Formula, on}
use Rattle.logic.specs.Sat.{sat}
use Rattle.logic.specs.Labels.{label}
use Rattle.logic.specs.Masks.{mask}
use Rattle.logic.proofs.Masks.{masks_are_right}
use Rattle.formulas.specs.declared.node.Node.{Node}
use Rattle.formulas.specs.declared.node.Node.TheVariants.{True, And, Or, Next, Until, Release}
use Rattle.formulas.specs.Nodes.{formula, Topological}
use Rattle.formulas.specs.Keeps.{Part, Under, top, down, KeepsAt, KeptNode, root, at, Keeps, kept_formulas, Before}
use Rattle.formulas.specs.Values.{value, Spread, Valued, column, GroupValued, KeptValued, AllBefore}
use Rattle.formulas.proofs.Formulas.{made, formula_at}
use Rattle.formulas.proofs.Kept.{part_below}
use Rattle.formulas.proofs.Words.{column_at, bit_is}

-- the value of a node is whether the letter and the word are a breach of its formula
module _ (G : ℕ → Formula) (s : ℕ) (w : List ℕ) (was holds : List Bool) where
  value_is : (k : ℕ) (n : Node) → G k ≡ made G n → ((c : ℕ) → Part n c → get_or holds c false ≡ sat (G c) (s ∷ w))
      → ((c : ℕ) → KeepsAt k n c → get_or was c false ≡ sat (G c) w) → value s was holds k n ≡ sat (made G n) (s ∷ w)
  value_is k (And a b) e h t = ap₂ ◌&&◌ (h a (inl refl)) (h b (inr refl))
  value_is k (Or a b) e h t = ap₂ ◌||◌ (h a (inl refl)) (h b (inr refl))
  value_is k (Next a) e h t = t a (inr refl)
  value_is k (Until a b) e h t =
      let x = h a (inl refl) in let y = h b (inr refl) in let z = t k refl ∙ ap (λ g. sat g w) e in cc
  value_is k (Release a b) e h t =
      let x = h a (inl refl) in let y = h b (inr refl) in let z = t k refl ∙ ap (λ g. sat g w) e in cc
  value_is k _ e h t = refl

pub valued_more : (ns : List Node) → Topological ns → (s : ℕ) (was : List Bool) (n : ℕ) (holds : List Bool) (b : Bool) → n < length ns
    → b ≡ value s was holds n (get_or ns n True) → Valued ns s was n holds → Valued ns s was (n + 1) (set holds n b)
valued_more ns ordered s was n holds b l e v = record {
  size = simp length-set v.size;
  at = λ r w rl wr k below u.
      ⊎_elim
      (λ (q : k ≡ n).
      let fits : n < length holds = omega (arith, v.size, ordered.few) in
      let un : Under ns r n = subst (Under ns r) q u in
      let f = formula_at ns ordered n l in
      let vis = value_is (formula ns) s w was holds n (get_or ns n True) f
      (λ c p. v.at r w rl wr c (part_below n (get_or ns n True) c (ordered.placed n l) p) (down un p))
      (λ c p. wr c (at un p)) in
      ap (λ (i : ℕ). get_or (set holds n b) i false) q ∙ get_or-set_same holds n b false fits ∙ e ∙ vis ∙ ap (λ g. sat g (s ∷ w)) (sym f) ∙ ap (λ (i : ℕ). sat (formula ns i) (s ∷ w)) (sym q))
      (λ q. get_or-set_other holds n k b false q ∙ v.at r w rl wr k (omega arith) u)
      (cases_eq k n);
}

pub spread_more : (xs : List ℕ) (n label : ℕ) (was : List Bool) (b : Bool) → n < length xs → get_or xs n 0 < 256 → b ≡ on n label
    → Spread xs n label was → Spread xs (n + 1) label (set was (get_or xs n 0) b)
spread_more xs n lab was b l small e v = record {
  size = simp length-set v.size;
  at = λ p h j below. let s = v.size in let a = v.at p h in let here = h n l in grind (arith, common_steps, get_or-set_other, a);
}

map_same_at : (p q : ℕ → Bool) (xs : List ℕ) → ((j : ℕ) → j < length xs → p (get_or xs j 0) ≡ q (get_or xs j 0)) → map p xs ≡ map q xs
map_same_at p q [] h = refl
map_same_at p q (x ∷ xs) h = ap₂ ◌∷◌ (h 0 (omega arith)) (map_same_at p q xs (λ j l. h (suc j) (omega arith)))

-- bit j of a label
pub label_bit : (ns : List Node) (xs : List ℕ) (w : List ℕ) (j : ℕ) → j < length xs
    → on j (mask (label (kept_formulas ns xs) w)) ≡ sat (formula ns (get_or xs j 0)) w
label_bit ns xs w j l =
    let e : label (kept_formulas ns xs) w ≡ map (λ x. sat (formula ns x) w) xs = map-map (λ g. sat g w) (formula ns) xs in
    ap (λ b. on j (mask b)) e
    ∙ (masks_are_right (map (λ x. sat (formula ns x) w) xs)).bit j (omega (arith, length-map xs (λ x. sat (formula ns x) w)))
    ∙ get_or-map (λ x. sat (formula ns x) w) xs j 0 false l

kept_under : {ns : List Node} {r k : ℕ} → Topological ns → r < length ns → KeptNode ns r k → Under ns r k
kept_under {ns} {r} ordered l root = top
kept_under {ns} {r} ordered l (at {k = k} {c = c} u p) = go (get_or ns k True) refl (subst (λ n. KeepsAt k n c) refl p)
  where
    go : (n : Node) → get_or ns k True ≡ n → KeepsAt k n c → Under ns r c
    go (Next a) e (inl q) = subst (Under ns r) (sym q) u
    go (Next a) e (inr q) = down u (subst (λ n. Part n c) (sym e) q)
    go (Until a b) e q = subst (Under ns r) (sym q) u
    go (Release a b) e q = subst (Under ns r) (sym q) u
    go _ e q = absurd q

before_is : (ns : List Node) → Topological ns → (r : ℕ) → r < length ns → (xs : List ℕ) → Keeps ns r xs → (s old : ℕ) (was holds : List Bool)
    → Spread xs (length xs) old was → Valued ns s was (length ns) holds → Before ns xs s old (mask (map (λ k. get_or holds k false) xs))
before_is ns ordered r l xs ks s old was holds sp v = record {
  is = λ w e.
      let bits : (j : ℕ) → j < length xs → get_or was (get_or xs j 0) false ≡ sat (formula ns (get_or xs j 0)) w =
      sp.at (λ k. sat (formula ns k) w) (λ j h. ap (on j) e ∙ label_bit ns xs w j h) in
      let wr : (k : ℕ) → KeptNode ns r k → get_or was k false ≡ sat (formula ns k) w =
      λ k q. let t = ks.all k q in subst (λ (i : ℕ). get_or was i false ≡ sat (formula ns i) w) t.2 (bits t.0 t.1) in
      ap mask
      (map_same_at (λ k. get_or holds k false) (λ k. sat (formula ns k) (s ∷ w)) xs
      (λ j h. v.at r w l wr (get_or xs j 0) (ks.below j h) (kept_under ordered l (ks.are j h)))
      ∙ sym (map-map (λ g. sat g (s ∷ w)) (formula ns) xs));
}

-- the words of one node more
pub group_valued_more : (ns : List Node) → Topological ns → (group : ℕ) (was : List Bool) (n : ℕ) (words : List ℕ) (word : ℕ) → n < length ns
    → ((b : ℕ) → b < 64 → on b word ≡ value (group * 64 + b) was (column b words) n (get_or ns n True))
    → GroupValued ns group was n words → GroupValued ns group was (n + 1) (set words n word)
group_valued_more ns ordered group was n words word l e v = record
    { at = λ b small. rw (map-set (on b) words n word) (valued_more ns ordered (group * 64 + b) was n (column b words) (on b word) l (e b small) (v.at b small)) }

-- the label of a letter by the kept words, and by the column of all
by_column : (xs all words : List ℕ) (b : ℕ) → take (length xs) words ≡ map (λ k. get_or all k 0) xs
    → mask (column b (take (length xs) words)) ≡ mask (map (λ k. get_or (column b all) k false) xs)
by_column xs all words b e =
    ap (λ ws. mask (column b ws)) e ∙ ap mask (map-map (on b) (λ k. get_or all k 0) xs)
    ∙ ap mask (map_same_at (λ k. on b (get_or all k 0)) (λ k. get_or (column b all) k false) xs (λ j l. sym (column_at b all (get_or xs j 0))))

-- what the letters make of a label, where the nodes and the kept numbers are parts of longer lists
pub all_before : (ns ms : List Node) (xs ys : List ℕ) → ms ≡ ns → ys ≡ xs → Topological ns → (r : ℕ) → r < length ns → ∥ Keeps ns r xs ∥₁
    → (old : ℕ) (was : List Bool) (groups : List (List ℕ)) → Spread ys (length ys) old was
    → ((g : ℕ) → g < 4 → KeptValued ms ys g was (get_or groups g [])) → AllBefore ns xs old groups
all_before ns ms xs ys p q ordered r l keeps old was groups sp v = record {
  at = λ s small. record {
    is = λ w h.
        let g = s / 64 in
        let b = s % 64 in
        let t = v g (omega arith) in
        let e : g * 64 + b ≡ s = omega arith in
        let sp2 : Spread xs (length xs) old was = subst (λ (zs : List ℕ). Spread zs (length zs) old was) q sp in
        let are : take (length xs) (get_or groups g []) ≡ map (λ k. get_or t.all k 0) xs =
        subst (λ (zs : List ℕ). take (length zs) (get_or groups g []) ≡ map (λ k. get_or t.all k 0) zs) q t.are in
        let v1 : Valued ms (g * 64 + b) was (length ms) (column b t.all) = t.valued.at b (omega arith) in
        let v2 : Valued ns (g * 64 + b) was (length ns) (column b t.all) = subst (λ (zs : List Node). Valued zs (g * 64 + b) was (length zs) (column b t.all)) p v1 in
        let v3 : Valued ns s was (length ns) (column b t.all) = subst (λ (i : ℕ). Valued ns i was (length ns) (column b t.all)) e v2 in
        by_column xs t.all (get_or groups g []) b are ∙ ∥∥₁_elim keeps (ℕ_set _ _) (λ k. (before_is ns ordered r l xs k s old was (column b t.all) sp2 v3).is w h);
  };
}

-- the label of what follows `rest` in words
pub record Gathered (words : List ℕ) (b : ℕ) (rest : List ℕ) (lab : ℕ) : Type 0 where
  pub after : List ℕ
  pub are : words ≡ rest ++ after
  pub is : lab ≡ mask (column b after)

pub gather_fits : {words : List ℕ} {b : ℕ} {rest : List ℕ} {lab : ℕ} (front : List ℕ) (x : ℕ) → rest ≡ front ++ x ∷ []
    → length words ≤ 32 → Gathered words b rest lab → lab < 2147483648
gather_fits {words} {b} {rest} {lab} front x e l g =
    let bs = column b g.after in
    let s = (masks_are_right bs).small in
    let n : length bs ≡ length g.after = length-map g.after (on b) in
    let m : length words ≡ length rest + length g.after = ap length g.are ∙ length-append rest g.after in
    let r : length rest ≡ length front + 1 = ap length e ∙ length-append front (x ∷ []) in
    let p : 2 ^ length bs ≤ 2 ^ 31 = pow_mono {i = length bs} {j = 31} (omega arith) in
    omega (arith, s, p, g.is)

pub gathered_more : {words : List ℕ} {b : ℕ} {rest : List ℕ} {lab : ℕ} (front : List ℕ) (x : ℕ) → rest ≡ front ++ x ∷ [] → Gathered words b rest lab
    → Gathered words b front (lab * 2 + x / 2 ^ b % 2)
gathered_more {words} {b} {rest} {lab} front x e g = record {
  after = x ∷ g.after;
  are = g.are ∙ ap (λ zs. zs ++ g.after) e ∙ append_assoc front (x ∷ []) g.after;
  is = omega (arith, g.is, bit_is b x);
}

-- the words of the kept numbers, once all are written
pub kept_are : (xs all words : List ℕ) → length xs ≤ length words → ((j : ℕ) → j < length xs → get_or words j 0 ≡ get_or all (get_or xs j 0) 0)
    → take (length xs) words ≡ map (λ k. get_or all k 0) xs
kept_are xs all words fits h =
    let n : length (take (length xs) words) ≡ length xs = length-take-le (length xs) words fits in
    same_number_lists (take (length xs) words) (map (λ k. get_or all k 0) xs) (n ∙ sym (length-map xs (λ k. get_or all k 0)))
    (λ j l.
    let small : j < length xs = omega (arith, n) in
    get_or-take (length xs) words j 0 small ∙ h j small ∙ sym (get_or-map (λ k. get_or all k 0) xs j 0 0 small))
