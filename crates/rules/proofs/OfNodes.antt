-- Nodes and the formulas that they mean.
use Rattle.std.proofs.Common.{◌≡◌, ℕ, zero, suc, ◌<◌, ◌≤◌, ◌⊎◌, List, [], ◌∷◌, ◌++◌, length, get_or, Some, None, Option, sym, refl, ap, ◌∙◌, subst, inl, inr, arith, length-append, MatchOption}
use lib.ListN.{get_or-append}
use Rattle.fixed.specs.declared.FixedList.{FixedList}
use Rattle.fixed.specs.Held.{held}
use Rattle.logic.specs.Formula.{Formula, tru, fls, lit, and, or, next, until, release, same}
use Rattle.formulas.specs.declared.node.Node.{Node}
use Rattle.formulas.specs.declared.node.Node.TheVariants.{True, False, Signal, And, Or, Next, Until, Release}
use Rattle.formulas.specs.Nodes.{made_of, reach}
use Rattle.texts.specs.Listed.{StandsAt}
use Rattle.texts.proofs.OfNames.{lt_or_eq}
use Rattle.texts.proofs.OfListed.{add_old, add_new}
use Rattle.rules.specs.Nodes.{Means, Interned, Lacks, Finds}

-- ---- one node to a formula

pub where_is : List Formula → Formula → ℕ
where_is [] f = 0
where_is (g ∷ gs) f = elim (same f g) [ yes e ↦ 0 | no n ↦ suc (where_is gs f) ]

abbrev pub Differ : List Formula → Type 0
Differ gs = (i j : ℕ) → i < j → j < length gs → get_or gs i tru ≡ get_or gs j tru → ⊥

pub where_at : (gs : List Formula) → Differ gs → (i : ℕ) → i < length gs → where_is gs (get_or gs i tru) ≡ i
unfolding where_is
where_at [] d i h = absurd (omega arith)
where_at (g ∷ gs) d zero h = go (same g g)
  where
    go : (t : Dec (g ≡ g)) → elim t as (λ t'. ℕ) [ yes e ↦ 0 | no n ↦ suc (where_is gs g) ] ≡ 0
    go (yes e) = refl
    go (no n) = absurd (n refl)
where_at (g ∷ gs) d (suc i) h = go (same (get_or gs i tru) g) (where_at gs (λ j k l m e. d (suc j) (suc k) (omega arith) (omega arith) e) i (omega arith))
  where
    go : (t : Dec (get_or gs i tru ≡ g)) → where_is gs (get_or gs i tru) ≡ i → elim t as (λ t'. ℕ) [ yes e ↦ 0 | no n ↦ suc (where_is gs (get_or gs i tru)) ] ≡ suc i
    go (yes e) ih = absurd (d 0 (suc i) (omega arith) h (sym e))
    go (no n) ih = ap suc ih

code : List Formula → Formula → Node
code gs tru = True
code gs fls = False
code gs (lit i p) = Signal i p
code gs (and a b) = And (where_is gs a) (where_is gs b)
code gs (or a b) = Or (where_is gs a) (where_is gs b)
code gs (next a) = Next (where_is gs a)
code gs (until a b) = Until (where_is gs a) (where_is gs b)
code gs (release a b) = Release (where_is gs a) (where_is gs b)

code_made_of : (gs : List Formula) → Differ gs → (n : Node) → reach n ≤ length gs → code gs (made_of gs n) ≡ n
unfolding code
code_made_of gs d True h = refl
code_made_of gs d False h = refl
code_made_of gs d (Signal i p) h = refl
code_made_of gs d (And a b) h = let p = where_at gs d a (omega arith) in let q = where_at gs d b (omega arith) in cc
code_made_of gs d (Or a b) h = let p = where_at gs d a (omega arith) in let q = where_at gs d b (omega arith) in cc
code_made_of gs d (Next a) h = let p = where_at gs d a (omega arith) in cc
code_made_of gs d (Until a b) h = let p = where_at gs d a (omega arith) in let q = where_at gs d b (omega arith) in cc
code_made_of gs d (Release a b) h = let p = where_at gs d a (omega arith) in let q = where_at gs d b (omega arith) in cc

pub made_of_one : (gs : List Formula) → Differ gs → (m n : Node) → reach m ≤ length gs → reach n ≤ length gs → made_of gs m ≡ made_of gs n → m ≡ n
made_of_one gs d m n h k e = sym (code_made_of gs d m h) ∙ ap (code gs) e ∙ code_made_of gs d n k

pub made_of_more : (gs hs : List Formula) (n : Node) → reach n ≤ length gs → made_of (gs ++ hs) n ≡ made_of gs n
made_of_more gs hs True h = refl
made_of_more gs hs False h = refl
made_of_more gs hs (Signal i p) h = refl
made_of_more gs hs (And a b) h = let p = get_or-append gs hs tru a (omega arith) in let q = get_or-append gs hs tru b (omega arith) in cc
made_of_more gs hs (Or a b) h = let p = get_or-append gs hs tru a (omega arith) in let q = get_or-append gs hs tru b (omega arith) in cc
made_of_more gs hs (Next a) h = let p = get_or-append gs hs tru a (omega arith) in cc
made_of_more gs hs (Until a b) h = let p = get_or-append gs hs tru a (omega arith) in let q = get_or-append gs hs tru b (omega arith) in cc
made_of_more gs hs (Release a b) h = let p = get_or-append gs hs tru a (omega arith) in let q = get_or-append gs hs tru b (omega arith) in cc

-- ---- one more

pub front_is : {A : Type 0} (xs : List A) (x : A) (ys : List A) (d : A) → get_or (xs ++ (x ∷ ys)) (length xs) d ≡ x
front_is [] x ys d = refl
front_is (y ∷ xs) x ys d = front_is xs x ys d

pub last_is : {A : Type 0} (xs : List A) (x d : A) → get_or (xs ++ (x ∷ [])) (length xs) d ≡ x
last_is xs x d = front_is xs x [] d

-- what holds of each and of the next holds of all of them
pub push_each : {A : Type 0} (P : ℕ → A → Type 0) (xs : List A) (x d : A) → ((i : ℕ) → i < length xs → P i (get_or xs i d)) → P (length xs) x → (i : ℕ) → i < length (xs ++ (x ∷ [])) → P i (get_or (xs ++ (x ∷ [])) i d)
push_each P xs x d each p i h = elim (lt_or_eq i (length xs) (let l = length-append xs (x ∷ []) in omega arith)) [
  | inl g ↦ subst (P i) (sym (get_or-append xs (x ∷ []) d i g)) (each i g)
  | inr g ↦ subst (λ (k : ℕ). P k (get_or (xs ++ (x ∷ [])) k d)) (sym g) (subst (P (length xs)) (sym (last_is xs x d)) p)
]

-- ys are xs, or xs and x
abbrev pub Pushed : {A : Type 0} → List A → List A → A → Type 0
Pushed xs ys x = (ys ≡ xs) ⊎ (ys ≡ xs ++ (x ∷ []))

pub pushed : {A : Type 0} {N : ℕ} (old new : FixedList A N) (x : A) (r : Option ℕ) → MatchOption r ((length (held old) ≡ N) × (new ≡ old)) (λ i. (i ≡ length (held old)) × (i < N) × (held new ≡ held old ++ (x ∷ []))) → Pushed (held old) (held new) x
pushed old new x None h = inl (ap held h.1)
pushed old new x (Some i) h = inr h.2

pub pushed_at : {A : Type 0} {N : ℕ} (old new : FixedList A N) (x : A) (r : Option ℕ) (i : ℕ) → r ≡ Some i → MatchOption r ((length (held old) ≡ N) × (new ≡ old)) (λ i. (i ≡ length (held old)) × (i < N) × (held new ≡ held old ++ (x ∷ []))) → (i ≡ length (held old)) × (held new ≡ held old ++ (x ∷ []))
pushed_at {N = N} old new x r i e h =
    let p = subst (λ r. MatchOption r ((length (held old) ≡ N) × (new ≡ old)) (λ i. (i ≡ length (held old)) × (i < N) × (held new ≡ held old ++ (x ∷ [])))) e h in (p.0, p.2)

-- what holds of each and of the next holds of all of them
pub each_pushed : {A : Type 0} (P : ℕ → A → Type 0) {xs ys : List A} {x : A} → Pushed xs ys x → ((i : ℕ) (d : A) → i < length xs → P i (get_or xs i d)) → P (length xs) x → (i : ℕ) (d : A) → i < length ys → P i (get_or ys i d)
each_pushed {A = A} P {ys = ys} (inl e) each p = subst (λ (zs : List A). (i : ℕ) (d : A) → i < length zs → P i (get_or zs i d)) (sym e) each
each_pushed {A = A} P {xs = xs} {ys = ys} {x = x} (inr e) each p = subst (λ (zs : List A). (i : ℕ) (d : A) → i < length zs → P i (get_or zs i d)) (sym e) (λ i d. push_each P xs x d (λ j. each j d) p i)

-- ---- keeping

differ_of : (nodes : List Node) (gs : List Formula) → Means nodes gs → Differ gs
differ_of nodes gs m i j h k e = let s = m.size in m.differ i j h (omega arith) e

pub intern_old : (nodes : List Node) (gs : List Formula) (node : Node) (i : ℕ) → Means nodes gs → Finds nodes node i → Interned gs (made_of gs node) (Some i) nodes
intern_old nodes gs node i m f =
    let s = m.size in
    let h = f.0 in
    let q : get_or gs i tru ≡ made_of gs node = m.at i True h ∙ ap (made_of gs) (f.1 True) in
    let a = add_old gs (made_of gs node) i (omega arith) q in (
      subst (λ (x : List Formula). Means nodes x) (sym a) m,
      subst (λ (x : List Formula). StandsAt x (made_of gs node) i) (sym a) (omega arith, q),
    )

-- a formula whose node is not there is not there
new_made_of : (nodes : List Node) (gs : List Formula) (node : Node) → Means nodes gs → reach node ≤ length nodes → Lacks nodes node → (i : ℕ) → i < length gs → get_or gs i tru ≡ made_of gs node → ⊥
new_made_of nodes gs node m r l i h e =
    let s = m.size in
    let b = m.before i True (omega arith) in
    l i True (omega arith) (made_of_one gs (differ_of nodes gs m) (get_or nodes i True) node (omega arith) (omega arith) (sym (m.at i True (omega arith)) ∙ e))

pub intern_full : (nodes : List Node) (gs : List Formula) (node : Node) → Means nodes gs → reach node ≤ length nodes → Lacks nodes node → 256 ≤ length nodes → Interned gs (made_of gs node) None nodes
intern_full nodes gs node m r l h =
    let s = m.size in
    let a = add_new gs (made_of gs node) (new_made_of nodes gs node m r l) in
    let b = length-append gs (made_of gs node ∷ []) in
    (m, subst (λ (x : List Formula). 256 < length x) (sym a) (omega arith))

means_more : (nodes : List Node) (gs : List Formula) (node : Node) → Means nodes gs → reach node ≤ length nodes → ((i : ℕ) → i < length gs → get_or gs i tru ≡ made_of gs node → ⊥) → Means (nodes ++ (node ∷ [])) (gs ++ (made_of gs node ∷ []))
means_more nodes gs node m r new =
    let f = made_of gs node in
    let hs = gs ++ (f ∷ []) in
    let s = m.size in
    let l = length-append gs (f ∷ []) in
    let l' = length-append nodes (node ∷ []) in
    let last : get_or hs (length nodes) tru ≡ f = ap (λ (k : ℕ). get_or hs k tru) (sym s) ∙ last_is gs f tru in
    record {
      size = omega arith;
      at = λ i d. push_each (λ j n. get_or hs j tru ≡ made_of hs n) nodes node d
          (λ j h. let b = m.before j d h in get_or-append gs (f ∷ []) tru j (omega arith) ∙ m.at j d h ∙ sym (made_of_more gs (f ∷ []) (get_or nodes j d) (omega arith)))
          (last ∙ sym (made_of_more gs (f ∷ []) node (omega arith))) i;
      before = λ i d. push_each (λ j n. reach n ≤ j) nodes node d (λ j. m.before j d) r i;
      differ = λ i j h k e. elim (lt_or_eq j (length nodes) (omega arith)) [
        | inl g ↦ m.differ i j h g (sym (get_or-append gs (f ∷ []) tru i (omega arith)) ∙ e ∙ get_or-append gs (f ∷ []) tru j (omega arith))
        | inr g ↦ new i (omega arith) (sym (get_or-append gs (f ∷ []) tru i (omega arith)) ∙ e ∙ ap (λ (q : ℕ). get_or hs q tru) g ∙ last)
      ];
    }

pub intern_new : (nodes : List Node) (gs : List Formula) (node : Node) → Means nodes gs → reach node ≤ length nodes → Lacks nodes node → Interned gs (made_of gs node) (Some (length nodes)) (nodes ++ (node ∷ []))
intern_new nodes gs node m r l =
    let s = m.size in
    let new = new_made_of nodes gs node m r l in
    let f = made_of gs node in
    let a = add_new gs f new in
    let b = length-append gs (f ∷ []) in
    let last : get_or (gs ++ (f ∷ [])) (length nodes) tru ≡ f = ap (λ (k : ℕ). get_or (gs ++ (f ∷ [])) k tru) (sym s) ∙ last_is gs f tru in (
      subst (λ (x : List Formula). Means (nodes ++ (node ∷ [])) x) (sym a) (means_more nodes gs node m r new),
      subst (λ (x : List Formula). StandsAt x f (length nodes)) (sym a) (omega arith, last),
    )
