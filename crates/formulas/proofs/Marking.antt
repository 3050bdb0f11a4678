-- Marks, a node at a time. Assumes nothing.
use Rattle.std.proofs.Common.{◌≡◌, ℕ, zero, suc, ◌+◌, ◌<◌, ◌≤◌, Bool, true, false, ◌⊎◌, List, [], ◌∷◌, ◌++◌, length, get_or, take, set, replicate, sym, refl, ap, ◌∙◌, subst, inl, ⊎_elim, append-nil, arith, length-append, length-set, get_or-set_other, below_more}
use mathlib.Core.Bool.{false≢true}
use Rattle.std.proofs.lemmas.Grind.{common_steps}
use Rattle.std.proofs.lemmas.Bool.{cases_eq}
use Rattle.formulas.specs.declared.node.Node.{Node}
use Rattle.formulas.specs.declared.node.Node.TheVariants.{True, And, Or, Next, Until, Release}
use Rattle.formulas.specs.Nodes.{Placed, Topological}
use Rattle.formulas.specs.Keeps.{Part, Under, top, down, KeepsAt, KeptNode, root, at, Keeps}
use Rattle.formulas.specs.Marks.{mark_parts, mark_kept, Marking, Marked, Picked, Beyond, ManyKept}
use Rattle.formulas.proofs.Kept.{part_below, kept_below}

-- ---- one mark

of_set : (us : List Bool) (a c : ℕ) → get_or (set us a true) c false ≡ true → (get_or us c false ≡ true) ⊎ (c ≡ a)
of_set us a c h = grind (arith, get_or-set_other)

set_old : (us : List Bool) (a c : ℕ) → a < length us → get_or us c false ≡ true → get_or (set us a true) c false ≡ true
set_old us a c l h = grind (arith, common_steps)

set_new : (us : List Bool) (a c : ℕ) → a < length us → c ≡ a → get_or (set us a true) c false ≡ true
set_new us a c l e = grind (arith, common_steps)

-- ---- two marks

of_two : (us : List Bool) (a b c : ℕ) → get_or (set (set us a true) b true) c false ≡ true → (get_or us c false ≡ true) ⊎ ((c ≡ a) ⊎ (c ≡ b))
of_two us a b c h = grind (arith, get_or-set_other)

two_old : (us : List Bool) (a b c : ℕ) → a < length us → b < length us → get_or us c false ≡ true → get_or (set (set us a true) b true) c false ≡ true
two_old us a b c la lb h = grind (arith, common_steps)

two_new : (us : List Bool) (a b c : ℕ) → a < length us → b < length us → (c ≡ a) ⊎ (c ≡ b) → get_or (set (set us a true) b true) c false ≡ true
two_new us a b c la lb e = grind (arith, common_steps)

two_size : (us : List Bool) (a b : ℕ) → length (set (set us a true) b true) ≡ length us
two_size us a b = simp length-set

one_size : (us : List Bool) (a : ℕ) → length (set us a true) ≡ length us
one_size us a = simp length-set

-- ---- the parts of a node

parts_size : (us : List Bool) (n : Node) → length (mark_parts us n) ≡ length us
parts_size us (And a b) = two_size us a b
parts_size us (Or a b) = two_size us a b
parts_size us (Next a) = one_size us a
parts_size us (Until a b) = two_size us a b
parts_size us (Release a b) = two_size us a b
parts_size us _ = refl

of_parts : (us : List Bool) (n : Node) (c : ℕ) → get_or (mark_parts us n) c false ≡ true → (get_or us c false ≡ true) ⊎ Part n c
of_parts us (And a b) c h = of_two us a b c h
of_parts us (Or a b) c h = of_two us a b c h
of_parts us (Next a) c h = of_set us a c h
of_parts us (Until a b) c h = of_two us a b c h
of_parts us (Release a b) c h = of_two us a b c h
of_parts us _ c h = inl h

module _ (us : List Bool) (k : ℕ) (kl : k < length us) where
  parts_old : (n : Node) → Placed k n → (c : ℕ) → get_or us c false ≡ true → get_or (mark_parts us n) c false ≡ true
  parts_old (And a b) p c h = two_old us a b c (omega arith) (omega arith) h
  parts_old (Or a b) p c h = two_old us a b c (omega arith) (omega arith) h
  parts_old (Next a) p c h = set_old us a c (omega arith) h
  parts_old (Until a b) p c h = two_old us a b c (omega arith) (omega arith) h
  parts_old (Release a b) p c h = two_old us a b c (omega arith) (omega arith) h
  parts_old _ p c h = h

  parts_new : (n : Node) → Placed k n → (c : ℕ) → Part n c → get_or (mark_parts us n) c false ≡ true
  parts_new (And a b) p c h = two_new us a b c (omega arith) (omega arith) h
  parts_new (Or a b) p c h = two_new us a b c (omega arith) (omega arith) h
  parts_new (Next a) p c h = set_new us a c (omega arith) h
  parts_new (Until a b) p c h = two_new us a b c (omega arith) (omega arith) h
  parts_new (Release a b) p c h = two_new us a b c (omega arith) (omega arith) h
  parts_new _ p c h = absurd h

  kept_old : (n : Node) → Placed k n → (c : ℕ) → get_or us c false ≡ true → get_or (mark_kept k us n) c false ≡ true
  kept_old (Next a) p c h = two_old us k a c kl (omega arith) h
  kept_old (Until a b) p c h = set_old us k c kl h
  kept_old (Release a b) p c h = set_old us k c kl h
  kept_old _ p c h = h

  kept_new : (n : Node) → Placed k n → (c : ℕ) → KeepsAt k n c → get_or (mark_kept k us n) c false ≡ true
  kept_new (Next a) p c h = two_new us k a c kl (omega arith) h
  kept_new (Until a b) p c h = set_new us k c kl h
  kept_new (Release a b) p c h = set_new us k c kl h
  kept_new _ p c h = absurd h

  kept_size : (n : Node) → length (mark_kept k us n) ≡ length us
  kept_size (Next a) = two_size us k a
  kept_size (Until a b) = one_size us k
  kept_size (Release a b) = one_size us k
  kept_size _ = refl

  of_kept : (n : Node) (c : ℕ) → get_or (mark_kept k us n) c false ≡ true → (get_or us c false ≡ true) ⊎ KeepsAt k n c
  of_kept (Next a) c h = of_two us k a c h
  of_kept (Until a b) c h = of_set us k c h
  of_kept (Release a b) c h = of_set us k c h
  of_kept _ c h = inl h

-- ---- the loop

pub marking_start : (ns : List Node) (r : ℕ) (zs : List Bool) → Topological ns → r < length ns → length zs ≡ 256 → ((i : ℕ) → get_or zs i false ≡ false)
    → Marking ns r (length ns) (set zs r true) (set zs r true)
marking_start ns r zs ordered l size none =
    let rl : r < length zs = omega (arith, size, ordered.few) in
    let only : (c : ℕ) → get_or (set zs r true) c false ≡ true → c ≡ r = λ c h. ⊎_elim (λ x. absurd (false≢true (sym (none c) ∙ x))) (λ x. x) (of_set zs r c h) in
    record {
      us_size = simp length-set size;
      fs_size = simp length-set size;
      us_root = set_new zs r r rl refl;
      fs_root = set_new zs r r rl refl;
      us_right = λ c h. subst (Under ns r) (sym (only c h)) top;
      fs_right = λ c h. subst (KeptNode ns r) (sym (only c h)) root;
      us_done = λ k j h. absurd (omega (arith, only k h));
      fs_done = λ k j h. absurd (omega (arith, only k h));
    }

module _ (ns : List Node) (r : ℕ) (ordered : Topological ns) where
  pub marking_on : (k : ℕ) (us fs : List Bool) → k < length ns → get_or us k false ≡ true
      → Marking ns r (k + 1) us fs → Marking ns r k (mark_parts us (get_or ns k True)) (mark_kept k fs (get_or ns k True))
  marking_on k us fs kn on m =
      let n = get_or ns k True in
      let ku : k < length us = omega (arith, m.us_size, ordered.few) in
      let kf : k < length fs = omega (arith, m.fs_size, ordered.few) in
      let p = ordered.placed k kn in
      let u = m.us_right k on in
      -- a mark from k on is an old one
      let old : (i : ℕ) → k ≤ i → get_or (mark_parts us n) i false ≡ true → get_or us i false ≡ true =
      λ i h x. ⊎_elim (λ y. y) (λ y. absurd (omega (arith, part_below k n i p y))) (of_parts us n i x) in
      record {
        us_size = parts_size us n ∙ m.us_size;
        fs_size = kept_size fs k kf n ∙ m.fs_size;
        us_root = parts_old us k ku n p r m.us_root;
        fs_root = kept_old fs k kf n p r m.fs_root;
        us_right = λ c h. ⊎_elim (m.us_right c) (λ q. down u q) (of_parts us n c h);
        fs_right = λ c h. ⊎_elim (m.fs_right c) (λ q. at u q) (of_kept fs k kf n c h);
        us_done = λ i h x c q. ⊎_elim
            (λ (e : i ≡ k). parts_new us k ku n p c (subst (λ (z : ℕ). Part (get_or ns z True) c) e q))
            (λ d. parts_old us k ku n p c (m.us_done i (omega arith) (old i h x) c q)) (cases_eq i k);
        fs_done = λ i h x c q. ⊎_elim
            (λ (e : i ≡ k). kept_new fs k kf n p c (subst (λ (z : ℕ). KeepsAt z (get_or ns z True) c) e q))
            (λ d. kept_old fs k kf n p c (m.fs_done i (omega arith) (old i h x) c q)) (cases_eq i k);
      }

  pub marking_off : (k : ℕ) (us fs : List Bool) → get_or us k false ≡ false → Marking ns r (k + 1) us fs → Marking ns r k us fs
  marking_off k us fs off m = grind (arith, common_steps, m.us_done, m.fs_done)

  module _ (us fs : List Bool) (m : Marking ns r 0 us fs) where
    all_under : {c : ℕ} → Under ns r c → get_or us c false ≡ true
    all_under top = m.us_root
    all_under (down {k = k} {c = c} u p) = m.us_done k (omega arith) (all_under u) c p

    all_kept : {c : ℕ} → KeptNode ns r c → get_or fs c false ≡ true
    all_kept root = m.fs_root
    all_kept (at {k = k} {c = c} u p) = m.fs_done k (omega arith) (all_under u) c p

    pub marked : Marked ns r fs
    marked = record { right = m.fs_right; whole = λ c h. all_kept h }

-- the marks are whole for the nodes that follow `rest`, which are counted from 0 on
pub record Behind (ns : List Node) (r count : ℕ) (rest : List Node) (us fs : List Bool) : Type 0 where
  pub after : List Node
  pub are : ns ≡ rest ++ after
  pub from : count ≡ 0
  pub marking : Marking ns r (length rest) us fs

pub behind_start : {ns : List Node} {r count : ℕ} {rest : List Node} {us fs : List Bool} → rest ≡ ns → count ≡ 0 → Marking ns r (length ns) us fs → Behind ns r count rest us fs
behind_start {ns} {r} {count} {rest} {us} {fs} e z m = record {
  after = [];
  are = sym e ∙ sym (append-nil rest);
  from = z;
  marking = subst (λ (xs : List Node). Marking ns r (length xs) us fs) (sym e) m;
}

pub behind_done : {ns : List Node} {r count : ℕ} {rest : List Node} {us fs : List Bool} → Topological ns → Behind ns r count rest us fs → length rest ≡ 0 → Marked ns r fs
behind_done {ns} {r} {us = us} {fs} ordered b z = marked ns r ordered us fs (subst (λ (j : ℕ). Marking ns r j us fs) z b.marking)

module _ {ns : List Node} {r count : ℕ} {rest : List Node} {us fs : List Bool} (front : List Node) (n : Node) (last : rest ≡ front ++ n ∷ []) (b : Behind ns r count rest us fs) where
  parted : ns ≡ front ++ n ∷ b.after
  parted = let a = b.are in grind (arith, common_steps)

  -- the last of the rest is the node whose number is the length of what stands before it
  pub last_at : (k : ℕ) → k ≡ count + length front → (k < length ns) × (get_or ns k True ≡ n)
  last_at k e = let z = b.from in let a = parted in grind (arith, common_steps)

  pub last_placed : Topological ns → (k : ℕ) → k ≡ count + length front → Placed k n
  last_placed ordered k e = let h = last_at k e in subst (Placed k) h.1 (ordered.placed k h.0)

  behind : (k from : ℕ) → k ≡ count + length front → from ≡ count → (vs gs : List Bool) → Marking ns r k vs gs → Behind ns r from front vs gs
  behind k from e f vs gs m = let z : k ≡ length front = omega (arith, b.from) in record {
    after = n ∷ b.after;
    are = parted;
    from = f ∙ b.from;
    marking = subst (λ (j : ℕ). Marking ns r j vs gs) z m;
  }

  before_last : (k : ℕ) → k ≡ count + length front → Marking ns r (k + 1) us fs
  before_last k e =
      let z : length rest ≡ k + 1 = omega (arith, b.from, ap length last, length-append front (n ∷ [])) in
      subst (λ (j : ℕ). Marking ns r j us fs) z b.marking

  pub behind_on : Topological ns → (k from : ℕ) → k ≡ count + length front → from ≡ count → get_or us k false ≡ true → Behind ns r from front (mark_parts us n) (mark_kept k fs n)
  behind_on ordered k from e f on =
      let h = last_at k e in
      behind k from e f (mark_parts us n) (mark_kept k fs n) (subst (λ (x : Node). Marking ns r k (mark_parts us x) (mark_kept k fs x)) h.1 (marking_on ns r ordered k us fs h.0 on (before_last k e)))

  pub behind_off : Topological ns → (k from : ℕ) → k ≡ count + length front → from ≡ count → get_or us k false ≡ false → Behind ns r from front us fs
  behind_off ordered k from e f off = behind k from e f us fs (marking_off ns r ordered k us fs off (before_last k e))

-- ---- picking

pub picked_skip : (m : ℕ) (fs : List Bool) (n : ℕ) (xs : List ℕ) → n < length (take m fs) → get_or (take m fs) n false ≡ false → Picked fs n xs → Picked fs (n + 1) xs
picked_skip m fs n xs l off p = grind (arith, common_steps, p.all)

-- a flag among the first is the flag itself
of_front : (m : ℕ) (fs : List Bool) (n : ℕ) (b : Bool) → n < length (take m fs) → get_or (take m fs) n false ≡ b → get_or fs n false ≡ b
of_front m fs n b l on = grind (arith, common_steps)

module _ {fs : List Bool} {n : ℕ} {xs : List ℕ} (p : Picked fs n xs) where
  more_below : (j : ℕ) → j < length (xs ++ n ∷ []) → get_or (xs ++ n ∷ []) j 0 < n + 1
  more_below j l = grind (arith, common_steps, p.below)

  more_rising : (i j : ℕ) → i < j → j < length (xs ++ n ∷ []) → get_or (xs ++ n ∷ []) i 0 < get_or (xs ++ n ∷ []) j 0
  more_rising i j l h = grind (arith, common_steps, p.below, p.rising)

  more_are : get_or fs n false ≡ true → (j : ℕ) → j < length (xs ++ n ∷ []) → get_or fs (get_or (xs ++ n ∷ []) j 0) false ≡ true
  more_are on j l = grind (arith, common_steps, p.are)

  more_old : (j : ℕ) → j < length xs → (j < length (xs ++ n ∷ [])) × (get_or (xs ++ n ∷ []) j 0 ≡ get_or xs j 0)
  more_old j l = grind (arith, common_steps)

  more_last : (length xs < length (xs ++ n ∷ [])) × (get_or (xs ++ n ∷ []) (length xs) 0 ≡ n)
  more_last = grind (arith, common_steps)

  pub picked_more : (m : ℕ) → length xs < 32 → n < length (take m fs) → get_or (take m fs) n false ≡ true → Picked fs (n + 1) (xs ++ n ∷ [])
  picked_more m l nl on = record {
    few = simp length-append (omega arith);
    below = more_below;
    rising = more_rising;
    are = more_are (of_front m fs n true nl on);
    all = below_more (λ k. get_or fs k false ≡ true → (j : ℕ) × (j < length (xs ++ n ∷ [])) × (get_or (xs ++ n ∷ []) j 0 ≡ k)) n
        (λ k h q. let t = p.all k h q in let o = more_old t.0 t.1 in (t.0, o.0, o.1 ∙ t.2))
        (λ q. (length xs, more_last.0, more_last.1));
  }

  pub beyond : (m : ℕ) → length xs ≡ 32 → n < length (take m fs) → get_or (take m fs) n false ≡ true → Beyond fs
  beyond m full nl on =
      let size : length (xs ++ n ∷ []) ≡ 33 = simp length-append (omega arith) in
      record {
        number = λ i. get_or (xs ++ n ∷ []) i 0;
        rising = λ i j h l. more_rising i j h (omega arith);
        are = λ j l. more_are (of_front m fs n true nl on) j (omega arith);
      }

pub keeps_picked : (ns : List Node) (r : ℕ) (fs : List Bool) (xs : List ℕ) → Topological ns → r < length ns → Marked ns r fs → Picked fs (length ns) xs → Keeps ns r xs
keeps_picked ns r fs xs ordered l mk p = record {
  below = p.below;
  rising = p.rising;
  are = λ j h. mk.right (get_or xs j 0) (p.are j h);
  all = λ k h. p.all k (kept_below ns ordered r l h) (mk.whole k h);
}

pub many_picked : (ns : List Node) (r : ℕ) (fs : List Bool) → Marked ns r fs → Beyond fs → ManyKept ns r
many_picked ns r fs m b = record { number = b.number; rising = b.rising; are = λ j l. m.right (b.number j) (b.are j l) }

pub none_marked : (n i : ℕ) → get_or (replicate n false) i false ≡ false
none_marked zero i = refl
none_marked (suc n) zero = refl
none_marked (suc n) (suc i) = none_marked n i
