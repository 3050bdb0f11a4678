-- Leaving an entry, or beginning: one state after another is tried.
use Rattle.std.proofs.Common.{◌≡◌, ℕ, zero, suc, ◌+◌, ◌<◌, ◌≤◌, Bool, true, false, List, [], ◌∷◌, length, get_or, sym, refl, ◌∙◌, subst, inl, inr, ⊎_elim, arith, below_more}
use Rattle.meaning.specs.Machines.{Meaning, Among}
use Rattle.pairs.specs.declared.pair.Pair.{Pair}
use Rattle.pairs.specs.Readers.{Reader}
use Rattle.pairs.specs.Stages.{Tally, no_pair, state_at, depth_at, next_at, bad, Has, Comes, StageOf, Keeps, Goes_on, Tries, Left, Breaks, nothing_kept, Begun}
use Rattle.pairs.proofs.Cover.{has_grows}
use Rattle.pairs.proofs.Putting.{Put, grows_join, keeps_put}

pub all_among : (Q : ℕ → Type 0) (xs : List ℕ) → ((k : ℕ) → k < length xs → Q (get_or xs k 0)) → (t : ℕ) → Among t xs → Q t
all_among Q [] h t a = absurd a
all_among Q (x ∷ xs) h t a = ⊎_elim
    (λ (e : t ≡ x). subst Q (sym e) (h 0 (omega arith)))
    (λ (b : Among t xs). all_among Q xs (λ k l. h (suc k) (omega arith)) t b)
    a

pub index_among : (xs : List ℕ) (k : ℕ) → k < length xs → Among (get_or xs k 0) xs
index_among [] k l = absurd (omega arith)
index_among (x ∷ xs) zero l = inl refl
index_among (x ∷ xs) (suc k) l = inr (index_among xs k (omega arith))

module _ (m : Meaning) (r : Reader) (rows : ℕ) where
  pub goes_join : (E : List Pair) (k : Tally) (F : List Pair) (k' : Tally) (G : List Pair) (k'' : Tally) → Goes_on m r rows E k F k' → Goes_on m r rows F k' G k'' → Goes_on m r rows E k G k''
  goes_join E k F k' G k'' a b = record {
    stage = b.stage;
    base = b.base ∙ a.base;
    depth = b.depth ∙ a.depth;
    grows = grows_join E k.count F k'.count G k''.count a.grows b.grows;
    sticky = λ e. a.sticky (b.sticky e);
  }

  pub tries_more : (E : List Pair) (k : Tally) (ts : List ℕ) (q : ℕ) (F : List Pair) (k' : Tally) (x : ℕ) (p : Pair) (G : List Pair) (k'' : Tally) → Tries m r rows E k ts q F k' x → Put m r rows F k' p G k'' → p.state ≡ get_or ts x 0 → p.standing ≡ q → bad m r p.state q ≡ false → Tries m r rows E k ts q G k'' (x + 1)
  tries_more E k ts q F k' x p G k'' t u e f b = record {
    goes = goes_join E k F k' G k'' t.goes u.goes;
    kept = λ z. below_more (λ y. Has G k''.count (get_or ts y 0) q) x
        (λ y l. has_grows F k'.count G k''.count (get_or ts y 0) q u.goes.grows (t.kept (u.goes.sticky z) y l))
        (rw (← e, ← f) (u.has z));
    good = below_more (λ y. bad m r (get_or ts y 0) q ≡ false) x t.good (rw (← e) b);
  }

  -- the candidate of a step
  pub step_comes : (E : List Pair) (k : Tally) (F : List Pair) (k' : Tally) (i t q : ℕ) → Goes_on m r rows E k F k' → StageOf m r rows E k → i < k.base → depth_at E i + 1 ≡ k.depth → Among t (m.steps (state_at E i)) → q ≡ next_at m r E i → Comes m r F k'.count (record { state = t; standing = q; parent = i; depth = k'.depth })
  step_comes E k F k' i t q g s l d a e =
      let b : i < k.count = omega (arith, s.begun) in
      let x = subst (λ (z : Pair). Among t (m.steps z.state) × (q ≡ r.next z.standing (m.letter z.state)) × (k'.depth ≡ z.depth + 1)) (sym (g.grows.stays i b)) (a, e, g.depth ∙ sym d) in
      inr (omega (arith, g.grows.more), x.0, x.1, x.2)

  -- entry i of an area at a stage is p, with n steps, and q the standing behind it; number x of the steps leads to t, and v says whether that ends a breach
  module _ (E : List Pair) (k : Tally) (s : StageOf m r rows E k) (i : ℕ) (l : i < k.base) (p : Pair) (ep : p ≡ get_or E i no_pair) (q : ℕ) (eq : q ≡ r.next p.standing (m.letter p.state)) (n : ℕ) (en : n ≡ length (m.steps p.state)) (F : List Pair) (k' : Tally) (x : ℕ) (h : Tries m r rows E k (m.steps (state_at E i)) q F k' x) where
    behind : q ≡ next_at m r E i
    behind = rw ep at eq

    steps : n ≡ length (m.steps (state_at E i))
    steps = rw ep at en

    stepped : (t : ℕ) → x < n → t ≡ get_or (m.steps p.state) x 0 → (t ≡ get_or (m.steps (state_at E i)) x 0) × Among t (m.steps (state_at E i))
    stepped t lx et = let e : t ≡ get_or (m.steps (state_at E i)) x 0 = rw ep at et in (e, rw e (index_among (m.steps (state_at E i)) x (omega (arith, steps))))

    pub leave_again : (t : ℕ) (G : List Pair) (k'' : Tally) (v : Bool) → depth_at E i + 1 ≡ k.depth → q < rows → x < n → t ≡ get_or (m.steps p.state) x 0 → t < m.count → v ≡ bad m r t q → v ≡ false → Keeps F k' (record { state = t; standing = q; parent = i; depth = k'.depth }) G k'' → Tries m r rows E k (m.steps (state_at E i)) q G k'' (x + 1)
    leave_again t G k'' v d below lx et inside ev fine keeps =
        let new : Pair = record { state = t; standing = q; parent = i; depth = k'.depth } in
        let a = stepped t lx et in
        let c = step_comes E k F k' i t q h.goes s l d a.1 behind in
        tries_more E k (m.steps (state_at E i)) q F k' x new G k'' h (keeps_put m r rows F k' new G k'' h.goes.stage c (inside, below) refl keeps) a.0 refl (sym ev ∙ fine)

    pub left : n ≤ x → Left m r rows E k i F k'
    left lx =
        let same = sym (h.goes.grows.stays i (omega (arith, s.begun))) in
        record {
          goes = h.goes;
          kept = λ z. subst (λ (p : Pair). (t : ℕ) → Among t (m.steps p.state) → Has F k'.count t (r.next p.standing (m.letter p.state))) same
              (all_among (λ t. Has F k'.count t (next_at m r E i)) (m.steps (state_at E i)) (λ y ly. rw (← behind) (h.kept z y (omega (arith, steps)))));
          good = subst (λ (p : Pair). (t : ℕ) → Among t (m.steps p.state) → bad m r t (r.next p.standing (m.letter p.state)) ≡ false) same
              (all_among (λ t. bad m r t (next_at m r E i) ≡ false) (m.steps (state_at E i)) (λ y ly. rw (← behind) (h.good y (omega (arith, steps)))));
        }

    pub breaks : (t : ℕ) (v : Bool) → x < n → t ≡ get_or (m.steps p.state) x 0 → v ≡ bad m r t q → v ≡ true → Breaks m r rows E k i t F k'
    breaks t v lx et ev broken = record { step = (stepped t lx et).1; breach = rw (← behind) (sym ev ∙ broken); goes = h.goes }

  -- number x of the n starts is t, and v says whether that is itself a breach
  pub started : (n x t : ℕ) (v : Bool) → n ≡ length m.starts → x < n → t ≡ get_or m.starts x 0 → v ≡ bad m r t 0 → v ≡ true → Among t m.starts × (bad m r t 0 ≡ true)
  started n x t v en lx et ev broken = (rw et (index_among m.starts x (omega arith)), sym ev ∙ broken)

  module _ (E : List Pair) (n : ℕ) (en : n ≡ length m.starts) (F : List Pair) (k' : Tally) (x : ℕ) (h : Tries m r rows E nothing_kept m.starts 0 F k' x) where
    pub begin_again : (t : ℕ) (G : List Pair) (k'' : Tally) (v : Bool) → 0 < rows → x < n → t ≡ get_or m.starts x 0 → t < m.count → v ≡ bad m r t 0 → v ≡ false → Keeps F k' (record { state = t; standing = 0; parent = 0; depth = 1 }) G k'' → Tries m r rows E nothing_kept m.starts 0 G k'' (x + 1)
    begin_again t G k'' v some lx et inside ev fine keeps =
        let new : Pair = record { state = t; standing = 0; parent = 0; depth = 1 } in
        let a : Among t m.starts = rw et (index_among m.starts x (omega arith)) in
        tries_more E nothing_kept m.starts 0 F k' x new G k'' h (keeps_put m r rows F k' new G k'' h.goes.stage (inl (a, refl, refl)) (inside, some) (sym h.goes.depth) keeps) et refl (sym ev ∙ fine)

    pub begun : n ≤ x → Begun m r rows E F k'
    begun lx = record {
      stage = h.goes.stage;
      base = h.goes.base;
      depth = h.goes.depth;
      same_length = h.goes.grows.same_length;
      kept = λ z. all_among (λ t. Has F k'.count t 0) m.starts (λ y ly. h.kept z y (omega arith));
      good = all_among (λ t. bad m r t 0 ≡ false) m.starts (λ y ly. h.good y (omega arith));
    }
