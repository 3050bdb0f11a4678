-- Counting: how many pairs, and when they do not fit.
use Rattle.std.proofs.Common.{◌≡◌, ℕ, suc, ◌<◌, ◌≤◌, Bool, true, false, cond, ltb, List, length, sym, refl, ◌∙◌, arith, ltb-true}
use Rattle.logic.proofs.Tables.{no_more as fewer}
use Rattle.meaning.specs.Machines.{Meaning}
use Rattle.pairs.specs.declared.pair.Pair.{Pair}
use Rattle.meaning.specs.Walks.{Walk, last}
use Rattle.pairs.specs.Readers.{Reader, standing_of, SamePair, Pairs, Fit}
use Rattle.pairs.specs.Stages.{state_at, standing_at, depth_at, Has, Over, Stage, chain}
use Rattle.pairs.proofs.Chain.{Leads, leads}

-- cases by a test, at a family over the Bool
by_test : (F : Bool → Type 0) (b : Bool) → (b ≡ true → F true) → (b ≡ false → F false) → F b
by_test F true f g = f refl
by_test F false f g = g refl

module _ (m : Meaning) (r : Reader) (P : List ℕ → Type 0) where
  -- walks whose pairs differ are no more than the pairs
  no_more : (n k : ℕ) (w : ℕ → List ℕ) → ((i : ℕ) → i < k → Walk m (w i) × P (w i)) → ((i j : ℕ) → i < j → j < k → SamePair m r (w i) (w j) → ⊥) → Pairs m r P n → k ≤ n
  no_more n k w walks differ c =
      fewer (λ xs. Walk m xs × P xs) (SamePair m r) (λ xs ys e. (sym e.0, sym e.1)) (λ xs ys zs d e. (d.0 ∙ e.0, d.1 ∙ e.1)) k n w walks differ
      (record { one = c.walk; inside = c.walks; covers = λ xs h. c.covers xs h.0 h.1; differ = c.differ })

  module _ (rows base : ℕ) (E : List Pair) (n : ℕ) (over : Bool) (j : ℕ) (s : Stage m r rows base E n over j) where
    -- the walk of an entry
    own : ℕ → List ℕ
    own i = chain E (depth_at E i) i

    own_leads : (i : ℕ) → i < n → Leads m r (depth_at E i) (state_at E i) (standing_at E i) (own i)
    unfolding own
    own_leads i l = leads m r E n s.comes (depth_at E i) i l refl

    own_differ : (i k : ℕ) → i < k → k < n → SamePair m r (own i) (own k) → ⊥
    own_differ i k l b e =
        let x = own_leads i (omega arith) in
        let y = own_leads k b in
        s.differ i k l b (sym x.ends ∙ e.0 ∙ y.ends) (sym x.standing ∙ e.1 ∙ y.standing)

    -- the pairs kept are the pairs of the walks with P
    pub counted : ((i : ℕ) (xs : List ℕ) → i < n → Leads m r (depth_at E i) (state_at E i) (standing_at E i) xs → P xs) → ((xs : List ℕ) → Walk m xs → P xs → Has E n (last xs) (standing_of m r xs)) → Pairs m r P n
    counted holds covers = record {
      walk = own;
      walks = λ i l. ((own_leads i l).walks, holds i (own i) l (own_leads i l));
      differ = own_differ;
      covers = λ xs w p. let h = covers xs w p in let x = own_leads h.at h.below in (h.at, h.below, (sym h.state ∙ sym x.ends, sym h.standing ∙ sym x.standing));
    }

    -- the entries' walks, and one more
    listed : List ℕ → ℕ → List ℕ
    listed x i = cond (ltb i n) (own i) x

    -- pairs that do not fit
    pub too_many : ((i : ℕ) (xs : List ℕ) → i < n → Leads m r (depth_at E i) (state_at E i) (standing_at E i) xs → P xs) → (o : Over m r E n j) → P o.walk → Fit m r (length E) P → ⊥
    unfolding listed
    too_many holds o p fit =
        let w : ℕ → List ℕ = listed o.walk in
        let walks : (i : ℕ) → i < suc n → Walk m (w i) × P (w i) = λ i l.
        by_test (λ b. Walk m (cond b (own i) o.walk) × P (cond b (own i) o.walk)) (ltb i n)
        (λ e. let x = own_leads i (ltb-true i n e) in (x.walks, holds i (own i) (ltb-true i n e) x))
        (λ e. (o.walks, p)) in
        let differ : (i k : ℕ) → i < k → k < suc n → SamePair m r (w i) (w k) → ⊥ = λ i k l b.
        let low : ltb i n ≡ true = grind arith in
        by_test (λ b. SamePair m r (w i) (cond b (own k) o.walk) → ⊥) (ltb k n)
        (λ e. rw low (own_differ i k l (ltb-true k n e)))
        (λ e. rw low (λ same. let x = own_leads i (omega arith) in o.missing (record { at = i; below = omega arith; state = sym x.ends ∙ same.0; standing = sym x.standing ∙ same.1 }))) in
        omega (arith, no_more fit.0 (suc n) w walks differ fit.2, fit.1, o.full)
