-- Keeping one pair.
use Rattle.std.proofs.Common.{◌≡◌, ℕ, ◌+◌, ◌<◌, ◌≤◌, Bool, true, false, ◌≢◌, List, length, get_or, set, sym, refl, ap, ◌∙◌, subst, inl, inr, ⊎_elim, arith, below_more}
use mathlib.Core.Bool.{false≢true}
use Rattle.std.proofs.lemmas.List.{get_or-set_same, get_or-set_other, length-set}
use Rattle.meaning.specs.Machines.{Meaning, Among}
use Rattle.pairs.specs.declared.pair.Pair.{Pair}
use Rattle.pairs.specs.Readers.{Reader}
use Rattle.pairs.specs.Stages.{Tally, no_pair, state_at, standing_at, depth_at, next_at, Has, Comes, Stage, StageOf, Keeps, Goes_on, Grows}
use Rattle.pairs.proofs.Chain.{comes_leads}

-- an area with one more entry
module _ (E : List Pair) (n : ℕ) (p : Pair) (room : n < length E) where
  pub put_old : (i : ℕ) → i < n → get_or (set E n p) i no_pair ≡ get_or E i no_pair
  put_old i l = let ne : i ≢ n = omega arith in rw get_or-set_other

  pub put_new : get_or (set E n p) n no_pair ≡ p
  put_new = rw get_or-set_same

  pub put_grows : Grows E n (set E n p) (n + 1)
  put_grows = record { more = omega arith; same_length = length-set E n p; stays = put_old }

  -- what holds of each entry holds again, if it holds of the new one
  pub put_all : (Q : ℕ → Pair → Type 0) → ((i : ℕ) → i < n → Q i (get_or E i no_pair)) → Q n p → (i : ℕ) → i < n + 1 → Q i (get_or (set E n p) i no_pair)
  put_all Q old new = below_more (λ i. Q i (get_or (set E n p) i no_pair)) n
      (λ i l. subst (λ (z : Pair). Q i z) (sym (put_old i l)) (old i l))
      (subst (λ (z : Pair). Q n z) (sym put_new) new)

comes_same : (m : Meaning) (r : Reader) (E F : List Pair) (i : ℕ) (p : Pair) → ((x : ℕ) → x < i → get_or F x no_pair ≡ get_or E x no_pair) → Comes m r E i p → Comes m r F i p
comes_same m r E F i p same c = ⊎_elim
    (λ (a : Among p.state m.starts × (p.standing ≡ 0) × (p.depth ≡ 1)). inl a)
    (λ (b : (p.parent < i) × Among p.state (m.steps (state_at E p.parent)) × (p.standing ≡ next_at m r E p.parent) × (p.depth ≡ depth_at E p.parent + 1)).
    let x = subst (λ (z : Pair). Among p.state (m.steps z.state) × (p.standing ≡ r.next z.standing (m.letter z.state)) × (p.depth ≡ z.depth + 1)) (sym (same p.parent b.0)) (b.1, b.2, b.3) in
    inr (b.0, x.0, x.1, x.2))
    c

module _ (m : Meaning) (r : Reader) (rows base : ℕ) (E : List Pair) (n : ℕ) (over : Bool) (j : ℕ) (s : Stage m r rows base E n over j) (p : Pair) (c : Comes m r E n p) (inside : (p.state < m.count) × (p.standing < rows)) (depth : p.depth ≡ j) where
  shallow : p.depth ≤ n + 1
  shallow = ⊎_elim
      (λ (a : Among p.state m.starts × (p.standing ≡ 0) × (p.depth ≡ 1)). omega (arith, a.2))
      (λ (b : (p.parent < n) × Among p.state (m.steps (state_at E p.parent)) × (p.standing ≡ next_at m r E p.parent) × (p.depth ≡ depth_at E p.parent + 1)).
      omega (arith, b.0, b.3, s.low p.parent b.0))
      c

  pub put_stage : (n < length E) → (Has E n p.state p.standing → ⊥) → Stage m r rows base (set E n p) (n + 1) over j
  put_stage room new = record {
    fits = rw length-set (omega arith);
    begun = omega (arith, s.begun);
    comes = put_all E n p room (λ i z. Comes m r (set E n p) i z)
        (λ i l. comes_same m r E (set E n p) i (get_or E i no_pair) (λ x k. put_old E n p room x (omega arith)) (s.comes i l))
        (comes_same m r E (set E n p) n p (put_old E n p room) c);
    inside = put_all E n p room (λ i z. (z.state < m.count) × (z.standing < rows)) s.inside inside;
    low = put_all E n p room (λ i z. z.depth ≤ i + 1) s.low shallow;
    old = λ i l. subst (λ (z : Pair). z.depth < j) (sym (put_old E n p room i (omega (arith, s.begun)))) (s.old i l);
    fresh = λ i b l. put_all E n p room (λ i z. base ≤ i → z.depth ≡ j) (λ i l b. s.fresh i b l) (λ b. depth) i l b;
    differ = λ i k l b. put_all E n p room (λ k z. (i : ℕ) → i < k → state_at (set E n p) i ≡ z.state → standing_at (set E n p) i ≡ z.standing → ⊥)
        (λ k b i l. subst (λ (z : Pair). z.state ≡ state_at E k → z.standing ≡ standing_at E k → ⊥) (sym (put_old E n p room i (omega arith))) (s.differ i k l b))
        (λ i l. subst (λ (z : Pair). z.state ≡ p.state → z.standing ≡ p.standing → ⊥) (sym (put_old E n p room i l)) (λ e f. new (record { at = i; below = l; state = e; standing = f })))
        k b i l;
    overflow = λ e. absurd (omega (arith, (s.overflow e).full));
  }

  pub full_stage : n ≡ length E → (Has E n p.state p.standing → ⊥) → Stage m r rows base E n true j
  full_stage full new = record {
    fits = s.fits;
    begun = s.begun;
    comes = s.comes;
    inside = s.inside;
    low = s.low;
    old = s.old;
    fresh = s.fresh;
    differ = s.differ;
    overflow = λ e. let x = comes_leads m r E n s.comes p c in
        record { full = full; walk = x.0; walks = x.1.walks; short = omega (arith, x.1.states, depth); missing = λ h. new (record { at = h.at; below = h.below; state = h.state ∙ x.1.ends; standing = h.standing ∙ x.1.standing }) };
  }

pub grows_none : (E : List Pair) (n : ℕ) → Grows E n E n
grows_none E n = record { more = omega arith; same_length = refl; stays = λ i l. refl }

pub grows_join : (E : List Pair) (n : ℕ) (F : List Pair) (k : ℕ) (G : List Pair) (l : ℕ) → Grows E n F k → Grows F k G l → Grows E n G l
grows_join E n F k G l a b = record {
  more = omega (arith, a.more, b.more);
  same_length = b.same_length ∙ a.same_length;
  stays = λ i h. b.stays i (omega (arith, a.more)) ∙ a.stays i h;
}

-- a pair that was kept, or found no room
pub record Put (m : Meaning) (r : Reader) (rows : ℕ) (E : List Pair) (k : Tally) (p : Pair) (F : List Pair) (k' : Tally) : Type 0 where
  pub goes : Goes_on m r rows E k F k'
  pub has : k'.full ≡ false → Has F k'.count p.state p.standing

pub keeps_put : (m : Meaning) (r : Reader) (rows : ℕ) (E : List Pair) (k : Tally) (p : Pair) (F : List Pair) (k' : Tally) → StageOf m r rows E k → Comes m r E k.count p → (p.state < m.count) × (p.standing < rows) → p.depth ≡ k.depth → Keeps E k p F k' → Put m r rows E k p F k'
keeps_put m r rows E k p F k' s c inside depth h = ⊎_elim
    (λ (a : Has E k.count p.state p.standing × (F ≡ E) × (k'.count ≡ k.count) × (k'.full ≡ k.full)). record {
      goes = record {
        stage = rw (h.base, a.1, a.2, a.3, h.depth) s;
        base = h.base;
        depth = h.depth;
        grows = rw (a.1, a.2) (grows_none E k.count);
        sticky = λ e. sym a.3 ∙ e;
      };
      has = λ e. rw (a.1, a.2) a.0;
    })
    (⊎_elim
    (λ (a : (Has E k.count p.state p.standing → ⊥) × (k.count < length E) × (F ≡ set E k.count p) × (k'.count ≡ k.count + 1) × (k'.full ≡ k.full)). record {
      goes = record {
        stage = rw (h.base, a.2, a.3, a.4, h.depth) (put_stage m r rows k.base E k.count k.full k.depth s p c inside depth a.1 a.0);
        base = h.base;
        depth = h.depth;
        grows = rw (a.2, a.3) (put_grows E k.count p a.1);
        sticky = λ e. sym a.4 ∙ e;
      };
      has = λ e. rw (a.2, a.3) (record { at = k.count; below = omega arith; state = ap (λ (z : Pair). z.state) (put_new E k.count p a.1); standing = ap (λ (z : Pair). z.standing) (put_new E k.count p a.1) });
    })
    (λ (a : (Has E k.count p.state p.standing → ⊥) × (k.count ≡ length E) × (F ≡ E) × (k'.count ≡ k.count) × (k'.full ≡ true)). record {
      goes = record {
        stage = rw (h.base, a.2, a.3, a.4, h.depth) (full_stage m r rows k.base E k.count k.full k.depth s p c inside depth a.1 a.0);
        base = h.base;
        depth = h.depth;
        grows = rw (a.2, a.3) (grows_none E k.count);
        sticky = λ e. absurd (false≢true (sym e ∙ a.4));
      };
      has = λ e. absurd (false≢true (sym e ∙ a.4));
    }))
    h.ways
