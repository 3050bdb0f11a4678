-- From level to level, and the three ends of a search.
use Rattle.std.proofs.Common.{◌≡◌, ℕ, ◌+◌, ◌<◌, ◌≤◌, Bool, true, false, List, [], ◌∷◌, ◌++◌, length, take, drop, set, sym, refl, ap, ◌∙◌, subst, ⊎_elim, arith}
use Rattle.meaning.specs.Machines.{Meaning, Among}
use Rattle.pairs.specs.declared.pair.Pair.{Pair}
use Rattle.meaning.specs.Walks.{Walk, last}
use Rattle.pairs.specs.Readers.{Reader, standing_of, Broken, Breach, Fit, Shorter, AnyWalk, after}
use Rattle.pairs.specs.Verdicts.{Shows, Clears, Exceeds}
use Rattle.pairs.specs.Stages.{Tally, state_at, standing_at, depth_at, bad, Has, Stage, StageOf, Goes_on, Grows, KeptFrom, GoodFrom, Covered, Breaks, LevelPart, Between, chain}
use Rattle.std.proofs.lemmas.Bool.{cases_lt}
use Rattle.std.proofs.lemmas.List.{length_push, take_more_set, drop-set-lt, length-set}
use Rattle.pairs.proofs.Walks.{after_whole, walk_some}
use Rattle.pairs.proofs.Cover.{has_grows, kept_grows, good_grows, covered_more, covered_all, all_good}
use Rattle.pairs.proofs.Chain.{Leads, leads, leads_step}
use Rattle.pairs.proofs.Count.{counted, too_many}

module _ (m : Meaning) (r : Reader) (rows : ℕ) where
  depth_most : (base : ℕ) (E : List Pair) (n : ℕ) (over : Bool) (j : ℕ) → Stage m r rows base E n over j → (i : ℕ) → i < n → depth_at E i ≤ j
  depth_most base E n over j s i l = ⊎_elim (λ (a : i < base). omega (arith, s.old i a)) (λ (b : base ≤ i). omega (arith, s.fresh i b l)) (cases_lt i base)

  -- pairs that found no room: neither a walk nor clear
  pub refused : (base : ℕ) (E : List Pair) (n : ℕ) (over : Bool) (j room : ℕ) (before after : List ℕ) → after ≡ before → over ≡ true → Stage m r rows base E n over j → room ≡ length E → ((xs : List ℕ) → Walk m xs → length xs ≤ j → Broken m r xs → ⊥) → Exceeds m r room before after
  refused base E n over j room before after stay full s e clean = record {
    no_walk = λ h.
        let o = s.overflow full in
        let long : j < length h.walk = ⊎_elim (λ (a : j < length h.walk). a) (λ (b : length h.walk ≤ j). absurd (clean h.walk h.shortest.breach.0 b h.shortest.breach.1)) (cases_lt j (length h.walk)) in
        too_many m r (Shorter (length h.walk)) rows base E n over j s
        (λ i xs l x. omega (arith, x.states, depth_most base E n over j s i l)) o (omega (arith, o.short)) (rw e at h.fit);
    no_clear = λ h. too_many m r AnyWalk rows base E n over j s (λ i xs l x. tt) (s.overflow full) tt (rw e at h.fit);
    stays = stay;
  }

  -- all that is kept before the level was left
  level_good : (E : List Pair) (k : Tally) (low n j : ℕ) (F : List Pair) (k' : Tally) → n ≡ k.count → n ≡ k.base → Between m r E low n j → LevelPart m r rows E k low k.base F k' → (i : ℕ) → i < n → GoodFrom m r F i
  level_good E k low n j F k' e f b p i l = ⊎_elim
      (λ (a : i < low). good_grows m r E k.count F k'.count i p.goes.grows (omega arith) (b.good i a))
      (λ (a : low ≤ i). p.good i a (omega arith))
      (cases_lt i low)

  level_covered : (E : List Pair) (k : Tally) (low n j : ℕ) (F : List Pair) (k' : Tally) → n ≡ k.count → Between m r E low n j → Goes_on m r rows E k F k' → Covered m r F n j
  level_covered E k low n j F k' e b g xs w l =
      has_grows E n F n (last xs) (standing_of m r xs) (record { more = omega arith; same_length = g.grows.same_length; stays = λ i l. g.grows.stays i (omega arith) }) (b.covered xs w l)

  pub level_clean : (E : List Pair) (k : Tally) (low n j : ℕ) (F : List Pair) (k' : Tally) → n ≡ k.count → n ≡ k.base → Between m r E low n j → LevelPart m r rows E k low k.base F k' → (xs : List ℕ) → Walk m xs → length xs ≤ j + 1 → Broken m r xs → ⊥
  level_clean E k low n j F k' e f b p = all_good m r F n j (level_covered E k low n j F k' e b p.goes) b.starts_good (level_good E k low n j F k' e f b p)

  pub level_between : (E : List Pair) (k : Tally) (low n j : ℕ) (F : List Pair) (k' : Tally) → n ≡ k.count → n ≡ k.base → Between m r E low n j → LevelPart m r rows E k low k.base F k' → k'.full ≡ false → Between m r F n k'.count (j + 1)
  level_between E k low n j F k' e f b p z =
      let g : Grows E n F k'.count = record { more = omega (arith, p.goes.grows.more); same_length = p.goes.grows.same_length; stays = λ i l. p.goes.grows.stays i (omega arith) } in
      let starts : (s : ℕ) → Among s m.starts → Has F k'.count s 0 = λ s a. has_grows E n F k'.count s 0 g (b.starts_kept s a) in
      let kept : (i : ℕ) → i < n → KeptFrom m r F k'.count i = λ i l. ⊎_elim
      (λ (a : i < low). kept_grows m r E n F k'.count i g l (b.kept i a))
      (λ (a : low ≤ i). p.kept z i a (omega arith))
      (cases_lt i low) in
      record {
        starts_kept = starts;
        starts_good = b.starts_good;
        kept = kept;
        good = level_good E k low n j F k' e f b p;
        covered = covered_more m r E n j F k'.count b.covered starts kept g;
        clean = level_clean E k low n j F k' e f b p;
      }

  -- nothing is left to leave
  pub cleared : (base : ℕ) (E : List Pair) (n : ℕ) (over : Bool) (j room low res : ℕ) (before after : List ℕ) → after ≡ before → Stage m r rows base E n over j → Between m r E low n j → n ≤ low → length E ≡ room → res ≡ n → Clears m r room before after res
  cleared base E n over j room low res before after stay s b l e er =
      let kept : (i : ℕ) → i < n → KeptFrom m r E n i = λ i h. b.kept i (omega arith) in
      rw er (record {
        none = λ ys h. all_good m r E n (length ys) (covered_all m r E n b.starts_kept kept (length ys)) b.starts_good (λ i h. b.good i (omega arith)) ys h.0 (omega arith) h.1;
        few = omega (arith, s.fits);
        pairs = counted m r AnyWalk rows base E n over j s (λ i xs h x. tt) (λ xs w h. covered_all m r E n b.starts_kept kept (length xs) xs w (omega arith));
        stays = stay;
      })

  -- the pairs of the walks of at most j states
  pub level_fit : (base : ℕ) (E : List Pair) (n : ℕ) (over : Bool) (j room k : ℕ) → Stage m r rows base E n over j → Covered m r E n j → length E ≡ room → k ≡ j + 1 → Fit m r room (Shorter k)
  level_fit base E n over j room k s c e f = (n, omega (arith, s.fits), counted m r (Shorter k) rows base E n over j s (λ i xs l x. omega (arith, x.states, depth_most base E n over j s i l)) (λ xs w h. c xs w (omega arith)))

  pub shown : (xs : List ℕ) (d s q t : ℕ) → Leads m r d s q xs → Among t (m.steps s) → bad m r t (r.next q (m.letter s)) ≡ true → Breach m r (xs ++ (t ∷ []))
  shown xs d s q t h a b =
      let y = leads_step m r d s q t xs h a in
      (y.walks, rw (after_whole m r (xs ++ (t ∷ [])) y.walks, y.standing, y.ends) b)

  -- a start that is itself a breach
  pub start_shown : (t room : ℕ) (w : List ℕ) → 0 < length w → Among t m.starts → bad m r t 0 ≡ true → Shows m r room w (set w 0 t) 1
  start_shown t room w l a b =
      let e : take 1 (set w 0 t) ≡ t ∷ [] = take_more_set w 0 t l in
      record {
        within = rw length-set l;
        shortest = rw e (record { breach = ((a, tt), b); least = λ ys h. walk_some m ys h.0 });
        fit = (0, omega arith, record { walk = λ i. []; walks = λ i h. absurd (omega arith); differ = λ i j h g. absurd (omega arith); covers = λ xs v h. absurd (omega (arith, walk_some m xs v)) });
        rest = drop-set-lt 1 w 0 t (omega arith);
      }

  -- a step behind entry i ends a breach
  pub walk_shown : (E : List Pair) (k k0 : Tally) (i t : ℕ) (F : List Pair) (k' : Tally) (room res : ℕ) (w w' : List ℕ) → StageOf m r rows E k → Between m r E k.base k.count k.depth → k0.count ≡ k.count → k.base ≤ i → i < k.count → Breaks m r rows E k0 i t F k' → length E ≡ room → res ≡ depth_at F i + 1 → depth_at F i < length w' → take res w' ≡ chain F (depth_at F i) i ++ (t ∷ []) → drop res w' ≡ drop res w → Shows m r room w w' res
  walk_shown E k k0 i t F k' room res w w' s b ec low high h er es fits written rest =
      let same = h.goes.grows.stays i (omega arith) in
      let d = depth_at F i in
      let xs = chain F d i in
      let ed : d ≡ k.depth = ap (λ (p : Pair). p.depth) same ∙ s.fresh i low high in
      let x = subst (λ (p : Pair). Among t (m.steps p.state) × (bad m r t (r.next p.standing (m.letter p.state)) ≡ true)) (sym same) (h.step, h.breach) in
      let l = leads m r F k'.count h.goes.stage.comes d i (omega (arith, h.goes.grows.more)) refl in
      let br = shown xs d (state_at F i) (standing_at F i) t l x.0 x.1 in
      record {
        within = omega arith;
        shortest = rw written (record {
          breach = br;
          least = λ ys y. ⊎_elim
              (λ (a : length ys < length (xs ++ (t ∷ []))). absurd (b.clean ys y.0 (omega (arith, length_push xs t, l.states)) y.1))
              (λ (a : length (xs ++ (t ∷ [])) ≤ length ys). a)
              (cases_lt (length ys) (length (xs ++ (t ∷ []))));
        });
        fit = level_fit k.base E k.count k.full k.depth room res s b.covered er (omega arith);
        rest = rest;
      }

  -- the invariant of the exploration, after one more level
  pub level_again : (E : List Pair) (k k0 : Tally) (F : List Pair) (k' : Tally) → k0.count ≡ k.count → k0.base ≡ k.count → k0.depth ≡ k.depth + 1 → Between m r E k.base k.count k.depth → LevelPart m r rows E k0 k.base k0.base F k' → k'.full ≡ false → Between m r F k'.base k'.count k'.depth
  level_again E k k0 F k' ec eb ed b p z =
      let x = level_between E k0 k.base k.count k.depth F k' (sym ec) (sym eb) b p z in
      rw (p.goes.base, eb, p.goes.depth, ed) x
