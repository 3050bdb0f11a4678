-- The sets that words reach are the standings after them. Assumes nothing.
use Rattle.std.proofs.Common.{◌≡◌, ℕ, ◌+◌, ◌*◌, ◌<◌, ◌≤◌, Bool, true, ◌↔◌, List, [], ◌∷◌, ◌++◌, length, get_or, sym, refl, ap, ◌∙◌, subst, ⊎_elim, append_assoc, append-nil, arith}
use mathlib.Core.Logic.{∥∥₁_elim, ∥∥₁_map}
use mathlib.Core.Bool.{Bool-set}
use mathlib.Core.List.{foldl}
use Rattle.std.proofs.lemmas.Bool.{cases_lt, cases_order}
use Rattle.logic.specs.Formula.{Formula, Letters}
use Rattle.logic.specs.Witness.{Breach}
use Rattle.logic.specs.Sat.{sat}
use Rattle.logic.specs.Labels.{label}
use Rattle.logic.specs.Masks.{mask}
use Rattle.logic.specs.Formula.{on}
use Rattle.logic.specs.Counting.{More, Classes}
use Rattle.logic.specs.Standings.{Standing, SameStanding}
use Rattle.logic.proofs.Sat.{breach_is_sat}
use Rattle.logic.proofs.Labels.{bits_same}
use Rattle.once.specs.Once.{SameWords}
use Rattle.charting.specs.Sets.{bit_of, Packs, upto}
use Rattle.charting.specs.Walks.{Closed, trace, Reached, Charted, Overfull}
use Rattle.charting.proofs.SetSteps.{packs_at, packs_words, upto_in, upto_out}
use Rattle.charting.specs.Labels.{Labelled}
use Rattle.charting.specs.Filled.{Stands, after, walked, Filled, FilledOnce}
use Rattle.charting.proofs.LabelEnds.{mask_same}
use Rattle.charting.proofs.WorklistEnds.{rows_below, counted, too_many}

module _ (f : Formula) (ks : List Formula) (place : ℕ) (root_bit : (w : List ℕ) → on place (mask (label ks w)) ≡ sat f w)
    (ls tb : List ℕ) (a : ℕ) (few : a ≤ 512) (lab : Labelled ks ls a tb) (first : List ℕ) (starts : Packs (upto a (λ i. on place (get_or ls i 0))) first) where
  -- the label of u with a word after it
  trace_is : (u : List ℕ) → Letters u → (i : ℕ) → i < a → (w : List ℕ) → get_or ls i 0 ≡ mask (label ks w)
      → (trace tb u i < a) × (get_or ls (trace tb u i) 0 ≡ mask (label ks (u ++ w)))
  trace_is [] l i h w e = (h, e)
  trace_is (s ∷ u) l i h w e =
      let t = trace_is u l.1 i h w e in
      let r = lab.rows.at (trace tb u i) t.0 in
      (r.below s l.0, r.names s l.0 (u ++ w) t.1)

  -- what a set that u reaches says of label i
  reached_says : (u r : List ℕ) → Letters u → Reached tb a first u r → (i : ℕ) → i < a → (w : List ℕ) → get_or ls i 0 ≡ mask (label ks w)
      → bit_of r i ≡ sat f (u ++ w)
  reached_says u r l h i il w e =
      let t = trace_is u l i il w e in
      packs_at (upto a (λ k. bit_of first (trace tb u k))) r h i (omega arith)
      ∙ upto_in a (λ k. bit_of first (trace tb u k)) i il
      ∙ packs_at (upto a (λ k. on place (get_or ls k 0))) first starts (trace tb u i) (omega (arith, t.0))
      ∙ upto_in a (λ k. on place (get_or ls k 0)) (trace tb u i) t.0
      ∙ ap (on place) t.1 ∙ root_bit (u ++ w)

  reached_stands : (u r : List ℕ) → Letters u → Reached tb a first u r → Stands f ks ls a u r
  reached_stands u r l h = record {
    holds = λ i il w e. (
      λ b. let t = lab.words.at i il in
          ∣ (
            t.0,
            t.1,
            mask_same ks t.0 w (sym t.2 ∙ e),
            (breach_is_sat f (u ++ t.0)).1 (sym (reached_says u r l h i il t.0 t.2) ∙ b),
          ) ∣₁,
      λ s. ∥∥₁_elim s (Bool-set _ _)
          (λ t. reached_says u r l h i il t.0 (e ∙ ap mask (sym t.2)) ∙ (breach_is_sat f (u ++ t.0)).0 t.3),
    );
    rest = λ i il small. packs_at (upto a (λ k. bit_of first (trace tb u k))) r h i small ∙ upto_out a (λ k. bit_of first (trace tb u k)) i il;
  }

  -- words that reach one set have one standing, and the other way round
  reached_half : (u v r : List ℕ) → Letters u → Letters v → Reached tb a first u r → Reached tb a first v r → (ℓ : List Bool) → Standing ks (Breach f) u ℓ → Standing ks (Breach f) v ℓ
  reached_half u v r lu lv hu hv ℓ s = ∥∥₁_map s (λ t.
      let k = lab.all t.0 t.1 in
      let e : sat f (v ++ t.0) ≡ sat f (u ++ t.0) = sym (reached_says v r lv hv k.0 k.1 t.0 k.2) ∙ reached_says u r lu hu k.0 k.1 t.0 k.2 in
      (t.0, t.1, t.2, (breach_is_sat f (v ++ t.0)).1 (e ∙ (breach_is_sat f (u ++ t.0)).0 t.3)))

  reached_same : (u v r : List ℕ) → Letters u → Letters v → Reached tb a first u r → Reached tb a first v r → SameStanding ks (Breach f) u v
  reached_same u v r lu lv hu hv ℓ = (reached_half u v r lu lv hu hv ℓ, reached_half v u r lv lu hv hu ℓ)

  same_half : (u v r t : List ℕ) → Letters u → Letters v → Reached tb a first u r → Reached tb a first v t → SameStanding ks (Breach f) u v
      → (i : ℕ) → i < a → bit_of r i ≡ true → bit_of t i ≡ true
  same_half u v r t lu lv hu hv e i il b =
      let w = lab.words.at i il in
      let st = ((reached_stands u r lu hu).holds i il w.0 w.2).0 b in
      ((reached_stands v t lv hv).holds i il w.0 w.2).1 ((e (label ks w.0)).0 st)

  same_reached : (u v r t : List ℕ) → Letters u → Letters v → Reached tb a first u r → Reached tb a first v t → SameStanding ks (Breach f) u v → SameWords r t
  same_reached u v r t lu lv hu hv e =
      let pu = upto a (λ k. bit_of first (trace tb u k)) in
      let pv = upto a (λ k. bit_of first (trace tb v k)) in
      packs_words pu pv r t hu hv (λ k l. ⊎_elim
      (λ h. sym (packs_at pu r hu k l)
      ∙ bits_same _ _ (same_half u v r t lu lv hu hv e k h) (same_half v u t r lv lu hv hu (λ ℓ. ((e ℓ).1, (e ℓ).0)) k h)
      ∙ packs_at pv t hv k l)
      (λ h. upto_out a (λ k. bit_of first (trace tb u k)) k h ∙ sym (upto_out a (λ k. bit_of first (trace tb v k)) k h))
      (cases_lt k a))

  -- ---- a whole chart

  module _ (st : List (List ℕ)) (b : ℕ) (nx : List ℕ) (ch : Charted tb a first st b nx) where
    walk_from : (u v : List ℕ) → Letters v → (q : ℕ) → q < b → Reached tb a first u (get_or st q [])
        → (foldl (after nx) q v < b) × Reached tb a first (u ++ v) (get_or st (foldl (after nx) q v) [])
    walk_from u [] l q h r = (h, subst (λ x. Reached tb a first x (get_or st q [])) (sym (append-nil u)) r)
    walk_from u (s ∷ v) l q h r =
        let row = ch.rows.at q h in
        let t = walk_from (u ++ s ∷ []) v l.1 (get_or nx (q * 256 + s) 0) (row.below s l.0) (row.names s l.0 u r) in
        (t.0, subst (λ x. Reached tb a first x (get_or st (foldl (after nx) (get_or nx (q * 256 + s) 0) v) [])) (append_assoc u (s ∷ []) v) t.1)

    walk_is : (u : List ℕ) → Letters u → (walked nx u < b) × Reached tb a first u (get_or st (walked nx u) [])
    walk_is u l = walk_from [] u l 0 ch.some ch.empty

    one_number : (u : List ℕ) → Letters u → (q : ℕ) → q < b → Reached tb a first u (get_or st q []) → walked nx u ≡ q
    one_number u l q h r =
        let w = walk_is u l in
        let p = upto a (λ k. bit_of first (trace tb u k)) in
        ⊎_elim (λ e. e)
        (λ d. ⊎_elim
        (λ less. absurd (ch.apart.differ (walked nx u) q [] less h (packs_words p p _ _ w.1 r (λ k _. refl))))
        (λ more. absurd (ch.apart.differ q (walked nx u) [] more w.0 (packs_words p p _ _ r w.1 (λ k _. refl)))) d)
        (cases_order (walked nx u) q)

    one_standing : (u v : List ℕ) → Letters u → Letters v → SameStanding ks (Breach f) u v → walked nx u ≡ walked nx v
    one_standing u v lu lv e =
        let x = walk_is u lu in
        let y = walk_is v lv in
        ⊎_elim (λ same. same)
        (λ d. ⊎_elim
        (λ less. absurd (ch.apart.differ (walked nx u) (walked nx v) [] less y.0 (same_reached u v _ _ lu lv x.1 y.1 e)))
        (λ more. absurd (ch.apart.differ (walked nx v) (walked nx u) [] more x.0 (same_reached v u _ _ lv lu y.1 x.1 (λ ℓ. ((e ℓ).1, (e ℓ).0))))) d)
        (cases_order (walked nx u) (walked nx v))

    standing_classes : Classes Letters (SameStanding ks (Breach f)) b
    standing_classes = counted SameWords [] (Reached tb a first) (SameStanding ks (Breach f)) same_reached reached_same st b ch.apart ch.walks
        (λ u l. let w = walk_is u l in (walked nx u, w.0, w.1))

    filled : b * 256 ≤ length nx → Filled f ks ls a st b nx
    filled room = record {
      labels_fit = lab.fits;
      standings_fit = ch.fits;
      next_fit = room;
      closed = rows_below ch.rows;
      label_count = lab.count;
      labels_are = lab.words;
      labels_all = lab.all;
      labels_apart = lab.apart;
      label_first = lab.empty;
      standing_count = standing_classes;
      standings_are = λ q h. let t = ch.walks.at q h in (t.0, t.1, one_number t.0 t.1 q h t.2);
      standings_apart = ch.apart;
      within = λ u l. (walk_is u l).0;
      stands = λ u l. reached_stands u _ l (walk_is u l).1;
      breach = λ u l.
          let e : bit_of (get_or st (walked nx u) []) 0 ≡ sat f u = reached_says u _ l (walk_is u l).1 0 lab.some [] lab.empty ∙ ap (sat f) (append-nil u) in
          (λ h. (breach_is_sat f u).1 (sym e ∙ h), λ h. e ∙ (breach_is_sat f u).0 h);
    }

    pub filled_once : b * 256 ≤ length nx → FilledOnce f ks ls a st b nx
    filled_once room = record { filled = filled room; standings_once = one_standing }

  pub too_many_standings : (room : ℕ) → Overfull tb a first room → More room Letters (SameStanding ks (Breach f))
  too_many_standings room ov = too_many SameWords [] (Reached tb a first) (SameStanding ks (Breach f)) same_reached room ov

-- a longer area with the same front
module _ (f : Formula) (ks : List Formula) (ls ls' : List ℕ) (a : ℕ) (st st' : List (List ℕ)) (b : ℕ) (nx : List ℕ)
    (lf : (k : ℕ) (d : ℕ) → k < a → get_or ls' k d ≡ get_or ls k d) (sf : (k : ℕ) (d : List ℕ) → k < b → get_or st' k d ≡ get_or st k d)
    (ll : length ls ≤ length ls') (sl : length st ≤ length st') (some : 0 < a) where
  stands_front : (u r : List ℕ) → Stands f ks ls a u r → Stands f ks ls' a u r
  stands_front u r s = record { holds = λ i h w e. s.holds i h w (sym (lf i 0 h) ∙ e); rest = s.rest }

  pub filled_front : Filled f ks ls a st b nx → Filled f ks ls' a st' b nx
  filled_front x = record {
    labels_fit = omega (arith, x.labels_fit);
    standings_fit = omega (arith, x.standings_fit);
    next_fit = x.next_fit;
    closed = x.closed;
    label_count = x.label_count;
    labels_are = record { at = λ k h. let t = x.labels_are.at k h in (t.0, t.1, lf k 0 h ∙ t.2) };
    labels_all = λ w l. let t = x.labels_all w l in (t.0, t.1, lf t.0 0 t.1 ∙ t.2);
    labels_apart = record { differ = λ i j d less h e. x.labels_apart.differ i j d less h (sym (lf i d (omega arith)) ∙ e ∙ lf j d h) };
    label_first = lf 0 0 some ∙ x.label_first;
    standing_count = x.standing_count;
    standings_are = x.standings_are;
    standings_apart = record {
      differ = λ i j d less h e. x.standings_apart.differ i j d less h
          (subst (λ (r : List ℕ). SameWords r (get_or st j d)) (sf i d (omega arith)) (subst (λ (r : List ℕ). SameWords (get_or st' i d) r) (sf j d h) e));
    };
    within = x.within;
    stands = λ u l. subst (λ (r : List ℕ). Stands f ks ls' a u r) (sym (sf (walked nx u) [] (x.within u l))) (stands_front u _ (x.stands u l));
    breach = λ u l. subst (λ (r : List ℕ). (bit_of r 0 ≡ true) ↔ Breach f u) (sym (sf (walked nx u) [] (x.within u l))) (x.breach u l);
  }

pub some_labels : {f : Formula} {ks : List Formula} {ls : List ℕ} {a : ℕ} {st : List (List ℕ)} {b : ℕ} {nx : List ℕ} → Filled f ks ls a st b nx → 0 < a
some_labels x = let t = x.labels_all [] tt in omega (arith, t.1)

pub rows_closed : (ks : List Formula) (ls : List ℕ) (a : ℕ) (tb : List ℕ) → Labelled ks ls a tb → a ≤ 512 → a * 256 ≤ length tb → Closed tb a
rows_closed ks ls a tb lab few room = record { room = room; few = few; below = rows_below lab.rows }
