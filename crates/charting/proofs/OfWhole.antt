-- Filled areas are whole, and whole areas read their formula. Assumes nothing.
use Rattle.std.proofs.Common.{◌≡◌, ℕ, ◌+◌, ◌*◌, ◌^◌, ◌<◌, ◌≤◌, Bool, true, ◌↔◌, List, [], ◌∷◌, ◌++◌, length, get_or, take, sym, refl, ap, ◌∙◌, subst, ⊎_elim, arith, length-take, length-take-le, get_or-take}
use mathlib.Core.Logic.{∥∥₁_elim, ∥∥₁_map, ∥∥₁_prop}
use mathlib.Core.Bool.{Bool-set}
use mathlib.Core.List.{foldl, foldl-append}
use Rattle.std.proofs.lemmas.Bool.{cases_order}
use Rattle.logic.specs.Formula.{Formula, Letter, Letters}
use Rattle.logic.specs.Witness.{Breach}
use Rattle.logic.specs.Labels.{ListsKept, label}
use Rattle.logic.specs.Masks.{mask}
use Rattle.logic.specs.Standings as lists
use Rattle.logic.proofs.Labels.{label_is}
use Rattle.logic.proofs.Masks.{masks_are_right}
use Rattle.logic.proofs.Standings.{standings_are_right}
use Rattle.meaning.specs.Charts.{SameLabel, WithinStanding, SameStanding}
use Rattle.meaning.specs.Whole.{LabelOf, bit, StandingOf, next, Whole, HoldsEmpty}
use Rattle.meaning.proofs.OfWhole.{number_from, runs, standing_from, moved, holds_breach, breach_holds}
use Rattle.pairs.specs.Verdicts.{Reads}
use Rattle.charting.specs.Sets.{bit_of}
use Rattle.charting.specs.Filled.{after, walked, breached, Filled, FilledOnce}
use Rattle.charting.specs.Whole.{held, reader, FilledChartsAreWhole, WholeChartsRead, FilledChartsRead}
use Rattle.charting.proofs.LabelEnds.{mask_empty, label_length, mask_same}

-- ---- labels and standings by their kept formulas

module _ (f : Formula) (ks : List Formula) (keeps : ListsKept f ks) where
  pub mask_label : (w : List ℕ) → LabelOf ks w (mask (label ks w))
  mask_label w =
      let m = masks_are_right (label ks w) in
      let n = label_length ks w in
      let is = (label_is ks w (label ks w)).1 refl in
      record {
        small = subst (λ (n : ℕ). mask (label ks w) < 2 ^ n) n m.small;
        says = λ k l. let e = m.bit k (omega (arith, n, l)) in (λ h. (is.says k l).0 (sym e ∙ h), λ h. e ∙ (is.says k l).1 h);
      }

  pub mask_is : (w : List ℕ) (x : ℕ) → LabelOf ks w x → x ≡ mask (label ks w)
  mask_is w x h = number_from f ks keeps w w x (mask (label ks w)) h (mask_label w) (λ g k. (λ b. b, λ b. b))

  pub same_labels : (u v : List ℕ) → SameLabel f u v → lists.SameLabel ks u v
  same_labels u v h = mask_same ks u v (number_from f ks keeps u v (mask (label ks u)) (mask (label ks v)) (mask_label u) (mask_label v) h)

  within_half : (u v : List ℕ) → WithinStanding f u v → (ℓ : List Bool) → lists.Standing ks (Breach f) u ℓ → lists.Standing ks (Breach f) v ℓ
  within_half u v h ℓ s =
      ∥∥₁_elim s ∥∥₁_prop
      (λ x. ∥∥₁_map (h x.0 x.1 x.3) (λ y. (y.0, y.1, sym (same_labels x.0 y.0 y.3) ∙ x.2, y.2)))

  pub same_standings : (u v : List ℕ) → SameStanding f u v → lists.SameStanding ks (Breach f) u v
  same_standings u v h ℓ = (within_half u v h.0 ℓ, within_half v u h.1 ℓ)

  -- one letter more keeps standings the same
  longer_half : (u v : List ℕ) (s : ℕ) → Letter s → lists.SameStanding ks (Breach f) u v → (ℓ : List Bool)
      → lists.Standing ks (Breach f) (u ++ s ∷ []) ℓ → lists.Standing ks (Breach f) (v ++ s ∷ []) ℓ
  longer_half u v s l e ℓ h =
      let step = (standings_are_right f ks keeps).step in
      let t = (step u s l ℓ).0 h in
      (step v s l ℓ).1 (t.0, (e _).0 t.1)

  longer : (u v : List ℕ) (s : ℕ) → Letter s → lists.SameStanding ks (Breach f) u v → lists.SameStanding ks (Breach f) (u ++ s ∷ []) (v ++ s ∷ [])
  longer u v s l e ℓ = (longer_half u v s l e ℓ, longer_half v u s l (λ m. ((e m).1, (e m).0)) ℓ)

  -- ---- filled areas

  module _ (few : length ks ≤ 32) (ls : List ℕ) (a : ℕ) (st : List (List ℕ)) (b : ℕ) (nx : List ℕ) (once : FilledOnce f ks ls a st b nx) where
    -- what the areas hold
    x : Filled f ks ls a st b nx
    x = once.filled

    -- standing number i is the one after u, by the theory's lists
    abbrev At : List ℕ → ℕ → Type 0
    At u i =
        (i < b) × ((k : ℕ) → k < a → (w : List ℕ) → get_or ls k 0 ≡ mask (label ks w)
        → (bit_of (get_or st i []) k ≡ true) ↔ lists.Standing ks (Breach f) u (label ks w))

    at_word : (u : List ℕ) → Letters u → At u (walked nx u)
    at_word u l = (x.within u l, (x.stands u l).holds)

    at_moved : (u v : List ℕ) (i : ℕ) → lists.SameStanding ks (Breach f) u v → At u i → At v i
    at_moved u v i e h = (h.0, λ k l w is. let q = h.1 k l w is in (λ t. (e (label ks w)).0 (q.0 t), λ t. q.1 ((e (label ks w)).1 t)))

    at_half : (u v : List ℕ) (i : ℕ) → At u i → At v i → (ℓ : List Bool) → lists.Standing ks (Breach f) u ℓ → lists.Standing ks (Breach f) v ℓ
    at_half u v i g h ℓ s =
        ∥∥₁_elim s ∥∥₁_prop
        (λ t.
        let k = x.labels_all t.0 t.1 in
        let bit_on = (g.1 k.0 k.1 t.0 k.2).1 ∣ (t.0, t.1, refl, t.3) ∣₁ in
        subst (lists.Standing ks (Breach f) v) t.2 ((h.1 k.0 k.1 t.0 k.2).0 bit_on))

    at_same : (u v : List ℕ) (i : ℕ) → At u i → At v i → lists.SameStanding ks (Breach f) u v
    at_same u v i g h ℓ = (at_half u v i g h ℓ, at_half v u i h g ℓ)

    -- standing number i is the one after some word
    at_some : (i : ℕ) → i < b → (u : List ℕ) × Letters u × (walked nx u ≡ i) × At u i
    at_some i l =
        let t = x.standings_are i l in
        (t.0, t.1, t.2, subst (At t.0) t.2 (at_word t.0 t.1))

    at_once : (u : List ℕ) (i j : ℕ) → At u i → At u j → i ≡ j
    at_once u i j g h =
        let p = at_some i g.0 in
        let q = at_some j h.0 in
        let pu = at_same p.0 u i p.3 g in
        let uq = at_same u q.0 j h q.3 in
        sym p.2 ∙ once.standings_once p.0 q.0 p.1 q.1 (λ ℓ. (λ s. (uq ℓ).0 ((pu ℓ).0 s), λ s. (pu ℓ).1 ((uq ℓ).1 s))) ∙ q.2

    at_next : (i s : ℕ) (u : List ℕ) → Letter s → At u i → At (u ++ s ∷ []) (after nx i s)
    at_next i s u l h =
        let p = at_some i h.0 in
        let pu = at_same p.0 u i p.3 h in
        let w = at_word (p.0 ++ s ∷ []) (Rattle.logic.proofs.Tables.letters_append p.0 (s ∷ []) p.1 (l, tt)) in
        let e : walked nx (p.0 ++ s ∷ []) ≡ after nx i s = foldl-append (after nx) 0 p.0 (s ∷ []) ∙ ap (λ (q : ℕ). after nx q s) p.2 in
        at_moved (p.0 ++ s ∷ []) (u ++ s ∷ []) (after nx i s) (longer p.0 u s l pu) (subst (At (p.0 ++ s ∷ [])) e w)

    -- ---- in the specification's words

    label_lengths : length (take a ls) ≡ a
    label_lengths = length-take-le a ls x.labels_fit

    record_lengths : length (take b st) ≡ b
    record_lengths = length-take-le b st x.standings_fit

    label_at : (k : ℕ) → k < a → (w : List ℕ) → get_or ls k 0 ≡ mask (label ks w) → LabelOf ks w (get_or (take a ls) k 0)
    label_at k l w e = subst (LabelOf ks w) (sym (get_or-take a ls k 0 l ∙ e)) (mask_label w)

    at_label : (k : ℕ) → k < a → (w : List ℕ) → LabelOf ks w (get_or (take a ls) k 0) → get_or ls k 0 ≡ mask (label ks w)
    at_label k l w h = sym (get_or-take a ls k 0 l) ∙ mask_is w _ h

    to_standing : (u : List ℕ) (i : ℕ) → At u i → StandingOf f ks (held ls a st b nx) u i
    unfolding bit_of
    to_standing u i h =
        let er : get_or (take b st) i [] ≡ get_or st i [] = get_or-take b st i [] h.0 in
        record {
          held = omega (arith, record_lengths, h.0);
          says = λ j l.
              let jl : j < a = omega (arith, label_lengths, l) in
              let t = x.labels_are.at j jl in
              let q = h.1 j jl t.0 t.2 in (
                λ on. ∥∥₁_map (q.0 (sym (ap (bit j) er) ∙ on)) (λ y. (y.0, y.1, label_at j jl y.0 (t.2 ∙ ap mask (sym y.2)), y.3)),
                λ s. ap (bit j) er ∙ q.1 (∥∥₁_map s (λ y. (y.0, y.1, mask_same ks y.0 t.0 (sym (at_label j jl y.0 y.2) ∙ t.2), y.3))),
              );
        }

    from_standing : (u : List ℕ) (i : ℕ) → StandingOf f ks (held ls a st b nx) u i → At u i
    unfolding bit_of
    from_standing u i h =
        let il : i < b = omega (arith, record_lengths, h.held) in
        let er : get_or (take b st) i [] ≡ get_or st i [] = get_or-take b st i [] il in (
          il,
          λ k l w e.
              let q = h.says k (omega (arith, label_lengths, l)) in (
                λ on. ∥∥₁_map (q.0 (ap (bit k) er ∙ on)) (λ y. (y.0, y.1, mask_same ks y.0 w (sym (at_label k l y.0 y.2) ∙ e), y.3)),
                λ s. sym (ap (bit k) er) ∙ q.1 (∥∥₁_map s (λ y. (y.0, y.1, label_at k l y.0 (e ∙ ap mask (sym y.2)), y.3))),
              ),
        )

    pub whole : Whole f ks (held ls a st b nx)
    whole = record {
      keeps = keeps;
      few_kept = few;
      every_label = λ w l. let t = x.labels_all w l in (t.0, omega (arith, label_lengths, t.1), label_at t.0 t.1 w t.2);
      only_labels = λ j l. let jl : j < a = omega (arith, label_lengths, l) in let t = x.labels_are.at j jl in (t.0, t.1, label_at j jl t.0 t.2);
      labels_once = λ i j less l e.
          let jl : j < a = omega (arith, label_lengths, l) in
          x.labels_apart.differ i j 0 less jl (sym (get_or-take a ls i 0 (omega arith)) ∙ e ∙ get_or-take a ls j 0 jl);
      every_standing = λ u l. (walked nx u, to_standing u (walked nx u) (at_word u l));
      only_standings = λ i l. let t = at_some i (omega (arith, record_lengths, l)) in (t.0, t.1, to_standing t.0 i t.3);
      standings_once = λ i j u less g h. let e = at_once u i j (from_standing u i g) (from_standing u j h) in omega arith;
      first_is = to_standing [] 0 (at_word [] tt);
      next_is = λ i s u l h.
          let il : i < b = omega (arith, record_lengths, h.held) in
          let e : get_or (take (b * 256) nx) (i * 256 + s) 0 ≡ after nx i s = get_or-take (b * 256) nx (i * 256 + s) 0 (omega arith) in
          subst (StandingOf f ks (held ls a st b nx) (u ++ s ∷ [])) (sym e) (to_standing (u ++ s ∷ []) (after nx i s) (at_next i s u l (from_standing u i h)));
    }

pub filled_charts_are_whole : FilledChartsAreWhole
filled_charts_are_whole f ks keeps few ls a st b nx x = whole f ks keeps few ls a st b nx x

-- ---- whole areas with the empty label first

module _ (f : Formula) (ks : List Formula) (ls : List ℕ) (a : ℕ) (st : List (List ℕ)) (b : ℕ) (nx : List ℕ)
    (w : Whole f ks (held ls a st b nx)) (first : get_or ls 0 0 ≡ 0) where
  next_is : (i s : ℕ) → i < length (take b st) → Letter s → next (held ls a st b nx) i s ≡ after nx i s
  next_is i s h l = let k = length-take b st in get_or-take (b * 256) nx (i * 256 + s) 0 (omega arith)

  follows : (ys : List ℕ) → Letters ys → (u : List ℕ) (i : ℕ) → StandingOf f ks (held ls a st b nx) u i
      → foldl (next (held ls a st b nx)) i ys ≡ foldl (after nx) i ys
  follows [] l u i h = refl
  follows (s ∷ ys) l u i h =
      follows ys l.1 (u ++ s ∷ []) _ (w.next_is i s u l.0 h) ∙ ap (λ (q : ℕ). foldl (after nx) q ys) (next_is i s h.held l.0)

  standing : (u : List ℕ) → Letters u → StandingOf f ks (held ls a st b nx) u (walked nx u)
  standing u l =
      subst (StandingOf f ks (held ls a st b nx) u) (follows u l [] 0 w.first_is) (runs f ks (held ls a st b nx) w u l [] 0 w.first_is)

  -- the empty label is number 0
  some_label : 0 < length (take a ls)
  some_label = let t = w.every_label [] tt in omega (arith, t.1)

  label_zero : get_or (take a ls) 0 0 ≡ 0
  label_zero = let l = some_label in let k = length-take a ls in get_or-take a ls 0 0 (omega arith) ∙ first

  record_at : (i : ℕ) → i < length (take b st) → get_or (take b st) i [] ≡ get_or st i []
  record_at i h = let k = length-take b st in get_or-take b st i [] (omega arith)

  only_zero : (j : ℕ) → j < length (take a ls) → get_or (take a ls) j 0 ≡ 0 → j ≡ 0
  only_zero j l e =
      ⊎_elim (λ same. same)
      (λ d. ⊎_elim (λ less. absurd (omega (arith, less))) (λ more. absurd (w.labels_once 0 j more l (label_zero ∙ sym e))) d)
      (cases_order j 0)

  empty_bit : (i : ℕ) → i < length (take b st) → HoldsEmpty (held ls a st b nx) i ↔ (breached st i ≡ true)
  unfolding bit_of
  empty_bit i h =
      let er = record_at i h in (
        λ t. ∥∥₁_elim t (Bool-set _ _)
            (λ y. sym (ap (bit 0) er) ∙ subst (λ (j : ℕ). bit j (get_or (take b st) i []) ≡ true) (only_zero y.0 y.1 y.2) y.3),
        λ e. ∣ (0, some_label, label_zero, ap (bit 0) er ∙ e) ∣₁,
      )

  -- what a standing says of its words
  pub standing_says : (u : List ℕ) (i : ℕ) → StandingOf f ks (held ls a st b nx) u i → (breached st i ≡ true) ↔ Breach f u
  standing_says u i h =
      let e = empty_bit i h.held in
      (λ t. holds_breach f ks (held ls a st b nx) w u i h (e.1 t), λ t. e.0 (breach_holds f ks (held ls a st b nx) w u i h t))

  pub one_letter_more : (u : List ℕ) (i s : ℕ) → Letter s → StandingOf f ks (held ls a st b nx) u i → StandingOf f ks (held ls a st b nx) (u ++ s ∷ []) (after nx i s)
  one_letter_more u i s l h = subst (StandingOf f ks (held ls a st b nx) (u ++ s ∷ [])) (next_is i s h.held l) (w.next_is i s u l h)

  one_number : (u : List ℕ) (i j : ℕ) → StandingOf f ks (held ls a st b nx) u i → StandingOf f ks (held ls a st b nx) u j → i ≡ j
  one_number u i j g h =
      ⊎_elim (λ same. same)
      (λ d. ⊎_elim (λ less. absurd (w.standings_once i j u less g h)) (λ more. absurd (w.standings_once j i u more h g)) d)
      (cases_order i j)

  pub reads : Reads f (reader st nx)
  reads = record {
    says = λ u l. standing_says u (walked nx u) (standing u l);
    standings = λ u v lu lv. (
      λ e. standing_from f ks (held ls a st b nx) w u v (walked nx u) (standing u lu) (subst (StandingOf f ks (held ls a st b nx) v) (sym e) (standing v lv)),
      λ s. one_number v (walked nx u) (walked nx v) (moved f ks (held ls a st b nx) w u v (walked nx u) s (standing u lu)) (standing v lv),
    );
  }

pub whole_charts_read : WholeChartsRead
whole_charts_read f ks ls a st b nx w first = reads f ks ls a st b nx w first

pub filled_charts_read : FilledChartsRead
filled_charts_read f ks keeps few ls a st b nx x =
    reads f ks ls a st b nx (whole f ks keeps few ls a st b nx x) (x.filled.label_first ∙ mask_empty ks)
