-- The counts and refusals of a filling, in the words of the specification. Assumes nothing.
use Rattle.std.proofs.Common.{ℕ, ◌≤◌, List, length, Ok, Err, sym, ◌∙◌, subst, length-take-le}
use mathlib.Core.HLevel.{⊥_prop}
use mathlib.Core.Logic.Iff
use mathlib.Core.Logic.{∥∥₁_elim}
use Rattle.logic.specs.Formula.{Formula, Letters}
use Rattle.logic.specs.Witness.{Breach}
use Rattle.logic.specs.Labels.{ListsKept, label}
use Rattle.logic.specs.Masks.{mask}
use Rattle.logic.specs.Standings as lists
use Rattle.logic.specs.Counting.{More, Number, Exceeds}
use Rattle.logic.proofs.Tables.{not_both, more_not, more_of, part_of}
use Rattle.meaning.specs.Charts.{SameLabel, SameStanding, Areas, label_room, standing_room}
use Rattle.meaning.specs.Whole.{LabelOf}
use Rattle.meaning.specs.Right.{Counted, Fills}
use Rattle.meaning.specs.declared.refusals.FillingFault.{FillingFault}
use Rattle.meaning.specs.declared.refusals.FillingFault.TheVariants.{NoRule, LabelsExceed, StandingsExceed}
use Rattle.meaning.proofs.OfBridges.{label_turn, label_join, standing_self, standing_join, standing_turn}
use Rattle.meaning.proofs.OfWhole.{label_from, whole_charts_are_counted}
use Rattle.charting.specs.Filled.{FilledOnce, Refused}
use Rattle.charting.specs.Whole.{held}
use Rattle.charting.specs.Answers.{FillingsAreRight, RefusalsAreRight}
use Rattle.charting.proofs.OfWhole.{mask_label, same_labels, same_standings, whole}

-- so many different things under one sameness differ under a finer one
more_alike : {X : Type 0} (In : X → Type 0) (S T : X → X → Type 0) (n : ℕ) → ((x y : X) → T x y → S x y) → More n In S → More n In T
more_alike In S T n h m = record { pick = m.pick; inside = m.inside; differ = λ i j less l t. m.differ i j less l (h (m.pick i) (m.pick j) t) }

-- what is counted and fits does not exceed
not_exceeding : {X : Type 0} (In : X → Type 0) (S : X → X → Type 0) → ((u v : X) → S u v → S v u) → ((u v w : X) → S u v → S v w → S u w)
    → (room n : ℕ) → n ≤ room → Number In S n → Exceeds room In S → ⊥
not_exceeding In S turn join room n fits c m = ∥∥₁_elim c ⊥_prop (λ d. ∥∥₁_elim m ⊥_prop (λ x. not_both In S turn join room x n fits d))

module _ (f : Formula) (ks : List Formula) (keeps : ListsKept f ks) where
  labels_same : (u v : List ℕ) → lists.SameLabel ks u v → SameLabel f u v
  labels_same u v e =
      label_from f ks keeps u v (mask (label ks u)) (mask_label f ks keeps u) (subst (λ ℓ. LabelOf ks v (mask ℓ)) (sym e) (mask_label f ks keeps v))

  pub refused_right : (areas : Areas) (e : FillingFault) → Refused f ks (label_room areas) (standing_room areas) e → Fills f areas (Err e)
  refused_right areas NoRule x = x
  refused_right areas LabelsExceed x =
      ∣ part_of Letters (SameLabel f) (label_turn f) (label_join f) (λ u g k. (λ b. b, λ b. b)) (label_room areas)
      (more_alike Letters (lists.SameLabel ks) (SameLabel f) (label_room areas) (same_labels f ks keeps) x) ∣₁
  refused_right areas StandingsExceed x = (
    λ m. ∥∥₁_elim m ⊥_prop (λ y.
        more_not Letters (lists.SameLabel ks) (λ u v e. sym e) (λ u v w p q. p ∙ q) (label_room areas)
        (more_alike Letters (SameLabel f) (lists.SameLabel ks) (label_room areas) labels_same (more_of Letters (SameLabel f) (label_turn f) (label_join f) (label_room areas) y)) x.labels x.labels_fit x.label_count),
    ∣ part_of Letters (SameStanding f) (standing_turn f) (standing_join f) (standing_self f) (standing_room areas)
        (more_alike Letters (lists.SameStanding ks (Breach f)) (SameStanding f) (standing_room areas) (same_standings f ks keeps) x.more) ∣₁,
  )

  module _ (few : length ks ≤ 32) (ls : List ℕ) (a : ℕ) (st : List (List ℕ)) (b : ℕ) (nx : List ℕ) (x : FilledOnce f ks ls a st b nx) where
    pub counted : Counted f (a, b)
    counted =
        let c = whole_charts_are_counted f ks (held ls a st b nx) (whole f ks keeps few ls a st b nx x) in (
          subst (Number Letters (SameLabel f)) (length-take-le a ls x.filled.labels_fit) c.0,
          subst (Number Letters (SameStanding f)) (length-take-le b st x.filled.standings_fit) c.1,
        )

    pub filled_right : (areas : Areas) → a ≤ label_room areas → b ≤ standing_room areas → Fills f areas (Ok (a, b))
    filled_right areas la lb = (
      not_exceeding Letters (SameLabel f) (λ u v h g k. Iff.symm (h g k)) (label_join f) (label_room areas) a la counted.0,
      not_exceeding Letters (SameStanding f) (standing_turn f) (standing_join f) (standing_room areas) b lb counted.1,
      counted,
    )

pub fillings_are_right : FillingsAreRight
fillings_are_right f areas ls a st b nx y =
    let x = y.filling in
    filled_right f x.ks x.keeps x.few_kept ls a st b nx (record { filled = x.filled; standings_once = y.standings_once }) areas x.labels_fit x.standings_fit

pub refusals_are_right : RefusalsAreRight
refusals_are_right f areas e x = refused_right f x.ks x.keeps areas e x.refused
