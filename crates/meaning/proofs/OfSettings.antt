-- Fillings count, and loadings set. Assumes nothing.
use Rattle.std.proofs.Common.{◌≡◌, ℕ, ◌≤◌, ◌↔◌, List, Some, None, Ok, Err, Option, Result, refl, ap, subst, arith}
use mathlib.Core.Logic.{∥∥₁_elim, ∥∥₁_map}
use mathlib.Core.HLevel.{⊥_prop}
use native.Mathlib.Decide.{dec_lt}
use Rattle.meaning.specs.declared.refusals.FillingFault.{FillingFault}
use Rattle.meaning.specs.declared.refusals.FillingFault.TheVariants.{NoRule, LabelsExceed, StandingsExceed}
use Rattle.logic.specs.Formula.{Formula, Letters}
use Rattle.logic.specs.Counting.{Number, Fits, Exceeds, RoomIsTold}
use Rattle.logic.proofs.Tables.{not_both, room_is_told}
use Rattle.meaning.specs.Charts.{SameLabel, SameStanding, Areas, label_room, standing_room}
use Rattle.meaning.specs.Files.{nothing, lines}
use Rattle.meaning.specs.Histories.{Ruled, rule_at}
use Rattle.meaning.specs.Right.{FormulaOf, Counted, HasNoRule, Fills, RightFilling}
use Rattle.meaning.specs.Claims.{FillsRightly, FillingsCountRightly, LoadingsSetRightly}
use Rattle.meaning.proofs.OfBridges.{label_turn, label_join, standing_self, standing_turn, standing_join}
use Rattle.meaning.proofs.OfHistories.{at_same}
use Rattle.meaning.proofs.Determined.{not_good_and_bad}

-- ---- the filling

label_rooms : (f : Formula) (room : ℕ) → RoomIsTold Letters (SameLabel f) room
label_rooms f = room_is_told Letters (SameLabel f) (label_turn f) (label_join f) (λ u g k. (λ b. b, λ b. b))

standing_rooms : (f : Formula) (room : ℕ) → RoomIsTold Letters (SameStanding f) room
standing_rooms f = room_is_told Letters (SameStanding f) (standing_turn f) (standing_join f) (standing_self f)

below_room : {In : List ℕ → Type 0} {Same : List ℕ → List ℕ → Type 0} (room n : ℕ) → RoomIsTold In Same room → Number In Same n → ¬ Exceeds room In Same → n ≤ room
below_room room n t c x = elim (dec_lt room n) [ yes l ↦ absurd (x ((t.exceeds n c).1 l)) | no o ↦ omega arith ]

never : (f : Formula) (room : ℕ) → Fits room Letters (SameLabel f) → Exceeds room Letters (SameLabel f) → ⊥
never f room x y = ∥∥₁_elim x ⊥_prop (λ a. ∥∥₁_elim y ⊥_prop (λ b. not_both Letters (SameLabel f) (label_turn f) (label_join f) room b a.0 a.1 a.2))

never_standings : (f : Formula) (room : ℕ) → Fits room Letters (SameStanding f) → Exceeds room Letters (SameStanding f) → ⊥
never_standings f room x y = ∥∥₁_elim x ⊥_prop (λ a. ∥∥₁_elim y ⊥_prop (λ b. not_both Letters (SameStanding f) (standing_turn f) (standing_join f) room b a.0 a.1 a.2))

not_accepted : (e : FillingFault) → ∥ ((n : ℕ × ℕ) × (◌≡◌ {A = Result (ℕ × ℕ) FillingFault} (Err e) (Ok n))) ∥₁ → ⊥
not_accepted e t = ∥∥₁_elim t ⊥_prop (λ x. let d = x.1 in grind arith)

fills_rightly : (f : Formula) (a : Areas) (x : Result (ℕ × ℕ) FillingFault) → Fills f a x → FillsRightly f a x
fills_rightly f a (Err NoRule) h = absurd h
fills_rightly f a (Err LabelsExceed) h = record {
  accepted = (λ t. absurd (not_accepted LabelsExceed t), λ s. absurd (never f (label_room a) s.0 h));
  counted = λ n e. absurd (grind arith);
  labels_exceed = (λ _. h, λ _. refl);
  standings_exceed = (λ e. absurd (grind arith), λ s. absurd (s.0 h));
}
fills_rightly f a (Err StandingsExceed) h = record {
  accepted = (λ t. absurd (not_accepted StandingsExceed t), λ s. absurd (never_standings f (standing_room a) s.1 h.1));
  counted = λ n e. absurd (grind arith);
  labels_exceed = (λ e. absurd (grind arith), λ s. absurd (h.0 s));
  standings_exceed = (λ _. h, λ _. refl);
}
fills_rightly f a (Ok n) h =
    let few : n.0 ≤ label_room a = below_room (label_room a) n.0 (label_rooms f (label_room a)) h.2.0 h.0 in
    let low : n.1 ≤ standing_room a = below_room (standing_room a) n.1 (standing_rooms f (standing_room a)) h.2.1 h.1 in
    record {
      accepted = (λ _. (∥∥₁_map h.2.0 (λ c. (n.0, few, c)), ∥∥₁_map h.2.1 (λ c. (n.1, low, c))), λ _. ∣ (n, refl) ∣₁);
      counted = λ m e. let same : n ≡ m = ok_same n m e in subst (λ (i : ℕ × ℕ). Counted f i × (i.0 ≤ label_room a) × (i.1 ≤ standing_room a)) same (h.2, few, low);
      labels_exceed = (λ e. absurd (grind arith), λ s. absurd (h.0 s));
      standings_exceed = (λ e. absurd (grind arith), λ s. absurd (h.1 s.1));
    }
  where
    ok_same : (i j : ℕ × ℕ) → ◌≡◌ {A = Result (ℕ × ℕ) FillingFault} (Ok i) (Ok j) → i ≡ j
    ok_same i j e = ap (λ o. elim o [ Ok z ↦ z | Err z ↦ i ]) e

filling_at : (o : Option Ruled) (a : Areas) (x : Result (ℕ × ℕ) FillingFault) → RightFilling o a x
    → ((x ≡ Err NoRule) ↔ HasNoRule o) × (¬ HasNoRule o → ∥ ((f : Formula) × FormulaOf o f × FillsRightly f a x) ∥₁)
filling_at None a x h = ((λ _. refl, λ _. h), λ n. absurd (n refl))
filling_at (Some r) a x h = (
  (λ e. absurd (∥∥₁_elim h ⊥_prop (λ y. subst (Fills y.0 a) e y.2)), λ e. absurd (grind arith)),
  λ _. ∥∥₁_map h (λ y. (y.0, y.1, fills_rightly y.0 a x y.2)),
)

pub fillings_count_rightly : FillingsCountRightly
fillings_count_rightly h c s k a x r = filling_at (rule_at h s k) a x r

-- ---- the loading

pub loadings_set_rightly : LoadingsSetRightly
loadings_set_rightly h s y r file (Ok u) k = record {
  accepted = (λ _. k, λ _. refl);
  sets = λ _. record { names_are = at_same s _ _; rules_are = at_same s _ _; lines_are = at_same y _ _ };
  clears = λ e d. absurd (grind arith);
}
loadings_set_rightly h s y r file (Err x) k = record {
  accepted = (λ d. absurd (grind arith), λ g. absurd (not_good_and_bad r nothing 1 (lines file) x g k));
  sets = λ d. absurd (grind arith);
  clears = λ e d. record { names_are = at_same s _ _; rules_are = at_same s _ _; lines_are = at_same y _ _ };
}
