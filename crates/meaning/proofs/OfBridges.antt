-- The labels, standings and counts are those of the theory's lists. Assumes nothing.
use Rattle.std.proofs.Common.{◌≡◌, ℕ, Bool, true, false, ◌↔◌, List, [], ◌∷◌, map, sym, refl, ap, ◌∙◌, ap₂, ⊎_elim}
use mathlib.Core.Logic.Iff
use mathlib.Core.Logic.{∥∥₁_elim, ∥∥₁_map}
use mathlib.Core.Bool.{Bool-set}
use mathlib.Core.List.Memᴰ
use mathlib.Core.List.{Memᴰ, head-eq_of_cons-eq, tail-eq_of_cons-eq}
use native.Mathlib.Nat.{ℕ_set}
use Rattle.logic.specs.Formula.{Formula, Letters}
use Rattle.logic.specs.Witness.{Breach}
use Rattle.logic.specs.Sat.{sat}
use Rattle.logic.specs.Labels.{kept, label}
use Rattle.logic.specs.Standings as lists
use Rattle.logic.specs.Counting.{Classes, Number}
use Rattle.logic.proofs.Sat.{breach_is_sat}
use Rattle.logic.proofs.Kept.{kept_listed}
use Rattle.logic.proofs.Tables.{one_count}
use Rattle.meaning.specs.Charts.{SameLabel, WithinStanding, SameStanding}
use Rattle.meaning.specs.Right.{Counted}
use Rattle.meaning.specs.Bridges.{LabelsAsLists, StandingsAsLists, CountsAreUnique}

-- lists of tests that agree at each member
map_from : {A : Type 0} (p q : A → Bool) (xs : List A) → ((x : A) → Memᴰ x xs → p x ≡ q x) → map p xs ≡ map q xs
map_from p q [] h = refl
map_from p q (x ∷ xs) h = ap₂ ◌∷◌ (h x (Memᴰ.head refl)) (map_from p q xs (λ y m. h y (Memᴰ.tail m)))

map_at : {A : Type 0} (p q : A → Bool) (xs : List A) → map p xs ≡ map q xs → (x : A) → Memᴰ x xs → p x ≡ q x
map_at p q [] e x m = absurd (Memᴰ.not-nil m)
map_at p q (y ∷ ys) e x m =
    ⊎_elim (λ s. ap p s ∙ head-eq_of_cons-eq e ∙ sym (ap q s)) (λ m'. map_at p q ys (tail-eq_of_cons-eq e) x m') (Memᴰ.cases_cons m)

pub iff_bool : (a b : Bool) → (a ≡ true → b ≡ true) → (b ≡ true → a ≡ true) → a ≡ b
iff_bool true b f g = sym (f refl)
iff_bool false true f g = g refl
iff_bool false false f g = refl

pub labels_as_lists : LabelsAsLists
labels_as_lists f u v = (
  λ h. map_from (λ g. sat g u) (λ g. sat g v) (kept f)
      (λ g m. ∥∥₁_elim ((kept_listed f g).0 ∣ m ∣₁) (Bool-set _ _)
      (λ k. iff_bool _ _ (λ s. (breach_is_sat g v).0 ((h g k).0 ((breach_is_sat g u).1 s))) (λ s. (breach_is_sat g u).0 ((h g k).1 ((breach_is_sat g v).1 s))))),
  λ e g k.
      let same : sat g u ≡ sat g v = ∥∥₁_elim ((kept_listed f g).1 ∣ k ∣₁) (Bool-set _ _) (map_at (λ g. sat g u) (λ g. sat g v) (kept f) e g) in
      (λ b. (breach_is_sat g v).1 (sym same ∙ (breach_is_sat g u).0 b), λ b. (breach_is_sat g u).1 (same ∙ (breach_is_sat g v).0 b)),
)

within_lists : (f : Formula) (u v : List ℕ) → WithinStanding f u v → (ℓ : List Bool) → lists.Standing (kept f) (Breach f) u ℓ → lists.Standing (kept f) (Breach f) v ℓ
within_lists f u v h ℓ s =
    ∥∥₁_elim s mathlib.Core.Logic.∥∥₁_prop
    (λ x. ∥∥₁_map (h x.0 x.1 x.3) (λ y. (y.0, y.1, sym ((labels_as_lists f x.0 y.0).0 y.3) ∙ x.2, y.2)))

lists_within : (f : Formula) (u v : List ℕ) → ((ℓ : List Bool) → lists.Standing (kept f) (Breach f) u ℓ → lists.Standing (kept f) (Breach f) v ℓ) → WithinStanding f u v
lists_within f u v h x l b =
    ∥∥₁_map (h (label (kept f) x) ∣ (x, l, refl, b) ∣₁) (λ y. (y.0, y.1, y.3, (labels_as_lists f x y.0).1 (sym y.2)))

pub standings_as_lists : StandingsAsLists
standings_as_lists f u v = (
  λ h ℓ. (within_lists f u v h.0 ℓ, within_lists f v u h.1 ℓ),
  λ h. (lists_within f u v (λ ℓ. (h ℓ).0), lists_within f v u (λ ℓ. (h ℓ).1)),
)

-- the same classes under a sameness that says the same
classes_alike : {X : Type 0} (In : X → Type 0) (S T : X → X → Type 0) (n : ℕ) → ((x y : X) → S x y ↔ T x y) → Classes In S n → Classes In T n
classes_alike In S T n h c = record {
  one = c.one;
  inside = c.inside;
  covers = λ x i. let k = c.covers x i in (k.0, k.1, (h x (c.one k.0)).0 k.2);
  differ = λ i j less l t. c.differ i j less l ((h (c.one i) (c.one j)).1 t);
}

pub label_classes : (f : Formula) (n : ℕ) → Classes Letters (lists.SameLabel (kept f)) n → Classes Letters (SameLabel f) n
label_classes f n = classes_alike Letters (lists.SameLabel (kept f)) (SameLabel f) n (λ u v. Iff.symm (labels_as_lists f u v))

pub standing_classes : (f : Formula) (n : ℕ) → Classes Letters (lists.SameStanding (kept f) (Breach f)) n → Classes Letters (SameStanding f) n
standing_classes f n = classes_alike Letters (lists.SameStanding (kept f) (Breach f)) (SameStanding f) n (λ u v. Iff.symm (standings_as_lists f u v))

-- ---- sameness is an equivalence

pub label_turn : (f : Formula) (u v : List ℕ) → SameLabel f u v → SameLabel f v u
label_turn f u v h g k = Iff.symm (h g k)

pub label_join : (f : Formula) (u v w : List ℕ) → SameLabel f u v → SameLabel f v w → SameLabel f u w
label_join f u v w p q g k = Iff.trans (p g k) (q g k)

within_join : (f : Formula) (u v w : List ℕ) → WithinStanding f u v → WithinStanding f v w → WithinStanding f u w
within_join f u v w p q x l b =
    ∥∥₁_elim (p x l b) mathlib.Core.Logic.∥∥₁_prop
    (λ y. ∥∥₁_map (q y.0 y.1 y.2) (λ z. (z.0, z.1, z.2, label_join f x y.0 z.0 y.3 z.3)))

pub standing_join : (f : Formula) (u v w : List ℕ) → SameStanding f u v → SameStanding f v w → SameStanding f u w
standing_join f u v w p q = (within_join f u v w p.0 q.0, within_join f w v u q.1 p.1)

pub standing_self : (f : Formula) (u : List ℕ) → SameStanding f u u
standing_self f u =
    let within : WithinStanding f u u = λ v l b. ∣ (v, l, b, λ g k. (λ x. x, λ x. x)) ∣₁ in (within, within)

pub standing_turn : (f : Formula) (u v : List ℕ) → SameStanding f u v → SameStanding f v u
standing_turn f u v p = (p.1, p.0)

-- ---- a count is one number

pub one_number : {X : Type 0} (In : X → Type 0) (S : X → X → Type 0) → ((u v : X) → S u v → S v u) → ((u v w : X) → S u v → S v w → S u w)
    → (m n : ℕ) → Number In S m → Number In S n → m ≡ n
one_number In S turn join m n c d = ∥∥₁_elim c (ℕ_set m n) (λ x. ∥∥₁_elim d (ℕ_set m n) (λ y. one_count In S turn join m n x y))

pub counts_are_unique : CountsAreUnique
counts_are_unique f m n c d =
    ap₂ (λ a b. (a, b)) (one_number Letters (SameLabel f) (label_turn f) (label_join f) m.0 n.0 c.0 d.0)
    (one_number Letters (SameStanding f) (standing_turn f) (standing_join f) m.1 n.1 c.1 d.1)

module _ (f : Formula) (m n : ℕ) where
  pub counted : Classes Letters (lists.SameLabel (kept f)) m → Classes Letters (lists.SameStanding (kept f) (Breach f)) n → Counted f (m, n)
  counted c d = (∣ label_classes f m c ∣₁, ∣ standing_classes f n d ∣₁)
