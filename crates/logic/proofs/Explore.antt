-- A list that holds what no word has and with each thing what one letter more makes of it, holds what every word has: the counts by computing. Assumes nothing.
use Rattle.std.proofs.Common.{◌≡◌, ℕ, zero, suc, ◌<◌, Bool, true, false, not, ◌&&◌, ltb, List, [], ◌∷◌, map, length, get_or, sym, refl, ap, ◌∙◌, subst, arith}
use mathlib.Core.Logic.{∥∥₁_elim, ∥∥₁_map}
use mathlib.Core.Bool.{false≢true}
use mathlib.Core.List.Memᴰ
use mathlib.Core.List.{foldl, Mem, Memᴰ}
use Rattle.std.proofs.lemmas.Bool.{and_parts, ltb-true, cases_eq}
use Rattle.logic.specs.Formula.{Formula, Letter, Letters}
use Rattle.logic.specs.Witness.{Breach}
use Rattle.logic.specs.Labels.{Closed, whole, label, look, back, kept}
use Rattle.logic.specs.Counting.{Classes}
use Rattle.logic.specs.Standings.{IsLabel, Standing, ListsLabels, SameLabel, SameStanding, hit, first, after, chart, label_same, ChartRight}
use Rattle.logic.proofs.Labels.{label_back, kept_closed}
use Rattle.logic.proofs.Kept.{kept_listed}
use Rattle.logic.proofs.Standings.{chart_is_right, chart_same, one_decided}

abbrev pub X : Type 0
X = List Bool

abbrev pub in? : List X → X → Bool
in? [] x = false
in? (y ∷ ys) x = elim (label_same x y) [ yes e ↦ true | no n ↦ in? ys x ]

-- the test f passes at each element
abbrev pub all? : {A : Type 0} → (A → Bool) → List A → Bool
all? f [] = true
all? f (x ∷ xs) = f x && all? f xs

all_at : {A : Type 0} (f : A → Bool) (xs : List A) → all? f xs ≡ true → (x : A) → Memᴰ x xs → f x ≡ true
all_at f [] t x m = absurd (Memᴰ.not-nil m)
all_at f (y ∷ ys) t x m =
    let k = and_parts (f y) _ t in
    mathlib.Core.Logic.⊎_elim (λ e. ap f e ∙ k.0) (all_at f ys k.1 x) (Memᴰ.cases_cons m)

-- the place of x
place : List X → X → ℕ
place [] x = 0
place (y ∷ ys) x = elim (label_same x y) [ yes e ↦ 0 | no n ↦ suc (place ys x) ]

in_mem : (xs : List X) (x : X) → in? xs x ≡ true → Memᴰ x xs
in_mem [] x t = absurd (false≢true t)
in_mem (y ∷ ys) x t = go (label_same x y) t (in_mem ys x)
  where
    go : (e : Dec (x ≡ y)) → elim e as (λ e'. Bool) [ yes e' ↦ true | no n ↦ in? ys x ] ≡ true → (in? ys x ≡ true → Memᴰ x ys) → Memᴰ x (y ∷ ys)
    go (yes e) t' below = Memᴰ.head e
    go (no n) t' below = Memᴰ.tail (below t')

place_is : (xs : List X) (x : X) → in? xs x ≡ true → (place xs x < length xs) × (get_or xs (place xs x) [] ≡ x)
unfolding place
place_is [] x t = absurd (false≢true t)
place_is (y ∷ ys) x t = go (label_same x y) t (place_is ys x)
  where
    at : Dec (x ≡ y) → ℕ
    at e = elim e [ yes e' ↦ 0 | no n ↦ suc (place ys x) ]

    go : (e : Dec (x ≡ y)) → elim e as (λ e'. Bool) [ yes e' ↦ true | no n ↦ in? ys x ] ≡ true
        → (in? ys x ≡ true → (place ys x < length ys) × (get_or ys (place ys x) [] ≡ x)) → (at e < length (y ∷ ys)) × (get_or (y ∷ ys) (at e) [] ≡ x)
    go (yes e) t' below = (omega arith, sym e)
    go (no n) t' below = let k = below t' in (omega arith, k.1)

-- no element stands twice
abbrev pub apart? : List X → Bool
apart? [] = true
apart? (x ∷ xs) = not (in? xs x) && apart? xs

in_at : (xs : List X) (i : ℕ) → i < length xs → in? xs (get_or xs i []) ≡ true
in_at [] i l = absurd (omega arith)
in_at (x ∷ xs) zero l = go (label_same x x)
  where
    go : (e : Dec (x ≡ x)) → elim e as (λ e'. Bool) [ yes e' ↦ true | no n ↦ in? xs x ] ≡ true
    go (yes e) = refl
    go (no n) = absurd (n refl)
in_at (x ∷ xs) (suc i) l = go (label_same (get_or xs i []) x) (in_at xs i (omega arith))
  where
    go : (e : Dec (get_or xs i [] ≡ x)) → in? xs (get_or xs i []) ≡ true → elim e as (λ e'. Bool) [ yes e' ↦ true | no n ↦ in? xs (get_or xs i []) ] ≡ true
    go (yes e) t = refl
    go (no n) t = t

apart_at : (xs : List X) → apart? xs ≡ true → (i j : ℕ) → i < j → j < length xs → get_or xs i [] ≡ get_or xs j [] → ⊥
apart_at [] t i j less l e = omega arith
apart_at (x ∷ xs) t i zero less l e = omega arith
apart_at (x ∷ xs) t zero (suc j) less l e =
    let k = and_parts (not (in? xs x)) _ t in
    let m : in? xs x ≡ true = subst (λ z. in? xs z ≡ true) (sym e) (in_at xs j (omega arith)) in
    let z : ◌≡◌ {A = ℕ} 0 1 = grind arith in omega arith
apart_at (x ∷ xs) t (suc i) (suc j) less l e =
    apart_at xs (and_parts (not (in? xs x)) _ t).1 i j (omega arith) (omega arith) e

-- ---- words by a view of them

unfoldable pub letters? : List ℕ → Bool
letters? [] = true
letters? (s ∷ w) = ltb s 256 && letters? w

letters_are : (w : List ℕ) → letters? w ≡ true → Letters w
unfolding letters?
letters_are [] t = tt
letters_are (s ∷ w) t = let k = and_parts (ltb s 256) _ t in (ltb-true s 256 k.0, letters_are w k.1)

view_at : (view : List ℕ → X) (ws : List (List ℕ)) (i : ℕ) → i < length ws → get_or (map view ws) i [] ≡ view (get_or ws i [])
view_at view [] i l = absurd (omega arith)
view_at view (w ∷ ws) zero l = refl
view_at view (w ∷ ws) (suc i) l = view_at view ws i (omega arith)

view_length : (view : List ℕ → X) (ws : List (List ℕ)) → length (map view ws) ≡ length ws
view_length view [] = refl
view_length view (w ∷ ws) = ap suc (view_length view ws)

letters_at : (ws : List (List ℕ)) → all? letters? ws ≡ true → (i : ℕ) → i < length ws → Letters (get_or ws i [])
letters_at [] t i l = absurd (omega arith)
letters_at (w ∷ ws) t zero l = letters_are w (and_parts (letters? w) _ t).0
letters_at (w ∷ ws) t (suc i) l = letters_at ws (and_parts (letters? w) _ t).1 i (omega arith)

module _ (view : List ℕ → X) (ws : List (List ℕ)) (letters : all? letters? ws ≡ true) (apart : apart? (map view ws) ≡ true)
    (full : (u : List ℕ) → Letters u → in? (map view ws) (view u) ≡ true) where
  classes : Classes Letters (λ u v. view u ≡ view v) (length ws)
  classes = record {
    one = λ i. get_or ws i [];
    inside = letters_at ws letters;
    covers = λ u l.
        let k = place_is (map view ws) (view u) (full u l) in (
          place (map view ws) (view u),
          omega (arith, k.0, view_length view ws),
          sym k.1 ∙ view_at view ws (place (map view ws) (view u)) (omega (arith, k.0, view_length view ws)),
        );
    differ = λ i j less below e.
        apart_at (map view ws) apart i j less (omega (arith, view_length view ws)) (view_at view ws i (omega arith) ∙ e ∙ sym (view_at view ws j below));
  }

-- ---- a test at every letter

unfoldable pub below? : ℕ → (ℕ → Bool) → Bool
below? zero f = true
below? (suc n) f = f n && below? n f

below_at : (n : ℕ) (f : ℕ → Bool) → below? n f ≡ true → (s : ℕ) → s < n → f s ≡ true
unfolding below?
below_at zero f t s l = absurd (omega arith)
below_at (suc n) f t s l =
    let k = and_parts (f n) _ t in
    mathlib.Core.Logic.⊎_elim (λ e. ap f e ∙ k.0) (λ d. below_at n f k.1 s (omega arith)) (cases_eq s n)

unfoldable pub closed? : (ℕ → X → X) → List X → Bool
unfolding below?
closed? step xs = all? (λ x. below? 256 (λ s. in? xs (step s x))) xs

module _ (step : ℕ → X → X) (xs : List X) (t : closed? step xs ≡ true) where
  closed_at : (s : ℕ) → Letter s → (x : X) → in? xs x ≡ true → in? xs (step s x) ≡ true
  unfolding closed?
  closed_at s l x m = below_at 256 (λ s'. in? xs (step s' x)) (all_at (λ y. below? 256 (λ s'. in? xs (step s' y))) xs t x (in_mem xs x m)) s l

  fold_at : (u : List ℕ) → Letters u → (x : X) → in? xs x ≡ true → in? xs (foldl (λ y s. step s y) x u) ≡ true
  fold_at [] l x m = m
  fold_at (s ∷ u) l x m = fold_at u l.1 (step s x) (closed_at s l.0 x m)

-- ---- labels and standings of a formula

module _ (f : Formula) (ws : List (List ℕ)) (letters : all? letters? ws ≡ true) (apart : apart? (map (label (kept f)) ws) ≡ true)
    (zero_in : in? (map (label (kept f)) ws) (label (kept f) []) ≡ true) (closed : closed? (back (kept f)) (map (label (kept f)) ws) ≡ true) where
  abbrev pub ks : List Formula
  ks = kept f

  abbrev pub ls : List X
  ls = map (label ks) ws

  keeps : Closed ks
  keeps = kept_closed f ks (kept_listed f)

  labels_full : (u : List ℕ) → Letters u → in? ls (label ks u) ≡ true
  labels_full [] l = zero_in
  labels_full (s ∷ u) l = subst (λ x. in? ls x ≡ true) (sym (label_back ks keeps s u)) (closed_at (back ks) ls closed s l.0 (label ks u) (labels_full u l.1))

  label_classes : Classes Letters (SameLabel ks) (length ws)
  label_classes = classes (label ks) ws letters apart labels_full

  is_label : (vs : List (List ℕ)) → all? letters? vs ≡ true → (x : X) → Memᴰ x (map (label ks) vs) → IsLabel ks x
  is_label [] t x m = absurd (Memᴰ.not-nil m)
  is_label (v ∷ vs) t x m =
      let k = and_parts (letters? v) _ t in
      mathlib.Core.Logic.⊎_elim (λ e. ∣ (v, letters_are v k.0, sym e) ∣₁) (is_label vs k.1 x) (Memᴰ.cases_cons m)

  lists : ListsLabels ks ls
  lists ℓ = (
    λ m. ∥∥₁_elim m mathlib.Core.Logic.∥∥₁_prop (is_label ws letters ℓ),
    λ h. ∥∥₁_map h (λ v. in_mem ls ℓ (subst (λ x. in? ls x ≡ true) v.2 (labels_full v.0 v.1))),
  )

  pub right : (u : List ℕ) → Letters u → ChartRight ks (Breach f) (hit f ks) ls u
  right u l = chart_is_right f ks (kept_listed f) ls lists u l

  -- equal charts, equal standings
  pub same_chart : (u v : List ℕ) → Letters u → Letters v → chart ks ls (hit f ks) u ≡ chart ks ls (hit f ks) v → (ℓ : X) → Standing ks (Breach f) u ℓ → Standing ks (Breach f) v ℓ
  same_chart u v lu lv e ℓ h =
      let m : Mem ℓ ls = (lists ℓ).1 (∥∥₁_map h (λ t. (t.0, t.1, t.2))) in
      ((right v lv).holds ℓ m).0 (ap (λ x. look label_same ls x ℓ) (sym e) ∙ ((right u lu).holds ℓ m).1 h)

  module _ (us : List (List ℕ)) (letters' : all? letters? us ≡ true) (apart' : apart? (map (chart ks ls (hit f ks)) us) ≡ true)
      (first_in : in? (map (chart ks ls (hit f ks)) us) (first ls (hit f ks)) ≡ true)
      (closed' : closed? (λ s x. after ks ls x s) (map (chart ks ls (hit f ks)) us) ≡ true) where
    charts : Classes Letters (λ u v. chart ks ls (hit f ks) u ≡ chart ks ls (hit f ks) v) (length us)
    charts = classes (chart ks ls (hit f ks)) us letters' apart' (λ u l. fold_at (λ s x. after ks ls x s) (map (chart ks ls (hit f ks)) us) closed' u l (first ls (hit f ks)) first_in)

    standing_classes : Classes Letters (SameStanding ks (Breach f)) (length us)
    standing_classes =
        let c = charts in
        record {
          one = c.one;
          inside = c.inside;
          covers = λ u l.
              let k = c.covers u l in
              let l' = c.inside k.0 k.1 in
              (k.0, k.1, λ ℓ. (same_chart u (c.one k.0) l l' k.2 ℓ, same_chart (c.one k.0) u l' l (sym k.2) ℓ));
          differ = λ i j less below e.
              c.differ i j less below
              (chart_same ks (Breach f) (hit f ks) keeps (one_decided f ks ((kept_listed f f).1 ∣ whole ∣₁)) ls lists (c.one i) (c.one j)
              (c.inside i (omega arith)) (c.inside j below) e);
        }

    pub counts : Classes Letters (SameLabel ks) (length ws) × Classes Letters (SameStanding ks (Breach f)) (length us)
    counts = (label_classes, standing_classes)
