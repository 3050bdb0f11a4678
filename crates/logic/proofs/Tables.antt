-- Any table that says yes to exactly the breaches has an entry for each standing. Assumes nothing.
use Rattle.std.proofs.Common.{◌≡◌, ℕ, zero, suc, ◌<◌, ◌≤◌, Bool, cond, eqb, List, [], ◌∷◌, ◌++◌, sym, refl, ap, ◌∙◌, subst, arith}
use mathlib.Core.Logic.Iff
use mathlib.Core.Logic.{∥∥₁_elim, ∥∥₁_map}
use mathlib.Core.HLevel.{⊥_prop}
use mathlib.Core.List.{foldl, foldl-append}
use native.Mathlib.Decide.{dec_lt}
use Rattle.logic.specs.Formula.{Formula, Letters}
use Rattle.logic.specs.Witness.{Breach}
use Rattle.logic.specs.Counting.{Classes, Number, Fits, Part, Exceeds, More, RoomIsTold}
use Rattle.logic.specs.Standings.{BreachOfAny, Standing, SameLabel, SameStanding, Table}
use Rattle.logic.specs.Statements.{NoSmallerTable, NoSmallerOfAny, LabelsCounted, StandingsCounted, LabelRooms, StandingRooms}

-- x, with n given up for c
moved : ℕ → ℕ → ℕ → ℕ
moved n c x = cond (eqb x n) c x

moved_below : (n c x : ℕ) → x < suc n → c < suc n → (x ≡ c → ⊥) → moved n c x < n
unfolding moved
moved_below n c x p q d = grind arith

moved_apart : (n c x y : ℕ) → (x ≡ y → ⊥) → (x ≡ c → ⊥) → (y ≡ c → ⊥) → moved n c x ≡ moved n c y → ⊥
unfolding moved
moved_apart n c x y d dx dy e = grind arith

-- numbers that differ and lie below n are no more than n
pub pigeonhole : (n m : ℕ) (f : ℕ → ℕ) → ((i : ℕ) → i < m → f i < n) → ((i j : ℕ) → i < j → j < m → f i ≡ f j → ⊥) → m ≤ n
pigeonhole n zero f below differ = omega arith
pigeonhole zero (suc m) f below differ = absurd (omega (arith, below 0 (omega arith)))
pigeonhole (suc n) (suc m) f below differ =
    let last : (i : ℕ) → i < m → f i ≡ f m → ⊥ = λ i l. differ i m l (omega arith) in
    let h : m ≤ n =
    pigeonhole n m (λ i. moved n (f m) (f i))
    (λ i l. moved_below n (f m) (f i) (below i (omega arith)) (below m (omega arith)) (last i l))
    (λ i j less l. moved_apart n (f m) (f i) (f j) (differ i j less (omega arith)) (last i (omega arith)) (last j l)) in
    omega arith

pub letters_append : (u v : List ℕ) → Letters u → Letters v → Letters (u ++ v)
letters_append [] v p q = q
letters_append (s ∷ u) v p q = (p.0, letters_append u v p.1 q)

module _ (ks : List Formula) (Bad : List ℕ → Type 0) (n : ℕ) (t : Table Bad n) where
  same_entry : (u v : List ℕ) → Letters u → Letters v → foldl t.then t.begin u ≡ foldl t.then t.begin v → (ℓ : List Bool) → Standing ks Bad u ℓ → Standing ks Bad v ℓ
  same_entry u v lu lv e ℓ h =
      ∥∥₁_map h
      (λ x.
      let w = x.0 in
      let go : foldl t.then t.begin (v ++ w) ≡ foldl t.then t.begin (u ++ w) =
      foldl-append t.then t.begin v w ∙ ap (λ (q : ℕ). foldl t.then q w) (sym e) ∙ sym (foldl-append t.then t.begin u w) in (
        w,
        x.1,
        x.2,
        (t.right (v ++ w) (letters_append v w lv x.1)).0 (ap t.yes_at go ∙ (t.right (u ++ w) (letters_append u w lu x.1)).1 x.3),
      ))

  no_smaller : (m : ℕ) → Classes Letters (SameStanding ks Bad) m → m ≤ n
  no_smaller m c =
      pigeonhole n m (λ i. foldl t.then t.begin (c.one i))
      (λ i below. t.within (c.one i) (c.inside i below))
      (λ i j less below e.
      let li = c.inside i (omega arith) in
      let lj = c.inside j below in
      c.differ i j less below (λ ℓ. (same_entry (c.one i) (c.one j) li lj e ℓ, same_entry (c.one j) (c.one i) lj li (sym e) ℓ)))

pub no_smaller_table : NoSmallerTable
no_smaller_table f ks m n c t = no_smaller ks (Breach f) n t m c

pub no_smaller_of_any : NoSmallerOfAny
no_smaller_of_any fs ks m n c t = no_smaller ks (BreachOfAny fs) n t m c

-- ---- a count is one number

module _ {X : Type 0} (In : X → Type 0) (Same : X → X → Type 0) (turn : (u v : X) → Same u v → Same v u) (join : (u v w : X) → Same u v → Same v w → Same u w) where
  -- the number of the class of the i-th pick
  class_of : (m n : ℕ) (pick : ℕ → X) → ((i : ℕ) → i < m → In (pick i)) → Classes In Same n → ℕ → ℕ
  class_of m n pick inside d i = elim (dec_lt i m) [ yes l ↦ (d.covers (pick i) (inside i l)).0 | no o ↦ 0 ]

  class_is : (m n : ℕ) (pick : ℕ → X) (inside : (i : ℕ) → i < m → In (pick i)) (d : Classes In Same n) (i : ℕ) → i < m
      → (class_of m n pick inside d i < n) × Same (pick i) (d.one (class_of m n pick inside d i))
  unfolding class_of
  class_is m n pick inside d i l = go (dec_lt i m)
    where
      at : Dec (i < m) → ℕ
      at e = elim e [ yes l' ↦ (d.covers (pick i) (inside i l')).0 | no o ↦ 0 ]

      go : (e : Dec (i < m)) → (at e < n) × Same (pick i) (d.one (at e))
      go (yes l') = let k = d.covers (pick i) (inside i l') in (k.1, k.2)
      go (no o) = absurd (o l)

  -- m things that differ are no more than the classes
  pub no_more : (m n : ℕ) (pick : ℕ → X) (inside : (i : ℕ) → i < m → In (pick i)) → ((i j : ℕ) → i < j → j < m → Same (pick i) (pick j) → ⊥) → Classes In Same n → m ≤ n
  no_more m n pick inside differ d =
      let at : ℕ → ℕ = class_of m n pick inside d in
      let is : (i : ℕ) → i < m → (at i < n) × Same (pick i) (d.one (at i)) = class_is m n pick inside d in
      pigeonhole n m at (λ i l. (is i l).0)
      (λ i j less l e.
      let p : Same (pick i) (d.one (at j)) = subst (λ k. Same (pick i) (d.one k)) e (is i (omega arith)).1 in
      differ i j less l (join _ _ _ p (turn _ _ (is j l).1)))

  pub one_count : (m n : ℕ) → Classes In Same m → Classes In Same n → m ≡ n
  one_count m n c d = omega (arith, no_more m n c.one c.inside c.differ d, no_more n m d.one d.inside d.differ c)

  -- the picked things of a part that are different
  pub more_of : (room : ℕ) → Part In Same (suc room) → More room In Same
  more_of room x = record {
    pick = x.counted.one;
    inside = λ i l. let k = x.counted.inside i (omega arith) in subst In (sym k.2) (x.inside k.0 k.1);
    differ = λ i j less l. x.counted.differ i j less (omega arith);
  }

  -- so many and one that differ do not fit a room
  pub more_not : (room : ℕ) → More room In Same → (n : ℕ) → n ≤ room → Classes In Same n → ⊥
  more_not room x n small d =
      let h = no_more (suc room) n x.pick (λ i l. x.inside i (omega arith)) (λ i j less l. x.differ i j less (omega arith)) d in omega arith

  -- what exceeds a room does not fit it
  pub not_both : (room : ℕ) → Part In Same (suc room) → (n : ℕ) → n ≤ room → Classes In Same n → ⊥
  not_both room x n small d = more_not room (more_of room x) n small d

  module _ (self : (u : X) → Same u u) where
    pub part_of : (room : ℕ) → More room In Same → Part In Same (suc room)
    part_of room x = record {
      pick = x.pick;
      inside = λ i l. x.inside i (omega arith);
      counted = record {
        one = x.pick;
        inside = λ i l. (i, l, refl);
        covers = λ u h. (h.0, h.1, subst (λ v. Same v (x.pick h.0)) (sym h.2) (self (x.pick h.0)));
        differ = λ i j less l. x.differ i j less (omega arith);
      };
    }

    -- classes above a room
    pub part_above : (room n : ℕ) → room < n → Classes In Same n → Part In Same (suc room)
    part_above room n l d =
        part_of room (record { pick = d.one; inside = λ i h. d.inside i (omega arith); differ = λ i j less h. d.differ i j less (omega arith) })

    exceeds_at : (room n : ℕ) → Number In Same n → Exceeds room In Same → room < n
    exceeds_at room n c x =
        elim (dec_lt room n) [ yes l ↦ l | no o ↦ absurd (∥∥₁_elim c ⊥_prop (λ d. ∥∥₁_elim x ⊥_prop (λ m. not_both room m n (omega arith) d))) ]

    fits_at : (room n : ℕ) → Number In Same n → Fits room In Same → n ≤ room
    fits_at room n c x =
        elim (dec_lt room n)
        [ yes l ↦ absurd (∥∥₁_elim c ⊥_prop (λ d. ∥∥₁_elim x ⊥_prop (λ y. omega (arith, one_count n y.0 d y.2)))) | no o ↦ omega arith ]

    pub room_is_told : (room : ℕ) → RoomIsTold In Same room
    room_is_told room = record {
      differ = (λ h. ∥∥₁_map h (more_of room), λ h. ∥∥₁_map h (part_of room));
      exceeds = λ n c. (exceeds_at room n c, λ l. ∥∥₁_map c (part_above room n l));
      fits = λ n c. (fits_at room n c, λ l. ∥∥₁_map c (λ d. (n, l, d)));
    }

pub labels_counted : LabelsCounted
labels_counted ks m n = one_count Letters (SameLabel ks) (λ u v e. sym e) (λ u v w p q. p ∙ q) m n

pub standings_counted : StandingsCounted
standings_counted f ks m n = one_count Letters (SameStanding ks (Breach f)) (λ u v e ℓ. Iff.symm (e ℓ)) (λ u v w p q ℓ. Iff.trans (p ℓ) (q ℓ)) m n

pub label_rooms : LabelRooms
label_rooms ks = room_is_told Letters (SameLabel ks) (λ u v e. sym e) (λ u v w p q. p ∙ q) (λ u. refl)

pub standing_rooms : StandingRooms
standing_rooms f ks = room_is_told Letters (SameStanding ks (Breach f)) (λ u v e ℓ. Iff.symm (e ℓ)) (λ u v w p q ℓ. Iff.trans (p ℓ) (q ℓ)) (λ u ℓ. (λ h. h, λ h. h))
