-- The computed list of kept formulas holds the kept formulas. Assumes nothing.
use Rattle.std.proofs.Common.{◌≡◌, ℕ, zero, suc, ◌<◌, ◌⊎◌, List, [], ◌∷◌, length, get_or, sym, refl, ◌∙◌, subst, inl, inr, ⊎_elim, arith}
use mathlib.Core.Logic.{∥∥₁_map}
use mathlib.Core.List.Memᴰ
use mathlib.Core.List.{Memᴰ}
use Rattle.logic.specs.Formula.{Formula, tru, fls, lit, and, or, next, until, release, Sub, same}
use Rattle.logic.specs.Formula as F
use Rattle.logic.specs.Labels.{Kept, whole, a_next, an_until, a_release, an_operand, add_once, once, temporal, kept, NoTwice}
use Rattle.logic.specs.Statements.{KeptListed, KeptOnce}
use Rattle.logic.proofs.Subs.{sub_trans}

-- ---- once: the same elements

module _ {A : Type 0} (d : Discrete A) where
  pub add_in : (x y : A) (ys : List A) → (x ≡ y) ⊎ Memᴰ x ys → Memᴰ x (add_once d y ys)
  add_in x y [] m = ⊎_elim (λ e. Memᴰ.head e) (λ k. absurd (Memᴰ.not-nil k)) m
  add_in x y (z ∷ zs) m = go (d y z) m (add_in x y zs)
    where
      go : (e : Dec (y ≡ z)) → (x ≡ y) ⊎ Memᴰ x (z ∷ zs) → ((x ≡ y) ⊎ Memᴰ x zs → Memᴰ x (add_once d y zs))
          → Memᴰ x (elim e as (λ e'. List A) [ yes e' ↦ z ∷ zs | no n ↦ z ∷ add_once d y zs ])
      go (yes e) (inl p) below = Memᴰ.head (p ∙ e)
      go (yes e) (inr k) below = k
      go (no n) (inl p) below = Memᴰ.tail (below (inl p))
      go (no n) (inr k) below = ⊎_elim (λ e. Memᴰ.head e) (λ q. Memᴰ.tail (below (inr q))) (Memᴰ.cases_cons k)

  pub of_add : (x y : A) (ys : List A) → Memᴰ x (add_once d y ys) → (x ≡ y) ⊎ Memᴰ x ys
  of_add x y [] m = ⊎_elim (λ e. inl e) (λ k. absurd (Memᴰ.not-nil k)) (Memᴰ.cases_cons m)
  of_add x y (z ∷ zs) m = go (d y z) m (of_add x y zs)
    where
      go : (e : Dec (y ≡ z)) → Memᴰ x (elim e as (λ e'. List A) [ yes e' ↦ z ∷ zs | no n ↦ z ∷ add_once d y zs ])
          → (Memᴰ x (add_once d y zs) → (x ≡ y) ⊎ Memᴰ x zs) → (x ≡ y) ⊎ Memᴰ x (z ∷ zs)
      go (yes e) k below = inr k
      go (no n) k below =
          ⊎_elim (λ e. inr (Memᴰ.head e)) (λ q. ⊎_elim (λ e. inl e) (λ r. inr (Memᴰ.tail r)) (below q)) (Memᴰ.cases_cons k)

  pub once_in : (x : A) (ys : List A) → Memᴰ x ys → Memᴰ x (once d ys)
  once_in x [] m = m
  once_in x (y ∷ ys) m = add_in x y (once d ys) (⊎_elim (λ e. inl e) (λ k. inr (once_in x ys k)) (Memᴰ.cases_cons m))

  pub of_once : (x : A) (ys : List A) → Memᴰ x (once d ys) → Memᴰ x ys
  of_once x [] m = m
  of_once x (y ∷ ys) m = ⊎_elim (λ e. Memᴰ.head e) (λ k. Memᴰ.tail (of_once x ys k)) (of_add x y (once d ys) m)

-- ---- temporal

below_in : {x h f : Formula} → Sub h f → Memᴰ x (temporal h) → Memᴰ x (temporal f)
below_in F.itself m = m
below_in (F.and_left q) m = Memᴰ.append_left _ (below_in q m)
below_in (F.and_right {a = a} q) m = Memᴰ.append_right (temporal a) (below_in q m)
below_in (F.or_left q) m = Memᴰ.append_left _ (below_in q m)
below_in (F.or_right {a = a} q) m = Memᴰ.append_right (temporal a) (below_in q m)
below_in (F.next_of q) m = Memᴰ.tail (Memᴰ.tail (below_in q m))
below_in (F.until_left q) m = Memᴰ.tail (Memᴰ.append_left _ (below_in q m))
below_in (F.until_right {a = a} q) m = Memᴰ.tail (Memᴰ.append_right (temporal a) (below_in q m))
below_in (F.release_left q) m = Memᴰ.tail (Memᴰ.append_left _ (below_in q m))
below_in (F.release_right {a = a} q) m = Memᴰ.tail (Memᴰ.append_right (temporal a) (below_in q m))

pub kept_in : {f g : Formula} → Kept f g → Memᴰ g (f ∷ temporal f)
kept_in whole = Memᴰ.head refl
kept_in (a_next q) = Memᴰ.tail (below_in q (Memᴰ.head refl))
kept_in (an_until q) = Memᴰ.tail (below_in q (Memᴰ.head refl))
kept_in (a_release q) = Memᴰ.tail (below_in q (Memᴰ.head refl))
kept_in (an_operand q) = Memᴰ.tail (below_in q (Memᴰ.tail (Memᴰ.head refl)))

-- what stands in `temporal f` is kept of whatever f is a subformula of
module _ (f g : Formula) where
  of_temporal : (h : Formula) → Sub h f → Memᴰ g (temporal h) → Kept f g
  of_temporal tru q m = absurd (Memᴰ.not-nil m)
  of_temporal fls q m = absurd (Memᴰ.not-nil m)
  of_temporal (lit i p) q m = absurd (Memᴰ.not-nil m)
  of_temporal (and a b) q m =
      ⊎_elim (of_temporal a (sub_trans (F.and_left F.itself) q)) (of_temporal b (sub_trans (F.and_right F.itself) q)) (Memᴰ.append_cases (temporal a) m)
  of_temporal (or a b) q m =
      ⊎_elim (of_temporal a (sub_trans (F.or_left F.itself) q)) (of_temporal b (sub_trans (F.or_right F.itself) q)) (Memᴰ.append_cases (temporal a) m)
  of_temporal (next a) q m =
      ⊎_elim (λ e. subst (Kept f) (sym e) (a_next q))
      (λ k. ⊎_elim (λ e. subst (Kept f) (sym e) (an_operand q)) (of_temporal a (sub_trans (F.next_of F.itself) q)) (Memᴰ.cases_cons k)) (Memᴰ.cases_cons m)
  of_temporal (until a b) q m =
      ⊎_elim (λ e. subst (Kept f) (sym e) (an_until q))
      (λ k. ⊎_elim (of_temporal a (sub_trans (F.until_left F.itself) q)) (of_temporal b (sub_trans (F.until_right F.itself) q)) (Memᴰ.append_cases (temporal a) k))
      (Memᴰ.cases_cons m)
  of_temporal (release a b) q m =
      ⊎_elim (λ e. subst (Kept f) (sym e) (a_release q))
      (λ k. ⊎_elim (of_temporal a (sub_trans (F.release_left F.itself) q)) (of_temporal b (sub_trans (F.release_right F.itself) q)) (Memᴰ.append_cases (temporal a) k))
      (Memᴰ.cases_cons m)

pub of_kept : (f g : Formula) → Memᴰ g (kept f) → Kept f g
of_kept f g m =
    ⊎_elim (λ e. subst (Kept f) (sym e) whole) (of_temporal f g f F.itself) (Memᴰ.cases_cons (of_once same g (f ∷ temporal f) m))

pub kept_listed : KeptListed
kept_listed f g = (λ m. ∥∥₁_map m (of_kept f g), λ m. ∥∥₁_map m (λ k. once_in same g (f ∷ temporal f) (kept_in k)))

-- ---- each stands once

module _ {A : Type 0} (d : Discrete A) where
  pub add_once_once : (x : A) (ys : List A) → NoTwice ys → NoTwice (add_once d x ys)
  add_once_once x [] h = ((λ k. Memᴰ.not-nil k), tt)
  add_once_once x (y ∷ ys) h = go (d x y) (add_once_once x ys h.1) (of_add d y x ys)
    where
      go : (e : Dec (x ≡ y)) → NoTwice (add_once d x ys) → (Memᴰ y (add_once d x ys) → (y ≡ x) ⊎ Memᴰ y ys)
          → NoTwice (elim e as (λ e'. List A) [ yes e' ↦ y ∷ ys | no n ↦ y ∷ add_once d x ys ])
      go (yes e) ih cases = h
      go (no n) ih cases = ((λ m. ⊎_elim (λ e. n (sym e)) h.0 (cases m)), ih)

  pub once_once : (xs : List A) → NoTwice (once d xs)
  once_once [] = tt
  once_once (x ∷ xs) = add_once_once x (once d xs) (once_once xs)

pub kept_once : KeptOnce
kept_once f = once_once same (f ∷ temporal f)

-- the element at a place stands in the list, and what stands in the list has a place
pub at_place : {A : Type 0} (xs : List A) (i : ℕ) (z : A) → i < length xs → Memᴰ (get_or xs i z) xs
at_place [] i z l = absurd (omega arith)
at_place (x ∷ xs) zero z l = Memᴰ.head refl
at_place (x ∷ xs) (suc i) z l = Memᴰ.tail (at_place xs i z (omega arith))

pub place_of : {A : Type 0} (xs : List A) (x z : A) → Memᴰ x xs → (i : ℕ) × (i < length xs) × (get_or xs i z ≡ x)
place_of [] x z m = absurd (Memᴰ.not-nil m)
place_of (y ∷ ys) x z m =
    ⊎_elim (λ e. (0, omega arith, sym e)) (λ q. let r = place_of ys x z q in (suc r.0, omega (arith, r.1), r.2)) (Memᴰ.cases_cons m)

pub no_twice_apart : {A : Type 0} (xs : List A) (z : A) → NoTwice xs → (i j : ℕ) → i < j → j < length xs → get_or xs i z ≡ get_or xs j z → ⊥
no_twice_apart [] z h i j less l e = omega arith
no_twice_apart (x ∷ xs) z h zero zero less l e = omega arith
no_twice_apart (x ∷ xs) z h (suc i) zero less l e = omega arith
no_twice_apart (x ∷ xs) z h zero (suc j) less l e = h.0 (subst (λ y. Memᴰ y xs) (sym e) (at_place xs j z (omega arith)))
no_twice_apart (x ∷ xs) z h (suc i) (suc j) less l e = no_twice_apart xs z h.1 i j (omega arith) (omega arith) e
