-- The listed formulas are the subformulas, each once.
use Rattle.std.proofs.Common.{◌⊎◌, List, [], ◌∷◌, refl, subst, inl, inr, ⊎_elim}
use mathlib.Core.Logic.{∥∥₁_map}
use mathlib.Core.List.Memᴰ
use mathlib.Core.List.{Memᴰ}
use Rattle.logic.specs.Formula.{Formula, tru, fls, lit, and, or, next, until, release, Sub, same}
use Rattle.logic.specs.Formula as F
use Rattle.logic.specs.Labels.{NoTwice}
use Rattle.texts.specs.Listed.{add, added, listed_after}
use Rattle.logic.proofs.Kept.{add_in, of_add, add_once_once}
use Rattle.texts.specs.Counts.{ListedAreTheSubformulasOnce}

once_added : (f : Formula) (gs : List Formula) → NoTwice gs → NoTwice (added gs f)
unfolding added
once_added tru gs h = add_once_once same tru gs h
once_added fls gs h = add_once_once same fls gs h
once_added (lit i p) gs h = add_once_once same (lit i p) gs h
once_added (and a b) gs h = add_once_once same (and a b) _ (once_added b _ (once_added a gs h))
once_added (or a b) gs h = add_once_once same (or a b) _ (once_added b _ (once_added a gs h))
once_added (next a) gs h = add_once_once same (next a) _ (once_added a gs h)
once_added (until a b) gs h = add_once_once same (until a b) _ (once_added b _ (once_added a gs h))
once_added (release a b) gs h = add_once_once same (release a b) _ (once_added b _ (once_added a gs h))

once_listed : (fs gs : List Formula) → NoTwice gs → NoTwice (listed_after gs fs)
once_listed [] gs h = h
once_listed (f ∷ fs) gs h = once_listed fs (added gs f) (once_added f gs h)

-- what is added are the subformulas
module _ (g : Formula) where
  abbrev From : List Formula → Formula → Type 0
  From gs f = Memᴰ g gs ⊎ Sub g f

  top : (f : Formula) (gs hs : List Formula) → (Memᴰ g hs → From gs f) → Memᴰ g (add f hs) → From gs f
  top f gs hs k m = ⊎_elim (λ e. inr (subst (λ (x : Formula). Sub g x) e F.itself)) k (of_add same g f hs m)

  pair : (a b f : Formula) (gs hs : List Formula) → (Sub g a → Sub g f) → (Sub g b → Sub g f) → From gs a ⊎ Sub g b → From gs f
  pair a b f gs hs p q m = ⊎_elim (λ k. ⊎_elim (λ x. inl x) (λ x. inr (p x)) k) (λ k. inr (q k)) m

  of_added : (f : Formula) (gs : List Formula) → Memᴰ g (added gs f) → From gs f
  unfolding added
  of_added tru gs m = top tru gs gs (λ k. inl k) m
  of_added fls gs m = top fls gs gs (λ k. inl k) m
  of_added (lit i p) gs m = top (lit i p) gs gs (λ k. inl k) m
  of_added (and a b) gs m = top (and a b) gs _ (λ k. pair a b (and a b) gs [] (λ x. F.and_left x) (λ x. F.and_right x) (⊎_elim (λ x. inl (of_added a gs x)) (λ x. inr x) (of_added b (added gs a) k))) m
  of_added (or a b) gs m = top (or a b) gs _ (λ k. pair a b (or a b) gs [] (λ x. F.or_left x) (λ x. F.or_right x) (⊎_elim (λ x. inl (of_added a gs x)) (λ x. inr x) (of_added b (added gs a) k))) m
  of_added (next a) gs m = top (next a) gs _ (λ k. ⊎_elim (λ x. inl x) (λ x. inr (F.next_of x)) (of_added a gs k)) m
  of_added (until a b) gs m = top (until a b) gs _ (λ k. pair a b (until a b) gs [] (λ x. F.until_left x) (λ x. F.until_right x) (⊎_elim (λ x. inl (of_added a gs x)) (λ x. inr x) (of_added b (added gs a) k))) m
  of_added (release a b) gs m = top (release a b) gs _ (λ k. pair a b (release a b) gs [] (λ x. F.release_left x) (λ x. F.release_right x) (⊎_elim (λ x. inl (of_added a gs x)) (λ x. inr x) (of_added b (added gs a) k))) m

  stays : (f : Formula) (gs : List Formula) → Memᴰ g gs → Memᴰ g (added gs f)
  unfolding added
  stays tru gs m = add_in same g tru gs (inr m)
  stays fls gs m = add_in same g fls gs (inr m)
  stays (lit i p) gs m = add_in same g (lit i p) gs (inr m)
  stays (and a b) gs m = add_in same g (and a b) _ (inr (stays b _ (stays a gs m)))
  stays (or a b) gs m = add_in same g (or a b) _ (inr (stays b _ (stays a gs m)))
  stays (next a) gs m = add_in same g (next a) _ (inr (stays a gs m))
  stays (until a b) gs m = add_in same g (until a b) _ (inr (stays b _ (stays a gs m)))
  stays (release a b) gs m = add_in same g (release a b) _ (inr (stays b _ (stays a gs m)))

comes : {g f : Formula} → Sub g f → (gs : List Formula) → Memᴰ g (added gs f)
unfolding added
comes {g} (F.itself) gs = itself_in g gs
  where
    itself_in : (f : Formula) (gs : List Formula) → Memᴰ f (added gs f)
    itself_in tru gs = add_in same tru tru gs (inl refl)
    itself_in fls gs = add_in same fls fls gs (inl refl)
    itself_in (lit i p) gs = add_in same (lit i p) (lit i p) gs (inl refl)
    itself_in (and a b) gs = add_in same (and a b) (and a b) _ (inl refl)
    itself_in (or a b) gs = add_in same (or a b) (or a b) _ (inl refl)
    itself_in (next a) gs = add_in same (next a) (next a) _ (inl refl)
    itself_in (until a b) gs = add_in same (until a b) (until a b) _ (inl refl)
    itself_in (release a b) gs = add_in same (release a b) (release a b) _ (inl refl)
comes {g} (F.and_left {a = a} {b = b} q) gs = add_in same g (and a b) _ (inr (stays g b _ (comes q gs)))
comes {g} (F.and_right {a = a} {b = b} q) gs = add_in same g (and a b) _ (inr (comes q (added gs a)))
comes {g} (F.or_left {a = a} {b = b} q) gs = add_in same g (or a b) _ (inr (stays g b _ (comes q gs)))
comes {g} (F.or_right {a = a} {b = b} q) gs = add_in same g (or a b) _ (inr (comes q (added gs a)))
comes {g} (F.next_of {a = a} q) gs = add_in same g (next a) _ (inr (comes q gs))
comes {g} (F.until_left {a = a} {b = b} q) gs = add_in same g (until a b) _ (inr (stays g b _ (comes q gs)))
comes {g} (F.until_right {a = a} {b = b} q) gs = add_in same g (until a b) _ (inr (comes q (added gs a)))
comes {g} (F.release_left {a = a} {b = b} q) gs = add_in same g (release a b) _ (inr (stays g b _ (comes q gs)))
comes {g} (F.release_right {a = a} {b = b} q) gs = add_in same g (release a b) _ (inr (comes q (added gs a)))

of_listed : (g : Formula) (fs gs : List Formula) → Memᴰ g (listed_after gs fs) → Memᴰ g gs ⊎ ((f : Formula) × Memᴰ f fs × Sub g f)
of_listed g [] gs m = inl m
of_listed g (f ∷ fs) gs m =
    ⊎_elim (λ k. ⊎_elim (λ x. inl x) (λ x. inr (f, Memᴰ.head refl, x)) (of_added g f gs k)) (λ k. inr (k.0, Memᴰ.tail k.1, k.2)) (of_listed g fs (added gs f) m)

stays_listed : (g : Formula) (fs gs : List Formula) → Memᴰ g gs → Memᴰ g (listed_after gs fs)
stays_listed g [] gs m = m
stays_listed g (f ∷ fs) gs m = stays_listed g fs (added gs f) (stays g f gs m)

in_listed : (g f : Formula) (fs gs : List Formula) → Memᴰ f fs → Sub g f → Memᴰ g (listed_after gs fs)
in_listed g f [] gs m q = absurd (Memᴰ.not-nil m)
in_listed g f (h ∷ fs) gs m q =
    ⊎_elim (λ e. stays_listed g fs (added gs h) (comes (subst (λ (x : Formula). Sub g x) e q) gs)) (λ k. in_listed g f fs (added gs h) k q) (Memᴰ.cases_cons m)

pub listed_are_the_subformulas_once : ListedAreTheSubformulasOnce
listed_are_the_subformulas_once = record {
  once = λ fs. once_listed fs [] tt;
  all = λ fs g. ((λ m. ∥∥₁_map m (λ k. ⊎_elim (λ x. absurd (Memᴰ.not-nil x)) (λ x. x) (of_listed g fs [] k))), (λ m. ∥∥₁_map m (λ k. in_listed g k.0 fs [] k.1 k.2)));
}
