-- Lists of subformulas grow at their end.
use Rattle.std.proofs.Common.{◌≡◌, ℕ, zero, suc, ◌<◌, ◌≤◌, List, [], ◌∷◌, ◌++◌, length, get_or, sym, refl, ap, ◌∙◌, append_assoc, append-nil, arith, length-append}
use lib.ListN.{get_or-append}
use Rattle.logic.specs.Formula.{Formula, tru, fls, lit, and, or, next, until, release, same}
use Rattle.logic.specs.Labels.{add_once}
use Rattle.texts.specs.Listed.{add, added, listed_after, StandsAt}

pub add_old : (gs : List Formula) (f : Formula) (i : ℕ) → i < length gs → get_or gs i tru ≡ f → add f gs ≡ gs
add_old [] f i h e = absurd (omega arith)
add_old (g ∷ gs) f i h e = go (same f g) i h e (add_old gs f)
  where
    go : (t : Dec (f ≡ g)) (i : ℕ) → i < length (g ∷ gs) → get_or (g ∷ gs) i tru ≡ f → ((i : ℕ) → i < length gs → get_or gs i tru ≡ f → add f gs ≡ gs)
        → elim t as (λ t'. List Formula) [ yes e' ↦ g ∷ gs | no n ↦ g ∷ add_once same f gs ] ≡ g ∷ gs
    go (yes q) i h e below = refl
    go (no n) zero h e below = absurd (n (sym e))
    go (no n) (suc i) h e below = ap (λ (x : List Formula). g ∷ x) (below i (omega arith) e)

pub add_new : (gs : List Formula) (f : Formula) → ((i : ℕ) → i < length gs → get_or gs i tru ≡ f → ⊥) → add f gs ≡ gs ++ (f ∷ [])
add_new [] f h = refl
add_new (g ∷ gs) f h = go (same f g) h (add_new gs f)
  where
    go : (t : Dec (f ≡ g)) → ((i : ℕ) → i < length (g ∷ gs) → get_or (g ∷ gs) i tru ≡ f → ⊥) → (((i : ℕ) → i < length gs → get_or gs i tru ≡ f → ⊥) → add f gs ≡ gs ++ (f ∷ []))
        → elim t as (λ t'. List Formula) [ yes e' ↦ g ∷ gs | no n ↦ g ∷ add_once same f gs ] ≡ g ∷ (gs ++ (f ∷ []))
    go (yes q) h below = absurd (h 0 (omega arith) (sym q))
    go (no n) h below = ap (λ (x : List Formula). g ∷ x) (below (λ i l e. h (suc i) (omega arith) e))

add_grows : (f : Formula) (gs : List Formula) → (hs : List Formula) × (add f gs ≡ gs ++ hs)
add_grows f [] = (f ∷ [], refl)
add_grows f (g ∷ gs) = go (same f g) (add_grows f gs)
  where
    go : (t : Dec (f ≡ g)) → ((hs : List Formula) × (add f gs ≡ gs ++ hs))
        → (hs : List Formula) × (elim t as (λ t'. List Formula) [ yes e' ↦ g ∷ gs | no n ↦ g ∷ add_once same f gs ] ≡ (g ∷ gs) ++ hs)
    go (yes q) below = ([], sym (append-nil (g ∷ gs)))
    go (no n) below = (below.0, ap (λ (x : List Formula). g ∷ x) below.1)

then_grows : (gs hs ks : List Formula) → ((a : List Formula) × (hs ≡ gs ++ a)) → ((b : List Formula) × (ks ≡ hs ++ b)) → (c : List Formula) × (ks ≡ gs ++ c)
then_grows gs hs ks p q = (p.0 ++ q.0, q.1 ∙ ap (λ (x : List Formula). x ++ q.0) p.1 ∙ append_assoc gs p.0 q.0)

pub added_grows : (f : Formula) (gs : List Formula) → (hs : List Formula) × (added gs f ≡ gs ++ hs)
unfolding added
added_grows tru gs = add_grows tru gs
added_grows fls gs = add_grows fls gs
added_grows (lit i p) gs = add_grows (lit i p) gs
added_grows (and a b) gs = then_grows _ _ _ (then_grows _ _ _ (added_grows a gs) (added_grows b (added gs a))) (add_grows (and a b) (added (added gs a) b))
added_grows (or a b) gs = then_grows _ _ _ (then_grows _ _ _ (added_grows a gs) (added_grows b (added gs a))) (add_grows (or a b) (added (added gs a) b))
added_grows (next a) gs = then_grows _ _ _ (added_grows a gs) (add_grows (next a) (added gs a))
added_grows (until a b) gs = then_grows _ _ _ (then_grows _ _ _ (added_grows a gs) (added_grows b (added gs a))) (add_grows (until a b) (added (added gs a) b))
added_grows (release a b) gs = then_grows _ _ _ (then_grows _ _ _ (added_grows a gs) (added_grows b (added gs a))) (add_grows (release a b) (added (added gs a) b))

longer_by : (gs ks : List Formula) → ((hs : List Formula) × (ks ≡ gs ++ hs)) → length gs ≤ length ks
longer_by gs ks p = let l = length-append gs p.0 in let e = ap length p.1 in omega arith

pub added_le : (f : Formula) (gs : List Formula) → length gs ≤ length (added gs f)
added_le f gs = longer_by gs (added gs f) (added_grows f gs)

pub add_le : (f : Formula) (gs : List Formula) → length gs ≤ length (add f gs)
add_le f gs = longer_by gs (add f gs) (add_grows f gs)

pub added_stays : (f : Formula) (gs : List Formula) (k : ℕ) → k < length gs → get_or (added gs f) k tru ≡ get_or gs k tru
added_stays f gs k h = let p = added_grows f gs in ap (λ (x : List Formula). get_or x k tru) p.1 ∙ get_or-append gs p.0 tru k h

pub stands_after : (f g : Formula) (gs : List Formula) (k : ℕ) → StandsAt gs f k → StandsAt (added gs g) f k
stands_after f g gs k s = let l = added_le g gs in (omega (arith, s.0), added_stays g gs k s.0 ∙ s.1)

pub listed_more : (gs fs : List Formula) (f : Formula) → listed_after gs (fs ++ (f ∷ [])) ≡ added (listed_after gs fs) f
listed_more gs [] f = refl
listed_more gs (g ∷ fs) f = listed_more (added gs g) fs f
