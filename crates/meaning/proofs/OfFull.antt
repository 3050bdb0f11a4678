-- A sheet is full, and a rule over kept, exactly when lists say so. Assumes nothing.
use Rattle.std.proofs.Common.{◌≡◌, ℕ, suc, ◌<◌, ◌↔◌, List, [], ◌∷◌, map, length, get_or, sym, refl, ap, ◌∙◌, subst, inl, inr, ⊎_elim, arith}
use mathlib.Core.Logic.{∥∥₁_elim, ∥∥₁_map, ∥∥₁_prop}
use mathlib.Core.HLevel.{⊥_prop}
use mathlib.Core.List.Memᴰ
use mathlib.Core.List.{Mem, Memᴰ}
use native.Mathlib.Decide.{dec_lt}
use Rattle.logic.specs.Formula.{Formula, tru, fls, lit, and, or, next, until, release, Sub, same}
use Rattle.logic.specs.Formula as F
use Rattle.logic.specs.Rule.{Rule, negated}
use Rattle.logic.specs.Labels.{NoTwice, kept}
use Rattle.logic.specs.Counting.{Classes, Exceeds}
use Rattle.logic.proofs.Kept.{of_once, once_in, once_once, kept_listed, kept_once, at_place, no_twice_apart}
use Rattle.logic.proofs.Tables.{not_both, part_above}
use Rattle.meaning.specs.Bytes.{Text}
use Rattle.meaning.specs.Written.{written, Means}
use Rattle.meaning.specs.Sheets.{Equal, Used, KeptOf}
use Rattle.meaning.specs.Reading.{GoodNames}
use Rattle.meaning.specs.Full.{parts, all_parts, different_parts, CanBeMeant, FullSheetsByLists, OverKeptByLists}
use Rattle.meaning.proofs.OfReading.{texts_mean_one_rule}

-- ---- a list that holds each of some formulas once counts them

-- the place of a formula that a list holds
place_in : (xs : List Formula) (g : Formula) → Mem g xs → (i : ℕ) × (i < length xs) × (g ≡ get_or xs i tru)
place_in [] g m = absurd (∥∥₁_elim m ⊥_prop (λ k. Memᴰ.not-nil k))
place_in (x ∷ xs) g m = go (same g x) (place_in xs g)
  where
    go : Dec (g ≡ x) → (Mem g xs → (i : ℕ) × (i < length xs) × (g ≡ get_or xs i tru)) → (i : ℕ) × (i < length (x ∷ xs)) × (g ≡ get_or (x ∷ xs) i tru)
    go (yes e) below = (0, omega arith, e)
    go (no n) below =
        let k = below (∥∥₁_map m (λ d. ⊎_elim (λ e. absurd (n e)) (λ t. t) (Memᴰ.cases_cons d))) in (suc k.0, omega (arith, k.1), k.2)

module _ (In : Formula → Type 0) (xs : List Formula) (once_each : NoTwice xs) (has : (g : Formula) → In g → Mem g xs) (of : (g : Formula) → Memᴰ g xs → In g) where
  listed : Classes In Equal (length xs)
  listed = record {
    one = λ i. get_or xs i tru;
    inside = λ i l. of (get_or xs i tru) (at_place xs i tru l);
    covers = λ g h. place_in xs g (has g h);
    differ = λ i j less l e. no_twice_apart xs tru once_each i j less l e;
  }

  exceeds_by_list : (m : ℕ) → Exceeds m In Equal ↔ (m < length xs)
  exceeds_by_list m = (to, from)
    where
      to : Exceeds m In Equal → m < length xs
      to h = elim (dec_lt m (length xs)) [ yes l ↦ l | no n ↦ absurd (∥∥₁_elim h ⊥_prop (λ k. not_both In Equal (λ u v e. sym e) (λ u v w p q. p ∙ q) m k (length xs) (omega arith) listed)) ]

      from : m < length xs → Exceeds m In Equal
      from l = ∣ part_above In Equal (λ u v e. sym e) (λ u v w p q. p ∙ q) (λ u. refl) m (length xs) l listed ∣₁

-- ---- subformulas

in_parts : {g f : Formula} → Sub g f → Memᴰ g (parts f)
in_parts {g} (F.itself) = head_of g
  where
    head_of : (f : Formula) → Memᴰ f (parts f)
    head_of tru = Memᴰ.head refl
    head_of fls = Memᴰ.head refl
    head_of (lit i p) = Memᴰ.head refl
    head_of (and a b) = Memᴰ.head refl
    head_of (or a b) = Memᴰ.head refl
    head_of (next a) = Memᴰ.head refl
    head_of (until a b) = Memᴰ.head refl
    head_of (release a b) = Memᴰ.head refl
in_parts (F.and_left q) = Memᴰ.tail (Memᴰ.append_left _ (in_parts q))
in_parts (F.and_right {a = a} q) = Memᴰ.tail (Memᴰ.append_right (parts a) (in_parts q))
in_parts (F.or_left q) = Memᴰ.tail (Memᴰ.append_left _ (in_parts q))
in_parts (F.or_right {a = a} q) = Memᴰ.tail (Memᴰ.append_right (parts a) (in_parts q))
in_parts (F.next_of q) = Memᴰ.tail (in_parts q)
in_parts (F.until_left q) = Memᴰ.tail (Memᴰ.append_left _ (in_parts q))
in_parts (F.until_right {a = a} q) = Memᴰ.tail (Memᴰ.append_right (parts a) (in_parts q))
in_parts (F.release_left q) = Memᴰ.tail (Memᴰ.append_left _ (in_parts q))
in_parts (F.release_right {a = a} q) = Memᴰ.tail (Memᴰ.append_right (parts a) (in_parts q))

the_whole : {g f : Formula} → g ≡ f → Sub g f
the_whole {g} e = subst (λ x. Sub g x) e F.itself

of_parts : (g f : Formula) → Memᴰ g (parts f) → Sub g f
of_parts g tru m = ⊎_elim (λ e. the_whole e) (λ k. absurd (Memᴰ.not-nil k)) (Memᴰ.cases_cons m)
of_parts g fls m = ⊎_elim (λ e. the_whole e) (λ k. absurd (Memᴰ.not-nil k)) (Memᴰ.cases_cons m)
of_parts g (lit i p) m = ⊎_elim (λ e. the_whole e) (λ k. absurd (Memᴰ.not-nil k)) (Memᴰ.cases_cons m)
of_parts g (and a b) m = ⊎_elim (λ e. the_whole e) (λ k. ⊎_elim (λ q. F.and_left (of_parts g a q)) (λ q. F.and_right (of_parts g b q)) (Memᴰ.append_cases (parts a) k)) (Memᴰ.cases_cons m)
of_parts g (or a b) m = ⊎_elim (λ e. the_whole e) (λ k. ⊎_elim (λ q. F.or_left (of_parts g a q)) (λ q. F.or_right (of_parts g b q)) (Memᴰ.append_cases (parts a) k)) (Memᴰ.cases_cons m)
of_parts g (next a) m = ⊎_elim (λ e. the_whole e) (λ k. F.next_of (of_parts g a k)) (Memᴰ.cases_cons m)
of_parts g (until a b) m = ⊎_elim (λ e. the_whole e) (λ k. ⊎_elim (λ q. F.until_left (of_parts g a q)) (λ q. F.until_right (of_parts g b q)) (Memᴰ.append_cases (parts a) k)) (Memᴰ.cases_cons m)
of_parts g (release a b) m = ⊎_elim (λ e. the_whole e) (λ k. ⊎_elim (λ q. F.release_left (of_parts g a q)) (λ q. F.release_right (of_parts g b q)) (Memᴰ.append_cases (parts a) k)) (Memᴰ.cases_cons m)

in_all : (g : Formula) (rs : List Rule) (r : Rule) → Memᴰ r rs → Sub g (negated r) → Memᴰ g (all_parts rs)
in_all g [] r m q = absurd (Memᴰ.not-nil m)
in_all g (s ∷ rs) r m q =
    ⊎_elim (λ e. Memᴰ.append_left _ (in_parts (subst (λ x. Sub g (negated x)) e q))) (λ k. Memᴰ.append_right (parts (negated s)) (in_all g rs r k q)) (Memᴰ.cases_cons m)

of_all : (g : Formula) (rs : List Rule) → Memᴰ g (all_parts rs) → (r : Rule) × Memᴰ r rs × Sub g (negated r)
of_all g [] m = absurd (Memᴰ.not-nil m)
of_all g (s ∷ rs) m =
    ⊎_elim (λ k. (s, Memᴰ.head refl, of_parts g (negated s) k)) (λ k. let a = of_all g rs k in (a.0, Memᴰ.tail a.1, a.2)) (Memᴰ.append_cases (parts (negated s)) m)

-- ---- the texts of rules

module _ (ns : List Text) where
  of_texts : (rs : List Rule) (t : Text) → Memᴰ t (map (written ns) rs) → (r : Rule) × Memᴰ r rs × (t ≡ written ns r)
  of_texts [] t m = absurd (Memᴰ.not-nil m)
  of_texts (s ∷ rs) t m =
      ⊎_elim (λ e. (s, Memᴰ.head refl, e)) (λ k. let a = of_texts rs t k in (a.0, Memᴰ.tail a.1, a.2)) (Memᴰ.cases_cons m)

  in_texts : (rs : List Rule) (r : Rule) → Memᴰ r rs → Memᴰ (written ns r) (map (written ns) rs)
  in_texts [] r m = absurd (Memᴰ.not-nil m)
  in_texts (s ∷ rs) r m = ⊎_elim (λ e. Memᴰ.head (ap (written ns) e)) (λ k. Memᴰ.tail (in_texts rs r k)) (Memᴰ.cases_cons m)

  meant : (rs : List Rule) → CanBeMeant ns rs → (r : Rule) → Memᴰ r rs → Means ns (written ns r) r
  meant [] h r m = absurd (Memᴰ.not-nil m)
  meant (s ∷ rs) h r m =
      ⊎_elim (λ e. subst (λ x. Means ns (written ns x) x) (sym e) (record { writes = refl; named = h.0; shallow = h.1 })) (λ k. meant rs h.2 r k) (Memᴰ.cases_cons m)

  module _ (g : GoodNames ns) where
    -- the breach formula of a text that means r
    formula_is : (t : Text) (r : Rule) → Means ns t r → (s : Rule) (f : Formula) → Means ns t s → negated s ≡ f → negated r ≡ f
    formula_is t r m s f k e = ap negated (texts_mean_one_rule ns t g r s m k) ∙ e

    used_in : (rs : List Rule) → CanBeMeant ns rs → (x : Formula) → Used ns (map (written ns) rs) x → Mem x (different_parts rs)
    used_in rs h x u =
        ∥∥₁_elim u ∥∥₁_prop
        (λ a. ∥∥₁_elim a.2 ∥∥₁_prop
        (λ m. ∥∥₁_map a.3
        (λ b.
        let k = of_texts rs a.0 m in
        let means : Means ns a.0 k.0 = subst (λ t. Means ns t k.0) (sym k.2) (meant rs h k.0 k.1) in
        let f_is = formula_is a.0 k.0 means b.0 a.1 b.1 b.2 in
        once_in same x (all_parts rs) (in_all x rs k.0 k.1 (subst (Sub x) (sym f_is) a.4)))))

    of_used : (rs : List Rule) → CanBeMeant ns rs → (x : Formula) → Memᴰ x (different_parts rs) → Used ns (map (written ns) rs) x
    of_used rs h x m =
        let a = of_all x rs (of_once same x (all_parts rs) m) in
        ∣ (written ns a.0, negated a.0, ∣ in_texts rs a.0 a.1 ∣₁, ∣ (a.0, meant rs h a.0 a.1, refl) ∣₁, a.2) ∣₁

length_texts : (ns : List Text) (rs : List Rule) → length (map (written ns) rs) ≡ length rs
length_texts ns [] = refl
length_texts ns (r ∷ rs) = ap suc (length_texts ns rs)

pub full_sheets_by_lists : FullSheetsByLists
full_sheets_by_lists ns g r rs h =
    let e = exceeds_by_list (Used ns (map (written ns) (r ∷ rs))) (different_parts (r ∷ rs)) (once_once same (all_parts (r ∷ rs))) (used_in ns g (r ∷ rs) h) (of_used ns g (r ∷ rs) h) 256 in (
      λ s. ⊎_elim (λ l. inl (omega (arith, l, length_texts ns rs))) (λ x. inr (e.0 x)) s,
      λ s. ⊎_elim (λ l. inl (omega (arith, l, length_texts ns rs))) (λ x. inr (e.1 x)) s,
    )

pub over_kept_by_lists : OverKeptByLists
over_kept_by_lists ns t r g m =
    exceeds_by_list (KeptOf ns t) (kept (negated r)) (kept_once (negated r))
    (λ x h. ∥∥₁_elim h ∥∥₁_prop
    (λ a. ∥∥₁_elim a.1 ∥∥₁_prop (λ b. (kept_listed (negated r) x).1 ∣ subst (λ f. Rattle.logic.specs.Labels.Kept f x) (sym (formula_is ns g t r m b.0 a.0 b.1 b.2)) a.2 ∣₁)))
    (λ x k. ∥∥₁_map ((kept_listed (negated r) x).0 ∣ k ∣₁) (λ q. (negated r, ∣ (r, m, refl) ∣₁, q)))
    32
