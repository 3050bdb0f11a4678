-- Sheets by their names and rules, and as lists of calls left them.
use Rattle.std.proofs.Common.{◌≡◌, ℕ, Bool, false, cond, eqb, leb, List, [], ◌∷◌, ◌++◌, length, Ok, Err, Result, sym, refl, ap, ◌∙◌, subst}
use mathlib.Core.Logic.{∥∥₁_elim, ∥∥₁_map}
use native.Mathlib.Nat.{ℕ_set}
use Rattle.std.proofs.lemmas.Bool.{eq-eqb}
use Rattle.fixed.specs.Held.{held}
use Rattle.logic.specs.Formula.{Formula}
use Rattle.meaning.specs.declared.refusals.NamesFault.{NamesFault}
use Rattle.meaning.specs.declared.refusals.NamesFault.TheVariants.{Unfit}
use Rattle.meaning.specs.declared.refusals.SheetFault.{SheetFault}
use Rattle.meaning.specs.Bytes.{Text}
use Rattle.meaning.specs.Names.{names_of, fit}
use Rattle.meaning.specs.Entering.{RightEntering}
use Rattle.meaning.specs.Calls.{History}
use Rattle.meaning.specs.Histories.{names, rules}
use Rattle.meaning.specs.Right.{RightOpening}
use Rattle.texts.specs.Fit.{Fit}
use Rattle.texts.specs.Judged.{judged}
use Rattle.texts.specs.Listed.{listed}
use Rattle.texts.specs.Entered.{BreachFormulas, numbered}
use Rattle.texts.proofs.OfEntered.{as_many, breach_formulas_more, judging_answers_rightly, right_of_some}
use Rattle.rules.specs.declared.sheet.Sheet.{Sheet}
use Rattle.rules.specs.Names.{names_held}
use Rattle.rules.specs.Stored.{Holds}
use Rattle.rules.specs.Model.{Opened}
use Rattle.rules.specs.Led.{SheetStands, SheetIs, SheetLed, Untouched, OpeningIs, OpeningLed, EnteringIs, EnteringLed}

pub blank_is : (s : Sheet) (ns : List Text) → SheetStands s ns [] → SheetIs ns [] s
blank_is s ns st = ∣ ([], st, tt) ∣₁

pub untouched_led : (s : Sheet) → SheetStands s [] [] → (h : History) (n : ℕ) → Untouched h n → SheetLed h n s
untouched_led s st h n u =
    subst (λ (ns : List Text). SheetIs ns (rules h n) s) (sym u.0) (subst (λ (ts : List Text). SheetIs [] ts s) (sym u.1) (blank_is s [] st))

pub counted : (s : Sheet) (ns ts : List Text) → SheetIs ns ts s → length (held s.roots) ≡ length ts
counted s ns ts is = ∥∥₁_elim is (ℕ_set _ _) (λ x. sym x.1.count_is ∙ as_many ns ts x.0 x.2)

-- what sheet number n has after a call on itself
itself : (n : ℕ) (new old : List Text) → cond (eqb n n) new old ≡ new
itself n new old = ap (λ (b : Bool). cond b new old) (eq-eqb n n refl)

-- ---- opening

pub opening_led : (s s' : Sheet) (t : Text) (r : Result (Unit {0}) NamesFault) → RightOpening t r → OpeningIs s t r s' → (h : History) (n : ℕ) → SheetLed h n s → OpeningLed h n t r s'
opening_led s s' t (Ok u) right opens h n led =
    (right, subst (λ (ns : List Text). SheetIs ns (cond (eqb n n) [] (rules h n)) s') (sym (itself n (names_of t) (names h n))) (subst (λ (ts : List Text). SheetIs (names_of t) ts s') (sym (itself n [] (rules h n))) opens))
opening_led s s' t (Err e) right opens h n led = (right, subst (SheetLed h n) (sym opens) led)

-- a refused text changes nothing
pub refused_opening : (s : Sheet) (t : Text) (r : Result (Unit {0}) NamesFault) (y : NamesFault) → r ≡ Err y → fit t ≡ false → RightOpening t r × Opened s t r s × OpeningIs s t r s
refused_opening s t r Unfit e f = subst (λ (a : Result (Unit {0}) NamesFault). RightOpening t a × Opened s t a s × OpeningIs s t a s) (sym e) (f, (f, refl), refl)

-- ---- entering

-- the sheet before stands for what Before says, and the sheet after for what After says
module _ (Before After : List Text → List Formula → Type 0) (fit : (ns : List Text) (fs : List Formula) → Before ns fs → Fit ns) (t : Text) where
  abbrev Is : (List Text → List Formula → Type 0) → List Text → List Text → Type 0
  Is P ns ts = ∥ ((fs : List Formula) × P ns fs × BreachFormulas ns ts fs) ∥₁

  -- a text that is accepted
  module _ (n : ℕ) (enters : (ns : List Text) (fs : List Formula) → Before ns fs → (f : Formula) × (judged ns (leb 16 (length fs)) (listed fs) t ≡ Ok f) × (n ≡ length fs) × After ns (fs ++ (f ∷ []))) where
    pub accepted_answers : (ns ts : List Text) → Is Before ns ts → RightEntering ns ts t (Ok n) × Is After ns (ts ++ (t ∷ []))
    accepted_answers ns ts is = (
      right_of_some ns ts t (Ok n) (∥∥₁_map is (λ x.
          let e = enters ns x.0 x.1 in
          let y = subst (λ a. RightEntering ns ts t (numbered (length ts) a)) e.1 (judging_answers_rightly.right ns (fit ns x.0 x.1) ts x.0 t x.2) in
          subst (λ (k : ℕ). RightEntering ns ts t (Ok k)) (sym (e.2 ∙ as_many ns ts x.0 x.2)) y)),
      ∥∥₁_map is (λ x.
          let e = enters ns x.0 x.1 in
          (x.0 ++ (e.0 ∷ []), e.3, breach_formulas_more ns ts x.0 t e.0 x.2 (judging_answers_rightly.breach ns _ _ t e.0 e.1))),
    )

    pub accepted_led : (h : History) (k : ℕ) → Is Before (names h k) (rules h k) → RightEntering (names h k) (rules h k) t (Ok n) × Is After (names h k) (cond (eqb k k) (rules h k ++ (t ∷ [])) (rules h k))
    accepted_led h k led =
        let x = accepted_answers (names h k) (rules h k) led in
        (x.0, subst (λ (ts : List Text). Is After (names h k) ts) (sym (itself k (rules h k ++ (t ∷ [])) (rules h k))) x.1)

-- a text that is refused
module _ (s s' : Sheet) (same : (ns ts : List Text) → SheetIs ns ts s → SheetIs ns ts s') (t : Text) (r : Result ℕ SheetFault) (y : SheetFault) (refused : r ≡ Err y)
    (judging : (gs : List Formula) → Holds s.store gs → judged (names_held s.names) (leb 16 (length (held s.roots))) gs t ≡ Err y) where
  judged_so : (ns : List Text) (fs : List Formula) → SheetStands s ns fs → judged ns (leb 16 (length fs)) (listed fs) t ≡ Err y
  judged_so ns fs st =
      ap (λ (v : List Text). judged v (leb 16 (length fs)) (listed fs) t) (sym st.named) ∙ ap (λ (v : ℕ). judged (names_held s.names) (leb 16 v) (listed fs) t) st.count_is ∙ judging (listed fs) st.means

  pub refused_answers : (ns ts : List Text) → SheetIs ns ts s → EnteringIs ns ts t r s'
  refused_answers ns ts is = subst (λ (a : Result ℕ SheetFault). EnteringIs ns ts t a s') (sym refused) (
    right_of_some ns ts t (Err y) (∥∥₁_map is (λ x. subst (λ a. RightEntering ns ts t (numbered (length ts) a)) (judged_so ns x.0 x.1) (judging_answers_rightly.right ns x.1.fit ts x.0 t x.2))),
    same ns ts is,
  )

  pub refused_led : (h : History) (n : ℕ) → SheetLed h n s → EnteringLed h n t r s'
  refused_led h n led =
      let x = subst (λ (a : Result ℕ SheetFault). EnteringIs (names h n) (rules h n) t a s') refused (refused_answers (names h n) (rules h n) led) in
      subst (λ (a : Result ℕ SheetFault). EnteringLed h n t a s') (sym refused) x
