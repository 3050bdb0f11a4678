-- What entering a text answers on a sheet, in the counts of the specification. Assumes nothing.
use Rattle.std.specs.Prelude.{◌≡◌, ℕ, ◌<◌, ◌≤◌, Bool, ◌⊎◌, ◌↔◌, List, [], ◌∷◌, length, Ok, Err, Result, nat_le}
use Rattle.logic.specs.Formula.{Formula}
use Rattle.logic.specs.Labels.{kept}
use Rattle.meaning.specs.declared.refusals.SheetFault.{SheetFault}
use Rattle.meaning.specs.Bytes.{Text}
use Rattle.meaning.specs.Written.{IsBreachFormula}
use Rattle.meaning.specs.Sheets.{SheetIsFull, IsOverKept}
use Rattle.meaning.specs.Entering.{RightEntering}
use Rattle.texts.specs.Fit.{Fit}
use Rattle.texts.specs.Judged.{judged}
use Rattle.texts.specs.Listed.{added, listed}

-- fs are the breach formulas of the texts ts, one by one, under the names ns
abbrev pub BreachFormulas : List Text → List Text → List Formula → Type 0
BreachFormulas ns [] [] = Unit {0}
BreachFormulas ns [] (f ∷ fs) = ⊥
BreachFormulas ns (t ∷ ts) [] = ⊥
BreachFormulas ns (t ∷ ts) (f ∷ fs) = IsBreachFormula ns t f × BreachFormulas ns ts fs

-- a sheet is full, and a text is over what is kept, exactly where the lists that are computed are too long
pub record ListsCountWhatIsSpecified : Type 0 where
  pub sheet_full : (ns : List Text) → Fit ns → (ts : List Text) (fs : List Formula) (t : Text) (f : Formula) → BreachFormulas ns ts fs → IsBreachFormula ns t f
      → SheetIsFull ns ts t ↔ ((16 ≤ length ts) ⊎ (256 < length (added (listed fs) f)))
  pub over_kept : (ns : List Text) → Fit ns → (t : Text) (f : Formula) → IsBreachFormula ns t f → IsOverKept ns t ↔ (32 < length (kept f))

-- the answer of a sheet with n rules
abbrev pub numbered : ℕ → Result Formula SheetFault → Result ℕ SheetFault
numbered n (Ok f) = Ok n
numbered n (Err e) = Err e

-- what is judged over the breach formulas of a sheet is the right answer, and an accepted formula is the text's breach formula
pub record JudgingAnswersRightly : Type 0 where
  pub right : (ns : List Text) → Fit ns → (ts : List Text) (fs : List Formula) (t : Text) → BreachFormulas ns ts fs → RightEntering ns ts t (numbered (length ts) (judged ns (nat_le 16 (length fs)) (listed fs) t))
  pub breach : (ns : List Text) (full : Bool) (gs : List Formula) (t : Text) (f : Formula) → judged ns full gs t ≡ Ok f → IsBreachFormula ns t f
