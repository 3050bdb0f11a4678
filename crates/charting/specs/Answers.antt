-- What a filling answers is what the specification wants. Assumes nothing.
use Rattle.std.specs.Prelude.{ℕ, List, Ok, Err}
use Rattle.logic.specs.Formula.{Formula}
use Rattle.meaning.specs.Charts.{Areas}
use Rattle.meaning.specs.Right.{Fills}
use Rattle.meaning.specs.declared.refusals.FillingFault.{FillingFault}
use Rattle.charting.specs.Filled.{FillingOnce, Refusing}

-- whatever a filling holds in its areas, the specification wants its counts as the answer
abbrev pub FillingsAreRight : Type 0
FillingsAreRight =
    (f : Formula) (areas : Areas) (ls : List ℕ) (a : ℕ) (st : List (List ℕ)) (b : ℕ) (nx : List ℕ) → FillingOnce f areas ls a st b nx → Fills f areas (Ok (a, b))

-- whatever a filling is refused for, the specification wants that refusal
abbrev pub RefusalsAreRight : Type 0
RefusalsAreRight = (f : Formula) (areas : Areas) (e : FillingFault) → Refusing f areas e → Fills f areas (Err e)
