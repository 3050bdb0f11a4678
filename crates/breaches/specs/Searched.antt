-- What is answered, by the chart and by every formula that it reads. Assumes nothing.
use Rattle.std.specs.Prelude.{◌≡◌, ℕ, ◌<◌, ◌≤◌, List, Ok, Err, Result}
use Rattle.logic.specs.Formula.{Formula}
use Rattle.meaning.specs.declared.answers.Verdict.{Verdict}
use Rattle.meaning.specs.declared.answers.Verdict.TheVariants.{Shown, Clear}
use Rattle.meaning.specs.declared.refusals.SearchingFault.{SearchingFault}
use Rattle.meaning.specs.declared.refusals.SearchingFault.TheVariants.{Blank, NoStart, ManyStates, ShortWalkArea, PairsExceed}
use Rattle.meaning.specs.Machines.{Meaning}
use Rattle.meaning.specs.Right.{Searches}
use Rattle.charts.specs.declared.chart.Chart.{Chart}
use Rattle.pairs.specs.Verdicts.{Reads}
use Rattle.breaches.specs.Charts.{reader_of, standings_of}

-- a blank chart is refused; a filled one is gone by as its reader says, for each formula that this reads
abbrev pub Searched : Chart → Meaning → ℕ → List ℕ → Result Verdict SearchingFault → List ℕ → Type 0
Searched c m pairs before (Err Blank) after = (standings_of c ≡ 0) × (after ≡ before)
Searched c m pairs before (Err NoStart) after = (f : Formula) → Reads f (reader_of c) → Searches f m pairs before (Err NoStart, after)
Searched c m pairs before (Err ManyStates) after = (f : Formula) → Reads f (reader_of c) → Searches f m pairs before (Err ManyStates, after)
Searched c m pairs before (Err ShortWalkArea) after = (f : Formula) → Reads f (reader_of c) → Searches f m pairs before (Err ShortWalkArea, after)
Searched c m pairs before (Err PairsExceed) after = (f : Formula) → Reads f (reader_of c) → Searches f m pairs before (Err PairsExceed, after)
Searched c m pairs before (Ok v) after = (f : Formula) → Reads f (reader_of c) → Searches f m pairs before (Ok v, after)

-- a filled chart is gone by as its reader says: it reads some formula, and the answer is right for each that it reads
pub record GoneBy (c : Chart) (m : Meaning) (pairs : ℕ) (before : List ℕ) (x : Result Verdict SearchingFault) (after : List ℕ) : Type 0 where
  pub filled : 0 < standings_of c
  pub some : ∥ ((f : Formula) × Reads f (reader_of c)) ∥₁
  pub each : (f : Formula) → Reads f (reader_of c) → Searches f m pairs before (x, after)

-- ... and it reads one
abbrev pub SearchedAsRead : Chart → Meaning → ℕ → List ℕ → Result Verdict SearchingFault → List ℕ → Type 0
SearchedAsRead c m pairs before (Err Blank) after = (standings_of c ≡ 0) × (after ≡ before)
SearchedAsRead c m pairs before (Err NoStart) after = GoneBy c m pairs before (Err NoStart) after
SearchedAsRead c m pairs before (Err ManyStates) after = GoneBy c m pairs before (Err ManyStates) after
SearchedAsRead c m pairs before (Err ShortWalkArea) after = GoneBy c m pairs before (Err ShortWalkArea) after
SearchedAsRead c m pairs before (Err PairsExceed) after = GoneBy c m pairs before (Err PairsExceed) after
SearchedAsRead c m pairs before (Ok v) after = GoneBy c m pairs before (Ok v) after

-- a refusal before anything is looked at
abbrev pub Early : Result Verdict SearchingFault → Type 0
Early (Err Blank) = Unit {0}
Early (Err NoStart) = Unit {0}
Early (Err ManyStates) = Unit {0}
Early (Err ShortWalkArea) = Unit {0}
Early (Err PairsExceed) = ⊥
Early (Ok v) = ⊥

-- a shown walk lies in an area of n entries
abbrev pub Within : Result Verdict SearchingFault → ℕ → Type 0
Within (Ok (Shown k)) n = k ≤ n
Within (Ok (Clear p)) n = Unit {0}
Within (Err e) n = Unit {0}
