-- What holds of every chart that exists. Assumes nothing.
use Rattle.std.specs.Prelude.{◌≡◌, ℕ, ◌≤◌, ◌⊎◌, List, length}
use Rattle.logic.specs.Formula.{Formula, Letters}
use Rattle.logic.specs.Witness.{Breach}
use Rattle.logic.specs.Labels.{ListsKept}
use Rattle.charting.specs.Filled.{walked, FilledOnce}
use Rattle.charts.specs.declared.state.State.{State}
use Rattle.charts.specs.declared.state.State.TheVariants.{Blank, Ready, Watching, Broken}

-- the watch of a chart that is filled for f: it stands after letters that are no breach, or letters broke it
abbrev pub WatchKept : Formula → List ℕ → State → Type 0
WatchKept f nx Blank = ⊥
WatchKept f nx Ready = Unit {0}
WatchKept f nx (Watching q) = (u : List ℕ) × Letters u × (Breach f u → ⊥) × (walked nx u ≡ q)
WatchKept f nx Broken = (u : List ℕ) × Letters u × Breach f u

-- the areas, up to the counts a and b, hold the chart of f, and its watch is kept
pub record WholeFor (f : Formula) (ls : List ℕ) (a : ℕ) (st : List (List ℕ)) (b : ℕ) (nx : List ℕ) (s : State) : Type 0 where
  pub ks : List Formula
  pub keeps : ListsKept f ks
  pub few_kept : length ks ≤ 32
  pub filled : FilledOnce f ks ls a st b nx
  pub watch : WatchKept f nx s

-- a chart is blank and claims nothing, or it is whole for some formula
abbrev pub BlankOrWhole : List ℕ → ℕ → List (List ℕ) → ℕ → List ℕ → State → Type 0
BlankOrWhole ls a st b nx s = ∥ (((s ≡ Blank) × (a ≡ 0) × (b ≡ 0)) ⊎ ((f : Formula) × WholeFor f ls a st b nx s)) ∥₁
