-- A filled chart and its watch, by the letters it has had. Assumes nothing.
use Rattle.std.specs.Prelude.{◌≡◌, ℕ, List, [], ◌∷◌, ◌++◌, Ok, Result}
use Rattle.logic.specs.Formula.{Formula, Letters}
use Rattle.logic.specs.Witness.{Breach}
use Rattle.meaning.specs.declared.answers.Scanned.{Scanned}
use Rattle.meaning.specs.declared.refusals.BeginningFault.{BeginningFault}
use Rattle.meaning.specs.declared.refusals.ScanningFault.{ScanningFault}
use Rattle.charts.specs.declared.chart.Chart.{Chart}
use Rattle.charts.specs.declared.state.State.TheVariants.{Watching, Broken}
use Rattle.charting.specs.Filled.{Filled, walked}

-- the chart holds the labels and standings of f
abbrev pub Holds : Formula → List Formula → Chart → Type 0
Holds f ks c = Filled f ks c.labels.now c.label_count c.standings.now c.standing_count c.next.now

-- it watches, and the letters u so far are no breach
pub record Watches (f : Formula) (ks : List Formula) (c : Chart) (u : List ℕ) : Type 0 where
  pub holds : Holds f ks c
  pub letters : Letters u
  pub at : c.state ≡ Watching (walked c.next.now u)
  pub whole : Breach f u → ⊥

-- its watch is broken by the letters u
pub record Broke (f : Formula) (ks : List Formula) (c : Chart) (u : List ℕ) : Type 0 where
  pub holds : Holds f ks c
  pub letters : Letters u
  pub at : c.state ≡ Broken
  pub breach : Breach f u

-- a beginning on a chart c that holds f leaves a watch without letters
pub record Begun (c d : Chart) (r : Result (Unit {0}) BeginningFault) : Type 0 where
  pub begins : (f : Formula) (ks : List Formula) → Holds f ks c → (r ≡ Ok tt) × Watches f ks d []

-- a scan on a chart c that watches letters answers whether they and this one are a breach, and has had this one too
pub record Scans (c d : Chart) (letter : ℕ) (r : Result Scanned ScanningFault) : Type 0 where
  pub goes_on : (f : Formula) (ks : List Formula) (u : List ℕ) → Watches f ks c u → (Breach f (u ++ letter ∷ []) → ⊥) → (r ≡ Ok Scanned.GoingOn) × Watches f ks d (u ++ letter ∷ [])
  pub breaks : (f : Formula) (ks : List Formula) (u : List ℕ) → Watches f ks c u → Breach f (u ++ letter ∷ []) → (r ≡ Ok Scanned.Broken) × Broke f ks d (u ++ letter ∷ [])
