-- What a watch does at each state. Assumes nothing.
use Rattle.std.specs.Prelude.{ℕ, ◌+◌, Bool, true, false, cond, List, Ok, Err, Result}
use Rattle.meaning.specs.declared.answers.Scanned.{Scanned}
use Rattle.meaning.specs.declared.refusals.BeginningFault.{BeginningFault}
use Rattle.meaning.specs.declared.refusals.ScanningFault.{ScanningFault}
use Rattle.charts.specs.declared.state.State.{State}
use Rattle.charts.specs.declared.state.State.TheVariants.{Blank, Ready, Watching, Broken}
use Rattle.charts.specs.declared.state.Event.{Event}
use Rattle.charts.specs.declared.state.Event.TheVariants.{Begin, Scan}
use Rattle.charting.specs.Filled.{after, breached}

-- how many standings a state needs at least
abbrev pub least : State → ℕ
least Blank = 0
least Ready = 1
least (Watching q) = q + 1
least Broken = 1

-- how many standings there are at most in a state
abbrev pub most : State → ℕ
most Blank = 0
most Ready = 512
most (Watching q) = 512
most Broken = 512

-- whether a state is that of a blank chart
abbrev pub blank : State → Bool
blank Blank = true
blank Ready = false
blank (Watching q) = false
blank Broken = false

-- what a beginning answers, and the state it leaves
abbrev pub begun : State → Result (Unit {0}) BeginningFault × State
begun Blank = (Err BeginningFault.Blank, Blank)
begun Ready = (Ok tt, Watching 0)
begun (Watching q) = (Ok tt, Watching 0)
begun Broken = (Ok tt, Watching 0)

-- what a scan answers, and the state it leaves
abbrev pub scanned : List (List ℕ) → List ℕ → State → ℕ → Result Scanned ScanningFault × State
scanned st nx Blank s = (Err ScanningFault.Blank, Blank)
scanned st nx Ready s = (Err ScanningFault.NoWatch, Ready)
scanned st nx Broken s = (Err ScanningFault.AlreadyBroken, Broken)
scanned st nx (Watching q) s =
    cond (breached st (after nx q s)) (Ok Scanned.Broken, Broken) (Ok Scanned.GoingOn, Watching (after nx q s))

-- both as one; a beginning that is accepted goes on
abbrev pub reacted : List (List ℕ) → List ℕ → State → Event → Result Scanned ScanningFault × State
reacted st nx Blank Begin = (Err ScanningFault.Blank, Blank)
reacted st nx Ready Begin = (Ok Scanned.GoingOn, Watching 0)
reacted st nx (Watching q) Begin = (Ok Scanned.GoingOn, Watching 0)
reacted st nx Broken Begin = (Ok Scanned.GoingOn, Watching 0)
reacted st nx c (Scan s) = scanned st nx c s
