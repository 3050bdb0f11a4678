-- A chart as a list of calls left it. Assumes nothing.
use Rattle.std.specs.Prelude.{ℕ, ◌∷◌}
use Rattle.meaning.specs.Whole.{Held, Mode, blank, ready, broken, watching, ChartIs}
use Rattle.meaning.specs.Calls.{Call, Answer, History}
use Rattle.meaning.specs.Histories.{filled_rule, watch}
use Rattle.meaning.specs.Right.{Right}
use Rattle.charting.specs.Whole.{held}
use Rattle.charts.specs.declared.chart.Chart.{Chart}
use Rattle.charts.specs.declared.state.State.{State}
use Rattle.charts.specs.declared.state.State.TheVariants.{Blank, Ready, Watching, Broken}

-- what the chart's areas hold up to its counts
abbrev pub held_of : Chart → Held
held_of d = held d.labels.now d.label_count d.standings.now d.standing_count d.next.now

-- the state in the words of the specification
abbrev pub mode_of : State → Mode
mode_of Blank = blank
mode_of Ready = ready
mode_of (Watching q) = watching q
mode_of Broken = broken

-- the chart is as the history h says of chart number c: blank, or whole for its filled rule, with its watch
abbrev pub ChartLed : History → ℕ → Chart → Type 0
ChartLed h c d = ChartIs (filled_rule h c) (watch h c) (held_of d) (mode_of d.state)

-- the answer x to a call is right after the history h, and leaves chart number c as the history with this call says
abbrev pub Answered : History → ℕ → (call : Call) → Answer call → Chart → Type 0
Answered h c call x d = Right h call x × ChartLed (record { call = call; answer = x } ∷ h) c d
