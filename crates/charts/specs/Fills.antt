-- What a filling answers, and the chart after it. Assumes nothing.
use Rattle.std.specs.Prelude.{◌≡◌, ℕ, ◌<◌, ◌≤◌, List, length, Ok, Err, Result, slice_index_or}
use Rattle.logic.specs.Formula.{Formula, tru}
use Rattle.meaning.specs.Charts.{Areas}
use Rattle.meaning.specs.declared.refusals.FillingFault.{FillingFault}
use Rattle.meaning.specs.declared.refusals.FillingFault.TheVariants.{NoRule, LabelsExceed, StandingsExceed}
use Rattle.charts.specs.declared.chart.Chart.{Chart}
use Rattle.charts.specs.declared.state.State.TheVariants.{Blank, Ready}
use Rattle.charting.specs.Filled.{Filling, FillingOnce, Refusing, areas_of}

-- the lengths of a chart's areas
abbrev pub areas : Chart → Areas
areas c = areas_of c.labels.now c.standings.now c.next.now

-- a chart that is ready with so many labels and standings
abbrev pub ReadyWith : ℕ × ℕ → Chart → Type 0
ReadyWith p d = (d.label_count ≡ p.0) × (d.standing_count ≡ p.1) × (d.state ≡ Ready)

-- a chart that holds nothing
abbrev pub Emptied : Chart → Type 0
Emptied d = (d.label_count ≡ 0) × (d.standing_count ≡ 0) × (d.state ≡ Blank)

-- the counts and the state after a filling of c; where there is no rule, all stays
abbrev pub Left : Result (ℕ × ℕ) FillingFault → Chart → Chart → Type 0
Left (Ok p) c d = ReadyWith p d
Left (Err NoRule) c d = d ≡ c
Left (Err LabelsExceed) c d = Emptied d
Left (Err StandingsExceed) c d = Emptied d

-- the answer to a filling of c for a rule, where fs are the breach formulas of all rules; and what the areas then hold
abbrev pub Fills : List Formula → ℕ → Result (ℕ × ℕ) FillingFault → Chart → Chart → Type 0
Fills fs rule (Ok p) c d = (rule < length fs) × Filling (slice_index_or fs rule tru) (areas c) d.labels.now p.0 d.standings.now p.1 d.next.now
Fills fs rule (Err NoRule) c d = length fs ≤ rule
Fills fs rule (Err LabelsExceed) c d = (rule < length fs) × Refusing (slice_index_or fs rule tru) (areas c) LabelsExceed
Fills fs rule (Err StandingsExceed) c d = (rule < length fs) × Refusing (slice_index_or fs rule tru) (areas c) StandingsExceed

-- ... where words with one standing lead to one number
abbrev pub FillsOnce : List Formula → ℕ → Result (ℕ × ℕ) FillingFault → Chart → Chart → Type 0
FillsOnce fs rule (Ok p) c d = (rule < length fs) × FillingOnce (slice_index_or fs rule tru) (areas c) d.labels.now p.0 d.standings.now p.1 d.next.now
FillsOnce fs rule (Err NoRule) c d = length fs ≤ rule
FillsOnce fs rule (Err LabelsExceed) c d = (rule < length fs) × Refusing (slice_index_or fs rule tru) (areas c) LabelsExceed
FillsOnce fs rule (Err StandingsExceed) c d = (rule < length fs) × Refusing (slice_index_or fs rule tru) (areas c) StandingsExceed
