-- What a call keeps of a chart. Assumes nothing.
use denote.Ref.{MutBor}
use Rattle.std.specs.Prelude.{◌≡◌, ℕ, List}
use Rattle.charts.specs.declared.chart.Chart.{Chart}

-- the areas of the chart d are on these loans
abbrev pub OnLoan : MutBor (List ℕ) → MutBor (List (List ℕ)) → MutBor (List ℕ) → Chart → Type 0
OnLoan labels standings next d = (d.labels.ghost_name ≡ labels.ghost_name) × (d.standings.ghost_name ≡ standings.ghost_name) × (d.next.ghost_name ≡ next.ghost_name)

-- the areas and the counts of the chart d are those of c
abbrev pub SameAreas : Chart → Chart → Type 0
SameAreas c d =
    (d.labels ≡ c.labels) × (d.standings ≡ c.standings) × (d.next ≡ c.next) × (d.label_count ≡ c.label_count) × (d.standing_count ≡ c.standing_count)
