-- Beginnings and scans of a chart, by what they leave of it. Assumes nothing.
use Rattle.std.proofs.Common.{◌≡◌, ℕ, ◌<◌, Result, sym, subst}
use Rattle.meaning.specs.declared.answers.Scanned.{Scanned}
use Rattle.meaning.specs.declared.refusals.BeginningFault.{BeginningFault}
use Rattle.meaning.specs.declared.refusals.ScanningFault.{ScanningFault}
use Rattle.meaning.specs.Calls.{beginning, scanning, History}
use Rattle.meaning.specs.Histories.{filled_rule, watch, watch_after}
use Rattle.meaning.specs.Right.{RightBeginning, RightScanning}
use Rattle.meaning.specs.Whole.{Held, ChartIs}
use Rattle.charts.specs.declared.chart.Chart.{Chart}
use Rattle.charts.specs.declared.state.State.{State}
use Rattle.charts.specs.Watch.{begun, scanned}
use Rattle.charts.specs.Kept.{SameAreas}
use Rattle.charts.specs.Led.{held_of, mode_of, ChartLed, Answered}
use Rattle.charts.proofs.LedSteps.{begun_answered, scan_answered, empty_first}

module _ (d e : Chart) (same : SameAreas d e) where
  held_same : held_of e ≡ held_of d
  held_same = rw (same.0, same.1, same.2, same.3, same.4)

  pub begins : (r : Result (Unit {0}) BeginningFault) → (r, e.state) ≡ begun d.state → (h : History) (c : ℕ) → ChartLed h c d → Answered h c (beginning c) r e
  begins r q h c led =
      let x = begun_answered d.labels.now d.label_count d.standings.now d.standing_count d.next.now c (filled_rule h c) (watch h c) d.state led in
      let y = subst (λ (p : Result (Unit {0}) BeginningFault × State). RightBeginning (filled_rule h c) p.0
      × ChartIs (filled_rule h c) (watch_after (beginning c) p.0 c (watch h c)) (held_of d) (mode_of p.1)) (sym q) x in
      (y.0, subst (λ (z : Held). ChartIs (filled_rule h c) (watch_after (beginning c) r c (watch h c)) z (mode_of e.state)) (sym held_same) y.1)

  pub scans : (letter : ℕ) → letter < 256 → (r : Result Scanned ScanningFault) → (r, e.state) ≡ scanned d.standings.now d.next.now d.state letter
      → (h : History) (c : ℕ) → ChartLed h c d → Answered h c (scanning c letter) r e
  scans letter small r q h c led =
      let first = empty_first d.labels.now d.label_count d.standings.now d.standing_count d.next.now d.state d.whole in
      let x = scan_answered d.labels.now d.label_count d.standings.now d.standing_count d.next.now c letter small (filled_rule h c) (watch h c) d.state first led in
      let y = subst (λ (p : Result Scanned ScanningFault × State). RightScanning (filled_rule h c) (watch h c) letter p.0
      × ChartIs (filled_rule h c) (watch_after (scanning c letter) p.0 c (watch h c)) (held_of d) (mode_of p.1)) (sym q) x in
      (y.0, subst (λ (z : Held). ChartIs (filled_rule h c) (watch_after (scanning c letter) r c (watch h c)) z (mode_of e.state)) (sym held_same) y.1)
