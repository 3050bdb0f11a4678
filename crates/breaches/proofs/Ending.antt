-- The answer of a search, from what its reader says to each formula that this reads.
use Rattle.std.proofs.Common.{◌≡◌, ℕ, ◌<◌, ◌≤◌, Bool, false, List, length, Some, None, Ok, Err, Option, Result, sym, refl, ap, ◌∙◌, subst, arith}
use mathlib.Core.Logic.{∥∥₁_map}
use mathlib.Core.Bool.{false≢true}
use Rattle.meaning.specs.declared.answers.Verdict.{Verdict}
use Rattle.meaning.specs.declared.answers.Verdict.TheVariants.{Shown, Clear}
use Rattle.meaning.specs.declared.refusals.SearchingFault.{SearchingFault}
use Rattle.meaning.specs.declared.refusals.SearchingFault.TheVariants.{Blank, NoStart, ManyStates, ShortWalkArea, PairsExceed}
use Rattle.logic.specs.Formula.{Formula}
use Rattle.meaning.specs.Machines.{Meaning, Lawful}
use Rattle.meaning.specs.Calls.{Machine, searching, History}
use Rattle.meaning.specs.Histories.{Ruled, filled_rule, watch, meaning_of}
use Rattle.meaning.specs.Right.{Searchable, Searches, RightSearching, Right}
use Rattle.meaning.specs.Whole as mode
use Rattle.meaning.specs.Whole.{ChartIs}
use Rattle.charting.proofs.OfWhole.{whole_charts_read, filled_charts_read}
use Rattle.charts.specs.declared.chart.Chart.{Chart}
use Rattle.charts.specs.declared.state.State.{State}
use Rattle.charts.specs.declared.state.State.TheVariants.{Blank as BlankState, Ready, Watching, Broken}
use Rattle.charts.specs.Watch.{least, most, blank}
use Rattle.charts.specs.Led.{held_of, mode_of, ChartLed}
use Rattle.charts.proofs.SoundSteps.{whole_some}
use Rattle.charts.proofs.LedSteps.{no_rule_blank, rule_not_blank, empty_first}
use Rattle.pairs.specs.Readers.{Reader}
use Rattle.pairs.specs.Verdicts.{Answers, Reads}
use Rattle.pairs.proofs.Ruled.{searches}
use Rattle.breaches.specs.Charts.{reader_of, standings_of}
use Rattle.breaches.specs.Searched.{GoneBy, Searched, SearchedAsRead, Early, Within}

-- a chart that is not blank has a standing
pub filled_some : (s : State) (n : ℕ) → least s ≤ n → blank s ≡ false → 0 < n
filled_some BlankState n h e = absurd (false≢true (sym e))
filled_some Ready n h e = omega arith
filled_some (Watching q) n h e = omega arith
filled_some Broken n h e = omega arith

pub none_blank : (s : State) (n : ℕ) → least s ≤ n → n ≡ 0 → s ≡ BlankState
none_blank BlankState n h e = refl
none_blank Ready n h e = absurd (omega arith)
none_blank (Watching q) n h e = absurd (omega arith)
none_blank Broken n h e = absurd (omega arith)

-- what is not refused before it looks
pub searchable : (m : Meaning) (pairs walk : ℕ) → (length m.starts ≡ 0 → ⊥) → m.count ≤ 65536 → pairs < walk → Searchable m pairs walk
searchable m pairs walk some few longer = record { a_start = λ e. some (ap length e); few_states = few; long_area = longer }

-- a filled chart reads some formula
pub reads_some : (c : Chart) → 0 < standings_of c → ∥ ((f : Formula) × Reads f (reader_of c)) ∥₁
reads_some c some =
    ∥∥₁_map (whole_some c.labels.now c.label_count c.standings.now c.standing_count c.next.now c.state some c.whole)
    (λ x. (x.0, filled_charts_read x.0 x.1.ks x.1.keeps x.1.few_kept c.labels.now c.label_count c.standings.now c.standing_count c.next.now x.1.filled))

pub gone_by : (c : Chart) (m : Meaning) (room : ℕ) (before : List ℕ) (x : Result Verdict SearchingFault) (after : List ℕ) (b : Bool) → b ≡ blank c.state → b ≡ false
    → ((f : Formula) → Reads f (reader_of c) → Searches f m room before (x, after)) → GoneBy c m room before x after
gone_by c m room before x after b eb f each =
    let some = filled_some c.state (standings_of c) c.enough (sym eb ∙ f) in
    record { filled = some; some = reads_some c some; each = each }

pub searched : (c : Chart) (m : Meaning) → Lawful m → (room : ℕ) (before after : List ℕ) (x : Result Verdict SearchingFault) (b : Bool) → b ≡ blank c.state → b ≡ false → Searchable m room (length before)
    → length after ≡ length before → Answers m (reader_of c) room before after x → SearchedAsRead c m room before x after
searched c m l room before after (Ok v) b eb f s e h = gone_by c m room before (Ok v) after b eb f (λ form reads. searches m l form (reader_of c) reads room before after (Ok v) s e h)
searched c m l room before after (Err PairsExceed) b eb f s e h = gone_by c m room before (Err PairsExceed) after b eb f (λ form reads. searches m l form (reader_of c) reads room before after (Err PairsExceed) s e h)
searched c m l room before after (Err Blank) b eb f s e h = absurd h
searched c m l room before after (Err NoStart) b eb f s e h = absurd h
searched c m l room before after (Err ManyStates) b eb f s e h = absurd h
searched c m l room before after (Err ShortWalkArea) b eb f s e h = absurd h

-- right for each formula that it reads, whether or not it reads one
pub for_each : (c : Chart) (m : Meaning) (room : ℕ) (before after : List ℕ) (x : Result Verdict SearchingFault) → SearchedAsRead c m room before x after → Searched c m room before x after
for_each c m room before after (Err Blank) h = h
for_each c m room before after (Err NoStart) h = h.each
for_each c m room before after (Err ManyStates) h = h.each
for_each c m room before after (Err ShortWalkArea) h = h.each
for_each c m room before after (Err PairsExceed) h = h.each
for_each c m room before after (Ok v) h = h.each

-- ---- in the words of histories

-- what is answered by the reader is right for the filled rule
module _ (c : Chart) (t : Option (List ℕ)) (m : Meaning) (room : ℕ) (before after : List ℕ) where
  not_filled : mode_of c.state ≡ mode.blank → 0 < standings_of c → ⊥
  not_filled e l = let n = subst (λ s. standings_of c ≤ most s) (no_rule_blank c.state e) c.few in omega arith

  pub no_rule_right : (x : Result Verdict SearchingFault) → mode_of c.state ≡ mode.blank → SearchedAsRead c m room before x after → RightSearching None m room before (x, after)
  no_rule_right (Err Blank) e h = ap (λ (w : List ℕ). (Err Blank, w)) h.1
  no_rule_right (Err NoStart) e h = absurd (not_filled e h.filled)
  no_rule_right (Err ManyStates) e h = absurd (not_filled e h.filled)
  no_rule_right (Err ShortWalkArea) e h = absurd (not_filled e h.filled)
  no_rule_right (Err PairsExceed) e h = absurd (not_filled e h.filled)
  no_rule_right (Ok v) e h = absurd (not_filled e h.filled)

  module _ (r : Ruled) (led : ChartIs (Some r) t (held_of c) (mode_of c.state)) where
    not_blank : c.state ≡ BlankState → ⊥
    not_blank = rule_not_blank r t (held_of c) c.state led

    for_rule : (x : Result Verdict SearchingFault) → GoneBy c m room before x after → RightSearching (Some r) m room before (x, after)
    for_rule x h = ∥∥₁_map led (λ y. (
      y.0,
      y.2,
      h.each y.0
          (whole_charts_read y.0 y.1 c.labels.now c.label_count c.standings.now c.standing_count c.next.now y.3
          (empty_first c.labels.now c.label_count c.standings.now c.standing_count c.next.now c.state c.whole not_blank)),
    ))

    pub rule_right : (x : Result Verdict SearchingFault) → SearchedAsRead c m room before x after → RightSearching (Some r) m room before (x, after)
    rule_right (Err Blank) h = absurd (not_blank (none_blank c.state (standings_of c) c.enough h.0))
    rule_right (Err NoStart) h = for_rule (Err NoStart) h
    rule_right (Err ManyStates) h = for_rule (Err ManyStates) h
    rule_right (Err ShortWalkArea) h = for_rule (Err ShortWalkArea) h
    rule_right (Err PairsExceed) h = for_rule (Err PairsExceed) h
    rule_right (Ok v) h = for_rule (Ok v) h

  pub right : (o : Option Ruled) (x : Result Verdict SearchingFault) → ChartIs o t (held_of c) (mode_of c.state) → SearchedAsRead c m room before x after → RightSearching o m room before (x, after)
  right None x led h = no_rule_right x led.0 h
  right (Some r) x led h = rule_right r led x h

pub answered : (c : Chart) (m : Meaning) (room : ℕ) (before after : List ℕ) (x : Result Verdict SearchingFault) → SearchedAsRead c m room before x after
    → (h : History) (n : ℕ) (k : Machine) → ChartLed h n c → meaning_of h k ≡ m → Right h (searching n k room before) (x, after)
answered c m room before after x is h n k led e =
    subst (λ (z : Meaning). RightSearching (filled_rule h n) z room before (x, after)) (sym e) (right c (watch h n) m room before after (filled_rule h n) x led is)

pub not_early : (m : Meaning) (r : Reader) (room : ℕ) (before after : List ℕ) (x : Result Verdict SearchingFault) → Answers m r room before after x → Early x → ⊥
not_early m r room before after (Ok v) h e = e
not_early m r room before after (Err PairsExceed) h e = e
not_early m r room before after (Err Blank) h e = h
not_early m r room before after (Err NoStart) h e = h
not_early m r room before after (Err ManyStates) h e = h
not_early m r room before after (Err ShortWalkArea) h e = h

pub within : (m : Meaning) (r : Reader) (room : ℕ) (before after : List ℕ) (x : Result Verdict SearchingFault) → Answers m r room before after x → Within x (length after)
within m r room before after (Ok (Shown k)) h = h.within
within m r room before after (Ok (Clear n)) h = tt
within m r room before after (Err e) h = tt

-- the clauses on an answer, from what it says as the chart reads
pub told : (c : Chart) (m : Meaning) (room : ℕ) (before after : List ℕ) (x : Result Verdict SearchingFault) (P : Type 0) → SearchedAsRead c m room before x after → Within x (length after) → (Early x → P) → record {
  answers : Searched c m room before x after;
  reads : SearchedAsRead c m room before x after;
  led : (h : History) (n : ℕ) (k : Machine) → ChartLed h n c → meaning_of h k ≡ m → Right h (searching n k room before) (x, after);
  within : Within x (length after);
  early : Early x → P;
}
told c m room before after x P is fits kept = record { answers = for_each c m room before after x is; reads = is; led = answered c m room before after x is; within = fits; early = kept }
