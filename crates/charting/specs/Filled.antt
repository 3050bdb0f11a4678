-- A filled chart: labels, standings and next numbers. Assumes nothing.
use Rattle.std.specs.Prelude.{◌≡◌, ℕ, ◌+◌, ◌*◌, ◌<◌, ◌≤◌, Bool, true, false, ◌↔◌, List, [], length, get_or, slice_index, slice_index_or}
use mathlib.Core.List.{foldl}
use Rattle.logic.specs.Formula.{Formula, Letters}
use Rattle.logic.specs.Witness.{Breach}
use Rattle.logic.specs.Counting.{Classes, More}
use Rattle.logic.specs.Labels.{ListsKept, label}
use Rattle.logic.specs.Masks.{mask}
use Rattle.logic.specs.Standings.{Standing, SameLabel, SameStanding}
use Rattle.meaning.specs.Charts.{Areas, label_room, standing_room}
use Rattle.meaning.specs.declared.refusals.FillingFault.{FillingFault}
use Rattle.meaning.specs.declared.refusals.FillingFault.TheVariants.{NoRule, LabelsExceed, StandingsExceed}
use Rattle.once.specs.Once.{Apart, SameWords}
use Rattle.charting.specs.Labels.{Words}
use Rattle.charting.specs.Sets.{bit_of}

-- the record r is the standing after u: bit i says whether label number i is in it
pub record Stands (f : Formula) (ks : List Formula) (ls : List ℕ) (a : ℕ) (u : List ℕ) (r : List ℕ) : Type 0 where
  pub holds : (i : ℕ) → i < a → (w : List ℕ) → slice_index ls i ≡ mask (label ks w) → (bit_of r i ≡ true) ↔ Standing ks (Breach f) u (label ks w)
  pub rest : (i : ℕ) → a ≤ i → i < 512 → bit_of r i ≡ false

-- the number of the standing one letter after another
abbrev pub after : List ℕ → ℕ → ℕ → ℕ
after nx q s = slice_index nx (q * 256 + s)

-- the number of the standing after a word
abbrev pub walked : List ℕ → List ℕ → ℕ
walked nx u = foldl (after nx) 0 u

-- whether the words of a standing are breaches: it has the empty label, which is number 0
abbrev pub breached : List (List ℕ) → ℕ → Bool
breached st q = bit_of (slice_index_or st q []) 0

-- each next number of the n standings is one of them
abbrev pub ClosedNext : List ℕ → ℕ → Type 0
ClosedNext nx n = (k : ℕ) → k < n * 256 → slice_index nx k < n

-- the areas hold the chart of f, for the list ks of its kept formulas
pub record Filled (f : Formula) (ks : List Formula) (ls : List ℕ) (a : ℕ) (st : List (List ℕ)) (b : ℕ) (nx : List ℕ) : Type 0 where
  pub labels_fit : a ≤ length ls
  pub standings_fit : b ≤ length st
  pub next_fit : b * 256 ≤ length nx
  -- a is the number of labels, and the first a of ls are the labels of all words, each once, the empty word's first
  pub label_count : Classes Letters (SameLabel ks) a
  pub labels_are : Words ks ls a
  pub labels_all : (w : List ℕ) → Letters w → (k : ℕ) × (k < a) × (slice_index ls k ≡ mask (label ks w))
  pub labels_apart : Apart (λ x y. x ≡ y) ls a
  pub label_first : get_or ls 0 0 ≡ mask (label ks [])
  -- b is the number of standings, and the first b of st are the standings after all words, each once, the empty word's first
  pub standing_count : Classes Letters (SameStanding ks (Breach f)) b
  pub standings_are : (q : ℕ) → q < b → (u : List ℕ) × Letters u × (walked nx u ≡ q)
  pub standings_apart : Apart SameWords st b
  pub closed : ClosedNext nx b
  -- following the next numbers from 0 along a word leads to the standing after it, and bit 0 there says whether it is a breach
  pub within : (u : List ℕ) → Letters u → walked nx u < b
  pub stands : (u : List ℕ) → Letters u → Stands f ks ls a u (slice_index_or st (walked nx u) [])
  pub breach : (u : List ℕ) → Letters u → (bit_of (slice_index_or st (walked nx u) []) 0 ≡ true) ↔ Breach f u

-- ... and words with one standing lead to one number
pub record FilledOnce (f : Formula) (ks : List Formula) (ls : List ℕ) (a : ℕ) (st : List (List ℕ)) (b : ℕ) (nx : List ℕ) : Type 0 where
  pub filled : Filled f ks ls a st b nx
  pub standings_once : (u v : List ℕ) → Letters u → Letters v → SameStanding ks (Breach f) u v → walked nx u ≡ walked nx v

-- the labels fit their places, and there are more standings than places
pub record MoreStandings (f : Formula) (ks : List Formula) (label_places places : ℕ) : Type 0 where
  pub labels : ℕ
  pub label_count : Classes Letters (SameLabel ks) labels
  pub labels_fit : labels ≤ label_places
  pub more : More places Letters (SameStanding ks (Breach f))

-- why a filling found no place: no other refusal comes
abbrev pub Refused : Formula → List Formula → ℕ → ℕ → FillingFault → Type 0
Refused f ks label_places places NoRule = ⊥
Refused f ks label_places places LabelsExceed = More label_places Letters (SameLabel ks)
Refused f ks label_places places StandingsExceed = MoreStandings f ks label_places places

-- the lengths of the areas
abbrev pub areas_of : List ℕ → List (List ℕ) → List ℕ → Areas
areas_of ls st nx = record { labels = length ls; records = length st; nexts = length nx }

-- a filling of f in areas: its labels and standings are a and b, fit their rooms, and are held
pub record Filling (f : Formula) (areas : Areas) (ls : List ℕ) (a : ℕ) (st : List (List ℕ)) (b : ℕ) (nx : List ℕ) : Type 0 where
  pub ks : List Formula
  pub keeps : ListsKept f ks
  pub few_kept : length ks ≤ 32
  pub labels_fit : a ≤ label_room areas
  pub standings_fit : b ≤ standing_room areas
  pub filled : Filled f ks ls a st b nx

-- ... where words with one standing lead to one number
pub record FillingOnce (f : Formula) (areas : Areas) (ls : List ℕ) (a : ℕ) (st : List (List ℕ)) (b : ℕ) (nx : List ℕ) : Type 0 where
  pub filling : Filling f areas ls a st b nx
  pub standings_once : (u v : List ℕ) → Letters u → Letters v → SameStanding filling.ks (Breach f) u v → walked nx u ≡ walked nx v

-- a refused filling of f in areas
pub record Refusing (f : Formula) (areas : Areas) (e : FillingFault) : Type 0 where
  pub ks : List Formula
  pub keeps : ListsKept f ks
  pub refused : Refused f ks (label_room areas) (standing_room areas) e
