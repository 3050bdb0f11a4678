-- The theorems. Assumes nothing.
use Rattle.std.specs.Prelude.{◌≡◌, ℕ, ◌≤◌, Bool, true, false, ◌↔◌, List, [], ◌∷◌, ◌++◌, map}
use mathlib.Core.List.{Mem}
use Rattle.logic.specs.Formula.{Formula, Letter, Letters}
use Rattle.logic.specs.Signals.{Agree, DoTheSame}
use Rattle.logic.specs.Witness.{Witness, Breach}
use Rattle.logic.specs.Sat.{sat}
use Rattle.logic.specs.Labels.{ListsKept, ListsKeptOf, kept, NoTwice, Closed, Labels, label, back}
use Rattle.logic.specs.Counting.{Classes, RoomIsTold}
use Rattle.logic.specs.Standings.{BreachOfAny, Decided, hit, hits_any, IsLabel, Standing, StandingsRight, ListsLabels, ChartRight, SameLabel, SameStanding, Table}

-- a word is a breach exactly when the recursion says so
abbrev pub BreachIsSat : Type 0
BreachIsSat = (f : Formula) (w : List ℕ) → Breach f w ↔ (sat f w ≡ true)

-- a list of bits is the label of a word exactly when it is the one that is computed
abbrev pub LabelIs : Type 0
LabelIs = (ks : List Formula) (w : List ℕ) (ℓ : List Bool) → Labels ks w ℓ ↔ (ℓ ≡ label ks w)

-- what is kept of a kept formula of f is kept of f too
abbrev pub KeptClosed : Type 0
KeptClosed = (f : Formula) (ks : List Formula) → ListsKept f ks → Closed ks

-- the same of several formulas together
abbrev pub KeptOfClosed : Type 0
KeptOfClosed = (fs ks : List Formula) → ListsKeptOf fs ks → Closed ks

-- every formula's kept formulas are listed by `kept`
abbrev pub KeptListed : Type 0
KeptListed = (f : Formula) → ListsKept f (kept f)

-- that list holds each of them once
abbrev pub KeptOnce : Type 0
KeptOnce = (f : Formula) → NoTwice (kept f)

-- the empty word has no witness, so that `Breach` need not rule it out
abbrev pub EmptyHasNone : Type 0
EmptyHasNone = (f : Formula) → Witness f [] → ⊥

-- the empty word is no breach, of whatever formula
abbrev pub EmptyIsNoBreach : Type 0
EmptyIsNoBreach = (f : Formula) → Breach f [] → ⊥

-- a breach stays one when letters are added
abbrev pub BreachStays : Type 0
BreachStays = (f : Formula) (w v : List ℕ) → Breach f w → Breach f (w ++ v)

-- words whose letters agree on the signals that f names do the same with f
abbrev pub OnlyNamedSignalsCount : Type 0
OnlyNamedSignalsCount = (f : Formula) (ks : List Formula) → ListsKept f ks → (u v : List ℕ) → Agree f u v → DoTheSame f ks u v

-- the label of a word with a letter in front is computed from that letter and the word's label
abbrev pub LabelBack : Type 0
LabelBack = (ks : List Formula) → Closed ks → (s : ℕ) (w : List ℕ) → label ks (s ∷ w) ≡ back ks s (label ks w)

-- the label of a word tells whether it is a breach of one of several formulas
abbrev pub AnyDecided : Type 0
AnyDecided = (fs ks : List Formula) → ((f : Formula) → Mem f fs → Mem f ks) → Decided ks (BreachOfAny fs) (hits_any fs ks)

-- the label of a word tells whether it is a breach of a formula
abbrev pub OneDecided : Type 0
OneDecided = (f : Formula) (ks : List Formula) → Mem f ks → Decided ks (Breach f) (hit f ks)

-- the laws of the standings of one formula f, of which ks lists what is kept
abbrev pub StandingsAreRight : Type 0
StandingsAreRight = (f : Formula) (ks : List Formula) → ListsKept f ks → StandingsRight ks (Breach f) (hit f ks)

-- the standing one letter later: a label is in it exactly when, that letter put in front, it is in the standing before
abbrev pub StandingOneLetterLater : Type 0
StandingOneLetterLater =
    (f : Formula) (ks : List Formula) → ListsKept f ks → (u : List ℕ) (s : ℕ) → Letter s → (ℓ : List Bool)
    → Standing ks (Breach f) (u ++ (s ∷ [])) ℓ ↔ (IsLabel ks ℓ × Standing ks (Breach f) u (back ks s ℓ))

-- a word is a breach exactly when the standing after it holds the empty label, the one with no bit on
abbrev pub BreachByEmptyLabel : Type 0
BreachByEmptyLabel = (f : Formula) (ks : List Formula) → ListsKept f ks → (u : List ℕ) → Breach f u ↔ Standing ks (Breach f) u (map (λ g. false) ks)

-- the chart of one formula, run over a word, holds the standing after it, and says breach for exactly the breaches
abbrev pub ChartIsRight : Type 0
ChartIsRight =
    (f : Formula) (ks : List Formula) → ListsKept f ks → (all : List (List Bool)) → ListsLabels ks all
    → (u : List ℕ) → Letters u → ChartRight ks (Breach f) (hit f ks) all u

-- two standings that differ are told apart by a word
abbrev pub ToldApart : Type 0
ToldApart =
    (f : Formula) (ks : List Formula) → ListsKept f ks → (u v : List ℕ) (ℓ : List Bool) → Standing ks (Breach f) u ℓ → (Standing ks (Breach f) v ℓ → ⊥)
    → ∥ ((w : List ℕ) × Letters w × Breach f (u ++ w) × (Breach f (v ++ w) → ⊥)) ∥₁

-- a table that says yes to exactly the breaches has at least an entry for each standing
abbrev pub NoSmallerTable : Type 0
NoSmallerTable = (f : Formula) (ks : List Formula) (m n : ℕ) → Classes Letters (SameStanding ks (Breach f)) m → Table (Breach f) n → m ≤ n

-- the laws of the standings of several formulas together
abbrev pub StandingsOfAny : Type 0
StandingsOfAny = (fs ks : List Formula) → ListsKeptOf fs ks → StandingsRight ks (BreachOfAny fs) (hits_any fs ks)

-- the chart of several formulas, run over a word, holds the standing after it, and says breach for exactly the breaches of any
abbrev pub ChartOfAny : Type 0
ChartOfAny =
    (fs ks : List Formula) → ListsKeptOf fs ks → (all : List (List Bool)) → ListsLabels ks all
    → (u : List ℕ) → Letters u → ChartRight ks (BreachOfAny fs) (hits_any fs ks) all u

-- a table that says yes to exactly the breaches of any of them has at least an entry for each standing
abbrev pub NoSmallerOfAny : Type 0
NoSmallerOfAny =
    (fs ks : List Formula) (m n : ℕ) → Classes Letters (SameStanding ks (BreachOfAny fs)) m → Table (BreachOfAny fs) n → m ≤ n

-- the labels have one number
abbrev pub LabelsCounted : Type 0
LabelsCounted = (ks : List Formula) (m n : ℕ) → Classes Letters (SameLabel ks) m → Classes Letters (SameLabel ks) n → m ≡ n

-- the standings have one number
abbrev pub StandingsCounted : Type 0
StandingsCounted =
    (f : Formula) (ks : List Formula) (m n : ℕ) → Classes Letters (SameStanding ks (Breach f)) m → Classes Letters (SameStanding ks (Breach f)) n → m ≡ n

-- labels exceed a room, or fit it, by their number
abbrev pub LabelRooms : Type 0
LabelRooms = (ks : List Formula) (room : ℕ) → RoomIsTold Letters (SameLabel ks) room

-- so do standings
abbrev pub StandingRooms : Type 0
StandingRooms = (f : Formula) (ks : List Formula) (room : ℕ) → RoomIsTold Letters (SameStanding ks (Breach f)) room
