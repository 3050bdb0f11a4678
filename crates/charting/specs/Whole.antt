-- A filled chart in the words of the specification, and how it reads words. Assumes nothing.
use Rattle.std.specs.Prelude.{◌≡◌, ℕ, ◌*◌, ◌≤◌, List, length, take, slice_index}
use Rattle.logic.specs.Formula.{Formula}
use Rattle.logic.specs.Labels.{ListsKept}
use Rattle.meaning.specs.Whole.{Held, Whole}
use Rattle.pairs.specs.Readers.{Reader}
use Rattle.pairs.specs.Verdicts.{Reads}
use Rattle.charting.specs.Filled.{after, breached, FilledOnce}

-- what the areas hold up to the counts; the first standing is number 0
abbrev pub held : List ℕ → ℕ → List (List ℕ) → ℕ → List ℕ → Held
held ls a st b nx = record { labels = take a ls; records = take b st; nexts = take (b * 256) nx; first = 0 }

-- the next standing by standing and letter, and whether a standing is one of breaches
abbrev pub reader : List (List ℕ) → List ℕ → Reader
reader st nx = record { next = λ q s. after nx q s; says = λ q. breached st q }

-- a filled chart is a whole one, as the specification has it
abbrev pub FilledChartsAreWhole : Type 0
FilledChartsAreWhole =
    (f : Formula) (ks : List Formula) → ListsKept f ks → length ks ≤ 32
    → (ls : List ℕ) (a : ℕ) (st : List (List ℕ)) (b : ℕ) (nx : List ℕ) → FilledOnce f ks ls a st b nx → Whole f ks (held ls a st b nx)

-- a whole chart with the empty label first
abbrev pub WholeChartsRead : Type 0
WholeChartsRead =
    (f : Formula) (ks : List Formula) (ls : List ℕ) (a : ℕ) (st : List (List ℕ)) (b : ℕ) (nx : List ℕ)
    → Whole f ks (held ls a st b nx) → slice_index ls 0 ≡ 0 → Reads f (reader st nx)

-- a filled chart reads its formula
abbrev pub FilledChartsRead : Type 0
FilledChartsRead =
    (f : Formula) (ks : List Formula) → ListsKept f ks → length ks ≤ 32
    → (ls : List ℕ) (a : ℕ) (st : List (List ℕ)) (b : ℕ) (nx : List ℕ) → FilledOnce f ks ls a st b nx → Reads f (reader st nx)
