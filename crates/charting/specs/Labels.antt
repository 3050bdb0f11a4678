-- A list of the labels of words, and its table of the labels one letter earlier. Assumes nothing.
use Rattle.std.specs.Prelude.{◌≡◌, ℕ, ◌<◌, ◌≤◌, List, [], ◌∷◌, length, slice_index, slice_index_or}
use Rattle.logic.specs.Formula.{Formula, Letters}
use Rattle.logic.specs.Counting.{Classes}
use Rattle.logic.specs.Labels.{label}
use Rattle.logic.specs.Masks.{mask}
use Rattle.logic.specs.Standings.{SameLabel}
use Rattle.once.specs.Once.{Apart}
use Rattle.charting.specs.Worklists.{Reaches, LetterRows, Crowds}

-- x is the label of a word
abbrev pub Labels : List Formula → List ℕ → ℕ → Type 0
Labels ks w x = x ≡ mask (label ks w)

-- a word with a letter before it
abbrev pub at_front : ℕ → List ℕ → List ℕ
at_front s w = s ∷ w

-- each of the first n of ls is the label of a word
abbrev pub Words : List Formula → List ℕ → ℕ → Type 0
Words ks ls n = Reaches 0 (Labels ks) ls n

-- the first m rows of the table name, for each letter, the label one letter earlier
abbrev pub Rows : List Formula → List ℕ → ℕ → List ℕ → ℕ → Type 0
Rows ks ls n tb m = LetterRows 0 (Labels ks) at_front ls n tb m

-- the n labels fill the area, and there is another
abbrev pub Full : List Formula → List ℕ → ℕ → Type 0
Full ks ls n = Crowds (λ x y. x ≡ y) 0 (Labels ks) ls n

-- the first n of ls are the labels of all words, each once, the empty word's first; and the table is whole
pub record Labelled (ks : List Formula) (ls : List ℕ) (n : ℕ) (tb : List ℕ) : Type 0 where
  pub fits : n ≤ length ls
  pub some : 0 < n
  pub apart : Apart (λ x y. x ≡ y) ls n
  pub words : Words ks ls n
  pub empty : slice_index_or ls 0 0 ≡ mask (label ks [])
  pub all : (w : List ℕ) → Letters w → (k : ℕ) × (k < n) × (slice_index ls k ≡ mask (label ks w))
  pub rows : Rows ks ls n tb n
  pub count : Classes Letters (SameLabel ks) n
