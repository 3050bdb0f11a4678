-- What the program says of each rule of a file, in the words of labels, walks and breaches. Assumes nothing.
use Rattle.std.specs.Prelude.{◌≡◌, ℕ, ◌≤◌, ◌↔◌, List, ◌++◌, length, Some, codes}
use Rattle.std.specs.List.{slice_get}
use Rattle.logic.specs.Formula.{Formula}
use Rattle.meaning.specs.Bytes.{Text}
use Rattle.meaning.specs.Machines.{Meaning}
use Rattle.meaning.specs.Kinds.{table_meaning}
use Rattle.meaning.specs.Walks.{Shortest, Showable, Clearable, Pairs}
use Rattle.meaning.specs.Written.{IsBreachFormula}
use Rattle.meaning.specs.Files.{AllGood, nothing, lines, content, lines_in}
use Rattle.meaning.specs.Right.{ExceedsLabels, ExceedsStandings, HasNoStart, PairsExceedRoom}
use Rattle.meaning.specs.Printed.{table_rooms, field, fields, rule_line, loaded, PrintsRule}

-- the line of rule k with a refusal's number
abbrev pub refused_line : ℕ → ℕ → Text
refused_line k n = rule_line k (codes ",refused" ++ field n)

-- the line of rule k that is clear, with n different pairs
abbrev pub clear_line : ℕ → ℕ → Text
clear_line k n = rule_line k (codes ",clear" ++ field n)

-- the line of rule k that is broken, with the walk xs
abbrev pub broken_line : ℕ → List ℕ → Text
broken_line k xs = rule_line k (codes ",broken" ++ (field (length xs) ++ fields xs))

-- at most 512 labels and 32 standings
abbrev pub ChartFits : Formula → Type 0
ChartFits f = ¬ ExceedsLabels f 512 × ¬ ExceedsStandings f 32

-- a chart of f fits, and the machine has a start: so a breach is looked for
abbrev pub IsLookedFor : Formula → Meaning → Type 0
IsLookedFor f m = ChartFits f × ¬ HasNoStart m

-- the line of rule k, which has the breach formula f, over the machine m: which one comes exactly when. The room for pairs is 1,024
pub record SaysRightly (f : Formula) (m : Meaning) (k : ℕ) (line : Text) : Type 0 where
  pub many_labels : (line ≡ refused_line k 9) ↔ ExceedsLabels f 512
  pub many_standings : (line ≡ refused_line k 10) ↔ (¬ ExceedsLabels f 512 × ExceedsStandings f 32)
  pub no_start : (line ≡ refused_line k 14) ↔ (ChartFits f × HasNoStart m)
  -- no walk is a breach, and the pairs of all walks fit
  pub clear : ∥ ((n : ℕ) × (line ≡ clear_line k n)) ∥₁ ↔ (IsLookedFor f m × Clearable f m 1024)
  -- the number is that of the pairs of all walks, which is at most 1,024
  pub counted : (n : ℕ) → n ≤ 1024 → line ≡ clear_line k n → Pairs f m n
  -- a walk is a breach, and the pairs of all walks shorter than the shortest breach fit
  pub broken : ∥ ((xs : List ℕ) × (line ≡ broken_line k xs)) ∥₁ ↔ (IsLookedFor f m × Showable f m 1024)
  -- the walk is a shortest breach
  pub shortest : IsLookedFor f m → Showable f m 1024 → ∥ ((xs : List ℕ) × Shortest f m xs × (line ≡ broken_line k xs)) ∥₁
  -- neither
  pub many_pairs : (line ≡ refused_line k 17) ↔ (IsLookedFor f m × PairsExceedRoom f m 1024)

-- of every file whose lines are all good, and each of its rules, over the table of its states and steps: of such a file of at most 8,192 bytes
-- `Prints` writes these lines one after another. There is one such f (`FaultlessTextsMeanRules`, `TextsMeanOneRule`)
abbrev pub ReportsSayRightly : Type 0
ReportsSayRightly =
    (file : Text) → AllGood table_rooms nothing (lines file) → (k : ℕ) (t : Text) → slice_get (content file).rules k ≡ Some t
    → (f : Formula) → IsBreachFormula (content file).names t f → (line : Text) → PrintsRule (loaded file) k line
    → SaysRightly f (table_meaning (lines_in (content file))) k line
