-- Names that a sheet can be opened with, and what reading a text means. Assumes nothing.
use Rattle.std.specs.Prelude.{◌≡◌, ℕ, ◌<◌, ◌≤◌, true, ◌↔◌, List, [], ◌∷◌, ◌++◌, length, Ok, codes, ◌≢◌, slice_index_or}
use Rattle.std.specs.List.{AllByRecursion}
use Rattle.logic.specs.Rule.{Rule}
use Rattle.meaning.specs.Bytes.{Text}
use Rattle.meaning.specs.Names.{fit_names}
use Rattle.meaning.specs.Written.{written, depth, Named}
use Rattle.texts.specs.Parse.{parse}

-- a lowercase letter
abbrev pub Lower : ℕ → Type 0
Lower b = (97 ≤ b) × (b ≤ 122)

-- a name: 1 to 8 lowercase letters, neither `true` nor `false`
pub record FitName (w : Text) : Type 0 where
  pub some : 0 < length w
  pub short : length w ≤ 8
  pub lower : AllByRecursion Lower w
  pub not_true : w ≡ codes "true" → ⊥
  pub not_false : w ≡ codes "false" → ⊥

-- up to eight names, each once
pub record Fit (ns : List Text) : Type 0 where
  pub few : length ns ≤ 8
  pub each : AllByRecursion FitName ns
  pub differ : (i j : ℕ) → i < j → j < length ns → slice_index_or ns i [] ≢ slice_index_or ns j []

-- at least one of them: these are the fit names of the specification
abbrev pub FitNamesAreThese : Type 0
FitNamesAreThese = (ns : List Text) → 0 < length ns → (fit_names ns ≡ true) ↔ Fit ns

-- what follows a formula begins with a space, if anything follows
abbrev pub Ends : Text → Type 0
Ends [] = Unit {0}
Ends (b ∷ bs) = b ≡ 32

-- what is read is what is written there
abbrev pub WhatIsReadIsWritten : Type 0
WhatIsReadIsWritten = (ns : List Text) (total d : ℕ) (w : Text) (r : Rule) (rest : Text) → parse ns total d w ≡ Ok (r, rest)
    → (w ≡ written ns r ++ rest) × (depth r ≤ d) × Named (length ns) r × Ends rest

-- what is written is read
abbrev pub WhatIsWrittenIsRead : Type 0
WhatIsWrittenIsRead = (ns : List Text) → Fit ns → (total d : ℕ) (r : Rule) (rest : Text) → Named (length ns) r → depth r ≤ d → Ends rest
    → parse ns total d (written ns r ++ rest) ≡ Ok (r, rest)
