-- Reading names parted by commas. Assumes nothing.
use Rattle.std.specs.Prelude.{◌≡◌, Bool, true, false, List, [], ◌∷◌, ◌++◌, Some, None, Option}
use Rattle.std.specs.List.{AllByRecursion}
use Rattle.meaning.specs.Bytes.{Text}
use Rattle.meaning.specs.Names.{names_of}
use Rattle.texts.specs.Fit.{Lower, FitName, Fit}
use Rattle.rules.specs.declared.names.Name.{Name}
use Rattle.rules.specs.declared.names.Names.{Names}
use Rattle.rules.specs.Names.{letters_of, names_held}

-- the answer says whether all bytes of a word are lowercase letters
abbrev pub AllLower : Bool → Text → Type 0
AllLower true w = AllByRecursion Lower w
AllLower false w = AllByRecursion Lower w → ⊥

-- the name that a word is
abbrev pub NameIs : Text → Option Name → Type 0
NameIs w (Some n) = (letters_of n ≡ w) × FitName w
NameIs w None = FitName w → ⊥

-- ns with one more name
abbrev pub Joins : List Text → Text → Option Names → Type 0
Joins ns w (Some held) = (names_held held ≡ ns ++ (w ∷ [])) × Fit (ns ++ (w ∷ []))
Joins ns w None = (ms : List Text) → Fit (ns ++ (w ∷ ms)) → ⊥

-- ns with the names of a text
abbrev pub Opens : List Text → Text → Option Names → Type 0
Opens ns w (Some held) = (names_held held ≡ ns ++ names_of w) × Fit (ns ++ names_of w)
Opens ns w None = Fit (ns ++ names_of w) → ⊥
