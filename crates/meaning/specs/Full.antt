-- How full a sheet gets, and how much is kept of a rule, by lists that compute. Assumes nothing.
use Rattle.std.specs.Prelude.{◌<◌, ◌≤◌, ◌⊎◌, ◌↔◌, List, [], ◌∷◌, ◌++◌, map, length}
use Rattle.logic.specs.Formula.{Formula, tru, fls, lit, and, or, next, until, release, same}
use Rattle.logic.specs.Rule.{Rule, negated}
use Rattle.logic.specs.Labels.{once, kept}
use Rattle.meaning.specs.Bytes.{Text}
use Rattle.meaning.specs.Written.{written, Named, depth, Means}
use Rattle.meaning.specs.Sheets.{SheetIsFull, IsOverKept}
use Rattle.meaning.specs.Reading.{GoodNames}

-- the subformulas of f, each as often as it stands in f
abbrev pub parts : Formula → List Formula
parts tru = tru ∷ []
parts fls = fls ∷ []
parts (lit i p) = lit i p ∷ []
parts (and a b) = and a b ∷ (parts a ++ parts b)
parts (or a b) = or a b ∷ (parts a ++ parts b)
parts (next a) = next a ∷ parts a
parts (until a b) = until a b ∷ (parts a ++ parts b)
parts (release a b) = release a b ∷ (parts a ++ parts b)

-- those of the breach formulas of several rules
abbrev pub all_parts : List Rule → List Formula
all_parts [] = []
all_parts (r ∷ rs) = parts (negated r) ++ all_parts rs

-- the different ones among them, each once
abbrev pub different_parts : List Rule → List Formula
different_parts rs = once same (all_parts rs)

-- rules that a text can mean: they use the names, and no operator stands below 32 others
abbrev pub CanBeMeant : List Text → List Rule → Type 0
CanBeMeant ns [] = Unit {0}
CanBeMeant ns (r ∷ rs) = Named (length ns) r × (depth r ≤ 32) × CanBeMeant ns rs

-- a sheet with the texts of the rules rs is full for that of r exactly when r would be a 17th rule, or the list of different subformulas has over 256
abbrev pub FullSheetsByLists : Type 0
FullSheetsByLists =
    (ns : List Text) → GoodNames ns → (r : Rule) (rs : List Rule) → CanBeMeant ns (r ∷ rs)
    → SheetIsFull ns (map (written ns) rs) (written ns r) ↔ ((16 ≤ length rs) ⊎ (256 < length (different_parts (r ∷ rs))))

-- a text that means r is over kept exactly when the list of r's kept formulas has over 32
abbrev pub OverKeptByLists : Type 0
OverKeptByLists = (ns : List Text) (t : Text) (r : Rule) → GoodNames ns → Means ns t r → IsOverKept ns t ↔ (32 < length (kept (negated r)))
