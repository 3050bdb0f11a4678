-- How each entry of a file is written. Assumes nothing.
use Rattle.std.specs.Prelude.{◌≡◌, ◌↔◌, ◌∷◌, ◌++◌, Some, codes}
use Rattle.meaning.specs.Bytes.{Text, number}
use Rattle.meaning.specs.Files.{Entry, signals, rule, state, step, entry}

-- the line t writes the entry: its word, and behind commas what it holds; byte 44 is the comma. This is the form alone: which numbers are good, and in which order lines come, says `in_place` (`Files`)
abbrev pub Writes : Entry → Text → Type 0
Writes (signals names) t = t ≡ codes "signals," ++ names
Writes (rule text) t = t ≡ codes "rule," ++ text
Writes (state n s a) t = (x y z : Text) × (t ≡ codes "state," ++ (x ++ (44 ∷ (y ++ (44 ∷ z))))) × (number x ≡ Some n) × (number y ≡ Some s) × (number z ≡ Some a)
Writes (step f g) t = (x y : Text) × (t ≡ codes "step," ++ (x ++ (44 ∷ y))) × (number x ≡ Some f) × (number y ≡ Some g)

-- a line has an entry exactly where it writes it
abbrev pub LinesHaveTheirEntries : Type 0
LinesHaveTheirEntries = (t : Text) (e : Entry) → (entry t ≡ Some e) ↔ Writes e t
