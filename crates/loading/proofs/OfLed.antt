-- A loading as one of a list of calls, by what it says and leaves.
use Rattle.std.proofs.Common.{◌≡◌, ℕ, ◌∷◌, Ok, Err, Result, refl, eq-eqb}
use Rattle.meaning.specs.declared.refusals.FileFault.{FileFault}
use Rattle.meaning.specs.Bytes.{Text}
use Rattle.meaning.specs.Kinds.{Lines}
use Rattle.meaning.specs.Files.{Rooms, RightLoading}
use Rattle.meaning.specs.Calls.{loading, History}
use Rattle.meaning.specs.Histories.{table_lines}
use Rattle.meaning.specs.Right.{Right}
use Rattle.rules.specs.declared.sheet.Sheet.{Sheet}
use Rattle.rules.specs.Led.{SheetLed}
use Rattle.loading.specs.Loads.{Loaded}
use Rattle.loading.specs.Led.{loaded}

pub led_is : (r : Rooms) (file : Text) (x : Result (Unit {0}) FileFault) (sheet : Sheet) (ls : Lines) → RightLoading r file x → Loaded file x sheet ls → (h : History) (s t : ℕ)
    → Right h (loading s t r file) x × SheetLed (loaded s t r file x ∷ h) s sheet × (ls ≡ table_lines (loaded s t r file x ∷ h) t)
led_is r file (Ok u) sheet ls a l = λ h n y. simp (eq-eqb n n refl, eq-eqb y y refl) (a, l.0, l.1)
led_is r file (Err x) sheet ls a l = λ h n y. simp (eq-eqb n n refl, eq-eqb y y refl) (a, l.0, l.1)
