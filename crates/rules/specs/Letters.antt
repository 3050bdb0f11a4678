-- The letters of names, and when names are fit for a sheet. Assumes nothing.
use Rattle.std.specs.Prelude.{List, map}
use Rattle.fixed.specs.Held.{held}
use Rattle.meaning.specs.Bytes.{Text}
use Rattle.texts.specs.Fit.{Fit}
use Rattle.rules.specs.declared.names.Name.{Name}

-- the letters that a name holds
abbrev pub letters_of : Name → Text
letters_of n = held n.letters

-- the names are fit for a sheet
abbrev pub AreFit : List Name → Type 0
AreFit names = ∥ Fit (map letters_of names) ∥₁
