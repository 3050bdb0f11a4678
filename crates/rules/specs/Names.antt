-- The names that a sheet holds. Assumes nothing.
use Rattle.std.specs.Prelude.{List, map}
use Rattle.fixed.specs.Held.{held}
use Rattle.meaning.specs.Bytes.{Text}
use Rattle.rules.specs.declared.names.Names.{Names}
pub use Rattle.rules.specs.Letters.{letters_of}

-- the names, each by its letters
abbrev pub names_held : Names → List Text
names_held ns = map letters_of (held ns.list)
