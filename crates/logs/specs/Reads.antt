-- What is read, by what the text tells. Assumes nothing.
use Rattle.std.specs.Prelude.{◌≡◌, Some, None, Ok, Err, Option, Result}
use Rattle.logs.specs.declared.unread.Unread.{Unread}
use Rattle.logs.specs.declared.unread.Unread.TheVariants.{NoForm, NoMemory}

-- what f says of the result is what is told; where nothing is told, the text is of no form
abbrev pub Reads : {X Y : Type 0} → (X → Y) → Option Y → Result X Unread → Type 0
Reads f o (Ok x) = Some (f x) ≡ o
Reads f o (Err NoForm) = None ≡ o
Reads f o (Err NoMemory) = Unit {0}
