-- What a fixed list holds. Assumes nothing.
use Rattle.std.specs.Prelude.{ℕ, List, take}
use Rattle.fixed.specs.declared.FixedList.{FixedList}

-- its items, in order
abbrev pub held : {T : Type 0} {N : ℕ} → FixedList T N → List T
held l = take l.len l.items
