-- Places in a text and among names. Assumes nothing.
use Rattle.std.specs.Prelude.{ℕ, ◌+◌, cond, List, [], ◌∷◌, Some, None, Option, ◌==◌}
use Rattle.std.specs.Str.{bytes_eq}
use Rattle.meaning.specs.Bytes.{Text}

-- how many bytes stand before the first `stop`
abbrev pub length_to : ℕ → Text → ℕ
length_to stop [] = 0
length_to stop (b ∷ bs) = cond (b == stop) 0 (length_to stop bs + 1)

-- one place later, if there is one
abbrev pub one_later : Option ℕ → Option ℕ
one_later None = None
one_later (Some i) = Some (i + 1)

-- the place of w among the names
abbrev pub place_of : List Text → Text → Option ℕ
place_of [] w = None
place_of (n ∷ ns) w = cond (bytes_eq n w) (Some 0) (one_later (place_of ns w))
