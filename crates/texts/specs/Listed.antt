-- The different subformulas of formulas, in the order in which a sheet stores them. Assumes nothing.
use Rattle.std.specs.Prelude.{◌≡◌, ℕ, ◌<◌, List, [], ◌∷◌, length, slice_index_or}
use Rattle.logic.specs.Formula.{Formula, tru, fls, lit, and, or, next, until, release, same}
use Rattle.logic.specs.Labels.{add_once}

-- f at the end of gs, where it does not stand there yet
abbrev pub add : Formula → List Formula → List Formula
add f gs = add_once same f gs

-- the subformulas of f at the end of gs, operands first, where they do not stand there yet
unfoldable pub added : List Formula → Formula → List Formula
added gs tru = add tru gs
added gs fls = add fls gs
added gs (lit i p) = add (lit i p) gs
added gs (and a b) = add (and a b) (added (added gs a) b)
added gs (or a b) = add (or a b) (added (added gs a) b)
added gs (next a) = add (next a) (added gs a)
added gs (until a b) = add (until a b) (added (added gs a) b)
added gs (release a b) = add (release a b) (added (added gs a) b)

-- the subformulas of fs at the end of gs, where they do not stand there yet
abbrev pub listed_after : List Formula → List Formula → List Formula
listed_after gs [] = gs
listed_after gs (f ∷ fs) = listed_after (added gs f) fs

-- the different subformulas of fs
abbrev pub listed : List Formula → List Formula
listed fs = listed_after [] fs

-- number k is f among gs
abbrev pub StandsAt : List Formula → Formula → ℕ → Type 0
StandsAt gs f k = (k < length gs) × (slice_index_or gs k tru ≡ f)
