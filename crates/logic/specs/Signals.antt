-- Which signals a formula names, and words that agree on them. Assumes nothing.
use Rattle.std.specs.Prelude.{◌≡◌, ℕ, Bool, ◌↔◌, List, [], ◌∷◌}
use Rattle.logic.specs.Formula.{Formula, lit, on, Sub}
use Rattle.logic.specs.Witness.{Breach}
use Rattle.logic.specs.Standings.{SameLabel, SameStanding}

-- f names the signal i: it has a literal of i, wanted on or off
abbrev pub Names : ℕ → Formula → Type 0
Names i f = (p : Bool) × Sub (lit i p) f

-- two letters agree on the signals that f names: each of these is on in both or in neither
abbrev pub LettersAgree : Formula → ℕ → ℕ → Type 0
LettersAgree f s t = (i : ℕ) → Names i f → on i s ≡ on i t

-- two words agree on the signals that f names: they have the same length, and their letters agree place by place
abbrev pub Agree : Formula → List ℕ → List ℕ → Type 0
Agree f [] [] = Unit {0}
Agree f [] (t ∷ v) = ⊥
Agree f (s ∷ u) [] = ⊥
Agree f (s ∷ u) (t ∷ v) = LettersAgree f s t × Agree f u v

-- two words do the same with f, of which ks lists what is kept: both are breaches or none is, their labels are equal, and so are the standings after them
pub record DoTheSame (f : Formula) (ks : List Formula) (u v : List ℕ) : Type 0 where
  pub breaches : Breach f u ↔ Breach f v
  pub labels : SameLabel ks u v
  pub standings : SameStanding ks (Breach f) u v
