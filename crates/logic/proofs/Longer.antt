-- A breach stays one when letters are added. Assumes nothing.
use Rattle.std.proofs.Common.{◌≡◌, ℕ, true, List, [], ◌∷◌, ◌++◌, refl, arith}
use mathlib.Core.Bool.{false≢true}
use Rattle.logic.specs.Formula.{Formula, tru, fls, lit, and, or, next, until, release}
use Rattle.logic.specs.Sat.{sat}
use Rattle.logic.specs.Statements.{BreachStays}
use Rattle.logic.proofs.Sat.{breach_is_sat}

sat_stays : (f : Formula) (w v : List ℕ) → sat f w ≡ true → sat f (w ++ v) ≡ true
sat_stays tru [] v e = absurd (false≢true e)
sat_stays tru (s ∷ w) v e = refl
sat_stays fls [] v e = absurd (false≢true e)
sat_stays fls (s ∷ w) v e = e
sat_stays (lit i p) [] v e = absurd (false≢true e)
sat_stays (lit i p) (s ∷ w) v e = e
sat_stays (and a b) [] v e = absurd (false≢true e)
sat_stays (and a b) (s ∷ w) v e = let x = sat_stays a (s ∷ w) v in let y = sat_stays b (s ∷ w) v in grind arith
sat_stays (or a b) [] v e = absurd (false≢true e)
sat_stays (or a b) (s ∷ w) v e = let x = sat_stays a (s ∷ w) v in let y = sat_stays b (s ∷ w) v in grind arith
sat_stays (next a) [] v e = absurd (false≢true e)
sat_stays (next a) (s ∷ w) v e = sat_stays a w v e
sat_stays (until a b) [] v e = absurd (false≢true e)
sat_stays (until a b) (s ∷ w) v e =
    let x = sat_stays a (s ∷ w) v in
    let y = sat_stays b (s ∷ w) v in
    let z = sat_stays (until a b) w v in grind arith
sat_stays (release a b) [] v e = absurd (false≢true e)
sat_stays (release a b) (s ∷ w) v e =
    let x = sat_stays a (s ∷ w) v in
    let y = sat_stays b (s ∷ w) v in
    let z = sat_stays (release a b) w v in grind arith

pub breach_stays : BreachStays
breach_stays f w v b = (breach_is_sat f (w ++ v)).1 (sat_stays f w v ((breach_is_sat f w).0 b))
