-- A filling of the usable front of the areas is one of the areas. Assumes nothing.
use Rattle.std.proofs.Common.{◌≡◌, ℕ, List, ◌++◌, length, Ok, Err, Result, subst, arith, length-append, MatchResult}
use Rattle.std.proofs.lemmas.List.{get_or_append_left}
use Rattle.meaning.specs.Charts.{Areas, label_room, standing_room}
use Rattle.meaning.specs.declared.refusals.FillingFault.{FillingFault}
use Rattle.formulas.specs.declared.breach.BreachFormula.{BreachFormula}
use Rattle.rules.specs.Kept.{formula_of}
use Rattle.charting.specs.Breaches.{kept_of}
use Rattle.charting.specs.Filled.{FilledOnce, Refused, FillingOnce, Refusing}
use Rattle.charting.proofs.OfBreach.{few_kept, kept_listed}
use Rattle.charting.proofs.StandingEnds.{filled_front, some_labels}

pub in_rooms : (br : BreachFormula) (areas : Areas) (l s : ℕ) → l ≡ label_room areas → s ≡ standing_room areas
    → (ls rest_ls : List ℕ) (st rest_st : List (List ℕ)) (nx : List ℕ) → length ls ≡ l → length st ≡ s
    → (r : Result (ℕ × ℕ) FillingFault)
    → MatchResult r (λ p. FilledOnce (formula_of br) (kept_of br) ls p.0 st p.1 nx) (λ e. Refused (formula_of br) (kept_of br) l s e)
    → MatchResult r (λ p. FillingOnce (formula_of br) areas (ls ++ rest_ls) p.0 (st ++ rest_st) p.1 nx) (λ e. Refusing (formula_of br) areas e)
in_rooms br areas l s el es ls rest_ls st rest_st nx ll sl (Ok p) y =
    let x = y.filled in
    let lf = x.labels_fit in
    let sf = x.standings_fit in
    record {
      filling = record {
        ks = kept_of br;
        keeps = kept_listed br;
        few_kept = few_kept br;
        labels_fit = omega (arith, lf, ll, el);
        standings_fit = omega (arith, sf, sl, es);
        filled =
            filled_front (formula_of br) (kept_of br) ls (ls ++ rest_ls) p.0 st (st ++ rest_st) p.1 nx
            (λ i d h. get_or_append_left ls rest_ls d i (omega (arith, h, lf)))
            (λ i d h. get_or_append_left st rest_st d i (omega (arith, h, sf)))
            (simp length-append (omega arith)) (simp length-append (omega arith)) (some_labels x) x;
      };
      standings_once = y.standings_once;
    }
in_rooms br areas l s el es ls rest_ls st rest_st nx ll sl (Err e) x =
    let f = formula_of br in
    let ks = kept_of br in
    record {
      ks = ks;
      keeps = kept_listed br;
      refused = subst (λ (n : ℕ). Refused f ks n (standing_room areas) e) el (subst (λ (n : ℕ). Refused f ks l n e) es x);
    }
