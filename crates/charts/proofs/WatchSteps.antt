-- Beginnings and scans on a filled chart. Assumes nothing.
use Rattle.std.proofs.Common.{◌≡◌, ℕ, ◌<◌, ◌≤◌, Bool, true, false, cond, List, [], ◌∷◌, ◌++◌, Ok, Result, sym, refl, ap, ◌∙◌, arith}
use mathlib.Core.List.{foldl-append}
use Rattle.logic.specs.Formula.{Formula, Letters}
use Rattle.logic.proofs.Tables.{letters_append}
use Rattle.meaning.specs.declared.answers.Scanned.{Scanned}
use Rattle.meaning.specs.declared.refusals.BeginningFault.{BeginningFault}
use Rattle.meaning.specs.declared.refusals.ScanningFault.{ScanningFault}
use Rattle.charts.specs.declared.chart.Chart.{Chart}
use Rattle.charts.specs.declared.state.State.{State}
use Rattle.charts.specs.declared.state.State.TheVariants.{Blank, Ready, Watching, Broken}
use Rattle.charting.specs.Filled.{after, walked, breached}
use Rattle.charts.specs.Watch.{most, begun, scanned}
use Rattle.charts.specs.Watched.{Holds, Begun, Scans}
use Rattle.charts.specs.Kept.{SameAreas}

-- a chart with a standing is not blank, so its beginning is accepted
accepted : (n : ℕ) (s t : State) (r : Result (Unit {0}) BeginningFault) → 0 < n → n ≤ most s → (r, t) ≡ begun s → (r ≡ Ok tt) × (t ≡ Watching 0)
accepted n Blank t r some few e = absurd (omega arith)
accepted n Ready t r some few e = (ap (λ p. p.0) e, ap (λ p. p.1) e)
accepted n (Watching q) t r some few e = (ap (λ p. p.0) e, ap (λ p. p.1) e)
accepted n Broken t r some few e = (ap (λ p. p.0) e, ap (λ p. p.1) e)

-- what a scan at a watching state gives
followed : (st : List (List ℕ)) (nx : List ℕ) (s : State) (u : List ℕ) (letter : ℕ) (v : Bool) → s ≡ Watching (walked nx u) → breached st (walked nx (u ++ letter ∷ [])) ≡ v
    → scanned st nx s letter ≡ cond v (Ok Scanned.Broken, Broken) (Ok Scanned.GoingOn, Watching (walked nx (u ++ letter ∷ [])))
followed st nx s u letter v p e =
    let f : walked nx (u ++ letter ∷ []) ≡ after nx (walked nx u) letter = foldl-append (after nx) 0 u (letter ∷ []) in
    let g : breached st (after nx (walked nx u) letter) ≡ v = rw (sym f) e in
    rw (p, f, g)

not_true : (b : Bool) → (b ≡ true → ⊥) → b ≡ false
not_true true h = absurd (h refl)
not_true false h = refl

module _ (c d : Chart) (same : SameAreas c d) where
  holds_still : (f : Formula) (ks : List Formula) → Holds f ks c → Holds f ks d
  holds_still f ks h = rw (same.0, same.1, same.2, same.3, same.4) h

  pub begins : (r : Result (Unit {0}) BeginningFault) → (r, d.state) ≡ begun c.state → Begun c d r
  begins r e = record {
    begins = λ f ks h.
        let a = accepted c.standing_count c.state d.state r (h.within [] tt) c.few e in
        (a.0, record { holds = holds_still f ks h; letters = tt; at = a.1; whole = λ b. b.0 refl });
  }

  module _ (letter : ℕ) (small : letter < 256) (r : Result Scanned ScanningFault) (e : (r, d.state) ≡ scanned c.standings.now c.next.now c.state letter) where
    more : (u : List ℕ) → Letters u → Letters (u ++ letter ∷ [])
    more u l = letters_append u (letter ∷ []) l (small, tt)

    pub scans : Scans c d letter r
    scans = record {
      goes_on = λ f ks u w no.
          let b = w.holds.breach (u ++ letter ∷ []) (more u w.letters) in
          let q = e ∙ followed _ _ _ u letter false w.at (not_true _ (λ t. no (b.0 t))) in (
            ap (λ p. p.0) q,
            record { holds = holds_still f ks w.holds; letters = more u w.letters; at = rw same.2 (ap (λ p. p.1) q); whole = no },
          );
      breaks = λ f ks u w yes.
          let b = w.holds.breach (u ++ letter ∷ []) (more u w.letters) in
          let q = e ∙ followed _ _ _ u letter true w.at (b.1 yes) in (
            ap (λ p. p.0) q,
            record { holds = holds_still f ks w.holds; letters = more u w.letters; at = ap (λ p. p.1) q; breach = yes },
          );
    }
