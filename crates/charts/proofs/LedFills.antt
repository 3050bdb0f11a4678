-- Fillings, in the words of histories. Assumes nothing.
use Rattle.std.proofs.Common.{◌≡◌, ℕ, zero, suc, ◌<◌, ◌≤◌, List, [], ◌∷◌, length, get_or, Some, None, Ok, Err, Option, Result, sym, refl, ap, subst, arith, MatchResult}
use mathlib.Core.HLevel.{⊥_prop}
use mathlib.Core.Logic.{∥∥₁_elim, ∥∥₁_map}
use Rattle.std.specs.List.{slice_get}
use Rattle.logic.specs.Formula.{Formula, tru}
use Rattle.meaning.specs.declared.refusals.FillingFault.{FillingFault}
use Rattle.meaning.specs.declared.refusals.FillingFault.TheVariants.{NoRule, LabelsExceed, StandingsExceed}
use Rattle.meaning.specs.Bytes.{Text}
use Rattle.meaning.specs.Written.{IsBreachFormula}
use Rattle.meaning.specs.Charts.{Areas}
use Rattle.meaning.specs.Calls.{filling, History}
use Rattle.meaning.specs.Histories.{at, names, rules, Ruled, ruled, filled_rule, watch}
use Rattle.meaning.specs.Right.{RightFilling, Fills as RightFills}
use Rattle.meaning.specs.Whole.{Held, Mode, ready, Whole, ChartIs}
use Rattle.meaning.proofs.OfHistories.{at_same}
use Rattle.rules.specs.declared.sheet.Sheet.{Sheet}
use Rattle.rules.specs.Model.{Stands}
use Rattle.rules.specs.Led.{BreachFormulas, SheetLed}
use Rattle.rules.proofs.OfStands.{of_parts}
use Rattle.charting.specs.Filled.{FillingOnce, Refusing}
use Rattle.charting.proofs.OfWhole.{whole}
use Rattle.charting.proofs.OfAnswers.{fillings_are_right, refusals_are_right}
use Rattle.charts.specs.declared.chart.Chart.{Chart}
use Rattle.charts.specs.Fills.{areas, ReadyWith, Emptied, Left, FillsOnce}
use Rattle.charts.specs.Led.{held_of, mode_of, ChartLed, Answered}

-- ---- the text of a rule

rule_text : (ns ts : List Text) (fs : List Formula) (k : ℕ) → BreachFormulas ns ts fs → k < length fs → (t : Text) × (slice_get ts k ≡ Some t) × IsBreachFormula ns t (get_or fs k tru)
rule_text ns [] [] k b l = absurd (omega arith)
rule_text ns [] (f ∷ fs) k b l = absurd b
rule_text ns (t ∷ ts) [] k b l = absurd (omega arith)
rule_text ns (t ∷ ts) (f ∷ fs) zero b l = (t, refl, b.0)
rule_text ns (t ∷ ts) (f ∷ fs) (suc k) b l = rule_text ns ts fs k b.1 (omega arith)

no_text : (ns ts : List Text) (fs : List Formula) (k : ℕ) → BreachFormulas ns ts fs → length fs ≤ k → slice_get ts k ≡ None
no_text ns [] [] k b l = refl
no_text ns [] (f ∷ fs) k b l = absurd b
no_text ns (t ∷ ts) [] k b l = absurd b
no_text ns (t ∷ ts) (f ∷ fs) zero b l = absurd (omega arith)
no_text ns (t ∷ ts) (f ∷ fs) (suc k) b l = no_text ns ts fs k b.1 (omega arith)

-- ---- answers by the text that the sheet has at the number

-- merely a text stands there, with a breach formula of which Q holds
abbrev SomeRule : List Text → Option Text → (Formula → Type 0) → Type 0
SomeRule ns o Q = ∥ ((t : Text) × (f : Formula) × (o ≡ Some t) × IsBreachFormula ns t f × Q f) ∥₁

some_right : (ns : List Text) (o : Option Text) (a : Areas) (x : Result (ℕ × ℕ) FillingFault) → SomeRule ns o (λ f. RightFills f a x) → RightFilling (ruled ns o) a x
some_right ns None a x h = absurd (∥∥₁_elim h ⊥_prop (λ y. cc y.2))
some_right ns (Some t) a x h = ∥∥₁_map h (λ y. let e : y.0 ≡ t = cc y.2 in (y.1, subst (λ s. IsBreachFormula ns s y.1) e y.3, y.4))

some_whole : (ns : List Text) (o : Option Text) (c : Held) → SomeRule ns o (λ f. (ks : List Formula) × Whole f ks c) → ChartIs (ruled ns o) None c ready
some_whole ns None c h = absurd (∥∥₁_elim h ⊥_prop (λ y. cc y.2))
some_whole ns (Some t) c h = ∥∥₁_map h (λ y. let e : y.0 ≡ t = cc y.2 in (y.1, y.4.0, subst (λ s. IsBreachFormula ns s y.1) e y.3, y.4.1, refl))

no_right : (ns : List Text) (o : Option Text) (a : Areas) → ∥ (o ≡ None) ∥₁ → RightFilling (ruled ns o) a (Err NoRule)
no_right ns None a h = refl
no_right ns (Some t) a h = absurd (∥∥₁_elim h ⊥_prop (λ e. cc))

module _ (h : History) (c s rule : ℕ) (sheet : Sheet) (d e : Chart) (is : SheetLed h s sheet) where
  -- the rule's text, and what the filling of its formula brings
  ruled_by : (r : Result (ℕ × ℕ) FillingFault) (Q : Formula → Type 0)
      → ((ns : List Text) (fs : List Formula) → Stands sheet ns fs → (rule < length fs) × Q (get_or fs rule tru)) → SomeRule (names h s) (slice_get (rules h s) rule) Q
  ruled_by r Q fills = ∥∥₁_map is (λ y.
      let p = fills (names h s) y.0 (of_parts sheet (names h s) y.0 y.1) in
      let t = rule_text (names h s) (rules h s) y.0 rule y.2 p.0 in
      (t.0, get_or y.0 rule tru, t.1, t.2, p.1))

  emptied : (x : FillingFault) → Emptied e → ChartIs None None (held_of e) (mode_of e.state)
  emptied x l = (ap mode_of l.2, refl)

  refused : (x : FillingFault) → ((ns : List Text) (fs : List Formula) → Stands sheet ns fs → (rule < length fs) × Refusing (get_or fs rule tru) (areas d) x)
      → RightFilling (ruled (names h s) (slice_get (rules h s) rule)) (areas d) (Err x)
  refused x fills = some_right (names h s) (slice_get (rules h s) rule) (areas d) (Err x)
      (ruled_by (Err x) (λ f. RightFills f (areas d) (Err x)) (λ ns fs st. let p = fills ns fs st in (p.0, refusals_are_right (get_or fs rule tru) (areas d) x p.1)))

  -- the chart after a filling that ended its watch
  moved : (o : Option Ruled) (m : Mode) → ChartIs o None (held_of e) m
      → ChartIs (at c c o (filled_rule h c)) (at c c None (watch h c)) (held_of e) m
  moved o m x =
      subst (λ z. ChartIs z (at c c None (watch h c)) (held_of e) m) (sym (at_same c o (filled_rule h c)))
      (subst (λ z. ChartIs o z (held_of e) m) (sym (at_same c None (watch h c))) x)

  pub fill_answered : (r : Result (ℕ × ℕ) FillingFault) → Left r d e → ((ns : List Text) (fs : List Formula) → Stands sheet ns fs → FillsOnce fs rule r d e)
      → ChartLed h c d → Answered h c (filling c s rule (areas d)) r e
  fill_answered (Err NoRule) l fills led = (
    no_right (names h s) (slice_get (rules h s) rule) (areas d)
        (∥∥₁_map is (λ y. no_text (names h s) (rules h s) y.0 rule y.2 (fills (names h s) y.0 (of_parts sheet (names h s) y.0 y.1)))),
    subst (ChartLed h c) (sym l) led,
  )
  fill_answered (Err LabelsExceed) l fills led = (refused LabelsExceed fills, moved None (mode_of e.state) (emptied LabelsExceed l))
  fill_answered (Err StandingsExceed) l fills led = (refused StandingsExceed fills, moved None (mode_of e.state) (emptied StandingsExceed l))
  fill_answered (Ok p) l fills led = (
    some_right (names h s) (slice_get (rules h s) rule) (areas d) (Ok p)
        (ruled_by (Ok p) (λ f. RightFills f (areas d) (Ok p)) (λ ns fs st.
        let q = fills ns fs st in
        (q.0, fillings_are_right (get_or fs rule tru) (areas d) e.labels.now p.0 e.standings.now p.1 e.next.now q.1))),
    moved (ruled (names h s) (slice_get (rules h s) rule)) (mode_of e.state)
        (subst (ChartIs (ruled (names h s) (slice_get (rules h s) rule)) None (held_of e)) (sym (ap mode_of l.2))
        (some_whole (names h s) (slice_get (rules h s) rule) (held_of e)
        (ruled_by (Ok p) (λ f. (ks : List Formula) × Whole f ks (held_of e)) (λ ns fs st.
        let q = fills ns fs st in
        let x = q.1.filling in
        let w = whole (get_or fs rule tru) x.ks x.keeps x.few_kept e.labels.now p.0 e.standings.now p.1 e.next.now (record { filled = x.filled; standings_once = q.1.standings_once }) in
        (q.0, (x.ks, rw (l.0, l.1) w)))))),
  )

-- ---- from the filling of a breach formula

module _ (f : Formula) (d e : Chart) where
  -- what the filling of f leaves
  abbrev pub FilledWith : Result (ℕ × ℕ) FillingFault → Type 0
  FilledWith r =
      MatchResult r (λ p. FillingOnce f (areas d) e.labels.now p.0 e.standings.now p.1 e.next.now) (λ x. Refusing f (areas d) x)

  pub left_of : (r : Result (ℕ × ℕ) FillingFault) → MatchResult r (λ p. ReadyWith p e) (λ x. Emptied e) → FilledWith r → Left r d e
  left_of (Ok p) l x = l
  left_of (Err NoRule) l x = absurd x.refused
  left_of (Err LabelsExceed) l x = l
  left_of (Err StandingsExceed) l x = l

  pub fills_of : (fs : List Formula) (rule : ℕ) → rule < length fs → f ≡ get_or fs rule tru → (r : Result (ℕ × ℕ) FillingFault) → FilledWith r → FillsOnce fs rule r d e
  fills_of fs rule l is (Ok p) x = (l, subst (λ g. FillingOnce g (areas d) e.labels.now p.0 e.standings.now p.1 e.next.now) is x)
  fills_of fs rule l is (Err NoRule) x = absurd x.refused
  fills_of fs rule l is (Err LabelsExceed) x = (l, subst (λ g. Refusing g (areas d) LabelsExceed) is x)
  fills_of fs rule l is (Err StandingsExceed) x = (l, subst (λ g. Refusing g (areas d) StandingsExceed) is x)
