-- A chart stays blank or whole. Assumes nothing.
use Rattle.std.proofs.Common.{◌≡◌, ℕ, ◌+◌, ◌*◌, ◌<◌, ◌≤◌, Bool, true, false, Option, Some, None, if◌then◌else◌, ◌⊎◌, List, [], ◌∷◌, ◌++◌, sym, refl, ap, ◌∙◌, subst, inl, inr, true≢false, arith}
use mathlib.Core.Logic.{∥∥₁_map}
use mathlib.Core.List.{foldl-append}
use Rattle.logic.specs.Formula.{Formula, Letters}
use Rattle.logic.proofs.Tables.{letters_append}
use Rattle.meaning.specs.Charts.{Areas}
use Rattle.charting.specs.Filled.{after, walked, breached, FillingOnce}
use Rattle.charts.specs.declared.chart.Chart.{Chart}
use Rattle.charts.specs.declared.state.State.{State}
use Rattle.charts.specs.declared.state.State.TheVariants.{Blank, Ready, Watching, Broken}
use Rattle.charts.specs.Watch.{least, most}
use Rattle.charts.specs.Sound.{WatchKept, WholeFor, BlankOrWhole}

-- what a question inside its range answers
pub asked : {A : Type 0} (b : Bool) (x y : A) (r : Option A) → r ≡ (if b then Some x else None) → r ≡ Some y → x ≡ y
asked true x y r e f = cc
asked false x y r e f = cc

module _ (ls : List ℕ) (a : ℕ) (st : List (List ℕ)) (b : ℕ) (nx : List ℕ) where
  pub blank_sound : a ≡ 0 → b ≡ 0 → BlankOrWhole ls a st b nx Blank
  blank_sound p q = ∣ inl (refl, p, q) ∣₁

  pub filled_sound : (f : Formula) (areas : Areas) → FillingOnce f areas ls a st b nx → BlankOrWhole ls a st b nx Ready
  filled_sound f areas y =
      let x = y.filling in
      ∣ inr (f, record { ks = x.ks; keeps = x.keeps; few_kept = x.few_kept; filled = record { filled = x.filled; standings_once = y.standings_once }; watch = tt }) ∣₁

  -- a chart that has a standing is whole for some formula
  pub whole_some : (s : State) → 0 < b → BlankOrWhole ls a st b nx s → ∥ ((f : Formula) × WholeFor f ls a st b nx s) ∥₁
  whole_some s some h = ∥∥₁_map h (λ x. go x)
    where
      go : ((s ≡ Blank) × (a ≡ 0) × (b ≡ 0)) ⊎ ((f : Formula) × WholeFor f ls a st b nx s) → (f : Formula) × WholeFor f ls a st b nx s
      go (inl e) = absurd (omega arith)
      go (inr w) = w

-- a chart goes on being whole
module _ (d : Chart) where
  abbrev WholeAt : Formula → State → Type 0
  WholeAt f s = WholeFor f d.labels.now d.label_count d.standings.now d.standing_count d.next.now s

  whole_with : (s t : State) → d.state ≡ s → 0 < d.standing_count → ((x : (f : Formula) × WholeAt f s) → WatchKept x.0 d.next.now t)
      → BlankOrWhole d.labels.now d.label_count d.standings.now d.standing_count d.next.now t
  whole_with s t e some kept =
      ∥∥₁_map (whole_some d.labels.now d.label_count d.standings.now d.standing_count d.next.now s some
      (subst (BlankOrWhole d.labels.now d.label_count d.standings.now d.standing_count d.next.now) e d.whole))
      (λ x. inr (x.0, record { ks = x.1.ks; keeps = x.1.keeps; few_kept = x.1.few_kept; filled = x.1.filled; watch = kept x }))

  pub begun_sound : 0 < d.standing_count → BlankOrWhole d.labels.now d.label_count d.standings.now d.standing_count d.next.now (Watching 0)
  begun_sound some = whole_with d.state (Watching 0) refl some (λ x. ([], tt, (λ z. z.0 refl), refl))

  module _ (q s : ℕ) (at : d.state ≡ Watching q) (small : s < 256) where
    pub watching_some : q < d.standing_count
    watching_some = let l : least (Watching q) ≤ d.standing_count = subst (λ z. least z ≤ d.standing_count) at d.enough in omega arith

    pub watching_few : d.standing_count ≤ 512
    watching_few = subst (λ z. d.standing_count ≤ most z) at d.few

    pub inside : after d.next.now q s < d.standing_count
    inside = d.closed (q * 256 + s) (omega (arith, watching_some))

    -- the letters so far, with one more
    one_more : (x : (f : Formula) × WholeAt f (Watching q)) → Letters (x.1.watch.0 ++ s ∷ []) × (walked d.next.now (x.1.watch.0 ++ s ∷ []) ≡ after d.next.now q s)
    one_more x =
        let w = x.1.watch in
        (letters_append w.0 (s ∷ []) w.1 (small, tt), foldl-append (after d.next.now) 0 w.0 (s ∷ []) ∙ ap (λ (p : ℕ). after d.next.now p s) w.3)

    pub broken_sound : breached d.standings.now (after d.next.now q s) ≡ true → BlankOrWhole d.labels.now d.label_count d.standings.now d.standing_count d.next.now Broken
    broken_sound e = whole_with (Watching q) Broken at (omega (arith, watching_some)) (λ x.
        let n = one_more x in
        (x.1.watch.0 ++ s ∷ [], n.0, (x.1.filled.filled.breach (x.1.watch.0 ++ s ∷ []) n.0).0 (ap (breached d.standings.now) n.1 ∙ e)))

    pub going_sound : breached d.standings.now (after d.next.now q s) ≡ false → BlankOrWhole d.labels.now d.label_count d.standings.now d.standing_count d.next.now (Watching (after d.next.now q s))
    going_sound e = whole_with (Watching q) (Watching (after d.next.now q s)) at (omega (arith, watching_some)) (λ x.
        let n = one_more x in
        let says = x.1.filled.filled.breach (x.1.watch.0 ++ s ∷ []) n.0 in
        (x.1.watch.0 ++ s ∷ [], n.0, (λ z. true≢false (sym (says.1 z) ∙ ap (breached d.standings.now) n.1 ∙ e)), n.1))
