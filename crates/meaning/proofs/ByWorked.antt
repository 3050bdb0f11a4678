-- The worked rules and searches hold. Assumes nothing.
use Rattle.std.proofs.Common.{◌≡◌, ℕ, List, [], ◌∷◌, refl, arith}
use mathlib.Core.Bool.{false≢true}
use Rattle.logic.specs.Formula.{tru, on}
use Rattle.logic.proofs.Examples.{examples}
use Rattle.logic.proofs.Sat.{breach_is_sat}
use Rattle.meaning.specs.Worked.{WorkedExamples}
use Rattle.meaning.proofs.OfBridges.{counted}
use Rattle.meaning.proofs.BySearch.{first_shown, first_refused, second_pairs, second_clear, second_refused, stuck_shown, stuck_refused}

any_breach : (w : List ℕ) → (w ≡ [] → ⊥) → Rattle.logic.specs.Witness.Breach tru w
any_breach [] d = absurd (d refl)
any_breach (s ∷ w) d = (breach_is_sat tru (s ∷ w)).1 refl

pub worked_examples : WorkedExamples
unfolding on
worked_examples =
    let e = examples in
    record {
      true_counts = (record { writes = refl; named = tt; shallow = omega arith }, counted _ 1 1 e.one.labels_are e.one.standings_are);
      false_counts = (record { writes = refl; named = tt; shallow = omega arith }, counted _ 2 2 e.two.labels_are e.two.standings_are);
      false_broken_by_all = any_breach;
      false_kept_by_none = λ b. b.0 refl;
      first_counts = (record { writes = refl; named = (omega arith, omega arith); shallow = omega arith }, counted _ 2 2 e.three.labels_are e.three.standings_are);
      second_counts = (record { writes = refl; named = (omega arith, omega arith); shallow = omega arith }, counted _ 8 3 e.four.labels_are e.four.standings_are);
      no_second_counts = (record { writes = refl; named = tt; shallow = omega arith }, counted _ 3 3 e.five.labels_are e.five.standings_are);
      no_second_kept = λ b. false≢true ((breach_is_sat _ _).0 b);
      no_second_broken = (breach_is_sat _ _).1 refl;
      neither_counts = (record { writes = refl; named = (omega arith, omega arith); shallow = omega arith }, counted _ 6 4 e.six.labels_are e.six.standings_are);
      neither_broken_now = (breach_is_sat _ _).1 refl;
      neither_kept = λ b. false≢true ((breach_is_sat _ _).0 b);
      neither_broken_next = (breach_is_sat _ _).1 refl;
      stop_counts = (record { writes = refl; named = omega arith; shallow = omega arith }, counted _ 2 3 e.seven.labels_are e.seven.standings_are);
      until_counts = (record { writes = refl; named = (omega arith, omega arith); shallow = omega arith }, counted _ 2 3 e.eight.labels_are e.eight.standings_are);
      until_broken = (breach_is_sat _ _).1 refl;
      first_shown_with_one = first_shown;
      first_refused_with_none = first_refused;
      second_pairs = second_pairs;
      second_clear_with_three = second_clear;
      second_refused_with_two = second_refused;
      stuck_shown = stuck_shown;
      stuck_refused_with_four = stuck_refused;
    }
