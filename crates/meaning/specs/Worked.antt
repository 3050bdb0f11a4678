-- Worked rules with their counts and breaches, and searches over the sample file's table and the stuck layer on it. Assumes nothing.
use Rattle.std.specs.Prelude.{ℕ, ◌<◌, ◌≤◌, ◌≢◌, List, [], ◌∷◌, length, Ok, Err, codes}
use Rattle.meaning.specs.declared.refusals.SearchingFault.TheVariants.{PairsExceed}
use Rattle.meaning.specs.declared.answers.Verdict.TheVariants.{Shown, Clear}
use Rattle.logic.specs.Witness.{Breach}
use Rattle.logic.specs.Rule.{Rule, rtrue, rfalse, name, not, rnext, both, runtil, negated}
use Rattle.meaning.specs.Bytes.{Text}
use Rattle.meaning.specs.Written.{Means}
use Rattle.meaning.specs.Machines.{Meaning}
use Rattle.meaning.specs.Kinds.{stuck_meaning}
use Rattle.meaning.specs.Walks.{Pairs}
use Rattle.meaning.specs.Right.{Counted, Searches}
use Rattle.meaning.specs.Examples.{two_names, first_rule, second_rule, sample_machine}

-- the text t means the rule r, whose breach formula has so many labels and so many standings
abbrev pub Counts : Text → Rule → ℕ → ℕ → Type 0
Counts t r labels standings = Means two_names t r × Counted (negated r) (labels, standings)

-- the word w is a breach of the rule r
abbrev pub Breaks : Rule → List ℕ → Type 0
Breaks r w = Breach (negated r) w

-- no second letter
abbrev pub no_second : Rule
no_second = not (rnext rtrue)

-- neither `stop` now nor `full` next
abbrev pub neither : Rule
neither = both (not (name 0)) (not (rnext (name 1)))

-- `stop` until `full`
abbrev pub stop_until_full : Rule
stop_until_full = runtil (name 0) (name 1)

-- the stuck layer over the sample file's table on `stop`
abbrev pub stuck_machine : Meaning
stuck_machine = stuck_meaning sample_machine 0

-- the examples, each with its counts and breaches, and with searches over the sample file's table
abbrev pub WorkedExamples : Type 0
WorkedExamples = record {
  true_counts : Counts (codes "true") rtrue 1 1;
  false_counts : Counts (codes "false") rfalse 2 2;
  false_broken_by_all : (w : List ℕ) → w ≢ [] → Breaks rfalse w;
  false_kept_by_none : ¬ Breaks rfalse [];
  first_counts : Counts (codes "G ! & stop full") first_rule 2 2;
  second_counts : Counts (codes "G -> stop X ! full") second_rule 8 3;
  no_second_counts : Counts (codes "! X true") no_second 3 3;
  no_second_kept : ¬ Breaks no_second (0 ∷ []);
  no_second_broken : Breaks no_second (0 ∷ (0 ∷ []));
  neither_counts : Counts (codes "& ! stop ! X full") neither 6 4;
  neither_broken_now : Breaks neither (1 ∷ []);
  neither_kept : ¬ Breaks neither (0 ∷ []);
  neither_broken_next : Breaks neither (0 ∷ (2 ∷ []));
  stop_counts : Counts (codes "stop") (name 0) 2 3;
  until_counts : Counts (codes "U stop full") stop_until_full 2 3;
  until_broken : Breaks stop_until_full (1 ∷ (0 ∷ []));
  -- the first rule is shown with pair room 1, a walk of states 0 and 1, and refused with 0
  first_shown_with_one : Searches (negated first_rule) sample_machine 1 (9 ∷ (9 ∷ (9 ∷ []))) (Ok (Shown 2), 0 ∷ (1 ∷ (9 ∷ [])));
  first_refused_with_none : Searches (negated first_rule) sample_machine 0 (9 ∷ []) (Err PairsExceed, 9 ∷ []);
  -- the second has 3 pairs, is clear with pair room 3, and refused with 2
  second_pairs : Pairs (negated second_rule) sample_machine 3;
  second_clear_with_three : Searches (negated second_rule) sample_machine 3 (9 ∷ (9 ∷ (9 ∷ (9 ∷ [])))) (Ok (Clear 3), 9 ∷ (9 ∷ (9 ∷ (9 ∷ []))));
  second_refused_with_two : Searches (negated second_rule) sample_machine 2 (9 ∷ (9 ∷ (9 ∷ []))) (Err PairsExceed, 9 ∷ (9 ∷ (9 ∷ [])));
  -- under the stuck layer its shortest breach has 4 states; the 5 pairs of the shorter walks have to fit
  stuck_shown : (pairs : ℕ) (w : List ℕ) → 5 ≤ pairs → pairs < length w → ∥ ((w' : List ℕ) × Searches (negated second_rule) stuck_machine pairs w (Ok (Shown 4), w')) ∥₁;
  stuck_refused_with_four : (w : List ℕ) → 4 < length w → Searches (negated second_rule) stuck_machine 4 w (Err PairsExceed, w);
}
