use Rattle.std.proofs.Common.{◌≡◌, cond, [], ◌++◌}
use Rattle.std.specs.Slice.Iter.{split_rest, split_done}
use Rattle.meaning.specs.Names.{names_of}
use Rattle.rules.specs.Names.{names_held}
use Rattle.texts.specs.Fit.{Fit}
use Rattle.rules.proofs.names.opening.read_names.Given as goal

abbrev pub invariant-loop-word : goal.invariant-loop-word
invariant-loop-word l =
    (goal.iterator-loop-word).can_next l.word-iterator × (goal.iterator-loop-word).is_finite l.word-iterator × (names_of l.text ≡ names_held l.names ++ cond (split_done l.word-iterator) [] (names_of (split_rest l.word-iterator))) × Fit (names_held l.names)
