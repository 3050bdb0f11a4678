-- What is printed for a log that was read, made and written. Assumes nothing.
use Rattle.std.proofs.Common.{◌≡◌, ℕ, List, [], Option, ap, ◌∙◌}
use Rattle.meaning.specs.Bytes.{Text}
use Rattle.replay.specs.declared.call.Call.{Call}
use Rattle.replay.specs.declared.answer.Answer.{Answer}
use Rattle.replay.specs.Replayed.{RightAnswers}
use Rattle.replay.proofs.ListOfCalls.{answers_right}
use Rattle.logs.specs.declared.machine.NoMachine.{NoMachine}
use Rattle.logs.specs.NoMachine.{no_meaning, no_laws}
use Rattle.logs.specs.Fresh.{new_objects}
use Rattle.logs.specs.Told.{lines_told}
use Rattle.logs.specs.Written.{written}
use Rattle.logs.specs.Replays.{HoldsLines, PrintsAnswers}

pub played_back : (log out : Text) (ks : List (Option ℕ)) (cs : List (Call NoMachine)) (xs : List Answer)
    → HoldsLines (lines_told log) ks cs → RightAnswers no_meaning no_laws new_objects [] cs xs → out ≡ written xs ks → PrintsAnswers log out
played_back log out ks cs xs held right e = record {
  calls = cs;
  answers = xs;
  told_by = held.calls_are;
  right = right;
  all_right = answers_right no_meaning no_laws new_objects cs xs [] right tt;
  printed = e ∙ ap (written xs) held.numbers_are;
}
