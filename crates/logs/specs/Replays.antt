-- What is printed for a log. Assumes nothing.
use Rattle.std.specs.Prelude.{◌≡◌, ℕ, List, [], map, Option}
use Rattle.meaning.specs.Bytes.{Text}
use Rattle.meaning.specs.Right.{AllRight}
use Rattle.replay.specs.declared.call.Call.{Call}
use Rattle.replay.specs.declared.answer.Answer.{Answer}
use Rattle.replay.specs.Replayed.{RightAnswers, history}
use Rattle.logs.specs.declared.machine.NoMachine.{NoMachine}
use Rattle.logs.specs.NoMachine.{no_meaning, no_laws}
use Rattle.logs.specs.Fresh.{new_objects}
use Rattle.logs.specs.Told.{Told, told, lines_told, calls_told, numbers}
use Rattle.logs.specs.Written.{written}

-- the calls that the lines tell are made on new objects, each is answered rightly after those before it, so that their history has right answers alone,
-- and each line has its answer printed
pub record PrintsAnswers (log out : Text) : Type 0 where
  pub calls : List (Call NoMachine)
  pub answers : List Answer
  pub told_by : map told calls ≡ calls_told (lines_told log)
  pub right : RightAnswers no_meaning no_laws new_objects [] calls answers
  pub all_right : AllRight (history no_meaning no_laws new_objects calls answers [])
  pub printed : out ≡ written answers (numbers 0 (lines_told log))

-- a log as it is read: the calls, and for each line the number of its call
pub record HoldsLines (ts : List (Option Told)) (ks : List (Option ℕ)) (cs : List (Call NoMachine)) : Type 0 where
  pub calls_are : map told cs ≡ calls_told ts
  pub numbers_are : ks ≡ numbers 0 ts
