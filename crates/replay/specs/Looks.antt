-- What looking for a breach answers, whatever calls were made before. Assumes nothing.
use Rattle.std.specs.Prelude.{◌≡◌, ℕ, List, Some, Ok, Result, slice_get}
use Rattle.meaning.specs.Machines.{Meaning}
use Rattle.meaning.specs.Calls.{Machine, History}
use Rattle.meaning.specs.Histories.{meaning_of}
use Rattle.machines.specs.declared.table.Table.{Table}
use Rattle.charts.specs.declared.chart.Chart.{Chart}
use Rattle.charts.specs.Led.{ChartLed}
use Rattle.loading.specs.Led.{TableLed}
use Rattle.replay.specs.declared.answer.Answer.{Answer}
use Rattle.replay.specs.Meant.{under, searching_with}
use Rattle.replay.specs.Replayed.{RightAnswer}

-- over a machine that means m
abbrev pub Looks : Chart → Meaning → ℕ → ℕ → Answer → Type 0
Looks c m pairs walk a = (h : History) (n : ℕ) (k : Machine) → ChartLed h n c → meaning_of h k ≡ m → RightAnswer h (searching_with n pairs walk (Ok k)) a

-- under layers on a machine that means m
abbrev pub LooksUnder : Chart → Meaning → List ℕ → ℕ → ℕ → Answer → Type 0
LooksUnder c m ss pairs walk a = (h : History) (n : ℕ) (k : Machine) → ChartLed h n c → meaning_of h k ≡ m → RightAnswer h (searching_with n pairs walk (under ss (Ok k))) a

-- over a machine, or what comes in place of one
abbrev pub LooksOn : Chart → List Table → Result Machine Answer → ℕ → ℕ → Answer → Type 0
LooksOn c ts k pairs walk a = (h : History) (n : ℕ) → ChartLed h n c → ((i : ℕ) (t : Table) → slice_get ts i ≡ Some t → TableLed h i t) → RightAnswer h (searching_with n pairs walk k) a
