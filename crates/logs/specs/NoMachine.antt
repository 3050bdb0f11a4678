-- The machine without states. Assumes nothing.
use Rattle.std.proofs.Common.{arith}
use Rattle.meaning.specs.Machines.{Meaning, Lawful}
use Rattle.meaning.specs.Kinds.{no_machine}
use Rattle.logs.specs.declared.machine.NoMachine.{NoMachine}

-- it means the machine without states
abbrev pub no_meaning : NoMachine → Meaning
no_meaning m = no_machine

-- that keeps the laws
pub no_laws : (m : NoMachine) → Lawful (no_meaning m)
no_laws m = record {
  starts_below = tt;
  starts_once = tt;
  steps_below = λ s l. tt;
  steps_few = λ s l. omega arith;
  letters_small = λ s l. omega arith;
  width_small = omega arith;
}
