-- What is counted for a sheet. Assumes nothing.
use Rattle.std.specs.Prelude.{◌↔◌, List}
use mathlib.Core.List.{Mem, Memᴰ}
use Rattle.logic.specs.Formula.{Formula, Sub}
use Rattle.logic.specs.Labels.{NoTwice}
use Rattle.texts.specs.Listed.{listed}

-- `listed fs` has the subformulas of fs, each once
pub record ListedAreTheSubformulasOnce : Type 0 where
  pub once : (fs : List Formula) → NoTwice (listed fs)
  pub all : (fs : List Formula) (g : Formula) → Mem g (listed fs) ↔ ∥ ((f : Formula) × Memᴰ f fs × Sub g f) ∥₁
