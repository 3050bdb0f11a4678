-- What an exploration by a reader answers, and what that says of the rule that the reader reads. Assumes nothing.
use Rattle.std.specs.Prelude.{◌≡◌, ℕ, ◌≤◌, true, ◌↔◌, List, length, take, drop, Ok, Err, Result}
use Rattle.logic.specs.Formula.{Formula, Letters}
use Rattle.logic.specs.Witness.{Breach as BreachOf}
use Rattle.meaning.specs.declared.answers.Verdict.{Verdict}
use Rattle.meaning.specs.declared.answers.Verdict.TheVariants.{Shown, Clear}
use Rattle.meaning.specs.declared.refusals.SearchingFault.{SearchingFault}
use Rattle.meaning.specs.declared.refusals.SearchingFault.TheVariants.{Blank, NoStart, ManyStates, ShortWalkArea, PairsExceed}
use Rattle.meaning.specs.Charts.{SameStanding}
use Rattle.meaning.specs.Machines.{Meaning}
use Rattle.pairs.specs.Readers.{Reader, after, Shortest, Fit, Shorter, Pairs, AnyWalk, Breach, Showable, Clearable}

-- the walk area before and after: the first k entries are the walk, the rest stays
pub record Shows (m : Meaning) (r : Reader) (room : ℕ) (before after : List ℕ) (k : ℕ) : Type 0 where
  pub within : k ≤ length after
  pub shortest : Shortest m r (take k after)
  pub fit : Fit m r room (Shorter k)
  pub rest : drop k after ≡ drop k before

-- no walk is a breach, and the pairs of all walks are n and fit; the walk area stays
pub record Clears (m : Meaning) (r : Reader) (room : ℕ) (before after : List ℕ) (n : ℕ) : Type 0 where
  pub none : (ys : List ℕ) → Breach m r ys → ⊥
  pub few : n ≤ room
  pub pairs : Pairs m r AnyWalk n
  pub stays : after ≡ before

-- neither is to be shown nor to be cleared; the walk area stays
pub record Exceeds (m : Meaning) (r : Reader) (room : ℕ) (before after : List ℕ) : Type 0 where
  pub no_walk : Showable m r room → ⊥
  pub no_clear : Clearable m r room → ⊥
  pub stays : after ≡ before

-- an exploration that nothing refuses before it looks
abbrev pub Answers : Meaning → Reader → ℕ → List ℕ → List ℕ → Result Verdict SearchingFault → Type 0
Answers m r room before after (Ok (Shown k)) = Shows m r room before after k
Answers m r room before after (Ok (Clear n)) = Clears m r room before after n
Answers m r room before after (Err PairsExceed) = Exceeds m r room before after
Answers m r room before after (Err Blank) = ⊥
Answers m r room before after (Err NoStart) = ⊥
Answers m r room before after (Err ManyStates) = ⊥
Answers m r room before after (Err ShortWalkArea) = ⊥

-- the reader says breach for exactly the breaches of f, and two words lead to one number exactly if they have the same standing
pub record Reads (f : Formula) (r : Reader) : Type 0 where
  pub says : (u : List ℕ) → Letters u → (r.says (after r u) ≡ true) ↔ BreachOf f u
  pub standings : (u v : List ℕ) → Letters u → Letters v → (after r u ≡ after r v) ↔ SameStanding f u v
