-- A wrong word, in the words of writing. Assumes nothing.
use Rattle.std.specs.Prelude.{◌≡◌, ℕ, ◌-◌, ◌<◌, ◌≤◌, List, ◌++◌, length, take, None, Err}
use Rattle.meaning.specs.declared.refusals.RuleFault.TheVariants.{WrongWord}
use Rattle.texts.specs.Places.{length_to}
use Rattle.texts.specs.Words.{word_of}
use Rattle.logic.specs.Rule.{Rule}
use Rattle.meaning.specs.Bytes.{Text}
use Rattle.meaning.specs.Written.{written, depth, Named}
use Rattle.texts.specs.Parse.{parse}

-- u begins the writing of some rule of at most d operators one below another
pub record Begins (ns : List Text) (d : ℕ) (u : Text) : Type 0 where
  pub more : Text
  pub rule : Rule
  pub is : u ++ more ≡ written ns rule
  pub flat : depth rule ≤ d
  pub names : Named (length ns) rule

-- what stands before place p begins a rule, and the word at p is none
pub record WrongAt (ns : List Text) (total d : ℕ) (w : Text) (p : ℕ) : Type 0 where
  pub before : Text
  pub rest : Text
  pub is : w ≡ before ++ rest
  pub place : p ≡ total - length rest
  pub some : 0 < length rest
  pub wrong : word_of ns (take (length_to 32 rest) rest) ≡ None
  pub begins : Begins ns d before

-- where a wrong word is told, what stands before it begins a rule
abbrev pub WrongWordsFollowABeginning : Type 0
WrongWordsFollowABeginning = (ns : List Text) (total d : ℕ) (w : Text) (p : ℕ) → parse ns total d w ≡ Err (WrongWord p) → WrongAt ns total d w p
