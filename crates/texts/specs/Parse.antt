-- Reading a rule text from the left. Assumes nothing.
use Rattle.std.specs.Prelude.{ℕ, zero, suc, List, drop, Ok, Err, Result}
use Rattle.texts.specs.declared.words.Unary.{Unary}
use Rattle.texts.specs.declared.words.Binary.{Binary}
use Rattle.texts.specs.declared.words.Word.{Word}
use Rattle.texts.specs.declared.words.Word.TheVariants.{Zero, One, Two}
use Rattle.meaning.specs.declared.refusals.RuleFault.{RuleFault}
use Rattle.meaning.specs.declared.refusals.RuleFault.TheVariants.{TooDeep}
use Rattle.texts.specs.Words.{heads}
use Rattle.logic.specs.Rule.{Rule}
use Rattle.meaning.specs.Bytes.{Text}
use Rattle.texts.specs.Shapes.{leaf, unary, binary}

-- a rule and the bytes that follow it, or the first fault
abbrev pub Parsed : Type 0
Parsed = Result (Rule × Text) RuleFault

-- what is read behind an operator of one operand
abbrev pub unary_parsed : Unary → Parsed → Parsed
unary_parsed o (Ok x) = Ok (unary o x.0, x.1)
unary_parsed o (Err e) = Err e

-- what is read behind the first operand of an operator with two
abbrev pub binary_parsed : Binary → Rule → Parsed → Parsed
binary_parsed o f (Ok x) = Ok (binary o f x.0, x.1)
binary_parsed o f (Err e) = Err e

-- the second operand stands behind the first and one space
abbrev pub operands_parsed : Binary → (Text → Parsed) → Parsed → Parsed
operands_parsed o p (Ok x) = binary_parsed o x.0 (p (drop 1 x.1))
operands_parsed o p (Err e) = Err e

-- what is read behind a word, with p reading each of its operands
abbrev pub word_parsed : (Text → Parsed) → Result (Word × Text) RuleFault → Parsed
word_parsed p (Err e) = Err e
word_parsed p (Ok (Zero l, after)) = Ok (leaf l, after)
word_parsed p (Ok (One o, after)) = unary_parsed o (p after)
word_parsed p (Ok (Two o, after)) = operands_parsed o p (p after)

-- the rule that w begins with, of at most d operators one below another, and what follows it
unfoldable pub parse : List Text → ℕ → ℕ → Text → Parsed
parse ns total zero w = word_parsed (λ _. Err (TooDeep total)) (heads ns total 0 w)
parse ns total (suc d) w = word_parsed (parse ns total d) (heads ns total (suc d) w)
