-- What is printed for a log: a line for each of its lines. Assumes nothing.
use Rattle.std.specs.Prelude.{ℕ, List, ◌++◌, Some, None, Option, codes, slice_get}
use Rattle.std.specs.List.{flat_map}
use Rattle.meaning.specs.Bytes.{Text}
use Rattle.replay.specs.declared.answer.Answer.{Answer}
use Rattle.replay.specs.AnswerText.{answer_text}

-- the answer, or that the line is of no form
abbrev pub said : Option Answer → Text
said None = codes "no form"
said (Some a) = answer_text a

-- the answer to a line by the number of its call
abbrev pub answer_to : Option ℕ → List Answer → Option Answer
answer_to None xs = None
answer_to (Some k) xs = slice_get xs k

-- what is said of a line by the number of its call
abbrev pub answer_line : List Answer → Option ℕ → Text
answer_line xs k = said (answer_to k xs) ++ codes "\n"

-- a line for each line of the log
abbrev pub written : List Answer → List (Option ℕ) → Text
written xs ks = flat_map (answer_line xs) ks
