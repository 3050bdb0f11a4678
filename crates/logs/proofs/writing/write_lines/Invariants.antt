use Rattle.std.proofs.Common.{◌≡◌, string_bytes, take}
use Rattle.logs.specs.Written.{written}
use Rattle.logs.proofs.writing.write_lines.Given as goal

abbrev pub invariant-loop-number : goal.invariant-loop-number
invariant-loop-number l = string_bytes l.text ≡ written l.answers (take l.number-index l.numbers)
