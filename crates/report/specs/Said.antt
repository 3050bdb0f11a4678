-- What is said of a rule, as text.
use Rattle.std.specs.Prelude.{◌++◌, length, codes}
use Rattle.meaning.specs.Bytes.{Text}
use Rattle.meaning.specs.Printed.{field, fields}
use Rattle.report.specs.declared.text.Said.{Said}
use Rattle.report.specs.declared.text.Said.TheVariants.{Broken, Clear, Refused}

-- the verdict, and then states with the walk, or pairs, or the refusal's number
abbrev pub said_text : Said → Text
said_text (Broken w) = codes ",broken" ++ (field (length w.now) ++ fields w.now)
said_text (Clear n) = codes ",clear" ++ field n
said_text (Refused n) = codes ",refused" ++ field n
