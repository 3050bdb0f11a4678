-- What entering a text answers. Assumes nothing.
use Rattle.std.specs.Prelude.{ℕ, ◌-◌, Bool, cond, ◌||◌, List, [], ◌∷◌, length, Ok, Err, Result, nat_lt}
use Rattle.logic.specs.Formula.{Formula}
use Rattle.logic.specs.Labels.{kept}
use Rattle.meaning.specs.declared.refusals.RuleFault.{RuleFault}
use Rattle.meaning.specs.declared.refusals.RuleFault.TheVariants.{BytesFollow}
use Rattle.meaning.specs.declared.refusals.SheetFault.{SheetFault}
use Rattle.meaning.specs.declared.refusals.SheetFault.TheVariants as S
use Rattle.logic.specs.Rule.{Rule, negated}
use Rattle.meaning.specs.Bytes.{Text}
use Rattle.texts.specs.Parse.{Parsed, parse}
use Rattle.texts.specs.Listed.{added}

-- nothing may follow a whole formula
abbrev pub ended : ℕ → Parsed → Result Rule RuleFault
ended total (Err e) = Err e
ended total (Ok (r, [])) = Ok r
ended total (Ok (r, b ∷ bs)) = Err (BytesFollow (total - length (b ∷ bs)))

-- the rule that a text writes under the names ns
abbrev pub read_rule : List Text → Text → Result Rule RuleFault
read_rule ns text = ended (length text) (parse ns (length text) 32 text)

-- f is refused where the rules are full, or the formulas with those of gs are over 256, or over 32 are kept of it
abbrev pub judge : Bool → List Formula → Formula → Result Formula SheetFault
judge full gs f = cond (full || nat_lt 256 (length (added gs f))) (Err S.SheetFull) (cond (nat_lt 32 (length (kept f))) (Err S.OverKept) (Ok f))

-- what a rule's negated reading is judged to be; a fault of its text goes first
abbrev pub judge_rule : Bool → List Formula → Result Rule RuleFault → Result Formula SheetFault
judge_rule full gs (Err e) = Err (S.Rule e)
judge_rule full gs (Ok r) = judge full gs (negated r)

-- the breach formula of a text, or why it is refused
unfoldable pub judged : List Text → Bool → List Formula → Text → Result Formula SheetFault
judged ns full gs text = judge_rule full gs (read_rule ns text)
