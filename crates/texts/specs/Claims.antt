-- What entering means, in the words of rules and their writing. Assumes nothing.
use Rattle.std.specs.Prelude.{◌≡◌, ◌<◌, ◌≤◌, Bool, false, List, ◌++◌, length, Ok, Err}
use Rattle.logic.specs.Formula.{Formula}
use Rattle.logic.specs.Labels.{kept}
use Rattle.meaning.specs.declared.refusals.SheetFault.TheVariants as S
use Rattle.meaning.specs.declared.refusals.RuleFault.TheVariants.{BytesFollow}
use Rattle.logic.specs.Rule.{Rule, negated}
use Rattle.meaning.specs.Bytes.{Text}
use Rattle.meaning.specs.Written.{Means}
use Rattle.texts.specs.Fit.{Fit, Ends}
use Rattle.texts.specs.Listed.{added}
use Rattle.texts.specs.Judged.{judged}

-- a text that is taken means a rule, there is room, and at most 32 formulas are kept; what is taken is the rule's negated reading
abbrev pub AcceptedTextsMeanRules : Type 0
AcceptedTextsMeanRules = (ns : List Text) (full : Bool) (gs : List Formula) (text : Text) (f : Formula) → judged ns full gs text ≡ Ok f
    → (r : Rule) × Means ns text r × (f ≡ negated r) × (full ≡ false) × (length (added gs f) ≤ 256) × (length (kept f) ≤ 32)

-- a text that means a rule is taken where there is room and at most 32 formulas are kept
abbrev pub RulesWithRoomAreAccepted : Type 0
RulesWithRoomAreAccepted = (ns : List Text) → Fit ns → (gs : List Formula) (text : Text) (r : Rule) → Means ns text r → length (added gs (negated r)) ≤ 256 → length (kept (negated r)) ≤ 32
    → judged ns false gs text ≡ Ok (negated r)

-- 7 is answered to a text that means a rule, where its formulas and those of before are over 256
abbrev pub Over256FormulasAreRefused : Type 0
Over256FormulasAreRefused = (ns : List Text) → Fit ns → (full : Bool) (gs : List Formula) (text : Text) (r : Rule) → Means ns text r → 256 < length (added gs (negated r)) → judged ns full gs text ≡ Err S.SheetFull

-- 6 is answered to a text that means a rule, where there is room and over 32 formulas are kept
abbrev pub Over32KeptAreRefused : Type 0
Over32KeptAreRefused = (ns : List Text) → Fit ns → (gs : List Formula) (text : Text) (r : Rule) → Means ns text r → length (added gs (negated r)) ≤ 256 → 32 < length (kept (negated r)) → judged ns false gs text ≡ Err S.OverKept

-- 4: bytes follow a whole formula, which begins the text
abbrev pub BytesBehindARuleAreRefused : Type 0
BytesBehindARuleAreRefused = (ns : List Text) → Fit ns → (full : Bool) (gs : List Formula) (u : Text) (r : Rule) (rest : Text) → Means ns u r → 0 < length rest → Ends rest → judged ns full gs (u ++ rest) ≡ Err (S.Rule (BytesFollow (length u)))
