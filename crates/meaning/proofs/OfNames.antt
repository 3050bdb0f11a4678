-- After right answers every sheet has good names, and every chart's rule stood under good names: so a rule has one breach formula. Assumes nothing.
use Rattle.std.proofs.Common.{◌≡◌, ℕ, Bool, true, false, cond, ◌&&◌, leb, List, [], ◌∷◌, length, Some, None, Ok, Err, Option, sym, refl, ap, ◌∙◌, arith}
use mathlib.Core.Logic.{∥∥₁_elim}
use mathlib.Core.HLevel.{hedberg}
use Rattle.std.proofs.lemmas.Bool.{and_parts}
use Rattle.std.specs.List.{slice_get}
use Rattle.meaning.specs.declared.refusals.FillingFault.TheVariants.{NoRule, LabelsExceed, StandingsExceed}
use Rattle.meaning.specs.declared.refusals.NamesFault.TheVariants.{Unfit}
use Rattle.meaning.specs.declared.refusals.LineFault.TheVariants.{Names}
use Rattle.logic.specs.Formula.{Formula, same}
use Rattle.logic.specs.Rule.{negated}
use Rattle.meaning.specs.Bytes.{Text, all}
use Rattle.meaning.specs.Names.{is_name, fit, names_of}
use Rattle.meaning.specs.Written.{IsBreachFormula}
use Rattle.meaning.specs.Reading.{GoodNames}
use Rattle.meaning.specs.Files.{Line, Entry, signals, rule, state, step, Content, Rooms, formed, added_if, content_from, content, lines, nothing, SaidOfLine, AllGood}
use Rattle.meaning.specs.Calls.{Call, opening, entering, loading, filling, beginning, scanning, searching, Answer, History}
use Rattle.meaning.specs.Histories.{names_after, names, Ruled, ruled, rule_at, filled_after, filled_rule}
use Rattle.meaning.specs.Right.{Right, AllRight}
use Rattle.meaning.proofs.OfHistories.{at_keeps}
use Rattle.meaning.proofs.OfReading.{texts_mean_one_rule}

-- ---- one breach formula

pub formula_set : IsSet Formula
formula_set = hedberg same

pub one_formula : (ns : List Text) (t : Text) → GoodNames ns → (f g : Formula) → IsBreachFormula ns t f → IsBreachFormula ns t g → f ≡ g
one_formula ns t good f g x y =
    ∥∥₁_elim x (formula_set f g)
    (λ a. ∥∥₁_elim y (formula_set f g) (λ b. sym a.2 ∙ ap negated (texts_mean_one_rule ns t good a.0 b.0 a.1 b.1) ∙ b.2))

abbrev pub GoodRule : Option Ruled → Type 0
GoodRule None = Unit {0}
GoodRule (Some r) = GoodNames r.under

-- ---- good names

no_names : GoodNames []
no_names = record { are_names = refl; stand_once = refl }

fit_good : (t : Text) → fit t ≡ true → GoodNames (names_of t)
fit_good t h =
    let k = and_parts (leb 1 (length (names_of t)) && leb (length (names_of t)) 8) _ h in
    let j = and_parts (all is_name (names_of t)) _ k.1 in
    record { are_names = j.0; stand_once = j.1 }

-- lines that are all good set good names
line_good : (r : Rooms) (c : Content) (o : Option Entry) → GoodNames c.names → SaidOfLine r c o None → GoodNames (added_if c o).names
line_good r c None g h = g
line_good r c (Some (signals t)) g h = go (fit t) refl h
  where
    go : (b : Bool) → fit t ≡ b → None ≡ cond b None (Some (Names Unfit)) → GoodNames (names_of t)
    go true e k = fit_good t e
    go false e k = absurd (grind arith)
line_good r c (Some (rule t)) g h = g
line_good r c (Some (state n s a)) g h = g
line_good r c (Some (step f t)) g h = g

lines_good : (r : Rooms) (c : Content) (ls : List Line) → GoodNames c.names → AllGood r c ls → GoodNames (content_from c ls).names
lines_good r c [] g h = g
lines_good r c (l ∷ ls) g h = lines_good r (added_if c (formed c l)) ls (line_good r c (formed c l) g h.0) h.1

after_good : (h : History) (c : Call) (x : Answer c) → Right h c x → (n : ℕ) (old : List Text) → GoodNames old → GoodNames (names_after c x n old)
after_good h (opening s t) (Ok u) k n old g = at_keeps GoodNames n s (names_of t) old (fit_good t k) g
after_good h (opening s t) (Err e) k n old g = g
after_good h (entering s t) x k n old g = g
after_good h (loading s y r file) (Ok u) k n old g = at_keeps GoodNames n s (content file).names old (lines_good r nothing (lines file) no_names k) g
after_good h (loading s y r file) (Err e) k n old g = at_keeps GoodNames n s [] old no_names g
after_good h (filling c s k' a) x k n old g = g
after_good h (beginning c) x k n old g = g
after_good h (scanning c a) x k n old g = g
after_good h (searching c m p w) x k n old g = g

pub names_good : (h : History) → AllRight h → (n : ℕ) → GoodNames (names h n)
names_good [] r n = no_names
names_good (e ∷ h) r n = after_good h e.call e.answer r.0 n (names h n) (names_good h r.1 n)

ruled_good : (ns : List Text) (o : Option Text) → GoodNames ns → GoodRule (ruled ns o)
ruled_good ns None g = tt
ruled_good ns (Some t) g = g

pub rule_good : (h : History) → AllRight h → (s k : ℕ) → GoodRule (rule_at h s k)
rule_good h r s k = ruled_good (names h s) (slice_get (Rattle.meaning.specs.Histories.rules h s) k) (names_good h r s)

chart_good : (c : Call) (x : Answer c) (now : ℕ → ℕ → Option Ruled) → ((s k : ℕ) → GoodRule (now s k)) → (n : ℕ) (old : Option Ruled) → GoodRule old → GoodRule (filled_after c x now n old)
chart_good (opening s t) x now w n old g = g
chart_good (entering s t) x now w n old g = g
chart_good (loading s y r file) x now w n old g = g
chart_good (filling c s k a) (Ok x) now w n old g = at_keeps GoodRule n c (now s k) old (w s k) g
chart_good (filling c s k a) (Err NoRule) now w n old g = g
chart_good (filling c s k a) (Err LabelsExceed) now w n old g = at_keeps GoodRule n c None old tt g
chart_good (filling c s k a) (Err StandingsExceed) now w n old g = at_keeps GoodRule n c None old tt g
chart_good (beginning c) x now w n old g = g
chart_good (scanning c a) x now w n old g = g
chart_good (searching c m p w') x now w n old g = g

pub filled_good : (h : History) → AllRight h → (n : ℕ) → GoodRule (filled_rule h n)
filled_good [] r n = tt
filled_good (e ∷ h) r n = chart_good e.call e.answer (rule_at h) (rule_good h r.1) n (filled_rule h n) (filled_good h r.1 n)
