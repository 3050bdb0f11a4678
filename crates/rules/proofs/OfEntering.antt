-- The exits of reading a rule text into the store.
use Rattle.std.proofs.Common.{◌≡◌, ℕ, ◌-◌, ◌<◌, ◌≤◌, Bool, true, false, List, length, get_or, Some, None, Ok, Err, Option, Result, sym, ◌∙◌, subst, arith}
use Rattle.logic.specs.Formula.{Formula, tru}
use Rattle.logic.specs.Labels.{kept}
use Rattle.logic.specs.Rule.{negated}
use Rattle.formulas.specs.declared.node.Node.{Node}
use Rattle.meaning.specs.declared.refusals.RuleFault.{RuleFault}
use Rattle.meaning.specs.declared.refusals.RuleFault.TheVariants.{BytesFollow}
use Rattle.meaning.specs.declared.refusals.SheetFault.{SheetFault}
use Rattle.meaning.specs.declared.refusals.SheetFault.TheVariants as S
use Rattle.texts.specs.Parse.{parse}
use Rattle.texts.specs.Listed.{added, StandsAt}
use Rattle.texts.specs.Judged.{judged}
use Rattle.texts.proofs.OfJudged.{judged_err, judged_follow, judged_whole, judge_over, judge_full, judge_kept, judge_ok}
use Rattle.rules.specs.Nodes.{Means}
use Rattle.rules.specs.Readings.{Outcome}
use Rattle.rules.specs.Entering.{ReadsBreach}
use Rattle.rules.proofs.OfReading.{ReadOk}

module _ (ns : List (List ℕ)) (full : Bool) (gs : List Formula) (text : List ℕ) where
  pub exit_follow : (nodes : List Node) (k : Option ℕ) (rest : List ℕ) (p : ℕ) → ReadOk negated ns (length text) 32 text gs nodes k rest → (length rest ≡ 0 → ⊥) → p ≡ length text - length rest
      → judged ns full gs text ≡ Err (S.Rule (BytesFollow p))
  exit_follow nodes k rest p q n e = judged_follow ns full gs text q.0 rest p q.1 n e

  pub exit_full : (nodes : List Node) (k : Option ℕ) (rest : List ℕ) → ReadOk negated ns (length text) 32 text gs nodes k rest → length rest ≡ 0 → full ≡ true → judged ns full gs text ≡ Err S.SheetFull
  exit_full nodes k rest q n e = judged_whole ns full gs text q.0 rest q.1 n ∙ judge_full ns full gs text (negated q.0) e

  pub exit_over : (nodes : List Node) (k : Option ℕ) (rest : List ℕ) → ReadOk negated ns (length text) 32 text gs nodes k rest → length rest ≡ 0 → k ≡ None → judged ns full gs text ≡ Err S.SheetFull
  exit_over nodes k rest q n e =
      let o = subst (λ (x : Option ℕ). Outcome gs (negated q.0) x nodes) e q.2 in
      judged_whole ns full gs text q.0 rest q.1 n ∙ judge_over ns full gs text full (negated q.0) o.1

  taken : (nodes : List Node) (i : ℕ) (k : Option ℕ) (rest : List ℕ) (q : ReadOk negated ns (length text) 32 text gs nodes k rest) → k ≡ Some i → Means nodes (added gs (negated q.0)) × StandsAt (added gs (negated q.0)) (negated q.0) i
  taken nodes i k rest q e = subst (λ (x : Option ℕ). Outcome gs (negated q.0) x nodes) e q.2

  pub exit_kept : (nodes : List Node) (i : ℕ) (k : Option ℕ) (rest : List ℕ) → ReadOk negated ns (length text) 32 text gs nodes k rest → length rest ≡ 0 → k ≡ Some i → full ≡ false → length nodes ≤ 256
      → ((hs : List Formula) → Means nodes hs → 32 < length (kept (get_or hs i tru))) → judged ns full gs text ≡ Err S.OverKept
  exit_kept nodes i k rest q n e f c few =
      let o = taken nodes i k rest q e in
      let s = o.0.size in
      let w = few (added gs (negated q.0)) o.0 in
      judged_whole ns full gs text q.0 rest q.1 n ∙ judge_kept ns full gs text (negated q.0) f (omega arith) (subst (λ (x : Formula). 32 < length (kept x)) o.1.1 w)

  pub exit_ok : (nodes : List Node) (i : ℕ) (k : Option ℕ) (rest : List ℕ) → ReadOk negated ns (length text) 32 text gs nodes k rest → length rest ≡ 0 → k ≡ Some i → full ≡ false → length nodes ≤ 256
      → ((hs : List Formula) → Means nodes hs → length (kept (get_or hs i tru)) ≤ 32) → ReadsBreach ns full gs text nodes (Ok i)
  exit_ok nodes i k rest q n e f c few =
      let o = taken nodes i k rest q e in
      let s = o.0.size in
      let w = few (added gs (negated q.0)) o.0 in
      (negated q.0, judged_whole ns full gs text q.0 rest q.1 n ∙ judge_ok ns full gs text (negated q.0) f (omega arith) (subst (λ (x : Formula). length (kept x) ≤ 32) o.1.1 w), o.0, o.1)

  pub reads_err : (nodes : List Node) (r : Result ℕ SheetFault) (y : SheetFault) → r ≡ Err y → judged ns full gs text ≡ Err y → ReadsBreach ns full gs text nodes r
  reads_err nodes r y e p = subst (ReadsBreach ns full gs text nodes) (sym e) p

  pub reads_rule : (nodes : List Node) (r : Result ℕ SheetFault) (e : RuleFault) → r ≡ Err (S.Rule e) → parse ns (length text) 32 text ≡ Err e → ReadsBreach ns full gs text nodes r
  reads_rule nodes r e q p = reads_err nodes r (S.Rule e) q (judged_err ns full gs text e p)
