-- What entering a text comes to, by cases.
use Rattle.std.proofs.Common.{◌≡◌, ℕ, ◌-◌, ◌<◌, ◌≤◌, Bool, true, false, List, [], ◌∷◌, length, Ok, Err, refl, arith}
use Rattle.logic.specs.Formula.{Formula}
use Rattle.logic.specs.Labels.{kept}
use Rattle.meaning.specs.declared.refusals.RuleFault.{RuleFault}
use Rattle.meaning.specs.declared.refusals.RuleFault.TheVariants.{BytesFollow}
use Rattle.meaning.specs.declared.refusals.SheetFault.TheVariants as S
use Rattle.logic.specs.Rule.{Rule, negated}
use Rattle.texts.specs.Parse.{parse}
use Rattle.texts.specs.Listed.{added}
use Rattle.texts.specs.Judged.{judge, judged}
use Rattle.std.proofs.lemmas.Bool.{lt-ltb, le-ltb}

module _ (ns : List (List ℕ)) (full : Bool) (gs : List Formula) (text : List ℕ) where
  pub judged_err : (e : RuleFault) → parse ns (length text) 32 text ≡ Err e → judged ns full gs text ≡ Err (S.Rule e)
  unfolding judged
  judged_err e p = rw p

  pub judged_follow : (r : Rule) (rest : List ℕ) (p : ℕ) → parse ns (length text) 32 text ≡ Ok (r, rest) → (length rest ≡ 0 → ⊥) → p ≡ length text - length rest → judged ns full gs text ≡ Err (S.Rule (BytesFollow p))
  unfolding judged
  judged_follow r [] p e n q = absurd (n refl)
  judged_follow r (b ∷ bs) p e n q = rw (e, q)

  pub judged_whole : (r : Rule) (rest : List ℕ) → parse ns (length text) 32 text ≡ Ok (r, rest) → length rest ≡ 0 → judged ns full gs text ≡ judge full gs (negated r)
  unfolding judged
  judged_whole r [] e n = rw e
  judged_whole r (b ∷ bs) e n = absurd (omega arith)

  pub judge_over : (b : Bool) (f : Formula) → 256 < length (added gs f) → judge b gs f ≡ Err S.SheetFull
  judge_over true f h = refl
  judge_over false f h = let t = lt-ltb 256 (length (added gs f)) h in rw t

  pub judge_full : (f : Formula) → full ≡ true → judge full gs f ≡ Err S.SheetFull
  judge_full f e = rw e

  pub judge_kept : (f : Formula) → full ≡ false → length (added gs f) ≤ 256 → 32 < length (kept f) → judge full gs f ≡ Err S.OverKept
  judge_kept f e h k = let s = le-ltb 256 (length (added gs f)) h in let t = lt-ltb 32 (length (kept f)) k in rw (e, s, t)

  pub judge_ok : (f : Formula) → full ≡ false → length (added gs f) ≤ 256 → length (kept f) ≤ 32 → judge full gs f ≡ Ok f
  judge_ok f e h k = let s = le-ltb 256 (length (added gs f)) h in let t = le-ltb 32 (length (kept f)) k in rw (e, s, t)
