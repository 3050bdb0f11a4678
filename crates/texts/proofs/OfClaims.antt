-- What entering means, in the words of rules and their writing.
use Rattle.std.proofs.Common.{◌≡◌, ℕ, ◌≤◌, Bool, true, false, cond, ltb, List, [], ◌∷◌, ◌++◌, length, Ok, Err, sym, refl, ap, ◌∙◌, subst, append-nil, arith, length-append}
use Rattle.std.proofs.lemmas.Bool.Decides.{nat_tests}
use Rattle.logic.specs.Formula.{Formula}
use Rattle.logic.specs.Labels.{kept}
use Rattle.meaning.specs.declared.refusals.SheetFault.TheVariants as S
use Rattle.logic.specs.Rule.{Rule, negated}
use Rattle.meaning.specs.Written.{written, Means}
use Rattle.texts.specs.Parse.{Parsed, parse}
use Rattle.texts.specs.Fit.{Fit}
use Rattle.texts.specs.Listed.{added}
use Rattle.texts.specs.Judged.{ended, judge, judge_rule, judged}
use Rattle.texts.specs.Claims.{AcceptedTextsMeanRules, RulesWithRoomAreAccepted, Over256FormulasAreRefused, Over32KeptAreRefused, BytesBehindARuleAreRefused}
use Rattle.texts.proofs.OfJudged.{judged_whole, judge_over, judge_kept, judge_ok, judged_follow}
use Rattle.texts.proofs.OfWriting.{what_is_read_is_written, what_is_written_is_read}
use Rattle.texts.proofs.OfParse.{no_ok}

judge_says : (full : Bool) (gs : List Formula) (g f : Formula) → judge full gs g ≡ Ok f → (f ≡ g) × (full ≡ false) × (length (added gs g) ≤ 256) × (length (kept g) ≤ 32)
judge_says true gs g f e = no_ok f S.SheetFull e
judge_says false gs g f e = go (ltb 256 (length (added gs g))) refl (ltb 32 (length (kept g))) refl e
  where
    go : (t : Bool) → ltb 256 (length (added gs g)) ≡ t → (u : Bool) → ltb 32 (length (kept g)) ≡ u → cond t (Err S.SheetFull) (cond u (Err S.OverKept) (Ok g)) ≡ Ok f
        → (f ≡ g) × (false ≡ false) × (length (added gs g) ≤ 256) × (length (kept g) ≤ 32)
    go true p u q e = no_ok f S.SheetFull e
    go false p true q e = no_ok f S.OverKept e
    go false p false q e = let i : f ≡ g = cc in (i, refl, grind (arith, nat_tests), grind (arith, nat_tests))

pub accepted_texts_mean_rules : AcceptedTextsMeanRules
unfolding judged
accepted_texts_mean_rules ns full gs text f e = go (parse ns (length text) 32 text) refl e
  where
    go : (p : Parsed) → parse ns (length text) 32 text ≡ p → judge_rule full gs (ended (length text) p) ≡ Ok f
        → (r : Rule) × Means ns text r × (f ≡ negated r) × (full ≡ false) × (length (added gs f) ≤ 256) × (length (kept f) ≤ 32)
    go (Err y) q e = no_ok f (S.Rule y) e
    go (Ok (r, [])) q e =
        let s = what_is_read_is_written ns (length text) 32 text r [] q in
        let j = judge_says full gs (negated r) f e in (
          r,
          record { writes = s.0 ∙ append-nil (written ns r); shallow = s.1; named = s.2 },
          j.0,
          j.1,
          subst (λ (x : Formula). length (added gs x) ≤ 256) (sym j.0) j.2,
          subst (λ (x : Formula). length (kept x) ≤ 32) (sym j.0) j.3,
        )
    go (Ok (r, b ∷ bs)) q e = no_ok f _ e

whole : (ns : List (List ℕ)) → Fit ns → (full : Bool) (gs : List Formula) (text : List ℕ) (r : Rule) → Means ns text r → judged ns full gs text ≡ judge full gs (negated r)
whole ns f full gs text r w =
    judged_whole ns full gs text r [] (ap (parse ns (length text) 32) (w.writes ∙ sym (append-nil (written ns r))) ∙ what_is_written_is_read ns f (length text) 32 r [] w.named w.shallow tt) refl

pub rules_with_room_are_accepted : RulesWithRoomAreAccepted
rules_with_room_are_accepted ns f gs text r w a k = whole ns f false gs text r w ∙ judge_ok ns false gs text (negated r) refl a k

pub over_256_formulas_are_refused : Over256FormulasAreRefused
over_256_formulas_are_refused ns f full gs text r w a = whole ns f full gs text r w ∙ judge_over ns full gs text full (negated r) a

pub over_32_kept_are_refused : Over32KeptAreRefused
over_32_kept_are_refused ns f gs text r w a k = whole ns f false gs text r w ∙ judge_kept ns false gs text (negated r) refl a k

pub bytes_behind_a_rule_are_refused : BytesBehindARuleAreRefused
bytes_behind_a_rule_are_refused ns f full gs u r rest w h e =
    let l = length-append u rest in
    judged_follow ns full gs (u ++ rest) r rest (length u) (ap (λ (v : List ℕ). parse ns (length (u ++ rest)) 32 (v ++ rest)) w.writes ∙ what_is_written_is_read ns f (length (u ++ rest)) 32 r rest w.named w.shallow e) (λ z. absurd (omega arith)) (omega arith)
