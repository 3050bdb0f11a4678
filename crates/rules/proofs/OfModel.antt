-- A sheet and what it stands for.
use Rattle.std.proofs.Common.{◌≡◌, ℕ, ◌<◌, ◌≤◌, Bool, leb, List, [], ◌∷◌, ◌++◌, length, get_or, Some, None, Ok, Option, sym, refl, ap, ◌∙◌, subst, inl, inr, arith, length-append, MatchOption, Decides}
use mathlib.Core.Logic.{∥∥₁_map}
use lib.ListN.{get_or-append}
use Rattle.logic.specs.Formula.{Formula, tru}
use Rattle.formulas.specs.declared.node.Node.{Node}
use Rattle.formulas.specs.declared.breach.BreachFormula.{BreachFormula}
use Rattle.std.proofs.lemmas.Bool.Decides.{nat_tests}
use Rattle.fixed.specs.Held.{held}
use Rattle.formulas.specs.Nodes.{formula}
use Rattle.formulas.specs.Marks.{ManyKept}
use Rattle.meaning.specs.Bytes.{Text}
use Rattle.texts.specs.Fit.{Fit}
use Rattle.texts.specs.Judged.{judged}
use Rattle.texts.specs.Listed.{added, listed, StandsAt}
use Rattle.texts.proofs.OfEntered.{breach_formulas_more, judging_answers_rightly}
use Rattle.texts.proofs.OfListed.{listed_more, stands_after}
use Rattle.texts.proofs.OfNames.{lt_or_eq}
use Rattle.rules.specs.declared.names.Names.{Names}
use Rattle.rules.specs.declared.sheet.Sheet.{Sheet}
use Rattle.rules.specs.Names.{names_held}
use Rattle.rules.specs.Nodes.{Means}
use Rattle.rules.specs.Stored.{nodes_held}
use Rattle.rules.specs.Kept.{BreachAt}
use Rattle.rules.specs.Entering.{ReadsBreach}
use Rattle.rules.specs.Stands.{PartsStand, SomeRules}
use Rattle.rules.specs.Model.{Stands, Asked}
use Rattle.rules.proofs.OfKept.{stored_formula, store_topological}
use Rattle.rules.proofs.OfNodes.{last_is, push_each}

-- an accepted text is one more rule
pub one_more_rule : (names : Names) (nodes nodes' : List Node) (roots : List ℕ) (root : ℕ) (ns : List Text) (fs : List Formula) (text : Text) → PartsStand names nodes roots ns fs
    → ((gs : List Formula) → Means nodes gs → ReadsBreach (names_held names) (leb 16 (length roots)) gs text nodes' (Ok root))
    → (f : Formula) × (judged ns (leb 16 (length fs)) (listed fs) text ≡ Ok f) × PartsStand names nodes' (roots ++ (root ∷ [])) ns (fs ++ (f ∷ []))
one_more_rule names nodes nodes' roots root ns fs text st took =
    let t = took (listed fs) st.means in
    let f = t.0 in
    let n = st.count_is in
    let l = listed_more [] fs f in
    let w = length-append fs (f ∷ []) in
    let v = length-append roots (root ∷ []) in
    let gs = fs ++ (f ∷ []) in
    let roots' = roots ++ (root ∷ []) in
    let j : judged ns (leb 16 (length fs)) (listed fs) text ≡ Ok f = ap (λ (v : List Text). judged v (leb 16 (length fs)) (listed fs) text) (sym st.named) ∙ ap (λ (v : ℕ). judged (names_held names) (leb 16 v) (listed fs) text) n ∙ t.1 in (
      f,
      j,
      record {
        named = st.named;
        fit = st.fit;
        means = subst (λ (v : List Formula). Means nodes' v) (sym l) t.2;
        count_is = omega arith;
        rooted = λ i h. elim (lt_or_eq i (length fs) (omega arith)) [
          | inl g ↦
              (let b : StandsAt (added (listed fs) f) (get_or fs i tru) (get_or roots i 0) = stands_after (get_or fs i tru) f (listed fs) (get_or roots i 0) (st.rooted i g) in
              stands_so gs roots' (listed gs) (added (listed fs) f) i (get_or fs i tru) (get_or roots i 0) l (get_or-append fs (f ∷ []) tru i g) (get_or-append roots (root ∷ []) 0 i (omega arith)) b)
          | inr g ↦
              stands_so gs roots' (listed gs) (added (listed fs) f) i f root l (ap (λ (v : ℕ). get_or gs v tru) g ∙ last_is fs f tru) (ap (λ (v : ℕ). get_or roots' v 0) (g ∙ n) ∙ last_is roots root 0) t.3
        ];
      },
    )
  where
    stands_so : (gs : List Formula) (rs : List ℕ) (hs hs' : List Formula) (i : ℕ) (f : Formula) (r : ℕ) → hs ≡ hs' → get_or gs i tru ≡ f → get_or rs i 0 ≡ r → StandsAt hs' f r → StandsAt hs (get_or gs i tru) (get_or rs i 0)
    stands_so gs rs hs hs' i f r e p q s = rw (e, p, q) s

-- so there are still texts that the sheet stands for
pub some_rules_more : (names : Names) (nodes nodes' : List Node) (roots : List ℕ) (root : ℕ) (text : Text) → SomeRules names nodes roots
    → ((gs : List Formula) → Means nodes gs → ReadsBreach (names_held names) (leb 16 (length roots)) gs text nodes' (Ok root)) → SomeRules names nodes' (roots ++ (root ∷ []))
some_rules_more names nodes nodes' roots root text some took = ∥∥₁_map some (λ x.
    let p = one_more_rule names nodes nodes' roots root x.0 x.2 text x.3 took in
    (x.0, x.1 ++ (text ∷ []), x.2 ++ (p.0 ∷ []), p.2, breach_formulas_more x.0 x.1 x.2 text p.0 x.4 (judging_answers_rightly.breach x.0 _ _ text p.0 p.1)))

-- names and no rules
pub stands_blank : (names : Names) (nodes : List Node) (roots : List ℕ) → Fit (names_held names) → nodes ≡ [] → roots ≡ [] → PartsStand names nodes roots (names_held names) []
stands_blank names [] [] f n r = record {
  named = refl;
  fit = f;
  means = record { size = refl; at = λ i d h. absurd (omega arith); before = λ i d h. absurd (omega arith); differ = λ i j h k q. absurd (omega arith) };
  count_is = refl;
  rooted = λ i h. absurd (omega arith);
}
stands_blank names (x ∷ nodes) roots f n r = absurd (let e = ap length n in omega arith)
stands_blank names [] (x ∷ roots) f n r = absurd (let e = ap length r in omega arith)

-- what holds of the roots so far and of the next holds of all of them
pub pushed_roots : (P : ℕ → Type 0) (roots roots' : List ℕ) (root : ℕ) → roots' ≡ roots ++ (root ∷ []) → ((i : ℕ) → i < length roots → P (get_or roots i 0)) → P root → (i : ℕ) → i < length roots' → P (get_or roots' i 0)
pushed_roots P roots roots' root e each p = subst (λ (rs : List ℕ). (i : ℕ) → i < length rs → P (get_or rs i 0)) (sym e) (push_each (λ _ r. P r) roots root 0 each p)

-- there is no room for a further rule
pub full_is : (n : ℕ) (b : Bool) → Decides b (n ≡ 16) → n ≤ 16 → b ≡ leb 16 n
full_is n b d h = grind (arith, nat_tests)

-- the breach formula of a rule is the one that the sheet stands for
pub asked : (s : Sheet) (rule : ℕ) (ns : List Text) (fs : List Formula) (r : Option BreachFormula) → rule < length (held s.roots) → Stands s ns fs
    → MatchOption r (ManyKept (nodes_held s.store) (get_or (held s.roots) rule 0)) (BreachAt (nodes_held s.store) (get_or (held s.roots) rule 0)) → Asked fs rule r
asked s rule ns fs None h st c = absurd (s.kept rule h c)
asked s rule ns fs (Some b) h st c =
    let n = st.count in
    let w = st.rooted rule (omega arith) in
    let nodes = nodes_held s.store in (
      omega arith,
      ap (λ (v : List Node). formula v b.root) c.nodes_are ∙ ap (formula nodes) c.root_is ∙ stored_formula nodes (listed fs) (store_topological s.store) st.means (get_or (held s.roots) rule 0) (s.rooted rule h) ∙ w.1,
    )
