-- Reading finds what is written, and only that.
use Rattle.std.proofs.Common.{◌≡◌, ℕ, zero, suc, ◌+◌, ◌-◌, ◌<◌, ◌≤◌, Bool, true, false, cond, eqb, List, [], ◌∷◌, ◌++◌, length, get_or, take, drop, Some, None, Ok, Err, codes, Option, Result, sym, refl, ap, ◌∙◌, subst, append_assoc, add-one, arith, length-append, take-append-drop, true-eqb}
use Rattle.std.specs.Str.{bytes_eq}
use Rattle.std.specs.List.{AllByRecursion}
use Rattle.std.proofs.ByRecursion.{All-get_or}
use Rattle.std.proofs.lemmas.Bool.Decides.{nat_tests}
use Rattle.std.proofs.lemmas.Slice.Eq.{bytes_eq-Decides}
use Rattle.texts.specs.declared.words.Leaf.{Leaf}
use Rattle.texts.specs.declared.words.Leaf.TheVariants.{True, False, Name}
use Rattle.texts.specs.declared.words.Unary.{Unary}
use Rattle.texts.specs.declared.words.Unary.TheVariants.{Not, Next, Finally, Globally}
use Rattle.texts.specs.declared.words.Binary.{Binary}
use Rattle.texts.specs.declared.words.Binary.TheVariants.{And, Or, Implies, Until, Release}
use Rattle.texts.specs.declared.words.Word.{Word}
use Rattle.texts.specs.declared.words.Word.TheVariants.{Zero, One, Two}
use Rattle.meaning.specs.declared.refusals.RuleFault.{RuleFault}
use Rattle.meaning.specs.declared.refusals.RuleFault.TheVariants.{TooDeep}
use Rattle.texts.specs.Places.{length_to}
use Rattle.texts.specs.Places.{place_of, one_later}
use Rattle.texts.specs.Words.{word_of, or_name, fixed_word, long_word, operator_word, heads, allowed}
use Rattle.logic.specs.Rule.{Rule}
use Rattle.meaning.specs.Written.{written, depth, Named}
use Rattle.texts.specs.Shapes.{leaf, unary, binary, spelled, LeafNamed, WordNamed}
use Rattle.texts.specs.Parse.{parse, Parsed, unary_parsed, binary_parsed, operands_parsed, word_parsed}
use Rattle.texts.specs.Fit.{Lower, FitName, Fit, Ends, WhatIsReadIsWritten, WhatIsWrittenIsRead}
use Rattle.texts.proofs.OfNames.{place_at, get_d_any, same_false}
use Rattle.texts.proofs.OfWords.{heads_some}
use Rattle.texts.proofs.OfShapes.{by_first_word, written_leaf, written_unary, written_binary, depth_leaf, depth_unary, depth_binary, named_leaf, leaf_named, named_unary, unary_named, named_binary, binary_named}
use Rattle.texts.proofs.OfParse.{leaf_read, one_read, second_read, no_ok}
use lib.Seq.{take-append_seam, drop-append_seam}

-- ---- words

module _ (ns : List (List ℕ)) where
  abbrev Spells : List ℕ → Word → Type 0
  Spells w x = (w ≡ spelled ns x) × WordNamed (length ns) x

  -- one test of a chain: what passes it is spelled so, or the rest of the chain decides
  pick : (w k : List ℕ) (t : Bool) (y x : Word) (r : Option Word) → (t ≡ true → w ≡ k) → Spells k y → (r ≡ Some x → Spells w x) → cond t (Some y) r ≡ Some x → Spells w x
  pick w k true y x r h s f e =
      let i : y ≡ x = cc in
      (h refl ∙ s.0 ∙ ap (spelled ns) i, subst (WordNamed (length ns)) i s.1)
  pick w k false y x r h s f e = f e

  same_at : (c k : ℕ) → eqb c k ≡ true → ◌≡◌ {A = List ℕ} (c ∷ []) (k ∷ [])
  same_at c k e = ap (λ (n : ℕ). n ∷ []) (true-eqb c k (sym e))

  none_not : (x : Word) (w : List ℕ) → None ≡ Some x → Spells w x
  none_not x w e = let z : ◌≡◌ {A = ℕ} 0 1 = cc in absurd (omega arith)

  op_sound : (c : ℕ) (x : Word) → operator_word c ≡ Some x → Spells (c ∷ []) x
  op_sound c x =
      pick (c ∷ []) _ _ (One Not) x _ (same_at c 33) (refl, tt)
      (pick (c ∷ []) _ _ (One Next) x _ (same_at c 88) (refl, tt)
      (pick (c ∷ []) _ _ (One Finally) x _ (same_at c 70) (refl, tt)
      (pick (c ∷ []) _ _ (One Globally) x _ (same_at c 71) (refl, tt)
      (pick (c ∷ []) _ _ (Two And) x _ (same_at c 38) (refl, tt)
      (pick (c ∷ []) _ _ (Two Or) x _ (same_at c 124) (refl, tt)
      (pick (c ∷ []) _ _ (Two Until) x _ (same_at c 85) (refl, tt)
      (pick (c ∷ []) _ _ (Two Release) x _ (same_at c 86) (refl, tt) (none_not x (c ∷ [])))))))))

  text_sound : (w : List ℕ) (x : Word) → long_word w ≡ Some x → Spells w x
  text_sound w x =
      pick w (codes "true") _ (Zero True) x _ (bytes_eq-Decides w (codes "true")).0 (refl, tt)
      (pick w (codes "false") _ (Zero False) x _ (bytes_eq-Decides w (codes "false")).0 (refl, tt)
      (pick w (codes "->") _ (Two Implies) x _ (bytes_eq-Decides w (codes "->")).0 (refl, tt) (none_not x w)))

  fixed_sound : (w : List ℕ) (x : Word) → fixed_word w ≡ Some x → Spells w x
  unfolding fixed_word
  fixed_sound [] x e = none_not x [] e
  fixed_sound (c ∷ []) x e = op_sound c x e
  fixed_sound (c ∷ (d ∷ ds)) x e = text_sound (c ∷ (d ∷ ds)) x e

pub place_sound : (ns : List (List ℕ)) (w : List ℕ) (i : ℕ) → place_of ns w ≡ Some i → (i < length ns) × (w ≡ get_or ns i [])
place_sound [] w i e = let z : ◌≡◌ {A = ℕ} 0 1 = cc in absurd (omega arith)
place_sound (n ∷ ns) w i e = go (place_sound ns w) (bytes_eq n w) refl (place_of ns w) refl e
  where
    go : ((j : ℕ) → place_of ns w ≡ Some j → (j < length ns) × (w ≡ get_or ns j [])) → (t : Bool) → bytes_eq n w ≡ t → (p : Option ℕ) → place_of ns w ≡ p → cond t (Some 0) (one_later p) ≡ Some i → (i < length (n ∷ ns)) × (w ≡ get_or (n ∷ ns) i [])
    go below true t p q e =
        let z : 0 ≡ i = cc in
        let s = (bytes_eq-Decides n w).0 t in
        (omega arith, subst (λ (k : ℕ). w ≡ get_or (n ∷ ns) k []) z (sym s))
    go below false t None q e = let z : ◌≡◌ {A = ℕ} 0 1 = cc in absurd (omega arith)
    go below false t (Some j) q e =
        let z : j + 1 ≡ i = cc in
        let b = below j q in
        let y : suc j ≡ i = sym (add-one j) ∙ z in
        (omega (arith, b.0), subst (λ (k : ℕ). w ≡ get_or (n ∷ ns) k []) y b.1)

word_sound : (ns : List (List ℕ)) (w : List ℕ) (x : Word) → word_of ns w ≡ Some x → (w ≡ spelled ns x) × WordNamed (length ns) x
unfolding word_of
word_sound ns w x e = go (fixed_word w) refl (place_of ns w) refl e
  where
    go : (f : Option Word) → fixed_word w ≡ f → (p : Option ℕ) → place_of ns w ≡ p → or_name f p ≡ Some x → (w ≡ spelled ns x) × WordNamed (length ns) x
    go (Some y) q p s e = fixed_sound ns w x (q ∙ e)
    go None q (Some i) s e =
        let y : Zero (Name i) ≡ x = cc in
        let b = place_sound ns w i s in
        (b.1 ∙ ap (spelled ns) y, subst (WordNamed (length ns)) y b.0)
    go None q None s e = let z : ◌≡◌ {A = ℕ} 0 1 = cc in absurd (omega arith)

-- ---- soundness

okp : {A B E : Type 0} (p q : A × B) → ◌≡◌ {A = Result (A × B) E} (Ok p) (Ok q) → (p.0 ≡ q.0) × (p.1 ≡ q.1)
okp {A} {B} p q e = let i : p ≡ q = cc in (ap (λ (z : A × B). z.0) i, ap (λ (z : A × B). z.1) i)

pub ends_drop : (w : List ℕ) → Ends (drop (length_to 32 w) w)
ends_drop [] = tt
ends_drop (b ∷ bs) = go (eqb b 32) refl (ends_drop bs)
  where
    go : (t : Bool) → eqb b 32 ≡ t → Ends (drop (length_to 32 bs) bs) → Ends (drop (cond t 0 (length_to 32 bs + 1)) (b ∷ bs))
    go true q ih = true-eqb b 32 (sym q)
    go false q ih = subst (λ (k : ℕ). Ends (drop k (b ∷ bs))) (sym (add-one (length_to 32 bs))) ih

pub behind : (w : List ℕ) → Ends w → 0 < length (drop 1 w) → w ≡ 32 ∷ drop 1 w
behind [] e h = absurd (omega arith)
behind (b ∷ bs) e h = ap (λ (n : ℕ). n ∷ bs) e

-- what `allowed` says where it answers a word
abbrev pub Headed : ℕ → Option Word → List ℕ → Word → List ℕ → Type 0
Headed d x a (Zero l) r = (x ≡ Some (Zero l)) × (r ≡ a)
Headed d x a (One o) r = (x ≡ Some (One o)) × (r ≡ drop 1 a) × (0 < d)
Headed d x a (Two o) r = (x ≡ Some (Two o)) × (r ≡ drop 1 a) × (0 < d)

to_headed : (p d : ℕ) (x : Option Word) (a : List ℕ) (y : Word) (r : List ℕ) → allowed p d x a ≡ Ok (y, r) → Headed d x a y r
to_headed p d None a y r e = no_ok _ _ e
to_headed p d (Some (Zero l)) a y r e = let j = okp (Zero l, a) (y, r) e in subst (λ (z : Word). Headed d (Some (Zero l)) a z r) j.0 (refl, sym j.1)
to_headed p zero (Some (One o)) a y r e = no_ok _ _ e
to_headed p (suc d) (Some (One o)) a y r e = let j = okp (One o, drop 1 a) (y, r) e in subst (λ (z : Word). Headed (suc d) (Some (One o)) a z r) j.0 (refl, sym j.1, omega arith)
to_headed p zero (Some (Two o)) a y r e = no_ok _ _ e
to_headed p (suc d) (Some (Two o)) a y r e = let j = okp (Two o, drop 1 a) (y, r) e in subst (λ (z : Word). Headed (suc d) (Some (Two o)) a z r) j.0 (refl, sym j.1, omega arith)

pub heads_of : (ns : List (List ℕ)) (total d : ℕ) (w : List ℕ) (y : Word) (r : List ℕ) → heads ns total d w ≡ Ok (y, r)
    → (0 < length w) × Headed d (word_of ns (take (length_to 32 w) w)) (drop (length_to 32 w) w) y r
unfolding heads
heads_of ns total d [] y r e = no_ok _ _ e
heads_of ns total d (b ∷ bs) y r e = (omega arith, to_headed _ d _ _ y r e)

pub split : (ns : List (List ℕ)) (w : List ℕ) (x : Word) → word_of ns (take (length_to 32 w) w) ≡ Some x → (w ≡ spelled ns x ++ drop (length_to 32 w) w) × WordNamed (length ns) x
split ns w x e =
    let s = word_sound ns _ x e in
    (sym (take-append-drop (length_to 32 w) w) ∙ ap (λ (v : List ℕ). v ++ drop (length_to 32 w) w) s.0, s.1)

abbrev pub Said : List (List ℕ) → ℕ → List ℕ → Rule → List ℕ → Type 0
Said ns d w r rest = (w ≡ written ns r ++ rest) × (depth r ≤ d) × Named (length ns) r × Ends rest

abbrev pub Good : List (List ℕ) → ℕ → (List ℕ → Parsed) → Type 0
Good ns d p = (w : List ℕ) (f : Rule) (r : List ℕ) → p w ≡ Ok (f, r) → (0 < length w) × Said ns d w f r

under_one : (o : Unary) (q : Parsed) (f : Rule) (r : List ℕ) → unary_parsed o q ≡ Ok (f, r) → (g : Rule) × (q ≡ Ok (g, r)) × (unary o g ≡ f)
under_one o (Ok x) f r e = let j = okp (unary o x.0, x.1) (f, r) e in (x.0, ap (λ (v : List ℕ). Ok (x.0, v)) j.1, j.0)
under_one o (Err y) f r e = no_ok _ _ e

under_pair : (o : Binary) (g : Rule) (q : Parsed) (f : Rule) (r : List ℕ) → binary_parsed o g q ≡ Ok (f, r) → (h : Rule) × (q ≡ Ok (h, r)) × (binary o g h ≡ f)
under_pair o g (Ok x) f r e = let j = okp (binary o g x.0, x.1) (f, r) e in (x.0, ap (λ (v : List ℕ). Ok (x.0, v)) j.1, j.0)
under_pair o g (Err y) f r e = no_ok _ _ e

under_two : (o : Binary) (p : List ℕ → Parsed) (q : Parsed) (f : Rule) (r : List ℕ) → operands_parsed o p q ≡ Ok (f, r) → (g : Rule) × (m : List ℕ) × (h : Rule) × (q ≡ Ok (g, m)) × (p (drop 1 m) ≡ Ok (h, r)) × (binary o g h ≡ f)
under_two o p (Ok x) f r e = let s = under_pair o x.0 (p (drop 1 x.1)) f r e in (x.0, x.1, s.0, refl, s.1, s.2)
under_two o p (Err y) f r e = no_ok _ _ e

grown_good : (ns : List (List ℕ)) (total d k : ℕ) (p : List ℕ → Parsed) → (0 < d → d ≡ suc k) → Good ns k p → (w : List ℕ) (f : Rule) (r : List ℕ) (h : Result (Word × List ℕ) RuleFault) → heads ns total d w ≡ h → word_parsed p h ≡ Ok (f, r)
    → (0 < length w) × Said ns d w f r
grown_good ns total d k p b good w f r (Err y) i e = no_ok _ _ e
grown_good ns total d k p b good w f r (Ok (Zero l, a)) i e =
    let j = okp (leaf l, a) (f, r) e in
    let h = heads_of ns total d w (Zero l) a i in
    let s = split ns w (Zero l) h.1.0 in
    (h.0, subst (λ (x : Rule). Said ns d w x r) j.0 (subst (λ (x : List ℕ). Said ns d w (leaf l) x) (sym h.1.1 ∙ j.1) (s.0 ∙ ap (λ (v : List ℕ). v ++ drop (length_to 32 w) w) (sym (written_leaf ns l)), omega (arith, depth_leaf l), named_leaf (length ns) l s.1, ends_drop w)))
grown_good ns total d k p b good w f r (Ok (One o, a)) i e =
    let u = under_one o (p a) f r e in
    let g = good a u.0 r u.1 in
    let h = heads_of ns total d w (One o) a i in
    let s = split ns w (One o) h.1.0 in
    let z = b h.1.2 in
    let m : drop (length_to 32 w) w ≡ 32 ∷ a = behind (drop (length_to 32 w) w) (ends_drop w) (subst (λ (v : List ℕ). 0 < length v) h.1.1 g.0) ∙ ap (λ (v : List ℕ). 32 ∷ v) (sym h.1.1) in (
      h.0,
      subst (λ (x : Rule). Said ns d w x r) u.2 (
        s.0 ∙ ap (λ (v : List ℕ). spelled ns (One o) ++ v) (m ∙ ap (λ (v : List ℕ). 32 ∷ v) g.1.0) ∙ sym (append_assoc (spelled ns (One o)) (32 ∷ written ns u.0) r) ∙ ap (λ (v : List ℕ). v ++ r) (sym (written_unary ns o u.0)),
        omega (arith, g.1.1, depth_unary o u.0),
        named_unary (length ns) o u.0 g.1.2,
        g.1.3,
      ),
    )
grown_good ns total d k p b good w f r (Ok (Two o, a)) i e =
    let u = under_two o p (p a) f r e in
    let g = good a u.0 u.1 u.3 in
    let q = good (drop 1 u.1) u.2 r u.4 in
    let h = heads_of ns total d w (Two o) a i in
    let s = split ns w (Two o) h.1.0 in
    let z = b h.1.2 in
    let m : drop (length_to 32 w) w ≡ 32 ∷ a = behind (drop (length_to 32 w) w) (ends_drop w) (subst (λ (v : List ℕ). 0 < length v) h.1.1 g.0) ∙ ap (λ (v : List ℕ). 32 ∷ v) (sym h.1.1) in
    let n : u.1 ≡ 32 ∷ (written ns u.2 ++ r) = behind u.1 g.1.3 q.0 ∙ ap (λ (v : List ℕ). 32 ∷ v) q.1.0 in (
      h.0,
      subst (λ (x : Rule). Said ns d w x r) u.5 (
        s.0 ∙ ap (λ (v : List ℕ). spelled ns (Two o) ++ v) (m ∙ ap (λ (v : List ℕ). 32 ∷ v) (g.1.0 ∙ ap (λ (v : List ℕ). written ns u.0 ++ v) n ∙ sym (append_assoc (written ns u.0) (32 ∷ written ns u.2) r)))
            ∙ sym (append_assoc (spelled ns (Two o)) (32 ∷ (written ns u.0 ++ (32 ∷ written ns u.2))) r) ∙ ap (λ (v : List ℕ). v ++ r) (sym (written_binary ns o u.0 u.2)),
        omega (arith, g.1.1, q.1.1, depth_binary o u.0 u.2),
        named_binary (length ns) o u.0 u.2 (g.1.2, q.1.2),
        q.1.3,
      ),
    )

pub parse_good : (ns : List (List ℕ)) (total d : ℕ) → Good ns d (parse ns total d)
unfolding parse
parse_good ns total zero w f r e = grown_good ns total 0 0 (λ _. Err (TooDeep total)) (λ h. absurd (omega arith)) (λ w f r e. no_ok _ _ e) w f r (heads ns total 0 w) refl e
parse_good ns total (suc d) w f r e = grown_good ns total (suc d) d (parse ns total d) (λ h. refl) (parse_good ns total d) w f r (heads ns total (suc d) w) refl e

pub what_is_read_is_written : WhatIsReadIsWritten
what_is_read_is_written ns total d w r rest e = (parse_good ns total d w r rest e).1

-- ---- completeness

-- no byte of u is a space, and what follows u ends it
len_written : (u rest : List ℕ) → AllByRecursion (λ b. b ≡ 32 → ⊥) u → Ends rest → length_to 32 (u ++ rest) ≡ length u
len_written [] [] a e = refl
len_written [] (b ∷ bs) a e = let t : eqb b 32 ≡ true = grind (arith, nat_tests) in rw t
len_written (b ∷ bs) rest a e =
    let n : b ≡ 32 → ⊥ = a.0 in
    let t : eqb b 32 ≡ false = grind (arith, nat_tests) in
    let ih = len_written bs rest a.1 e in
    rw (t, ih, add-one)

heads_written : (ns : List (List ℕ)) (total d : ℕ) (u rest : List ℕ) (x : Word) → 0 < length u → AllByRecursion (λ b. b ≡ 32 → ⊥) u → Ends rest → word_of ns u ≡ Some x
    → heads ns total d (u ++ rest) ≡ allowed (total - length (u ++ rest)) d (Some x) rest
heads_written ns total d u rest x h a e w =
    let l = len_written u rest a e in
    let s = length-append u rest in
    heads_some ns total d (length u) (total - length (u ++ rest)) (u ++ rest) u rest (Some x) refl (λ z. absurd (omega arith)) (sym l) (sym (take-append_seam u rest)) (sym (drop-append_seam u rest)) (sym w)

no_space : (w : List ℕ) → AllByRecursion Lower w → AllByRecursion (λ b. b ≡ 32 → ⊥) w
no_space [] a = tt
no_space (b ∷ bs) a = ((λ e. absurd (omega (arith, a.0.0))), no_space bs a.1)

not_op : (c : ℕ) → Lower c → operator_word c ≡ None
not_op c l =
    let h = l.0 in let k = l.1 in
    let a : eqb c 33 ≡ false = grind (arith, nat_tests) in
    let b : eqb c 88 ≡ false = grind (arith, nat_tests) in
    let d : eqb c 70 ≡ false = grind (arith, nat_tests) in
    let e : eqb c 71 ≡ false = grind (arith, nat_tests) in
    let f : eqb c 38 ≡ false = grind (arith, nat_tests) in
    let g : eqb c 124 ≡ false = grind (arith, nat_tests) in
    let i : eqb c 85 ≡ false = grind (arith, nat_tests) in
    let j : eqb c 86 ≡ false = grind (arith, nat_tests) in
    simp (a, b, d, e, f, g, i, j)

pub name_not_fixed : (w : List ℕ) → FitName w → fixed_word w ≡ None
unfolding fixed_word
name_not_fixed [] f = let z = f.some in absurd (omega arith)
name_not_fixed (c ∷ []) f = not_op c f.lower.0
name_not_fixed (c ∷ (d ∷ ds)) f =
    let arrow : (c ∷ (d ∷ ds) ≡ codes "->") → ⊥ = λ e. let z : c ≡ 45 = ap (λ (x : List ℕ). get_or x 0 0) e in absurd (omega (arith, f.lower.0.0)) in
    simp (same_false _ _ f.not_true, same_false _ _ f.not_false, same_false _ _ arrow)

place_back : (ns : List (List ℕ)) → Fit ns → (i : ℕ) → i < length ns → Some i ≡ place_of ns (get_or ns i [])
place_back ns f i h =
    place_at ns (get_or ns i []) i h (λ d. get_d_any ns i d [] h)
    (λ k d l e. f.differ k i l h (get_d_any ns k [] d (omega arith) ∙ e))

word_back : (ns : List (List ℕ)) → Fit ns → (x : Word) → WordNamed (length ns) x → word_of ns (spelled ns x) ≡ Some x
unfolding word_of fixed_word
word_back ns f (Zero True) v = refl
word_back ns f (Zero False) v = refl
word_back ns f (Zero (Name i)) v =
    let n = name_not_fixed (get_or ns i []) (All-get_or FitName ns i [] v f.each) in
    let p = place_back ns f i v in
    rw (n, ← p)
word_back ns f (One Not) v = refl
word_back ns f (One Next) v = refl
word_back ns f (One Finally) v = refl
word_back ns f (One Globally) v = refl
word_back ns f (Two And) v = refl
word_back ns f (Two Or) v = refl
word_back ns f (Two Implies) v = refl
word_back ns f (Two Until) v = refl
word_back ns f (Two Release) v = refl

clean : (b : ℕ) → eqb b 32 ≡ false → b ≡ 32 → ⊥
clean b t e = let z : eqb b 32 ≡ true = grind (arith, nat_tests) in let y : ◌≡◌ {A = ℕ} 0 1 = cc in absurd (omega arith)

word_clean : (ns : List (List ℕ)) → Fit ns → (x : Word) → WordNamed (length ns) x → (0 < length (spelled ns x)) × AllByRecursion (λ b. b ≡ 32 → ⊥) (spelled ns x)
word_clean ns f (Zero True) v = (omega arith, (clean 116 refl, (clean 114 refl, (clean 117 refl, (clean 101 refl, tt)))))
word_clean ns f (Zero False) v = (omega arith, (clean 102 refl, (clean 97 refl, (clean 108 refl, (clean 115 refl, (clean 101 refl, tt))))))
word_clean ns f (Zero (Name i)) v = let n = All-get_or FitName ns i [] v f.each in (n.some, no_space (get_or ns i []) n.lower)
word_clean ns f (One Not) v = (omega arith, (clean 33 refl, tt))
word_clean ns f (One Next) v = (omega arith, (clean 88 refl, tt))
word_clean ns f (One Finally) v = (omega arith, (clean 70 refl, tt))
word_clean ns f (One Globally) v = (omega arith, (clean 71 refl, tt))
word_clean ns f (Two And) v = (omega arith, (clean 38 refl, tt))
word_clean ns f (Two Or) v = (omega arith, (clean 124 refl, tt))
word_clean ns f (Two Implies) v = (omega arith, (clean 45 refl, (clean 62 refl, tt)))
word_clean ns f (Two Until) v = (omega arith, (clean 85 refl, tt))
word_clean ns f (Two Release) v = (omega arith, (clean 86 refl, tt))

heads_back : (ns : List (List ℕ)) → Fit ns → (total d : ℕ) (x : Word) (rest : List ℕ) → WordNamed (length ns) x → Ends rest
    → heads ns total d (spelled ns x ++ rest) ≡ allowed (total - length (spelled ns x ++ rest)) d (Some x) rest
heads_back ns f total d x rest v e =
    let c = word_clean ns f x v in
    heads_written ns total d (spelled ns x) rest x c.0 c.1 e (word_back ns f x v)

allowed_one : (p d : ℕ) (o : Unary) (a : List ℕ) → 0 < d → allowed p d (Some (One o)) a ≡ Ok (One o, drop 1 a)
allowed_one p zero o a h = absurd (omega arith)
allowed_one p (suc d) o a h = refl

allowed_two : (p d : ℕ) (o : Binary) (a : List ℕ) → 0 < d → allowed p d (Some (Two o)) a ≡ Ok (Two o, drop 1 a)
allowed_two p zero o a h = absurd (omega arith)
allowed_two p (suc d) o a h = refl

abbrev ReadBack : List (List ℕ) → Rule → Type 0
ReadBack ns r = (total d : ℕ) (rest : List ℕ) → Named (length ns) r → depth r ≤ d → Ends rest → parse ns total d (written ns r ++ rest) ≡ Ok (r, rest)

leaf_back : (ns : List (List ℕ)) → Fit ns → (l : Leaf) → ReadBack ns (leaf l)
leaf_back ns f l total d rest v h e =
    ap (λ (x : List ℕ). parse ns total d (x ++ rest)) (written_leaf ns l) ∙ leaf_read ns total d _ rest l (heads_back ns f total d (Zero l) rest (leaf_named (length ns) l v) e)

unary_back : (ns : List (List ℕ)) → Fit ns → (o : Unary) (a : Rule) → ReadBack ns a → ReadBack ns (unary o a)
unary_back ns f o a below total d rest v h e =
    let s = append_assoc (spelled ns (One o)) (32 ∷ written ns a) rest in
    let y = depth_unary o a in
    let z : 0 < d = omega arith in
    let head = heads_back ns f total d (One o) (32 ∷ (written ns a ++ rest)) tt refl ∙ allowed_one _ d o _ z in
    ap (λ (x : List ℕ). parse ns total d (x ++ rest)) (written_unary ns o a) ∙ ap (parse ns total d) s ∙ one_read ns total d _ _ o _ z head (below total (d - 1) rest (unary_named (length ns) o a v) (omega arith) e)

binary_back : (ns : List (List ℕ)) → Fit ns → (o : Binary) (a b : Rule) → ReadBack ns a → ReadBack ns b → ReadBack ns (binary o a b)
binary_back ns f o a b first_below second_below total d rest v h e =
    let s = append_assoc (spelled ns (Two o)) (32 ∷ (written ns a ++ (32 ∷ written ns b))) rest in
    let t = append_assoc (written ns a) (32 ∷ written ns b) rest in
    let y = depth_binary o a b in
    let k = binary_named (length ns) o a b v in
    let z : 0 < d = omega arith in
    let head = heads_back ns f total d (Two o) (32 ∷ ((written ns a ++ (32 ∷ written ns b)) ++ rest)) tt refl ∙ allowed_two _ d o _ z in
    let first : parse ns total (d - 1) ((written ns a ++ (32 ∷ written ns b)) ++ rest) ≡ Ok (a, 32 ∷ (written ns b ++ rest))
    = ap (parse ns total (d - 1)) t ∙ first_below total (d - 1) (32 ∷ (written ns b ++ rest)) k.0 (omega arith) refl in
    ap (λ (x : List ℕ). parse ns total d (x ++ rest)) (written_binary ns o a b) ∙ ap (parse ns total d) s ∙ second_read ns total d _ _ _ o a _ z head first (second_below total (d - 1) rest k.1 (omega arith) e)

pub what_is_written_is_read : WhatIsWrittenIsRead
what_is_written_is_read ns f total d r rest = by_first_word (ReadBack ns) (leaf_back ns f) (unary_back ns f) (binary_back ns f) r total d rest

-- a word that is read is a name only where there is such a name
pub heads_named : (ns : List (List ℕ)) (total d : ℕ) (w : List ℕ) (l : Leaf) (r : List ℕ) → heads ns total d w ≡ Ok (Zero l, r) → LeafNamed (length ns) l
heads_named ns total d w l r e = (split ns w (Zero l) (heads_of ns total d w (Zero l) r e).1.0).1
