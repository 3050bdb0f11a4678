-- What stands before a wrong word begins a rule.
use Rattle.std.proofs.Common.{◌≡◌, ℕ, zero, suc, ◌-◌, ◌<◌, ◌≤◌, ◌⊎◌, List, [], ◌∷◌, ◌++◌, length, take, drop, Some, None, Ok, Err, codes, Option, Result, sym, refl, ap, ◌∙◌, subst, inl, inr, append_assoc, arith}
use Rattle.texts.specs.declared.words.Unary.{Unary}
use Rattle.texts.specs.declared.words.Binary.{Binary}
use Rattle.texts.specs.declared.words.Word.{Word}
use Rattle.texts.specs.declared.words.Word.TheVariants.{Zero, One, Two}
use Rattle.meaning.specs.declared.refusals.RuleFault.{RuleFault}
use Rattle.meaning.specs.declared.refusals.RuleFault.TheVariants.{WrongWord, TooDeep}
use Rattle.texts.specs.Places.{length_to}
use Rattle.texts.specs.Words.{word_of, heads, allowed}
use Rattle.logic.specs.Rule.{Rule, rtrue}
use Rattle.meaning.specs.Written.{written, depth, Named}
use Rattle.texts.specs.Shapes.{unary, binary, spelled}
use Rattle.texts.specs.Parse.{parse, Parsed, unary_parsed, binary_parsed, operands_parsed, word_parsed}
use Rattle.texts.specs.Faults.{Begins, WrongAt, WrongWordsFollowABeginning}
use Rattle.texts.proofs.OfShapes.{written_unary, written_binary, depth_unary, depth_binary, named_unary, named_binary}
use Rattle.texts.proofs.OfWriting.{heads_of, split, behind, ends_drop, parse_good, Good}

no_err : {P : Type 0} {X Y : Type 0} (x : X) (y : Y) → ◌≡◌ {A = Result X Y} (Ok x) (Err y) → P
no_err x y e = let z : ◌≡◌ {A = ℕ} 0 1 = cc in absurd (omega arith)

allowed_wrong : (p d : ℕ) (x : Option Word) (a : List ℕ) (q : ℕ) → allowed p d x a ≡ Err (WrongWord q) → (q ≡ p) × (x ≡ None)
allowed_wrong p d None a q e = let i : q ≡ p = cc in (i, refl)
allowed_wrong p d (Some (Zero l)) a q e = no_err _ _ e
allowed_wrong p zero (Some (One o)) a q e = let z : ◌≡◌ {A = ℕ} 0 1 = cc in absurd (omega arith)
allowed_wrong p (suc d) (Some (One o)) a q e = no_err _ _ e
allowed_wrong p zero (Some (Two o)) a q e = let z : ◌≡◌ {A = ℕ} 0 1 = cc in absurd (omega arith)
allowed_wrong p (suc d) (Some (Two o)) a q e = no_err _ _ e

heads_wrong : (ns : List (List ℕ)) (total d : ℕ) (w : List ℕ) (q : ℕ) → heads ns total d w ≡ Err (WrongWord q) → (0 < length w) × (q ≡ total - length w) × (word_of ns (take (length_to 32 w) w) ≡ None)
unfolding heads
heads_wrong ns total d [] q e = let z : ◌≡◌ {A = ℕ} 0 1 = cc in absurd (omega arith)
heads_wrong ns total d (b ∷ bs) q e = let j = allowed_wrong _ d _ _ q e in (omega arith, j.0, j.1)

one_err : (o : Unary) (p : Parsed) (y : RuleFault) → unary_parsed o p ≡ Err y → p ≡ Err y
one_err o (Ok x) y e = no_err _ _ e
one_err o (Err z) y e = e

pair_err : (o : Binary) (g : Rule) (p : Parsed) (y : RuleFault) → binary_parsed o g p ≡ Err y → p ≡ Err y
pair_err o g (Ok x) y e = no_err _ _ e
pair_err o g (Err z) y e = e

two_err : (o : Binary) (p : List ℕ → Parsed) (q : Parsed) (y : RuleFault) → operands_parsed o p q ≡ Err y → (q ≡ Err y) ⊎ ((g : Rule) × (m : List ℕ) × (q ≡ Ok (g, m)) × (p (drop 1 m) ≡ Err y))
two_err o p (Ok x) y e = inr (x.0, x.1, refl, pair_err o x.0 (p (drop 1 x.1)) y e)
two_err o p (Err z) y e = inl e

-- behind an operator
after_one : (ns : List (List ℕ)) (total d : ℕ) (o : Unary) (w a : List ℕ) → heads ns total d w ≡ Ok (One o, a) → 0 < length a → (w ≡ (spelled ns (One o) ++ (32 ∷ [])) ++ a) × (0 < d)
after_one ns total d o w a h l =
    let k = heads_of ns total d w (One o) a h in
    let s = split ns w (One o) k.1.0 in
    let m : drop (length_to 32 w) w ≡ 32 ∷ a = behind (drop (length_to 32 w) w) (ends_drop w) (subst (λ (v : List ℕ). 0 < length v) k.1.1 l) ∙ ap (λ (v : List ℕ). 32 ∷ v) (sym k.1.1) in
    (s.0 ∙ ap (λ (v : List ℕ). spelled ns (One o) ++ v) m ∙ sym (append_assoc (spelled ns (One o)) (32 ∷ []) a), k.1.2)

after_two : (ns : List (List ℕ)) (total d : ℕ) (o : Binary) (w a : List ℕ) → heads ns total d w ≡ Ok (Two o, a) → 0 < length a → (w ≡ (spelled ns (Two o) ++ (32 ∷ [])) ++ a) × (0 < d)
after_two ns total d o w a h l =
    let k = heads_of ns total d w (Two o) a h in
    let s = split ns w (Two o) k.1.0 in
    let m : drop (length_to 32 w) w ≡ 32 ∷ a = behind (drop (length_to 32 w) w) (ends_drop w) (subst (λ (v : List ℕ). 0 < length v) k.1.1 l) ∙ ap (λ (v : List ℕ). 32 ∷ v) (sym k.1.1) in
    (s.0 ∙ ap (λ (v : List ℕ). spelled ns (Two o) ++ v) m ∙ sym (append_assoc (spelled ns (Two o)) (32 ∷ []) a), k.1.2)

abbrev Law : List (List ℕ) → ℕ → ℕ → (List ℕ → Parsed) → Type 0
Law ns total d p = (w : List ℕ) (q : ℕ) → p w ≡ Err (WrongWord q) → (0 < length w) × WrongAt ns total d w q

-- a wrong word behind `front`, where what begins there begins a formula below
behind_front : (ns : List (List ℕ)) (total d k : ℕ) (w front a : List ℕ) (q : ℕ) → w ≡ front ++ a → ((u : List ℕ) → Begins ns k u → Begins ns d (front ++ u)) → WrongAt ns total k a q → WrongAt ns total d w q
behind_front ns total d k w front a q e grow x = record {
  before = front ++ x.before;
  rest = x.rest;
  is = e ∙ ap (λ (v : List ℕ). front ++ v) x.is ∙ sym (append_assoc front x.before x.rest);
  place = x.place;
  some = x.some;
  wrong = x.wrong;
  begins = grow x.before x.begins;
}

grow_one : (ns : List (List ℕ)) (d k : ℕ) (o : Unary) → d ≡ suc k → (u : List ℕ) → Begins ns k u → Begins ns d ((spelled ns (One o) ++ (32 ∷ [])) ++ u)
grow_one ns d k o e u b = record {
  more = b.more;
  rule = unary o b.rule;
  is = ap (λ (v : List ℕ). v ++ b.more) (append_assoc (spelled ns (One o)) (32 ∷ []) u) ∙ append_assoc (spelled ns (One o)) (32 ∷ u) b.more ∙ ap (λ (v : List ℕ). spelled ns (One o) ++ (32 ∷ v)) b.is ∙ sym (written_unary ns o b.rule);
  flat = let f = b.flat in let y = depth_unary o b.rule in omega arith;
  names = named_unary (length ns) o b.rule b.names;
}

grow_first : (ns : List (List ℕ)) (d k : ℕ) (o : Binary) → d ≡ suc k → (u : List ℕ) → Begins ns k u → Begins ns d ((spelled ns (Two o) ++ (32 ∷ [])) ++ u)
grow_first ns d k o e u b = record {
  more = b.more ++ (32 ∷ codes "true");
  rule = binary o b.rule (rtrue);
  is = ap (λ (v : List ℕ). v ++ (b.more ++ (32 ∷ codes "true"))) (append_assoc (spelled ns (Two o)) (32 ∷ []) u) ∙ append_assoc (spelled ns (Two o)) (32 ∷ u) (b.more ++ (32 ∷ codes "true"))
      ∙ ap (λ (v : List ℕ). spelled ns (Two o) ++ (32 ∷ v)) (sym (append_assoc u b.more (32 ∷ codes "true")) ∙ ap (λ (v : List ℕ). v ++ (32 ∷ codes "true")) b.is) ∙ sym (written_binary ns o b.rule rtrue);
  flat = let f = b.flat in let y = depth_binary o b.rule rtrue in omega arith;
  names = named_binary (length ns) o b.rule rtrue (b.names, tt);
}

grow_second : (ns : List (List ℕ)) (d k : ℕ) (o : Binary) (g : Rule) → d ≡ suc k → depth g ≤ k → Named (length ns) g → (u : List ℕ) → Begins ns k u → Begins ns d ((spelled ns (Two o) ++ (32 ∷ (written ns g ++ (32 ∷ [])))) ++ u)
grow_second ns d k o g e h n u b = record {
  more = b.more;
  rule = binary o g b.rule;
  is = ap (λ (v : List ℕ). v ++ b.more) (append_assoc (spelled ns (Two o)) (32 ∷ (written ns g ++ (32 ∷ []))) u ∙ ap (λ (v : List ℕ). spelled ns (Two o) ++ (32 ∷ v)) (append_assoc (written ns g) (32 ∷ []) u))
      ∙ append_assoc (spelled ns (Two o)) (32 ∷ (written ns g ++ (32 ∷ u))) b.more
      ∙ ap (λ (v : List ℕ). spelled ns (Two o) ++ (32 ∷ v)) (append_assoc (written ns g) (32 ∷ u) b.more ∙ ap (λ (v : List ℕ). written ns g ++ (32 ∷ v)) b.is) ∙ sym (written_binary ns o g b.rule);
  flat = let f = b.flat in let y = depth_binary o g b.rule in omega arith;
  names = named_binary (length ns) o g b.rule (n, b.names);
}

grown_wrong : (ns : List (List ℕ)) (total d k : ℕ) (p : List ℕ → Parsed) → (0 < d → d ≡ suc k) → Good ns k p → Law ns total k p → (w : List ℕ) (q : ℕ) (h : Result (Word × List ℕ) RuleFault) → heads ns total d w ≡ h → word_parsed p h ≡ Err (WrongWord q) → (0 < length w) × WrongAt ns total d w q
grown_wrong ns total d k p b good law w q (Err y) i e =
    let z : y ≡ WrongWord q = cc in
    let j = heads_wrong ns total d w q (i ∙ ap Err z) in
    (j.0, record { before = []; rest = w; is = refl; place = j.1; some = j.0; wrong = j.2; begins = record { more = codes "true"; rule = rtrue; is = refl; flat = omega arith; names = tt } })
grown_wrong ns total d k p b good law w q (Ok (Zero l, a)) i e = no_err _ _ e
grown_wrong ns total d k p b good law w q (Ok (One o, a)) i e =
    let x = law a q (one_err o (p a) (WrongWord q) e) in
    let f = after_one ns total d o w a i x.0 in
    ((heads_of ns total d w (One o) a i).0, behind_front ns total d k w (spelled ns (One o) ++ (32 ∷ [])) a q f.0 (grow_one ns d k o (b f.1)) x.1)
grown_wrong ns total d k p b good law w q (Ok (Two o, a)) i e = go (two_err o p (p a) (WrongWord q) e)
  where
    go : ((p a ≡ Err (WrongWord q)) ⊎ ((g : Rule) × (m : List ℕ) × (p a ≡ Ok (g, m)) × (p (drop 1 m) ≡ Err (WrongWord q)))) → (0 < length w) × WrongAt ns total d w q
    go (inl e) =
        let x = law a q e in
        let f = after_two ns total d o w a i x.0 in
        ((heads_of ns total d w (Two o) a i).0, behind_front ns total d k w (spelled ns (Two o) ++ (32 ∷ [])) a q f.0 (grow_first ns d k o (b f.1)) x.1)
    go (inr y) =
        let g = good a y.0 y.1 y.2 in
        let x = law (drop 1 y.1) q y.3 in
        let f = after_two ns total d o w a i g.0 in
        let n : y.1 ≡ 32 ∷ drop 1 y.1 = behind y.1 g.1.3 x.0 in
        let s : w ≡ (spelled ns (Two o) ++ (32 ∷ (written ns y.0 ++ (32 ∷ [])))) ++ drop 1 y.1
        = f.0 ∙ append_assoc (spelled ns (Two o)) (32 ∷ []) a
        ∙ ap (λ (v : List ℕ). spelled ns (Two o) ++ (32 ∷ v)) (g.1.0 ∙ ap (λ (v : List ℕ). written ns y.0 ++ v) n ∙ sym (append_assoc (written ns y.0) (32 ∷ []) (drop 1 y.1)))
        ∙ sym (append_assoc (spelled ns (Two o)) (32 ∷ (written ns y.0 ++ (32 ∷ []))) (drop 1 y.1)) in (
          (heads_of ns total d w (Two o) a i).0,
          behind_front ns total d k w (spelled ns (Two o) ++ (32 ∷ (written ns y.0 ++ (32 ∷ [])))) (drop 1 y.1) q s (grow_second ns d k o y.0 (b f.1) g.1.1 g.1.2) x.1,
        )

parse_wrong : (ns : List (List ℕ)) (total d : ℕ) → Law ns total d (parse ns total d)
unfolding parse
parse_wrong ns total zero w q e = grown_wrong ns total 0 0 (λ _. Err (TooDeep total)) (λ h. absurd (omega arith)) (λ w f r e. absurd (no_ok_deep e)) (λ w q e. absurd (no_deep q e)) w q (heads ns total 0 w) refl e
  where
    no_deep : (q : ℕ) → ◌≡◌ {A = Parsed} (Err (TooDeep total)) (Err (WrongWord q)) → ⊥
    no_deep q e = let z : ◌≡◌ {A = ℕ} 0 1 = cc in omega arith

    no_ok_deep : {x : Rule × List ℕ} → ◌≡◌ {A = Parsed} (Err (TooDeep total)) (Ok x) → ⊥
    no_ok_deep e = let z : ◌≡◌ {A = ℕ} 0 1 = cc in omega arith
parse_wrong ns total (suc d) w q e = grown_wrong ns total (suc d) d (parse ns total d) (λ h. refl) (parse_good ns total d) (parse_wrong ns total d) w q (heads ns total (suc d) w) refl e

pub wrong_words_follow_a_beginning : WrongWordsFollowABeginning
wrong_words_follow_a_beginning ns total d w q e = (parse_wrong ns total d w q e).1
