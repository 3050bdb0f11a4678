-- A text has no fault exactly when it means a rule, and it means one rule. Assumes nothing.
use Rattle.std.proofs.Common.{◌≡◌, ℕ, zero, suc, ◌+◌, ◌-◌, ◌<◌, ◌≤◌, max, Bool, true, false, cond, not as non, ◌&&◌, ◌||◌, leb, ◌⊎◌, List, [], ◌∷◌, ◌++◌, length, get_or, Some, None, codes, Option, sym, refl, ap, ◌∙◌, subst, ap₂, inl, inr, ⊎_elim, append_assoc, append-nil, arith, length-append}
use mathlib.Core.Logic.{∥∥₁_elim}
use mathlib.Core.HLevel.{⊥_prop}
use mathlib.Core.Bool.{false≢true}
use mathlib.Core.List.{head-eq_of_cons-eq}
use Rattle.std.proofs.lemmas.Bool.{and_parts, cond-true, cond-false, leb-true, leb-false, lt-leb, ne_eqb}
use Rattle.std.specs.Str.{bytes_eq}
use Rattle.meaning.specs.declared.refusals.RuleFault.{RuleFault}
use Rattle.meaning.specs.declared.refusals.RuleFault.TheVariants.{TooDeep}
use Rattle.logic.specs.Rule.{Rule, rtrue, rfalse, name, not, rnext, finally, globally, both, either, implies, runtil, rrelease}
use Rattle.meaning.specs.Bytes.{Text, all, one_of, once, parted}
use Rattle.meaning.specs.Names.{lowercase, is_name}
use Rattle.meaning.specs.Written.{one, two, written, Named, depth, Means}
use Rattle.meaning.specs.Faults.{operands, at_word, fault_from, text_fault}
use Rattle.meaning.specs.Reading.{GoodNames, FaultlessTextsMeanRules, TextsMeanOneRule}
use Rattle.meaning.proofs.OfWords.{parted_at, lacks, parted_whole, joined, joined_parted, joined_append, same_true, same_refl, same_first, find, one_of_at, all_at}

-- the words of a rule
abbrev pub words : List Text → Rule → List Text
words ns rtrue = codes "true" ∷ []
words ns rfalse = codes "false" ∷ []
words ns (name i) = get_or ns i [] ∷ []
words ns (not a) = codes "!" ∷ words ns a
words ns (rnext a) = codes "X" ∷ words ns a
words ns (finally a) = codes "F" ∷ words ns a
words ns (globally a) = codes "G" ∷ words ns a
words ns (both a b) = codes "&" ∷ (words ns a ++ words ns b)
words ns (either a b) = codes "|" ∷ (words ns a ++ words ns b)
words ns (implies a b) = codes "->" ∷ (words ns a ++ words ns b)
words ns (runtil a b) = codes "U" ∷ (words ns a ++ words ns b)
words ns (rrelease a b) = codes "V" ∷ (words ns a ++ words ns b)

pub words_some : (ns : List Text) (r : Rule) → (w : Text) × (ws : List Text) × (words ns r ≡ w ∷ ws)
words_some ns rtrue = (_, _, refl)
words_some ns rfalse = (_, _, refl)
words_some ns (name i) = (_, _, refl)
words_some ns (not a) = (_, _, refl)
words_some ns (rnext a) = (_, _, refl)
words_some ns (finally a) = (_, _, refl)
words_some ns (globally a) = (_, _, refl)
words_some ns (both a b) = (_, _, refl)
words_some ns (either a b) = (_, _, refl)
words_some ns (implies a b) = (_, _, refl)
words_some ns (runtil a b) = (_, _, refl)
words_some ns (rrelease a b) = (_, _, refl)

-- ---- written by its words

joined_one : (op : Text) (ws : List Text) (t : Text) → (w : Text) × (vs : List Text) × (ws ≡ w ∷ vs) → joined 32 ws ≡ t → joined 32 (op ∷ ws) ≡ one op t
joined_one op ws t k e = ap (λ x. joined 32 (op ∷ x)) k.2 ∙ ap (λ x. op ++ (32 ∷ joined 32 x)) (sym k.2) ∙ ap (λ x. op ++ (32 ∷ x)) e

joined_two : (op : Text) (us ws : List Text) (t u : Text) → (w : Text) × (vs : List Text) × (us ≡ w ∷ vs) → (w : Text) × (vs : List Text) × (ws ≡ w ∷ vs)
    → joined 32 us ≡ t → joined 32 ws ≡ u → joined 32 (op ∷ (us ++ ws)) ≡ two op t u
joined_two op us ws t u j k d e =
    let both_of : joined 32 (us ++ ws) ≡ t ++ (32 ∷ u) =
    ap₂ (λ x y. joined 32 (x ++ y)) j.2 k.2 ∙ joined_append 32 j.0 j.1 k.0 k.1
    ∙ ap₂ (λ x y. joined 32 x ++ (32 ∷ joined 32 y)) (sym j.2) (sym k.2) ∙ ap₂ (λ x y. x ++ (32 ∷ y)) d e in
    joined_one op (us ++ ws) (t ++ (32 ∷ u)) (j.0, j.1 ++ ws, ap (λ x. x ++ ws) j.2) both_of

pub joined_words : (ns : List Text) (r : Rule) → joined 32 (words ns r) ≡ written ns r
joined_words ns rtrue = refl
joined_words ns rfalse = refl
joined_words ns (name i) = refl
joined_words ns (not a) = joined_one (codes "!") (words ns a) (written ns a) (words_some ns a) (joined_words ns a)
joined_words ns (rnext a) = joined_one (codes "X") (words ns a) (written ns a) (words_some ns a) (joined_words ns a)
joined_words ns (finally a) = joined_one (codes "F") (words ns a) (written ns a) (words_some ns a) (joined_words ns a)
joined_words ns (globally a) = joined_one (codes "G") (words ns a) (written ns a) (words_some ns a) (joined_words ns a)
joined_words ns (both a b) = joined_two (codes "&") (words ns a) (words ns b) (written ns a) (written ns b) (words_some ns a) (words_some ns b) (joined_words ns a) (joined_words ns b)
joined_words ns (either a b) = joined_two (codes "|") (words ns a) (words ns b) (written ns a) (written ns b) (words_some ns a) (words_some ns b) (joined_words ns a) (joined_words ns b)
joined_words ns (implies a b) = joined_two (codes "->") (words ns a) (words ns b) (written ns a) (written ns b) (words_some ns a) (words_some ns b) (joined_words ns a) (joined_words ns b)
joined_words ns (runtil a b) = joined_two (codes "U") (words ns a) (words ns b) (written ns a) (written ns b) (words_some ns a) (words_some ns b) (joined_words ns a) (joined_words ns b)
joined_words ns (rrelease a b) = joined_two (codes "V") (words ns a) (words ns b) (written ns a) (written ns b) (words_some ns a) (words_some ns b) (joined_words ns a) (joined_words ns b)

-- ---- names are no operators and have no spaces

lower_lacks : (t : Text) → all lowercase t ≡ true → lacks 32 t ≡ true
lower_lacks [] h = refl
lower_lacks (b ∷ bs) h =
    let k = and_parts (lowercase b) _ h in
    let low : 97 ≤ b = leb-true 97 b (and_parts (leb 97 b) _ k.0).0 in
    rw (ne_eqb b 32 (λ e. omega arith)) (lower_lacks bs k.1)

-- a name begins with a lowercase letter
pub record Begins (w : Text) : Type 0 where
  pub first : ℕ
  pub others : Text
  pub is : w ≡ first ∷ others
  pub low : 97 ≤ first
  pub high : first ≤ 122
  pub no_true : bytes_eq w (codes "true") ≡ false
  pub no_false : bytes_eq w (codes "false") ≡ false
  pub spaceless : lacks 32 w ≡ true

name_begins : (w : Text) → is_name w ≡ true → Begins w
name_begins [] h = absurd (false≢true h)
name_begins (c ∷ cs) h =
    let sizes = and_parts (leb 1 (length (c ∷ cs)) && leb (length (c ∷ cs)) 8) _ h in
    let letters = and_parts (all lowercase (c ∷ cs)) _ sizes.1 in
    let reserved = and_parts (non (bytes_eq (c ∷ cs) (codes "true"))) _ letters.1 in
    let head = and_parts (lowercase c) _ letters.0 in
    record {
      first = c;
      others = cs;
      is = refl;
      low = leb-true 97 c (and_parts (leb 97 c) _ head.0).0;
      high = leb-true c 122 (and_parts (leb 97 c) _ head.0).1;
      no_true = Rattle.std.proofs.lemmas.Bool.not-true _ reserved.0;
      no_false = Rattle.std.proofs.lemmas.Bool.not-true _ reserved.1;
      spaceless = lower_lacks (c ∷ cs) letters.0;
    }

-- no name is a word that begins with another byte
apart : (w : Text) (b : ℕ) (bs : Text) → Begins w → ((97 ≤ b) × (b ≤ 122) → ⊥) → bytes_eq w (b ∷ bs) ≡ false
apart w b bs k d = ap (λ x. bytes_eq x (b ∷ bs)) k.is ∙ same_first k.first b k.others bs (λ e. d (omega (arith, k.low), omega (arith, k.high)))

pub name_at : (ns : List Text) → GoodNames ns → (i : ℕ) → i < length ns → Begins (get_or ns i [])
name_at ns g i l = name_begins (get_or ns i []) (all_at is_name ns i [] g.are_names l)

-- ---- the parts of a text are its words

parted_one : (op a : Text) (ws : List Text) → lacks 32 op ≡ true → parted 32 a ≡ ws → parted 32 (one op a) ≡ op ∷ ws
parted_one op a ws l e = parted_at 32 op a ∙ ap₂ ◌++◌ (parted_whole 32 op l) e

parted_two : (op a b : Text) (us ws : List Text) → lacks 32 op ≡ true → parted 32 a ≡ us → parted 32 b ≡ ws → parted 32 (two op a b) ≡ op ∷ (us ++ ws)
parted_two op a b us ws l d e = parted_one op (a ++ (32 ∷ b)) (us ++ ws) l (parted_at 32 a b ∙ ap₂ ◌++◌ d e)

pub parted_written : (ns : List Text) → GoodNames ns → (r : Rule) → Named (length ns) r → parted 32 (written ns r) ≡ words ns r
parted_written ns g rtrue k = refl
parted_written ns g rfalse k = refl
parted_written ns g (name i) k = parted_whole 32 (get_or ns i []) (name_at ns g i k).spaceless
parted_written ns g (not a) k = parted_one (codes "!") (written ns a) (words ns a) refl (parted_written ns g a k)
parted_written ns g (rnext a) k = parted_one (codes "X") (written ns a) (words ns a) refl (parted_written ns g a k)
parted_written ns g (finally a) k = parted_one (codes "F") (written ns a) (words ns a) refl (parted_written ns g a k)
parted_written ns g (globally a) k = parted_one (codes "G") (written ns a) (words ns a) refl (parted_written ns g a k)
parted_written ns g (both a b) k = parted_two (codes "&") (written ns a) (written ns b) (words ns a) (words ns b) refl (parted_written ns g a k.0) (parted_written ns g b k.1)
parted_written ns g (either a b) k = parted_two (codes "|") (written ns a) (written ns b) (words ns a) (words ns b) refl (parted_written ns g a k.0) (parted_written ns g b k.1)
parted_written ns g (implies a b) k = parted_two (codes "->") (written ns a) (written ns b) (words ns a) (words ns b) refl (parted_written ns g a k.0) (parted_written ns g b k.1)
parted_written ns g (runtil a b) k = parted_two (codes "U") (written ns a) (written ns b) (words ns a) (words ns b) refl (parted_written ns g a k.0) (parted_written ns g b k.1)
parted_written ns g (rrelease a b) k = parted_two (codes "V") (written ns a) (written ns b) (words ns a) (words ns b) refl (parted_written ns g a k.0) (parted_written ns g b k.1)

-- ---- what is written has no fault

module _ (ns : List Text) (n : ℕ) where
  pub read_leaf : (p d : ℕ) (w : Text) (ws : List Text) (wanted : List ℕ) → operands ns w ≡ Some 0 → fault_from ns n p (w ∷ ws) (d ∷ wanted) ≡ fault_from ns n (p + length w + 1) ws wanted
  read_leaf p d w ws wanted e = ap (at_word n p w ws d wanted (fault_from ns n (p + length w + 1) ws)) e

  pub read_one : (p d : ℕ) (w : Text) (ws : List Text) (wanted : List ℕ) → operands ns w ≡ Some 1 → d < 32
      → fault_from ns n p (w ∷ ws) (d ∷ wanted) ≡ fault_from ns n (p + length w + 1) ws ((d + 1) ∷ wanted)
  read_one p d w ws wanted e l = ap (at_word n p w ws d wanted (fault_from ns n (p + length w + 1) ws)) e ∙ cond-false (leb 32 d) _ _ (lt-leb 32 d l)

  pub read_two : (p d : ℕ) (w : Text) (ws : List Text) (wanted : List ℕ) → operands ns w ≡ Some 2 → d < 32
      → fault_from ns n p (w ∷ ws) (d ∷ wanted) ≡ fault_from ns n (p + length w + 1) ws ((d + 1) ∷ ((d + 1) ∷ wanted))
  read_two p d w ws wanted e l = ap (at_word n p w ws d wanted (fault_from ns n (p + length w + 1) ws)) e ∙ cond-false (leb 32 d) _ _ (lt-leb 32 d l)

  -- reading passes over words us that write t, where an operand at depth d is wanted
  abbrev pub Passes : List Text → Text → ℕ → Type 0
  Passes us t d = (p : ℕ) (ws : List Text) (wanted : List ℕ) → fault_from ns n p (us ++ ws) (d ∷ wanted) ≡ fault_from ns n (p + length t + 1) ws wanted

  pass_one : (op : Text) (us : List Text) (t : Text) (d : ℕ) → operands ns op ≡ Some 1 → d < 32 → Passes us t (d + 1) → Passes (op ∷ us) (one op t) d
  pass_one op us t d e l h p ws wanted =
      let far : p + length op + 1 + length t + 1 ≡ p + length (one op t) + 1 = omega (arith, length-append op (32 ∷ t)) in
      read_one p d op (us ++ ws) wanted e l ∙ h (p + length op + 1) ws wanted ∙ ap (λ q. fault_from ns n q ws wanted) far

  pass_two : (op : Text) (us vs : List Text) (t u : Text) (d : ℕ) → operands ns op ≡ Some 2 → d < 32 → Passes us t (d + 1) → Passes vs u (d + 1) → Passes (op ∷ (us ++ vs)) (two op t u) d
  pass_two op us vs t u d e l h k p ws wanted =
      let far : p + length op + 1 + length t + 1 + length u + 1 ≡ p + length (two op t u) + 1 = omega (arith, length-append op (32 ∷ (t ++ (32 ∷ u))), length-append t (32 ∷ u)) in
      read_two p d op ((us ++ vs) ++ ws) wanted e l
      ∙ ap (λ x. fault_from ns n (p + length op + 1) x ((d + 1) ∷ ((d + 1) ∷ wanted))) (append_assoc us vs ws)
      ∙ h (p + length op + 1) (vs ++ ws) ((d + 1) ∷ wanted)
      ∙ k (p + length op + 1 + length t + 1) ws wanted
      ∙ ap (λ q. fault_from ns n q ws wanted) far

  pub name_operands : GoodNames ns → (i : ℕ) → i < length ns → operands ns (get_or ns i []) ≡ Some 0
  name_operands g i l =
      let w = get_or ns i [] in
      let k = name_at ns g i l in
      let no_one : one_of w (codes "!" ∷ (codes "X" ∷ (codes "F" ∷ (codes "G" ∷ [])))) ≡ false =
      ap₂ ◌||◌ (apart w 33 [] k (λ x. omega arith)) (ap₂ ◌||◌ (apart w 88 [] k (λ x. omega arith)) (ap₂ ◌||◌ (apart w 70 [] k (λ x. omega arith)) (ap₂ ◌||◌ (apart w 71 [] k (λ x. omega arith)) refl))) in
      let no_two : one_of w (codes "&" ∷ (codes "|" ∷ (codes "->" ∷ (codes "U" ∷ (codes "V" ∷ []))))) ≡ false =
      ap₂ ◌||◌ (apart w 38 [] k (λ x. omega arith)) (ap₂ ◌||◌ (apart w 124 [] k (λ x. omega arith)) (ap₂ ◌||◌ (apart w 45 (62 ∷ []) k (λ x. omega arith))
      (ap₂ ◌||◌ (apart w 85 [] k (λ x. omega arith)) (ap₂ ◌||◌ (apart w 86 [] k (λ x. omega arith)) refl)))) in
      let known : one_of w (codes "true" ∷ (codes "false" ∷ ns)) ≡ true = ap₂ ◌||◌ k.no_true (ap₂ ◌||◌ k.no_false (one_of_at ns i l)) in
      cond-false _ _ _ no_one ∙ cond-false _ _ _ no_two ∙ cond-true _ _ _ known

  pub passes : GoodNames ns → (r : Rule) (d : ℕ) → Named (length ns) r → depth r + d ≤ 32 → Passes (words ns r) (written ns r) d
  passes g rtrue d k l p ws wanted = read_leaf p d (codes "true") ws wanted refl
  passes g rfalse d k l p ws wanted = read_leaf p d (codes "false") ws wanted refl
  passes g (name i) d k l p ws wanted = read_leaf p d (get_or ns i []) ws wanted (name_operands g i k)
  passes g (not a) d k l p ws wanted = pass_one (codes "!") (words ns a) (written ns a) d refl (omega arith) (passes g a (d + 1) k (omega arith)) p ws wanted
  passes g (rnext a) d k l p ws wanted = pass_one (codes "X") (words ns a) (written ns a) d refl (omega arith) (passes g a (d + 1) k (omega arith)) p ws wanted
  passes g (finally a) d k l p ws wanted = pass_one (codes "F") (words ns a) (written ns a) d refl (omega arith) (passes g a (d + 1) k (omega arith)) p ws wanted
  passes g (globally a) d k l p ws wanted = pass_one (codes "G") (words ns a) (written ns a) d refl (omega arith) (passes g a (d + 1) k (omega arith)) p ws wanted
  passes g (both a b) d k l p ws wanted = pass_two (codes "&") (words ns a) (words ns b) (written ns a) (written ns b) d refl (omega arith) (passes g a (d + 1) k.0 (omega arith)) (passes g b (d + 1) k.1 (omega arith)) p ws wanted
  passes g (either a b) d k l p ws wanted = pass_two (codes "|") (words ns a) (words ns b) (written ns a) (written ns b) d refl (omega arith) (passes g a (d + 1) k.0 (omega arith)) (passes g b (d + 1) k.1 (omega arith)) p ws wanted
  passes g (implies a b) d k l p ws wanted = pass_two (codes "->") (words ns a) (words ns b) (written ns a) (written ns b) d refl (omega arith) (passes g a (d + 1) k.0 (omega arith)) (passes g b (d + 1) k.1 (omega arith)) p ws wanted
  passes g (runtil a b) d k l p ws wanted = pass_two (codes "U") (words ns a) (words ns b) (written ns a) (written ns b) d refl (omega arith) (passes g a (d + 1) k.0 (omega arith)) (passes g b (d + 1) k.1 (omega arith)) p ws wanted
  passes g (rrelease a b) d k l p ws wanted = pass_two (codes "V") (words ns a) (words ns b) (written ns a) (written ns b) d refl (omega arith) (passes g a (d + 1) k.0 (omega arith)) (passes g b (d + 1) k.1 (omega arith)) p ws wanted

meant_faultless : (ns : List Text) (t : Text) → GoodNames ns → (r : Rule) → Means ns t r → text_fault ns t ≡ None
meant_faultless ns t g r m =
    let parts : parted 32 t ≡ words ns r ++ [] = ap (parted 32) m.writes ∙ parted_written ns g r m.named ∙ sym (append-nil (words ns r)) in
    ap (λ ws. fault_from ns (length t) 0 ws (0 ∷ [])) parts ∙ passes ns (length t) g r 0 m.named (omega (arith, m.shallow)) 0 [] []

-- ---- what has no fault is written

pub record Leafy (ns : List Text) (w : Text) : Type 0 where
  pub takes : operands ns w ≡ Some 0
  pub rule : Rule
  pub spelled : words ns rule ≡ w ∷ []
  pub named : Named (length ns) rule
  pub flat : depth rule ≡ 0

pub record Unary (ns : List Text) (w : Text) : Type 0 where
  pub takes : operands ns w ≡ Some 1
  pub rule : Rule → Rule
  pub spelled : (a : Rule) → words ns (rule a) ≡ w ∷ words ns a
  pub named : (a : Rule) → Named (length ns) a → Named (length ns) (rule a)
  pub deeper : (a : Rule) → depth (rule a) ≡ suc (depth a)

pub record Binary (ns : List Text) (w : Text) : Type 0 where
  pub takes : operands ns w ≡ Some 2
  pub rule : Rule → Rule → Rule
  pub spelled : (a b : Rule) → words ns (rule a b) ≡ w ∷ (words ns a ++ words ns b)
  pub named : (a b : Rule) → Named (length ns) a → Named (length ns) b → Named (length ns) (rule a b)
  pub deeper : (a b : Rule) → depth (rule a b) ≡ suc (max (depth a) (depth b))

pub data Kind (ns : List Text) (w : Text) : Type 0 where
  wrong : operands ns w ≡ None → Kind ns w
  leafy : Leafy ns w → Kind ns w
  unary : Unary ns w → Kind ns w
  binary : Binary ns w → Kind ns w

either_of : (t u : Text) (us : List Text) → one_of t (u ∷ us) ≡ true → (t ≡ u) ⊎ (one_of t us ≡ true)
either_of t u us e = go (bytes_eq t u) refl e
  where
    go : (b : Bool) → bytes_eq t u ≡ b → (b || one_of t us) ≡ true → (t ≡ u) ⊎ (one_of t us ≡ true)
    go true s e' = inl (same_true t u s)
    go false s e' = inr e'

module _ (ns : List Text) (w : Text) where
  unary_not : w ≡ codes "!" → operands ns w ≡ Some 1 → Kind ns w
  unary_not e t = unary (record { takes = t; rule = not; spelled = λ a. ap (λ x. x ∷ words ns a) (sym e); named = λ a k. k; deeper = λ a. refl })

  unary_rnext : w ≡ codes "X" → operands ns w ≡ Some 1 → Kind ns w
  unary_rnext e t = unary (record { takes = t; rule = rnext; spelled = λ a. ap (λ x. x ∷ words ns a) (sym e); named = λ a k. k; deeper = λ a. refl })

  unary_finally : w ≡ codes "F" → operands ns w ≡ Some 1 → Kind ns w
  unary_finally e t = unary (record { takes = t; rule = finally; spelled = λ a. ap (λ x. x ∷ words ns a) (sym e); named = λ a k. k; deeper = λ a. refl })

  unary_globally : w ≡ codes "G" → operands ns w ≡ Some 1 → Kind ns w
  unary_globally e t = unary (record { takes = t; rule = globally; spelled = λ a. ap (λ x. x ∷ words ns a) (sym e); named = λ a k. k; deeper = λ a. refl })

  binary_both : w ≡ codes "&" → operands ns w ≡ Some 2 → Kind ns w
  binary_both e t = binary (record { takes = t; rule = both; spelled = λ a b. ap (λ x. x ∷ (words ns a ++ words ns b)) (sym e); named = λ a b j k. (j, k); deeper = λ a b. refl })

  binary_either : w ≡ codes "|" → operands ns w ≡ Some 2 → Kind ns w
  binary_either e t = binary (record { takes = t; rule = either; spelled = λ a b. ap (λ x. x ∷ (words ns a ++ words ns b)) (sym e); named = λ a b j k. (j, k); deeper = λ a b. refl })

  binary_implies : w ≡ codes "->" → operands ns w ≡ Some 2 → Kind ns w
  binary_implies e t = binary (record { takes = t; rule = implies; spelled = λ a b. ap (λ x. x ∷ (words ns a ++ words ns b)) (sym e); named = λ a b j k. (j, k); deeper = λ a b. refl })

  binary_runtil : w ≡ codes "U" → operands ns w ≡ Some 2 → Kind ns w
  binary_runtil e t = binary (record { takes = t; rule = runtil; spelled = λ a b. ap (λ x. x ∷ (words ns a ++ words ns b)) (sym e); named = λ a b j k. (j, k); deeper = λ a b. refl })

  binary_rrelease : w ≡ codes "V" → operands ns w ≡ Some 2 → Kind ns w
  binary_rrelease e t = binary (record { takes = t; rule = rrelease; spelled = λ a b. ap (λ x. x ∷ (words ns a ++ words ns b)) (sym e); named = λ a b j k. (j, k); deeper = λ a b. refl })

  unary_kind : one_of w (codes "!" ∷ (codes "X" ∷ (codes "F" ∷ (codes "G" ∷ [])))) ≡ true → operands ns w ≡ Some 1 → Kind ns w
  unary_kind m t = ⊎_elim (λ e. unary_not e t) (λ m0. ⊎_elim (λ e. unary_rnext e t) (λ m1. ⊎_elim (λ e. unary_finally e t) (λ m2. ⊎_elim (λ e. unary_globally e t) (λ m3. absurd (false≢true m3)) (either_of w (codes "G") ([]) m2)) (either_of w (codes "F") (codes "G" ∷ []) m1)) (either_of w (codes "X") (codes "F" ∷ (codes "G" ∷ [])) m0)) (either_of w (codes "!") (codes "X" ∷ (codes "F" ∷ (codes "G" ∷ []))) m)

  binary_kind : one_of w (codes "&" ∷ (codes "|" ∷ (codes "->" ∷ (codes "U" ∷ (codes "V" ∷ []))))) ≡ true → operands ns w ≡ Some 2 → Kind ns w
  binary_kind m t = ⊎_elim (λ e. binary_both e t) (λ m0. ⊎_elim (λ e. binary_either e t) (λ m1. ⊎_elim (λ e. binary_implies e t) (λ m2. ⊎_elim (λ e. binary_runtil e t) (λ m3. ⊎_elim (λ e. binary_rrelease e t) (λ m4. absurd (false≢true m4)) (either_of w (codes "V") ([]) m3)) (either_of w (codes "U") (codes "V" ∷ []) m2)) (either_of w (codes "->") (codes "U" ∷ (codes "V" ∷ [])) m1)) (either_of w (codes "|") (codes "->" ∷ (codes "U" ∷ (codes "V" ∷ []))) m0)) (either_of w (codes "&") (codes "|" ∷ (codes "->" ∷ (codes "U" ∷ (codes "V" ∷ [])))) m)

  leafy_kind : one_of w (codes "true" ∷ (codes "false" ∷ ns)) ≡ true → operands ns w ≡ Some 0 → Kind ns w
  leafy_kind m t =
      ⊎_elim (λ e. leafy (record { takes = t; rule = rtrue; spelled = ap (λ x. x ∷ []) (sym e); named = tt; flat = refl }))
      (λ m0. ⊎_elim (λ e. leafy (record { takes = t; rule = rfalse; spelled = ap (λ x. x ∷ []) (sym e); named = tt; flat = refl }))
      (λ m1. let k = find ns w m1 in leafy (record { takes = t; rule = name k.0; spelled = ap (λ x. x ∷ []) k.2; named = k.1; flat = refl }))
      (either_of w (codes "false") ns m0)) (either_of w (codes "true") (codes "false" ∷ ns) m)

  pub kind : Kind ns w
  kind = go₁ (one_of w (codes "!" ∷ (codes "X" ∷ (codes "F" ∷ (codes "G" ∷ []))))) refl
    where
      go₃ : one_of w (codes "!" ∷ (codes "X" ∷ (codes "F" ∷ (codes "G" ∷ [])))) ≡ false → one_of w (codes "&" ∷ (codes "|" ∷ (codes "->" ∷ (codes "U" ∷ (codes "V" ∷ []))))) ≡ false → (b : Bool) → one_of w (codes "true" ∷ (codes "false" ∷ ns)) ≡ b → Kind ns w
      go₃ d e true s = leafy_kind s (cond-false _ _ _ d ∙ cond-false _ _ _ e ∙ cond-true _ _ _ s)
      go₃ d e false s = wrong (cond-false _ _ _ d ∙ cond-false _ _ _ e ∙ cond-false _ _ _ s)

      go₂ : one_of w (codes "!" ∷ (codes "X" ∷ (codes "F" ∷ (codes "G" ∷ [])))) ≡ false → (b : Bool) → one_of w (codes "&" ∷ (codes "|" ∷ (codes "->" ∷ (codes "U" ∷ (codes "V" ∷ []))))) ≡ b → Kind ns w
      go₂ d true s = binary_kind s (cond-false _ _ _ d ∙ cond-true _ _ _ s)
      go₂ d false s = go₃ d s (one_of w (codes "true" ∷ (codes "false" ∷ ns))) refl

      go₁ : (b : Bool) → one_of w (codes "!" ∷ (codes "X" ∷ (codes "F" ∷ (codes "G" ∷ [])))) ≡ b → Kind ns w
      go₁ true s = unary_kind s (cond-true _ _ _ s)
      go₁ false s = go₂ s (one_of w (codes "&" ∷ (codes "|" ∷ (codes "->" ∷ (codes "U" ∷ (codes "V" ∷ [])))))) refl

-- the words ws write a rule for each wanted operand, none too deep
abbrev Forms : List Text → List Text → List ℕ → Type 0
Forms ns ws [] = ws ≡ []
Forms ns ws (d ∷ ds) = (r : Rule) × (rest : List Text) × (ws ≡ words ns r ++ rest) × Named (length ns) r × (depth r ≤ 32 - d) × Forms ns rest ds

pub some_none : {X : Type 0} (x : X) → ◌≡◌ {A = Option X} (Some x) None → ⊥
some_none x e = grind arith

pub wrong_none : (b : Bool) (e f : RuleFault) → cond b (Some e) (Some f) ≡ None → ⊥
wrong_none true e f h = some_none e h
wrong_none false e f h = some_none f h

-- where an operator was not too deep, reading went on
went_on : (d p : ℕ) (x : Option RuleFault) → cond (leb 32 d) (Some (TooDeep p)) x ≡ None → (d < 32) × (x ≡ None)
went_on d p x h = go (leb 32 d) refl h
  where
    go : (b : Bool) → leb 32 d ≡ b → cond b (Some (TooDeep p)) x ≡ None → (d < 32) × (x ≡ None)
    go true s k = absurd (some_none (TooDeep p) k)
    go false s k = (leb-false 32 d s, k)

faultless_forms : (ns : List Text) (n p : ℕ) (ws : List Text) (wanted : List ℕ) → fault_from ns n p ws wanted ≡ None → Forms ns ws wanted
faultless_forms ns n p [] [] h = refl
faultless_forms ns n p [] (d ∷ ds) h = absurd (some_none _ h)
faultless_forms ns n p (w ∷ ws) [] h = absurd (some_none _ h)
faultless_forms ns n p (w ∷ ws) (d ∷ ds) h = go (kind ns w) (faultless_forms ns n (p + length w + 1) ws)
  where
    at : operands ns w ≡ None → at_word n p w ws d ds (fault_from ns n (p + length w + 1) ws) None ≡ None
    at e = sym (ap (at_word n p w ws d ds (fault_from ns n (p + length w + 1) ws)) e) ∙ h

    go : Kind ns w → ((wanted : List ℕ) → fault_from ns n (p + length w + 1) ws wanted ≡ None → Forms ns ws wanted) → Forms ns (w ∷ ws) (d ∷ ds)
    go (wrong e) below = absurd (wrong_none _ _ _ (at e))
    go (leafy k) below =
        let h' : fault_from ns n (p + length w + 1) ws ds ≡ None = sym (read_leaf ns n p d w ws ds k.takes) ∙ h in
        (k.rule, ws, ap (λ x. x ++ ws) (sym k.spelled), k.named, omega (arith, k.flat), below ds h')
    go (unary k) below =
        let on = went_on d p _ (sym (ap (at_word n p w ws d ds (fault_from ns n (p + length w + 1) ws)) k.takes) ∙ h) in
        let a = below ((d + 1) ∷ ds) on.1 in
        (k.rule a.0, a.1, ap (λ x. w ∷ x) a.2 ∙ ap (λ x. x ++ a.1) (sym (k.spelled a.0)), k.named a.0 a.3, omega (arith, k.deeper a.0, a.4, on.0), a.5)
    go (binary k) below =
        let on = went_on d p _ (sym (ap (at_word n p w ws d ds (fault_from ns n (p + length w + 1) ws)) k.takes) ∙ h) in
        let a = below ((d + 1) ∷ ((d + 1) ∷ ds)) on.1 in
        let b = a.5 in (
          k.rule a.0 b.0,
          b.1,
          ap (λ x. w ∷ x) (a.2 ∙ ap (λ x. words ns a.0 ++ x) b.2 ∙ sym (append_assoc (words ns a.0) (words ns b.0) b.1)) ∙ ap (λ x. x ++ b.1) (sym (k.spelled a.0 b.0)),
          k.named a.0 b.0 a.3 b.3,
          omega (arith, k.deeper a.0 b.0, a.4, b.4, on.0),
          b.5,
        )

faultless_meant : (ns : List Text) (t : Text) → text_fault ns t ≡ None → (r : Rule) × Means ns t r
faultless_meant ns t h =
    let k = faultless_forms ns (length t) 0 (parted 32 t) (0 ∷ []) h in
    let parts : parted 32 t ≡ words ns k.0 = k.2 ∙ ap (λ x. words ns k.0 ++ x) k.5 ∙ append-nil (words ns k.0) in (
      k.0,
      record {
        writes = sym (joined_parted 32 t) ∙ ap (joined 32) parts ∙ joined_words ns k.0;
        named = k.3;
        shallow = omega (arith, k.4);
      },
    )

pub faultless_texts_mean_rules : FaultlessTextsMeanRules
faultless_texts_mean_rules ns t g = (λ h. ∣ faultless_meant ns t h ∣₁, λ m. go (text_fault ns t) refl m)
  where
    go : (x : Option RuleFault) → text_fault ns t ≡ x → ∥ ((r : Rule) × Means ns t r) ∥₁ → x ≡ None
    go None e m = refl
    go (Some y) e m = absurd (∥∥₁_elim m ⊥_prop (λ k. some_none y (sym e ∙ meant_faultless ns t g k.0 k.1)))

-- ---- one rule: it is built again from its words, the last word first

data Made : Type 0 where
  of_none : Rule → Made
  of_one : (Rule → Rule) → Made
  of_two : (Rule → Rule → Rule) → Made

place : List Text → Text → ℕ
place [] t = 0
place (u ∷ us) t = cond (bytes_eq t u) 0 (suc (place us t))

made : List Text → Text → Made
made ns w =
    cond (bytes_eq w (codes "!")) (of_one not)
    (cond (bytes_eq w (codes "X")) (of_one rnext)
    (cond (bytes_eq w (codes "F")) (of_one finally)
    (cond (bytes_eq w (codes "G")) (of_one globally)
    (cond (bytes_eq w (codes "&")) (of_two both)
    (cond (bytes_eq w (codes "|")) (of_two either)
    (cond (bytes_eq w (codes "->")) (of_two implies)
    (cond (bytes_eq w (codes "U")) (of_two runtil)
    (cond (bytes_eq w (codes "V")) (of_two rrelease)
    (cond (bytes_eq w (codes "true")) (of_none rtrue)
    (cond (bytes_eq w (codes "false")) (of_none rfalse) (of_none (name (place ns w)))))))))))))

push : Made → List Rule → List Rule
push (of_none r) rs = r ∷ rs
push (of_one f) [] = []
push (of_one f) (a ∷ rs) = f a ∷ rs
push (of_two f) [] = []
push (of_two f) (a ∷ []) = []
push (of_two f) (a ∷ (b ∷ rs)) = f a b ∷ rs

built : List Text → List Text → List Rule
built ns [] = []
built ns (w ∷ ws) = push (made ns w) (built ns ws)

place_at : (ns : List Text) (i : ℕ) → once ns ≡ true → i < length ns → place ns (get_or ns i []) ≡ i
unfolding place
place_at [] i h l = absurd (omega arith)
place_at (u ∷ us) zero h l = cond-true (bytes_eq u u) 0 _ (same_refl u)
place_at (u ∷ us) (suc i) h l =
    let k = and_parts (non (one_of u us)) _ h in
    cond-false (bytes_eq (get_or us i []) u) 0 _ (other (bytes_eq (get_or us i []) u) refl k.0) ∙ ap suc (place_at us i k.1 (omega arith))
  where
    other : (b : Bool) → bytes_eq (get_or us i []) u ≡ b → non (one_of u us) ≡ true → b ≡ false
    other false s n = refl
    other true s n =
        let e : get_or us i [] ≡ u = same_true (get_or us i []) u s in
        let m : one_of u us ≡ true = subst (λ x. one_of x us ≡ true) e (one_of_at us i (omega arith)) in
        absurd (false≢true (sym (ap non m) ∙ n))

made_name : (ns : List Text) → GoodNames ns → (i : ℕ) → i < length ns → made ns (get_or ns i []) ≡ of_none (name i)
unfolding made
made_name ns g i l =
    let w = get_or ns i [] in
    let k = name_at ns g i l in
    cond-false _ _ _ (apart w 33 [] k (λ x. omega arith))
    ∙ cond-false _ _ _ (apart w 88 [] k (λ x. omega arith))
    ∙ cond-false _ _ _ (apart w 70 [] k (λ x. omega arith))
    ∙ cond-false _ _ _ (apart w 71 [] k (λ x. omega arith))
    ∙ cond-false _ _ _ (apart w 38 [] k (λ x. omega arith))
    ∙ cond-false _ _ _ (apart w 124 [] k (λ x. omega arith))
    ∙ cond-false _ _ _ (apart w 45 (62 ∷ []) k (λ x. omega arith))
    ∙ cond-false _ _ _ (apart w 85 [] k (λ x. omega arith))
    ∙ cond-false _ _ _ (apart w 86 [] k (λ x. omega arith))
    ∙ cond-false _ _ _ k.no_true
    ∙ cond-false _ _ _ k.no_false
    ∙ ap (λ j. of_none (name j)) (place_at ns i g.stand_once l)

module _ (ns : List Text) (g : GoodNames ns) where
  rebuilt : (r : Rule) → Named (length ns) r → (ws : List Text) → built ns (words ns r ++ ws) ≡ r ∷ built ns ws
  unfolding built push made
  rebuilt rtrue k ws = refl
  rebuilt rfalse k ws = refl
  rebuilt (name i) k ws = ap (λ m. push m (built ns ws)) (made_name ns g i k)
  rebuilt (not a) k ws = ap (push (of_one not)) (rebuilt a k ws)
  rebuilt (rnext a) k ws = ap (push (of_one rnext)) (rebuilt a k ws)
  rebuilt (finally a) k ws = ap (push (of_one finally)) (rebuilt a k ws)
  rebuilt (globally a) k ws = ap (push (of_one globally)) (rebuilt a k ws)
  rebuilt (both a b) k ws = ap (λ x. push (of_two both) (built ns x)) (append_assoc (words ns a) (words ns b) ws) ∙ ap (push (of_two both)) (rebuilt a k.0 (words ns b ++ ws) ∙ ap (λ x. a ∷ x) (rebuilt b k.1 ws))
  rebuilt (either a b) k ws = ap (λ x. push (of_two either) (built ns x)) (append_assoc (words ns a) (words ns b) ws) ∙ ap (push (of_two either)) (rebuilt a k.0 (words ns b ++ ws) ∙ ap (λ x. a ∷ x) (rebuilt b k.1 ws))
  rebuilt (implies a b) k ws = ap (λ x. push (of_two implies) (built ns x)) (append_assoc (words ns a) (words ns b) ws) ∙ ap (push (of_two implies)) (rebuilt a k.0 (words ns b ++ ws) ∙ ap (λ x. a ∷ x) (rebuilt b k.1 ws))
  rebuilt (runtil a b) k ws = ap (λ x. push (of_two runtil) (built ns x)) (append_assoc (words ns a) (words ns b) ws) ∙ ap (push (of_two runtil)) (rebuilt a k.0 (words ns b ++ ws) ∙ ap (λ x. a ∷ x) (rebuilt b k.1 ws))
  rebuilt (rrelease a b) k ws = ap (λ x. push (of_two rrelease) (built ns x)) (append_assoc (words ns a) (words ns b) ws) ∙ ap (push (of_two rrelease)) (rebuilt a k.0 (words ns b ++ ws) ∙ ap (λ x. a ∷ x) (rebuilt b k.1 ws))

pub texts_mean_one_rule : TextsMeanOneRule
texts_mean_one_rule ns t g r s m k =
    let same : words ns r ≡ words ns s = sym (parted_written ns g r m.named) ∙ ap (parted 32) (sym m.writes ∙ k.writes) ∙ parted_written ns g s k.named in
    head-eq_of_cons-eq (sym (rebuilt ns g r m.named []) ∙ ap (λ x. built ns (x ++ [])) same ∙ rebuilt ns g s k.named [])
