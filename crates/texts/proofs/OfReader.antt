-- The reader finds the fault of the specification.
use Rattle.std.proofs.Common.{◌≡◌, ℕ, zero, suc, ◌+◌, ◌-◌, ◌<◌, ◌≤◌, Bool, true, false, cond, ◌&&◌, ◌||◌, eqb, List, [], ◌∷◌, length, take, drop, Some, None, Ok, Err, codes, Option, sym, refl, ap, ◌∙◌, subst, ap₂, add-one, arith, length-append, take-append-drop}
use Rattle.std.specs.Str.{bytes_eq}
use Rattle.std.specs.List.{AllByRecursion}
use Rattle.std.proofs.lemmas.Bool.{and_right, cond-true, cond-false, le-leb, lt-leb}
use Rattle.std.proofs.lemmas.Slice.Eq.{bytes_eq-Decides}
use Rattle.logic.specs.Rule.{Rule}
use Rattle.meaning.specs.declared.refusals.RuleFault.{RuleFault}
use Rattle.meaning.specs.declared.refusals.RuleFault.TheVariants.{WordWanted, BytesFollow, TooDeep}
use Rattle.meaning.specs.Bytes.{Text, is_empty, one_of, before_first, parted}
use Rattle.meaning.specs.Faults.{operands, at_word, fault_from}
use Rattle.texts.specs.declared.words.Leaf.TheVariants.{True, False}
use Rattle.texts.specs.declared.words.Unary.{Unary}
use Rattle.texts.specs.declared.words.Unary.TheVariants.{Not, Next, Finally, Globally}
use Rattle.texts.specs.declared.words.Binary.{Binary}
use Rattle.texts.specs.declared.words.Binary.TheVariants.{And, Or, Implies, Until, Release}
use Rattle.texts.specs.declared.words.Word.{Word}
use Rattle.texts.specs.declared.words.Word.TheVariants.{Zero, One, Two}
use Rattle.texts.specs.Places.{length_to, place_of, one_later}
use Rattle.texts.specs.Words.{word_of, or_name, fixed_word, heads, allowed}
use Rattle.texts.specs.Parse.{Parsed, unary_parsed, binary_parsed, operands_parsed, word_parsed, parse}
use Rattle.texts.specs.Fit.{FitName}
use Rattle.texts.specs.Judged.{ended}
use Rattle.texts.specs.Reader.{fault_of, ReadingFindsTheFault}
use Rattle.texts.proofs.OfNames.{same_true, same_false}

-- ---- words

-- how many operands a word takes
abbrev arity : Option Word → Option ℕ
arity None = None
arity (Some (Zero l)) = Some 0
arity (Some (One o)) = Some 1
arity (Some (Two o)) = Some 2

abbrev found : Option ℕ → Bool
found None = false
found (Some i) = true

found_later : (p : Option ℕ) → found (one_later p) ≡ found p
found_later None = refl
found_later (Some i) = refl

same_turned : (v w : Text) → bytes_eq v w ≡ bytes_eq w v
same_turned v w = go (bytes_eq w v) refl
  where
    go : (t : Bool) → bytes_eq w v ≡ t → bytes_eq v w ≡ t
    go true e = same_true v w (sym ((bytes_eq-Decides w v).0 e))
    go false e = same_false v w (λ i. Rattle.std.proofs.lemmas.Bool.both_ways (bytes_eq w v) e (same_true w v (sym i)))

named : (ns : List Text) (w : Text) → one_of w ns ≡ found (place_of ns w)
named [] w = refl
named (n ∷ ns) w = ap₂ ◌||◌ (same_turned w n) (named ns w) ∙ go (bytes_eq n w)
  where
    go : (t : Bool) → (t || found (place_of ns w)) ≡ found (cond t (Some 0) (one_later (place_of ns w)))
    go true = refl
    go false = sym (found_later (place_of ns w))

leaf_or_none : (p : Option ℕ) → cond (found p) (Some 0) None ≡ arity (or_name None p)
leaf_or_none None = refl
leaf_or_none (Some i) = refl

one_byte : (p : Option ℕ) (a b c d e f g h : Bool)
    → cond ((a && true) || ((b && true) || ((c && true) || ((d && true) || false)))) (Some 1) (cond ((e && true) || ((f && true) || (false || ((g && true) || ((h && true) || false))))) (Some 2) (cond (found p) (Some 0) None))
    ≡ arity (or_name (cond a (Some (One Not)) (cond b (Some (One Next)) (cond c (Some (One Finally)) (cond d (Some (One Globally)) (cond e (Some (Two And)) (cond f (Some (Two Or)) (cond g (Some (Two Until)) (cond h (Some (Two Release)) None)))))))) p)
one_byte p true b c d e f g h = refl
one_byte p false true c d e f g h = refl
one_byte p false false true d e f g h = refl
one_byte p false false false true e f g h = refl
one_byte p false false false false true f g h = refl
one_byte p false false false false false true g h = refl
one_byte p false false false false false false true h = refl
one_byte p false false false false false false false true = refl
one_byte p false false false false false false false false = leaf_or_none p

no_byte : (b : Bool) → (b && false) ≡ false
no_byte b = and_right b false refl

-- a longer word, where it is not `->`
long_words : (p : Option ℕ) (t f : Bool) → cond (t || (f || found p)) (Some 0) None ≡ arity (or_name (cond t (Some (Zero True)) (cond f (Some (Zero False)) None)) p)
long_words p true f = refl
long_words p false true = refl
long_words p false false = leaf_or_none p

-- the reader and the specification know the same words
pub operands_are : (ns : List Text) (w : Text) → operands ns w ≡ arity (word_of ns w)
unfolding word_of fixed_word
operands_are ns [] = ap (λ (b : Bool). cond b (Some 0) None) (named ns []) ∙ leaf_or_none (place_of ns [])
operands_are ns (c ∷ []) =
    ap₂ (λ (x y : Bool). cond ((eqb c 33 && true) || ((eqb c 88 && true) || ((eqb c 70 && true) || ((eqb c 71 && true) || false)))) (Some 1)
    (cond ((eqb c 38 && true) || ((eqb c 124 && true) || (x || ((eqb c 85 && true) || ((eqb c 86 && true) || false))))) (Some 2) (cond y (Some 0) None)))
    (no_byte (eqb c 45)) (ap₂ ◌||◌ (no_byte (eqb c 116)) (ap₂ ◌||◌ (no_byte (eqb c 102)) (named ns (c ∷ []))))
    ∙ one_byte (place_of ns (c ∷ [])) (eqb c 33) (eqb c 88) (eqb c 70) (eqb c 71) (eqb c 38) (eqb c 124) (eqb c 85) (eqb c 86)
operands_are ns (c ∷ (d ∷ ds)) =
    cond-false _ _ _ (ap₂ ◌||◌ (no_byte (eqb c 33)) (ap₂ ◌||◌ (no_byte (eqb c 88)) (ap₂ ◌||◌ (no_byte (eqb c 70)) (ap₂ ◌||◌ (no_byte (eqb c 71)) refl))))
    ∙ ap₂ (λ (x y : Bool). cond x (Some 2) (cond y (Some 0) None))
    (ap₂ ◌||◌ (no_byte (eqb c 38)) (ap₂ ◌||◌ (no_byte (eqb c 124)) (ap (λ (x : Bool). bytes_eq w (codes "->") || x) (ap₂ ◌||◌ (no_byte (eqb c 85)) (ap₂ ◌||◌ (no_byte (eqb c 86)) refl)))))
    (ap (λ (x : Bool). bytes_eq w (codes "true") || (bytes_eq w (codes "false") || x)) (named ns w))
    ∙ go (bytes_eq w (codes "->")) refl
  where
    w : Text
    w = c ∷ (d ∷ ds)

    go : (s : Bool) → bytes_eq w (codes "->") ≡ s
        → cond (s || false) (Some 2) (cond (bytes_eq w (codes "true") || (bytes_eq w (codes "false") || found (place_of ns w))) (Some 0) None)
        ≡ arity (or_name (cond (bytes_eq w (codes "true")) (Some (Zero True)) (cond (bytes_eq w (codes "false")) (Some (Zero False)) (cond s (Some (Two Implies)) None))) (place_of ns w))
    go true e =
        let i = (bytes_eq-Decides w (codes "->")).0 e in
        ap₂ (λ (x y : Bool). arity (or_name (cond x (Some (Zero True)) (cond y (Some (Zero False)) (Some (Two Implies)))) (place_of ns w)))
        (ap (λ (v : Text). bytes_eq v (codes "true")) (sym i)) (ap (λ (v : Text). bytes_eq v (codes "false")) (sym i))
    go false e = long_words (place_of ns w) (bytes_eq w (codes "true")) (bytes_eq w (codes "false"))

-- ---- the first word of a text

-- the words behind the first, where `rest` are the bytes behind it
abbrev words_behind : Text → List Text
words_behind [] = []
words_behind (b ∷ bs) = parted 32 bs

parted_first : (w : Text) → parted 32 w ≡ take (length_to 32 w) w ∷ words_behind (drop (length_to 32 w) w)
parted_first [] = refl
parted_first (b ∷ bs) = go (eqb b 32) (parted_first bs)
  where
    go : (t : Bool) → parted 32 bs ≡ take (length_to 32 bs) bs ∷ words_behind (drop (length_to 32 bs) bs)
        → cond t ([] ∷ parted 32 bs) (before_first b (parted 32 bs)) ≡ take (cond t 0 (length_to 32 bs + 1)) (b ∷ bs) ∷ words_behind (drop (cond t 0 (length_to 32 bs + 1)) (b ∷ bs))
    go true ih = refl
    go false ih = ap (before_first b) ih ∙ sym (ap (λ (k : ℕ). take k (b ∷ bs) ∷ words_behind (drop k (b ∷ bs))) (add-one (length_to 32 bs)))

-- where a text has a byte, its first word has one, or more words follow
some_word : (b : ℕ) (bs : Text) → (is_empty (take (length_to 32 (b ∷ bs)) (b ∷ bs)) && is_empty (words_behind (drop (length_to 32 (b ∷ bs)) (b ∷ bs)))) ≡ false
some_word b bs = go (eqb b 32)
  where
    go : (t : Bool) → (is_empty (take (cond t 0 (length_to 32 bs + 1)) (b ∷ bs)) && is_empty (words_behind (drop (cond t 0 (length_to 32 bs + 1)) (b ∷ bs)))) ≡ false
    go true = ap is_empty (parted_first bs)
    go false = ap (λ (k : ℕ). is_empty (take k (b ∷ bs)) && is_empty (words_behind (drop k (b ∷ bs)))) (add-one (length_to 32 bs))

-- ---- reading goes on alike

module _ (ns : List Text) (total : ℕ) where
  -- the fault x is what the reader answers at an operand, behind which those of the depths `wanted` follow
  abbrev Agrees : Option RuleFault → List ℕ → Parsed → Type 0
  Agrees x wanted (Err e) = x ≡ Some e
  Agrees x wanted (Ok (r, rest)) = (x ≡ fault_from ns total (total + 1 - length rest) (words_behind rest) wanted) × (length rest ≤ total)

  -- p reads operands of depth d as the specification does
  abbrev Reads : ℕ → (Text → Parsed) → Type 0
  Reads d p = (w : Text) → length w ≤ total → (wanted : List ℕ) → Agrees (fault_from ns total (total - length w) (parted 32 w) (d ∷ wanted)) wanted (p w)

  agrees_by : {x y : Option RuleFault} (wanted : List ℕ) (q : Parsed) → x ≡ y → Agrees y wanted q → Agrees x wanted q
  agrees_by wanted q e h = subst (λ (z : Option RuleFault). Agrees z wanted q) (sym e) h

  -- an operand behind the bytes that follow a word
  read_behind : (d : ℕ) (p : Text → Parsed) → p [] ≡ Err (WordWanted total) → Reads d p → (rest : Text) → length rest ≤ total → (wanted : List ℕ)
      → Agrees (fault_from ns total (total + 1 - length rest) (words_behind rest) (d ∷ wanted)) wanted (p (drop 1 rest))
  read_behind d p none reads [] l wanted = subst (λ (q : Parsed). Agrees (Some (WordWanted total)) wanted q) (sym none) refl
  read_behind d p none reads (b ∷ bs) l wanted =
      let e : total + 1 - length (b ∷ bs) ≡ total - length bs = omega arith in
      agrees_by wanted (p bs) (ap (λ (k : ℕ). fault_from ns total k (parted 32 bs) (d ∷ wanted)) e) (reads bs (omega arith) wanted)

  unary_agrees : (o : Unary) (x : Option RuleFault) (wanted : List ℕ) (q : Parsed) → Agrees x wanted q → Agrees x wanted (unary_parsed o q)
  unary_agrees o x wanted (Err e) h = h
  unary_agrees o x wanted (Ok (r, rest)) h = h

  binary_agrees : (o : Binary) (f : Rule) (x : Option RuleFault) (wanted : List ℕ) (q : Parsed) → Agrees x wanted q → Agrees x wanted (binary_parsed o f q)
  binary_agrees o f x wanted (Err e) h = h
  binary_agrees o f x wanted (Ok (r, rest)) h = h

  operands_agree : (o : Binary) (d : ℕ) (p : Text → Parsed) → p [] ≡ Err (WordWanted total) → Reads d p → (x : Option RuleFault) (wanted : List ℕ) (q : Parsed)
      → Agrees x (d ∷ wanted) q → Agrees x wanted (operands_parsed o p q)
  operands_agree o d p none reads x wanted (Err e) h = h
  operands_agree o d p none reads x wanted (Ok (r, rest)) h =
      binary_agrees o r x wanted (p (drop 1 rest)) (agrees_by wanted (p (drop 1 rest)) h.0 (read_behind d p none reads rest h.1 wanted))

  -- a word at place `at`, with the words behind it; p reads its operands
  abbrev AtWord : ℕ → ℕ → ℕ → (Text → Parsed) → Text → Text → Option Word → Type 0
  AtWord at k d p v rest x = (wanted : List ℕ) → Agrees (at_word total at v (words_behind rest) d wanted (fault_from ns total (total + 1 - length rest) (words_behind rest)) (arity x)) wanted (word_parsed p (allowed at k x rest))

  last_words : (at d : ℕ) (p : Text → Parsed) (v rest : Text) (x : Option Word) → 32 ≤ d → (is_empty v && is_empty (words_behind rest)) ≡ false → length rest ≤ total → AtWord at 0 d p v rest x
  last_words at d p v rest None deep some l wanted = cond-false _ _ _ some
  last_words at d p v rest (Some (Zero y)) deep some l wanted = (refl, l)
  last_words at d p v rest (Some (One o)) deep some l wanted = cond-true _ _ _ (le-leb 32 d deep)
  last_words at d p v rest (Some (Two o)) deep some l wanted = cond-true _ _ _ (le-leb 32 d deep)

  words : (at k d : ℕ) (p : Text → Parsed) → p [] ≡ Err (WordWanted total) → Reads (d + 1) p → (v rest : Text) (x : Option Word) → d < 32 → (is_empty v && is_empty (words_behind rest)) ≡ false → length rest ≤ total
      → AtWord at (suc k) d p v rest x
  words at k d p none reads v rest None deep some l wanted = cond-false _ _ _ some
  words at k d p none reads v rest (Some (Zero y)) deep some l wanted = (refl, l)
  words at k d p none reads v rest (Some (One o)) deep some l wanted =
      agrees_by wanted _ (cond-false _ _ _ (lt-leb 32 d deep)) (unary_agrees o _ wanted (p (drop 1 rest)) (read_behind (d + 1) p none reads rest l wanted))
  words at k d p none reads v rest (Some (Two o)) deep some l wanted =
      agrees_by wanted _ (cond-false _ _ _ (lt-leb 32 d deep))
      (operands_agree o (d + 1) p none reads _ wanted (p (drop 1 rest)) (read_behind (d + 1) p none reads rest l ((d + 1) ∷ wanted)))

  at_first : (w : Text) → length w ≤ total → (d : ℕ) (wanted : List ℕ) → let n = length_to 32 w in
      fault_from ns total (total - length w) (parted 32 w) (d ∷ wanted)
      ≡ at_word total (total - length w) (take n w) (words_behind (drop n w)) d wanted (fault_from ns total (total + 1 - length (drop n w)) (words_behind (drop n w))) (arity (word_of ns (take n w)))
  at_first w l d wanted =
      let n = length_to 32 w in
      let size = sym (ap length (take-append-drop n w)) ∙ length-append (take n w) (drop n w) in
      let place : total - length w + length (take n w) + 1 ≡ total + 1 - length (drop n w) = omega (arith, size) in
      ap (λ (ws : List Text). fault_from ns total (total - length w) ws (d ∷ wanted)) (parted_first w)
      ∙ ap₂ (λ (k : ℕ) (x : Option ℕ). at_word total (total - length w) (take n w) (words_behind (drop n w)) d wanted (fault_from ns total k (words_behind (drop n w))) x) place (operands_are ns (take n w))

  rest_le : (w : Text) → length w ≤ total → length (drop (length_to 32 w) w) ≤ total
  rest_le w l =
      let n = length_to 32 w in
      let size = sym (ap length (take-append-drop n w)) ∙ length-append (take n w) (drop n w) in
      omega (arith, size)

  parse_none : (k : ℕ) → parse ns total k [] ≡ Err (WordWanted total)
  unfolding parse heads
  parse_none zero = refl
  parse_none (suc k) = refl

  pub reads : operands ns [] ≡ None → (k d : ℕ) → k + d ≡ 32 → Reads d (parse ns total k)
  unfolding parse heads
  reads none zero d e [] l wanted = ap (at_word total (total - 0) [] [] d wanted (fault_from ns total (total - 0 + 0 + 1) [])) none
  reads none (suc k) d e [] l wanted = ap (at_word total (total - 0) [] [] d wanted (fault_from ns total (total - 0 + 0 + 1) [])) none
  reads none zero d e (b ∷ bs) l wanted =
      let w = b ∷ bs in
      let n = length_to 32 w in
      agrees_by wanted _ (at_first w l d wanted) (last_words (total - length w) d (λ _. Err (TooDeep total)) (take n w) (drop n w) (word_of ns (take n w)) (omega arith) (some_word b bs) (rest_le w l) wanted)
  reads none (suc k) d e (b ∷ bs) l wanted =
      let w = b ∷ bs in
      let n = length_to 32 w in
      agrees_by wanted _ (at_first w l d wanted)
      (words (total - length w) k d (parse ns total k) (parse_none k) (reads none k (d + 1) (omega arith)) (take n w) (drop n w) (word_of ns (take n w)) (omega arith) (some_word b bs) (rest_le w l) wanted)

-- ---- the whole text

no_empty_name : (ns : List Text) → AllByRecursion FitName ns → operands ns [] ≡ None
no_empty_name [] h = refl
no_empty_name ([] ∷ ns) h = absurd (omega (arith, h.0.some))
no_empty_name ((c ∷ cs) ∷ ns) h = no_empty_name ns h.1

ended_agrees : (ns : List Text) (total : ℕ) (x : Option RuleFault) (q : Parsed) → Agrees ns total x [] q → x ≡ fault_of (ended total q)
ended_agrees ns total x (Err e) h = h
ended_agrees ns total x (Ok (r, [])) h = h.0
ended_agrees ns total x (Ok (r, b ∷ bs)) h =
    let e : total + 1 - length (b ∷ bs) - 1 ≡ total - length (b ∷ bs) = omega arith in
    h.0 ∙ ap (λ (ws : List Text). fault_from ns total (total + 1 - length (b ∷ bs)) ws []) (parted_first bs) ∙ ap (λ (k : ℕ). Some (BytesFollow k)) e

pub reading_finds_the_fault : ReadingFindsTheFault
reading_finds_the_fault ns fit t =
    let n = length t in
    let e : 0 ≡ n - n = omega arith in
    ap (λ (k : ℕ). fault_from ns n k (parted 32 t) (0 ∷ [])) e ∙ ended_agrees ns n _ (parse ns n 32 t) (reads ns n (no_empty_name ns fit.each) 32 0 refl t (omega arith) [])
