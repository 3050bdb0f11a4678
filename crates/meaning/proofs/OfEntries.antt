-- A line has an entry exactly where it writes it. Assumes nothing.
use Rattle.std.proofs.Common.{◌≡◌, ℕ, ◌<◌, ◌≤◌, Bool, true, false, cond, not, eqb, leb, List, [], ◌∷◌, ◌++◌, Some, None, Option, codes, sym, refl, ap, ◌∙◌, subst, ap₂, arith}
use Rattle.std.proofs.lemmas.Bool.{and_parts, eqb-true, leb-true, ne_eqb}
use Rattle.std.specs.Str.{bytes_eq}
use Rattle.meaning.specs.Bytes.{Text, all, parted, after, digit, plain, number, value}
use Rattle.meaning.specs.Files.{Entry, signals, rule, state, step, with_number, mapped, or_else, of_fields, step_fields, state_fields, entry}
use Rattle.meaning.specs.Entries.{Writes, LinesHaveTheirEntries}
use Rattle.meaning.proofs.OfHistories.{some_same}
use Rattle.meaning.proofs.OfWords.{parted_at, lacks, parted_whole, joined, joined_parted, same_true}

pub no_some : {X : Type 0} (x : X) → ◌≡◌ {A = Option X} None (Some x) → ⊥
no_some x e = grind arith

-- ---- what follows a word

pub after_is : (p t r : Text) → after p t ≡ Some r → t ≡ p ++ r
after_is [] t r e = some_same t r e
after_is (p ∷ ps) [] r e = absurd (no_some r e)
after_is (p ∷ ps) (b ∷ bs) r e = go (eqb b p) refl e (after_is ps bs r)
  where
    go : (x : Bool) → eqb b p ≡ x → cond x (after ps bs) None ≡ Some r → (after ps bs ≡ Some r → bs ≡ ps ++ r) → b ∷ bs ≡ p ∷ (ps ++ r)
    go true s k rest = ap₂ ◌∷◌ (eqb-true b p s) (rest k)
    go false s k rest = absurd (no_some r k)

-- ---- numbers have digits alone, so no commas

digit_apart : (c b : ℕ) → c < 48 → digit b ≡ true → not (eqb b c) ≡ true
digit_apart c b low h =
    let k = and_parts (leb 48 b) _ h in
    let far : 48 ≤ b = leb-true 48 b k.0 in
    rw (ne_eqb b c (λ e. omega (arith, e, far, low))) refl

digits_lack : (c : ℕ) (t : Text) → c < 48 → all digit t ≡ true → lacks c t ≡ true
digits_lack c [] low h = refl
digits_lack c (b ∷ bs) low h = let k = and_parts (digit b) _ h in rw (digit_apart c b low k.0) (digits_lack c bs low k.1)

plain_digits : (t : Text) → plain t ≡ true → all digit t ≡ true
plain_digits [] h = refl
plain_digits (b ∷ []) h = rw h refl
plain_digits (b ∷ (c ∷ cs)) h =
    let k = and_parts (digit b) _ h in
    let j = and_parts (not (eqb b 48)) _ k.1 in
    rw k.0 j.1

pub number_lacks : (c : ℕ) (t : Text) (n : ℕ) → c < 48 → number t ≡ Some n → lacks c t ≡ true
number_lacks c t n low e = go (plain t) refl e
  where
    go : (b : Bool) → plain t ≡ b → cond b (Some (value 0 t)) None ≡ Some n → lacks c t ≡ true
    go true s k = digits_lack c t low (plain_digits t s)
    go false s k = absurd (no_some n k)

two_parts : (x y : Text) (n m : ℕ) → number x ≡ Some n → number y ≡ Some m → parted 44 (x ++ (44 ∷ y)) ≡ x ∷ (y ∷ [])
two_parts x y n m i j = parted_at 44 x y ∙ ap₂ ◌++◌ (parted_whole 44 x (number_lacks 44 x n (omega arith) i)) (parted_whole 44 y (number_lacks 44 y m (omega arith) j))

three_parts : (x y z : Text) (n m k : ℕ) → number x ≡ Some n → number y ≡ Some m → number z ≡ Some k → parted 44 (x ++ (44 ∷ (y ++ (44 ∷ z)))) ≡ x ∷ (y ∷ (z ∷ []))
three_parts x y z n m k h i j = parted_at 44 x (y ++ (44 ∷ z)) ∙ ap₂ ◌++◌ (parted_whole 44 x (number_lacks 44 x n (omega arith) h)) (two_parts y z m k i j)

-- ---- what is written is the entry

written : (t : Text) (e : Entry) → Writes e t → entry t ≡ Some e
written t (signals names) h = ap entry h
written t (rule text) h = ap entry h
written t (state n s a) h =
    let x = h.0 in
    let y = h.1 in
    let z = h.2 in
    ap entry h.3 ∙ ap (λ ps. of_fields (codes "state" ∷ ps)) (three_parts x y z n s a h.4 h.5 h.6)
    ∙ ap (λ o. with_number o (λ n'. with_number (number y) (λ s'. with_number (number z) (λ a'. Some (state n' s' a'))))) h.4
    ∙ ap (λ o. with_number o (λ s'. with_number (number z) (λ a'. Some (state n s' a')))) h.5
    ∙ ap (λ o. with_number o (λ a'. Some (state n s a'))) h.6
written t (step f g) h =
    ap entry h.2 ∙ ap (λ ps. of_fields (codes "step" ∷ ps)) (two_parts h.0 h.1 f g h.3 h.4)
    ∙ ap (λ o. with_number o (λ f'. with_number (number h.1) (λ t'. Some (step f' t')))) h.3
    ∙ ap (λ o. with_number o (λ t'. Some (step f t'))) h.4

-- ---- the entry is what is written

module _ (t : Text) (e : Entry) where
  as_written : (d : Entry) → ◌≡◌ {A = Option Entry} (Some d) (Some e) → Writes d t → Writes e t
  as_written d q h = subst (λ i. Writes i t) (some_same d e q) h

  parts_are : (k : Text) (qs : List Text) (w : Text) → parted 44 t ≡ k ∷ qs → bytes_eq k w ≡ true → t ≡ joined 44 (w ∷ qs)
  parts_are k qs w p s = sym (joined_parted 44 t) ∙ ap (joined 44) p ∙ ap (λ i. joined 44 (i ∷ qs)) (same_true k w s)

  a_step : (k x y : Text) → parted 44 t ≡ k ∷ (x ∷ (y ∷ [])) → step_fields k x y ≡ Some e → Writes e t
  a_step k x y p q = go (bytes_eq k (codes "step")) (number x) (number y) refl refl refl q
    where
      go : (b : Bool) (f g : Option ℕ) → bytes_eq k (codes "step") ≡ b → number x ≡ f → number y ≡ g
          → cond b (with_number f (λ f'. with_number g (λ t'. Some (step f' t')))) None ≡ Some e → Writes e t
      go true (Some f) (Some g) s i j r = as_written (step f g) r (x, y, parts_are k (x ∷ (y ∷ [])) (codes "step") p s, i, j)
      go true (Some f) None s i j r = absurd (no_some e r)
      go true None g s i j r = absurd (no_some e r)
      go false f g s i j r = absurd (no_some e r)

  a_state : (k x y z : Text) → parted 44 t ≡ k ∷ (x ∷ (y ∷ (z ∷ []))) → state_fields k x y z ≡ Some e → Writes e t
  a_state k x y z p q = go (bytes_eq k (codes "state")) (number x) (number y) (number z) refl refl refl refl q
    where
      go : (b : Bool) (n s a : Option ℕ) → bytes_eq k (codes "state") ≡ b → number x ≡ n → number y ≡ s → number z ≡ a
          → cond b (with_number n (λ n'. with_number s (λ s'. with_number a (λ a'. Some (state n' s' a'))))) None ≡ Some e → Writes e t
      go true (Some n) (Some s) (Some a) w i j l r = as_written (state n s a) r (x, y, z, parts_are k (x ∷ (y ∷ (z ∷ []))) (codes "state") p w, i, j, l)
      go true (Some n) (Some s) None w i j l r = absurd (no_some e r)
      go true (Some n) None a w i j l r = absurd (no_some e r)
      go true None s a w i j l r = absurd (no_some e r)
      go false n s a w i j l r = absurd (no_some e r)

  of_parts : (ps : List Text) → parted 44 t ≡ ps → of_fields ps ≡ Some e → Writes e t
  of_parts [] p q = absurd (no_some e q)
  of_parts (k ∷ []) p q = absurd (no_some e q)
  of_parts (k ∷ (x ∷ [])) p q = absurd (no_some e q)
  of_parts (k ∷ (x ∷ (y ∷ []))) p q = a_step k x y p q
  of_parts (k ∷ (x ∷ (y ∷ (z ∷ [])))) p q = a_state k x y z p q
  of_parts (k ∷ (x ∷ (y ∷ (z ∷ (w ∷ ws))))) p q = absurd (no_some e q)

  of_line : (o r : Option Text) → after (codes "signals,") t ≡ o → after (codes "rule,") t ≡ r
      → or_else (mapped signals o) (or_else (mapped rule r) (of_fields (parted 44 t))) ≡ Some e → Writes e t
  of_line (Some names) r i j q = as_written (signals names) q (after_is (codes "signals,") t names i)
  of_line None (Some text) i j q = as_written (rule text) q (after_is (codes "rule,") t text j)
  of_line None None i j q = of_parts (parted 44 t) refl q

pub lines_have_their_entries : LinesHaveTheirEntries
lines_have_their_entries t e = (of_line t e (after (codes "signals,") t) (after (codes "rule,") t) refl refl, written t e)
