-- The fault of a text is the one that its words tell. Assumes nothing.
use Rattle.std.proofs.Common.{◌≡◌, ℕ, suc, ◌+◌, ◌-◌, ◌<◌, ◌≤◌, Bool, true, false, cond, ◌&&◌, leb, List, [], ◌∷◌, ◌++◌, length, Some, None, codes, Option, sym, refl, ap, ◌∙◌, subst, ap₂, inl, inr, append_assoc, append-nil, arith, length-append}
use mathlib.Core.Logic.{∥∥₁_elim}
use mathlib.Core.HLevel.{⊥_prop}
use mathlib.Core.Bool.{false≢true}
use mathlib.Core.List.{nil≢cons, cons≢nil}
use native.Mathlib.Decide.{dec_lt}
use native.Mathlib.Nat.{ℕ_set}
use Rattle.std.proofs.lemmas.Bool.{cond-true, le-leb}
use Rattle.meaning.specs.declared.refusals.RuleFault.{RuleFault}
use Rattle.meaning.specs.declared.refusals.RuleFault.TheVariants.{WrongWord, WordWanted, BytesFollow, TooDeep}
use Rattle.logic.specs.Rule.{Rule, rtrue, rfalse, name, not, rnext, finally, globally, both, either, implies, runtil, rrelease}
use Rattle.meaning.specs.Bytes.{Text, is_empty, one_of, parted}
use Rattle.meaning.specs.Written.{written, Named, depth}
use Rattle.meaning.specs.Faults.{operands, at_word, fault_from, text_fault}
use Rattle.meaning.specs.Refusals.{number_of_rule, place_of_rule}
use Rattle.meaning.specs.Reading.{GoodNames}
use Rattle.meaning.specs.Places.{ByWords, Begin, BeginShallow, WantAWord, place_behind, WordAt, WordsAre, FaultInWords, FaultsAreToldByWords, WordsTellOneFault}
use Rattle.meaning.proofs.OfWords.{parted_at, joined, joined_parted, joined_append, parts_some, find}
use Rattle.meaning.proofs.OfReading.{words, words_some, joined_words, parted_written, passes, Leafy, Unary, Binary, Kind, wrong, leafy, unary, binary, kind, read_leaf, read_one, read_two, name_operands, name_at, some_none, wrong_none}

-- ---- rules for the operands that are still wanted

abbrev flat : List Text → List Rule → List Text
flat ns [] = []
flat ns (r ∷ rs) = words ns r ++ flat ns rs

abbrev AllNamed : List Text → List Rule → Type 0
AllNamed ns [] = Unit {0}
AllNamed ns (r ∷ rs) = Named (length ns) r × AllNamed ns rs

-- none of them goes too deep at the depth where it is wanted
abbrev FitBelow : List Rule → List ℕ → Type 0
FitBelow [] ds = Unit {0}
FitBelow (r ∷ rs) [] = ⊥
FitBelow (r ∷ rs) (d ∷ ds) = (depth r + d ≤ 32) × FitBelow rs ds

abbrev Low : List ℕ → Type 0
Low [] = Unit {0}
Low (d ∷ ds) = (d ≤ 32) × Low ds

-- the words us, followed by rules for the wanted operands, write a rule; none too deep, then the rule is not
abbrev Completes : List Text → List Text → List ℕ → Type 0
Completes ns us wanted =
    (rs : List Rule) → length rs ≡ length wanted → AllNamed ns rs
    → (r : Rule) × Named (length ns) r × (words ns r ≡ us ++ flat ns rs) × (FitBelow rs wanted → depth r ≤ 32)

completes_none : (ns : List Text) → Completes ns [] (0 ∷ [])
completes_none ns [] l h = absurd (omega arith)
completes_none ns (r ∷ []) l h = (r, h.0, sym (append-nil (words ns r)), λ f. omega (arith, f.0))
completes_none ns (r ∷ (s ∷ rs)) l h = absurd (omega arith)

module _ (ns : List Text) (us : List Text) (x : Text) (d : ℕ) (ds : List ℕ) (c : Completes ns us (d ∷ ds)) where
  completes_leaf : d ≤ 32 → Leafy ns x → Completes ns (us ++ (x ∷ [])) ds
  completes_leaf low k rs l h =
      let a = c (k.rule ∷ rs) (omega arith) (k.named, h) in (
        a.0,
        a.1,
        a.2 ∙ ap (λ z. us ++ (z ++ flat ns rs)) k.spelled ∙ sym (append_assoc us (x ∷ []) (flat ns rs)),
        λ f. a.3 (omega (arith, k.flat), f),
      )

  completes_one : Unary ns x → Completes ns (us ++ (x ∷ [])) ((d + 1) ∷ ds)
  completes_one k [] l h = absurd (omega arith)
  completes_one k (b ∷ rs) l h =
      let a = c (k.rule b ∷ rs) (omega arith) (k.named b h.0, h.1) in (
        a.0,
        a.1,
        a.2 ∙ ap (λ z. us ++ (z ++ flat ns rs)) (k.spelled b) ∙ sym (append_assoc us (x ∷ []) (words ns b ++ flat ns rs)),
        λ f. a.3 (omega (arith, k.deeper b, f.0), f.1),
      )

  completes_two : Binary ns x → Completes ns (us ++ (x ∷ [])) ((d + 1) ∷ ((d + 1) ∷ ds))
  completes_two k [] l h = absurd (omega arith)
  completes_two k (b ∷ []) l h = absurd (omega arith)
  completes_two k (b ∷ (b' ∷ rs)) l h =
      let a = c (k.rule b b' ∷ rs) (omega arith) (k.named b b' h.0 h.1.0, h.1.1) in (
        a.0,
        a.1,
        a.2 ∙ ap (λ z. us ++ (z ++ flat ns rs)) (k.spelled b b')
            ∙ ap (λ z. us ++ (x ∷ z)) (append_assoc (words ns b) (words ns b') (flat ns rs))
            ∙ sym (append_assoc us (x ∷ []) (words ns b ++ (words ns b' ++ flat ns rs))),
        λ f. a.3 (omega (arith, k.deeper b b', f.0, f.1.0), f.1.1),
      )

-- `true` for each wanted operand
fill : List ℕ → List Rule
fill [] = []
fill (d ∷ ds) = rtrue ∷ fill ds

fill_length : (ds : List ℕ) → length (fill ds) ≡ length ds
unfolding fill
fill_length [] = refl
fill_length (d ∷ ds) = ap suc (fill_length ds)

fill_named : (ns : List Text) (ds : List ℕ) → AllNamed ns (fill ds)
unfolding fill
fill_named ns [] = tt
fill_named ns (d ∷ ds) = (tt, fill_named ns ds)

fill_fits : (ds : List ℕ) → Low ds → FitBelow (fill ds) ds
unfolding fill
fill_fits [] l = tt
fill_fits (d ∷ ds) l = (omega (arith, l.0), fill_fits ds l.1)

module _ (ns : List Text) (g : GoodNames ns) where
  -- the words of a rule by its written text
  by_words : (r : Rule) (us vs : List Text) → Named (length ns) r → words ns r ≡ us ++ vs → ByWords ns r us vs
  by_words r us vs k e = (k, parted_written ns g r k ∙ e)

  of_by_words : (r : Rule) (us vs : List Text) → ByWords ns r us vs → words ns r ≡ us ++ vs
  of_by_words r us vs h = sym (parted_written ns g r h.0) ∙ h.1

  begin_any : (us : List Text) (wanted : List ℕ) → Completes ns us wanted → Begin ns us
  begin_any us wanted c = let a = c (fill wanted) (fill_length wanted) (fill_named ns wanted) in ∣ (a.0, flat ns (fill wanted), by_words a.0 us _ a.1 a.2) ∣₁

  begin_shallow : (us : List Text) (wanted : List ℕ) → Completes ns us wanted → Low wanted → BeginShallow ns us
  begin_shallow us wanted c low =
      let a = c (fill wanted) (fill_length wanted) (fill_named ns wanted) in
      ∣ (a.0, flat ns (fill wanted), a.3 (fill_fits wanted low), by_words a.0 us _ a.1 a.2) ∣₁

  want_a_word : (us : List Text) (d : ℕ) (ds : List ℕ) → Completes ns us (d ∷ ds) → Low (d ∷ ds) → WantAWord ns us
  unfolding fill
  want_a_word us d ds c low =
      let a = c (fill (d ∷ ds)) (fill_length (d ∷ ds)) (fill_named ns (d ∷ ds)) in
      ∣ (a.0, codes "true", flat ns (fill ds), a.3 (fill_fits (d ∷ ds) low), by_words a.0 us _ a.1 a.2) ∣₁

-- ---- each word of a rule has its operands

abbrev AllKnown : List Text → List Text → Type 0
AllKnown ns [] = Unit {0}
AllKnown ns (w ∷ ws) = (operands ns w ≡ None → ⊥) × AllKnown ns ws

known_append : (ns us vs : List Text) → AllKnown ns us → AllKnown ns vs → AllKnown ns (us ++ vs)
known_append ns [] vs p q = q
known_append ns (u ∷ us) vs p q = (p.0, known_append ns us vs p.1 q)

known_at : (ns us : List Text) (w : Text) (vs : List Text) → AllKnown ns (us ++ (w ∷ vs)) → operands ns w ≡ None → ⊥
known_at ns [] w vs h = h.0
known_at ns (u ∷ us) w vs h = known_at ns us w vs h.1

module _ (ns : List Text) (g : GoodNames ns) where
  all_known : (r : Rule) → Named (length ns) r → AllKnown ns (words ns r)
  all_known rtrue k = (some_none _, tt)
  all_known rfalse k = (some_none _, tt)
  all_known (name i) k = ((λ e. some_none 0 (sym (name_operands ns 0 g i k) ∙ e)), tt)
  all_known (not a) k = (some_none _, all_known a k)
  all_known (rnext a) k = (some_none _, all_known a k)
  all_known (finally a) k = (some_none _, all_known a k)
  all_known (globally a) k = (some_none _, all_known a k)
  all_known (both a b) k = (some_none _, known_append ns (words ns a) (words ns b) (all_known a k.0) (all_known b k.1))
  all_known (either a b) k = (some_none _, known_append ns (words ns a) (words ns b) (all_known a k.0) (all_known b k.1))
  all_known (implies a b) k = (some_none _, known_append ns (words ns a) (words ns b) (all_known a k.0) (all_known b k.1))
  all_known (runtil a b) k = (some_none _, known_append ns (words ns a) (words ns b) (all_known a k.0) (all_known b k.1))
  all_known (rrelease a b) k = (some_none _, known_append ns (words ns a) (words ns b) (all_known a k.0) (all_known b k.1))

  begins_known : (us : List Text) (w : Text) → Begin ns (us ++ (w ∷ [])) → operands ns w ≡ None → ⊥
  begins_known us w b e =
      ∥∥₁_elim b ⊥_prop
      (λ x.
      let s : words ns x.0 ≡ us ++ (w ∷ x.1) = of_by_words ns g x.0 (us ++ (w ∷ [])) x.1 x.2 ∙ append_assoc us (w ∷ []) x.1 in
      known_at ns us w x.1 (subst (AllKnown ns) s (all_known x.0 x.2.0)) e)

-- ---- places

place_append : (us : List Text) (w : Text) → place_behind (us ++ (w ∷ [])) ≡ place_behind us + length w + 1
place_append [] w = omega arith
place_append (u ∷ us) w = omega (arith, place_append us w)

joined_length : (us : List Text) (x : Text) (xs : List Text) → length (joined 32 (us ++ (x ∷ xs))) ≡ place_behind us + length (joined 32 (x ∷ xs))
joined_length [] x xs = omega arith
joined_length (u ∷ []) x xs = omega (arith, length-append u (32 ∷ joined 32 (x ∷ xs)))
joined_length (u ∷ (u' ∷ us)) x xs = omega (arith, length-append u (32 ∷ joined 32 ((u' ∷ us) ++ (x ∷ xs))), joined_length (u' ∷ us) x xs)

some_bytes : (x : Text) (xs : List Text) → (is_empty x && is_empty xs) ≡ false → 0 < length (joined 32 (x ∷ xs))
some_bytes [] [] e = absurd (mathlib.Core.Bool.true≢false e)
some_bytes [] (y ∷ ys) e = omega arith
some_bytes (b ∷ bs) [] e = omega arith
some_bytes (b ∷ bs) (y ∷ ys) e = omega arith

no_bytes : (x : Text) (xs : List Text) → (is_empty x && is_empty xs) ≡ true → (x ∷ xs) ≡ [] ∷ []
no_bytes [] [] e = refl
no_bytes [] (y ∷ ys) e = absurd (false≢true e)
no_bytes (b ∷ bs) [] e = absurd (false≢true e)
no_bytes (b ∷ bs) (y ∷ ys) e = absurd (false≢true e)

-- ---- reading a text word by word

-- behind the words us reading stands at place p, with these operands wanted
record Reached (ns : List Text) (n : ℕ) (us : List Text) (p : ℕ) (wanted : List ℕ) : Type 0 where
  reads : (rest : List Text) → fault_from ns n 0 (us ++ rest) (0 ∷ []) ≡ fault_from ns n p rest wanted
  at : p ≡ place_behind us
  completes : Completes ns us wanted
  low : Low wanted

-- what the next word x does there: bytes follow, a wrong word, an operator too deep, or reading goes on
data Next (ns : List Text) (n : ℕ) (us : List Text) (p : ℕ) (wanted : List ℕ) (x : Text) : Type 0 where
  follows : wanted ≡ [] → Next ns n us p wanted x
  wrong_word : (d : ℕ) (ds : List ℕ) → wanted ≡ d ∷ ds → operands ns x ≡ None → Next ns n us p wanted x
  too_deep : (d : ℕ) (ds : List ℕ) (after : List ℕ) → wanted ≡ d ∷ ds → Completes ns (us ++ (x ∷ [])) after
      → ((rest : List Text) → fault_from ns n p (x ∷ rest) wanted ≡ Some (TooDeep p)) → Next ns n us p wanted x
  goes_on : (q : ℕ) (after : List ℕ) → Reached ns n (us ++ (x ∷ [])) q after → Next ns n us p wanted x

module _ (ns : List Text) (n : ℕ) where
  begun : Reached ns n [] 0 (0 ∷ [])
  begun = record { reads = λ rest. refl; at = refl; completes = completes_none ns; low = (omega arith, tt) }

  -- reading went on to other wanted operands
  stepped : (us : List Text) (p : ℕ) (wanted : List ℕ) (x : Text) (after : List ℕ) → Reached ns n us p wanted
      → ((rest : List Text) → fault_from ns n p (x ∷ rest) wanted ≡ fault_from ns n (p + length x + 1) rest after)
      → Completes ns (us ++ (x ∷ [])) after → Low after → Reached ns n (us ++ (x ∷ [])) (p + length x + 1) after
  stepped us p wanted x after r on c low = record {
    reads = λ rest. ap (λ z. fault_from ns n 0 z (0 ∷ [])) (append_assoc us (x ∷ []) rest) ∙ r.reads (x ∷ rest) ∙ on rest;
    at = omega (arith, r.at, place_append us x);
    completes = c;
    low = low;
  }

  next : (us : List Text) (p : ℕ) (wanted : List ℕ) (x : Text) → Reached ns n us p wanted → Next ns n us p wanted x
  next us p [] x r = follows refl
  next us p (d ∷ ds) x r = go (kind ns x)
    where
      one : Unary ns x → Dec (d < 32) → Next ns n us p (d ∷ ds) x
      one k (yes l) = goes_on _ _ (stepped us p (d ∷ ds) x ((d + 1) ∷ ds) r (λ rest. read_one ns n p d x rest ds k.takes l) (completes_one ns us x d ds r.completes k) (omega arith, r.low.1))
      one k (no l) =
          too_deep d ds _ refl (completes_one ns us x d ds r.completes k)
          (λ rest. ap (at_word n p x rest d ds (fault_from ns n (p + length x + 1) rest)) k.takes ∙ cond-true (leb 32 d) _ _ (le-leb 32 d (omega arith)))

      two : Binary ns x → Dec (d < 32) → Next ns n us p (d ∷ ds) x
      two k (yes l) = goes_on _ _ (stepped us p (d ∷ ds) x ((d + 1) ∷ ((d + 1) ∷ ds)) r (λ rest. read_two ns n p d x rest ds k.takes l) (completes_two ns us x d ds r.completes k) (omega arith, (omega arith, r.low.1)))
      two k (no l) =
          too_deep d ds _ refl (completes_two ns us x d ds r.completes k)
          (λ rest. ap (at_word n p x rest d ds (fault_from ns n (p + length x + 1) rest)) k.takes ∙ cond-true (leb 32 d) _ _ (le-leb 32 d (omega arith)))

      go : Kind ns x → Next ns n us p (d ∷ ds) x
      go (wrong e) = wrong_word d ds refl e
      go (leafy k) = goes_on _ _ (stepped us p (d ∷ ds) x ds r (λ rest. read_leaf ns n p d x rest ds k.takes) (completes_leaf ns us x d ds r.completes r.low.0 k) r.low.1)
      go (unary k) = one k (dec_lt d 32)
      go (binary k) = two k (dec_lt d 32)

  wrong_is : (p d : ℕ) (ds : List ℕ) (x : Text) (xs : List Text) → operands ns x ≡ None
      → fault_from ns n p (x ∷ xs) (d ∷ ds) ≡ cond (is_empty x && is_empty xs) (Some (WordWanted n)) (Some (WrongWord p))
  wrong_is p d ds x xs e = ap (at_word n p x xs d ds (fault_from ns n (p + length x + 1) xs)) e

-- ---- from the fault to the words

some_inj : {X : Type 0} (x y : X) → ◌≡◌ {A = Option X} (Some x) (Some y) → x ≡ y
some_inj x y e = cc

module _ (ns : List Text) (g : GoodNames ns) (t : Text) where
  abbrev n : ℕ
  n = length t

  whole_length : (us : List Text) (x : Text) (xs : List Text) → parted 32 t ≡ us ++ (x ∷ xs) → length t ≡ place_behind us + length (joined 32 (x ∷ xs))
  whole_length us x xs parts = ap length (sym (joined_parted 32 t) ∙ ap (joined 32) parts) ∙ joined_length us x xs

  -- a rule of nesting at most 32 is read without a fault
  shallow_none : (r : Rule) → Named (length ns) r → depth r ≤ 32 → fault_from ns n 0 (words ns r) (0 ∷ []) ≡ None
  shallow_none r k l = ap (λ z. fault_from ns n 0 z (0 ∷ [])) (sym (append-nil (words ns r))) ∙ passes ns n g r 0 k (omega arith) 0 [] []

  read_on : (us : List Text) (p : ℕ) (wanted : List ℕ) (ws : List Text) → Reached ns n us p wanted → parted 32 t ≡ us ++ ws → text_fault ns t ≡ fault_from ns n p ws wanted
  read_on us p wanted ws r parts = ap (λ z. fault_from ns n 0 z (0 ∷ [])) parts ∙ r.reads ws

  at_end : (us : List Text) (p : ℕ) (wanted : List ℕ) → Reached ns n us p wanted → parted 32 t ≡ us → (e : RuleFault) → fault_from ns n p [] wanted ≡ Some e → FaultInWords ns t e
  at_end us p [] r parts e h = absurd (some_none e (sym h))
  at_end us p (d ∷ ds) r parts e h = subst (FaultInWords ns t) (some_inj _ _ h) (refl, ∣ (us, inl parts, want_a_word ns g us d ds r.completes r.low) ∣₁)

  bytes_follow : (us : List Text) (p : ℕ) (x : Text) (xs : List Text) → Reached ns n us p [] → parted 32 t ≡ us ++ (x ∷ xs) → FaultInWords ns t (BytesFollow (p - 1))
  bytes_follow us p x xs r parts =
      let a = r.completes [] refl tt in
      let s = words_some ns a.0 in
      let us_is : us ≡ words ns a.0 = sym (a.2 ∙ append-nil us) in
      let writes : t ≡ written ns a.0 ++ (32 ∷ joined 32 (x ∷ xs)) =
      sym (joined_parted 32 t) ∙ ap (joined 32) (parts ∙ ap (λ z. z ++ (x ∷ xs)) (us_is ∙ s.2)) ∙ joined_append 32 s.0 s.1 x xs
      ∙ ap (λ z. joined 32 z ++ (32 ∷ joined 32 (x ∷ xs))) (sym s.2) ∙ ap (λ z. z ++ (32 ∷ joined 32 (x ∷ xs))) (joined_words ns a.0) in
      let far : p - 1 ≡ length (written ns a.0) =
      omega (arith, r.at, whole_length us x xs parts, ap length writes, length-append (written ns a.0) (32 ∷ joined 32 (x ∷ xs))) in
      ∣ (a.0, joined 32 (x ∷ xs), a.1, a.3 tt, writes, far) ∣₁

  wrong_told : (us : List Text) (p d : ℕ) (ds : List ℕ) (x : Text) (xs : List Text) → Reached ns n us p (d ∷ ds) → parted 32 t ≡ us ++ (x ∷ xs) → operands ns x ≡ None
      → (b : Bool) → (is_empty x && is_empty xs) ≡ b → (e : RuleFault) → cond b (Some (WordWanted n)) (Some (WrongWord p)) ≡ Some e → FaultInWords ns t e
  wrong_told us p d ds x xs r parts o true s e h =
      subst (FaultInWords ns t) (some_inj _ _ h) (refl, ∣ (us, inr (parts ∙ ap (λ z. us ++ z) (no_bytes x xs s)), want_a_word ns g us d ds r.completes r.low) ∣₁)
  wrong_told us p d ds x xs r parts o false s e h =
      subst (FaultInWords ns t) (some_inj _ _ h)
      (omega (arith, r.at, whole_length us x xs parts, some_bytes x xs s), ∣ (us, x, ((xs, parts), r.at), want_a_word ns g us d ds r.completes r.low, λ b. begins_known ns g us x b o) ∣₁)

  deep_told : (us : List Text) (p d : ℕ) (ds after : List ℕ) (x : Text) (xs : List Text) → Reached ns n us p (d ∷ ds) → parted 32 t ≡ us ++ (x ∷ xs)
      → Completes ns (us ++ (x ∷ [])) after → ((rest : List Text) → fault_from ns n p (x ∷ rest) (d ∷ ds) ≡ Some (TooDeep p)) → FaultInWords ns t (TooDeep p)
  deep_told us p d ds after x xs r parts c k =
      ∣ (us, x, ((xs, parts), r.at), want_a_word ns g us d ds r.completes r.low, begin_any ns g (us ++ (x ∷ [])) after c, none) ∣₁
    where
      none : ¬ BeginShallow ns (us ++ (x ∷ []))
      none b =
          ∥∥₁_elim b ⊥_prop
          (λ y.
          let s : words ns y.0 ≡ us ++ (x ∷ y.1) = of_by_words ns g y.0 (us ++ (x ∷ [])) y.1 y.3 ∙ append_assoc us (x ∷ []) y.1 in
          some_none (TooDeep p) (sym (k y.1) ∙ sym (r.reads (x ∷ y.1)) ∙ ap (λ z. fault_from ns n 0 z (0 ∷ [])) (sym s) ∙ shallow_none y.0 y.3.0 y.2))

  told : (ws us : List Text) (p : ℕ) (wanted : List ℕ) → Reached ns n us p wanted → parted 32 t ≡ us ++ ws → (e : RuleFault) → text_fault ns t ≡ Some e → FaultInWords ns t e
  told [] us p wanted r parts e h = at_end us p wanted r (parts ∙ append-nil us) e (sym (read_on us p wanted [] r parts) ∙ h)
  told (x ∷ xs) us p wanted r parts e h = go wanted r (next ns n us p wanted x r) (told xs)
    where
      go : (wanted : List ℕ) (r : Reached ns n us p wanted) → Next ns n us p wanted x
          → ((us : List Text) (p : ℕ) (wanted : List ℕ) → Reached ns n us p wanted → parted 32 t ≡ us ++ xs → (e : RuleFault) → text_fault ns t ≡ Some e → FaultInWords ns t e)
          → FaultInWords ns t e
      go [] r k below = subst (FaultInWords ns t) (some_inj _ _ (sym (read_on us p [] (x ∷ xs) r parts) ∙ h)) (bytes_follow us p x xs r parts)
      go (d ∷ ds) r (follows i) below = absurd (cons≢nil i)
      go (d ∷ ds) r (wrong_word d' ds' i o) below =
          wrong_told us p d ds x xs r parts o (is_empty x && is_empty xs) refl e (sym (wrong_is ns n p d ds x xs o) ∙ sym (read_on us p (d ∷ ds) (x ∷ xs) r parts) ∙ h)
      go (d ∷ ds) r (too_deep d' ds' after i c k) below =
          subst (FaultInWords ns t) (some_inj _ _ (sym (k xs) ∙ sym (read_on us p (d ∷ ds) (x ∷ xs) r parts) ∙ h)) (deep_told us p d ds after x xs r parts c k)
      go (d ∷ ds) r (goes_on q after r') below = below (us ++ (x ∷ [])) q after r' (parts ∙ sym (append_assoc us (x ∷ []) xs)) e h

  -- ---- from the words to the fault

  -- the words us, read from where reading stands behind others, in a text that goes on without a fault
  front : (us before rest : List Text) (p : ℕ) (wanted : List ℕ) → Reached ns n before p wanted → fault_from ns n 0 (before ++ (us ++ rest)) (0 ∷ []) ≡ None
      → (q : ℕ) × (after : List ℕ) × Reached ns n (before ++ us) q after
  front [] before rest p wanted r h = (p, wanted, subst (λ z. Reached ns n z p wanted) (sym (append-nil before)) r)
  front (x ∷ us) before rest p wanted r h = go wanted r (next ns n before p wanted x r) (front us)
    where
      go : (wanted : List ℕ) (r : Reached ns n before p wanted) → Next ns n before p wanted x
          → ((before rest : List Text) (p : ℕ) (wanted : List ℕ) → Reached ns n before p wanted → fault_from ns n 0 (before ++ (us ++ rest)) (0 ∷ []) ≡ None
          → (q : ℕ) × (after : List ℕ) × Reached ns n (before ++ us) q after)
          → (q : ℕ) × (after : List ℕ) × Reached ns n (before ++ (x ∷ us)) q after
      go [] r k below = absurd (some_none _ (sym (r.reads (x ∷ (us ++ rest))) ∙ h))
      go (d ∷ ds) r (follows i) below = absurd (cons≢nil i)
      go (d ∷ ds) r (wrong_word d' ds' i o) below = absurd (wrong_none _ _ _ (sym (wrong_is ns n p d ds x (us ++ rest) o) ∙ sym (r.reads (x ∷ (us ++ rest))) ∙ h))
      go (d ∷ ds) r (too_deep d' ds' after i c k) below = absurd (some_none _ (sym (k (us ++ rest)) ∙ sym (r.reads (x ∷ (us ++ rest))) ∙ h))
      go (d ∷ ds) r (goes_on q after r') below =
          let a = below (before ++ (x ∷ [])) rest q after r' (ap (λ z. fault_from ns n 0 z (0 ∷ [])) (append_assoc before (x ∷ []) (us ++ rest)) ∙ h) in
          (a.0, a.1, subst (λ z. Reached ns n z a.0 a.1) (append_assoc before (x ∷ []) us) a.2)

  wanting : (us : List Text) (r : Rule) (v : Text) (vs : List Text) → depth r ≤ 32 → ByWords ns r us (v ∷ vs) → (q : ℕ) × (d : ℕ) × (ds : List ℕ) × Reached ns n us q (d ∷ ds)
  wanting us r v vs l b = some a.0 a.1 a.2
    where
      reads_none : fault_from ns n 0 (us ++ (v ∷ vs)) (0 ∷ []) ≡ None
      reads_none = ap (λ z. fault_from ns n 0 z (0 ∷ [])) (sym (of_by_words ns g r us (v ∷ vs) b)) ∙ shallow_none r b.0 l

      a : (q : ℕ) × (after : List ℕ) × Reached ns n us q after
      a = front us [] (v ∷ vs) 0 (0 ∷ []) (begun ns n) reads_none

      some : (q : ℕ) (after : List ℕ) → Reached ns n us q after → (q : ℕ) × (d : ℕ) × (ds : List ℕ) × Reached ns n us q (d ∷ ds)
      some q [] r' = absurd (some_none _ (sym (r'.reads (v ∷ vs)) ∙ reads_none))
      some q (d ∷ ds) r' = (q, d, ds, r')

  wrong_back : (us : List Text) (w : Text) (p : ℕ) → p < length t → WordAt t us w p → ¬ Begin ns (us ++ (w ∷ [])) → (q d : ℕ) (ds : List ℕ) (r : Reached ns n us q (d ∷ ds))
      → Next ns n us q (d ∷ ds) w → text_fault ns t ≡ Some (WrongWord p)
  wrong_back us w p l a no_rule q d ds r (follows i) = absurd (cons≢nil i)
  wrong_back us w p l a no_rule q d ds r (wrong_word d' ds' i o) =
      read_on us q (d ∷ ds) (w ∷ a.0.0) r a.0.1 ∙ wrong_is ns n q d ds w a.0.0 o ∙ go (is_empty w && is_empty a.0.0) refl
    where
      go : (b : Bool) → (is_empty w && is_empty a.0.0) ≡ b → cond b (Some (WordWanted n)) (Some (WrongWord q)) ≡ Some (WrongWord p)
      go true s =
          let none : length (joined 32 (w ∷ a.0.0)) ≡ 0 = ap (λ z. length (joined 32 z)) (no_bytes w a.0.0 s) in
          absurd (omega (arith, whole_length us w a.0.0 a.0.1, a.1))
      go false s = ap (λ z. Some (WrongWord z)) (r.at ∙ sym a.1)
  wrong_back us w p l a no_rule q d ds r (too_deep d' ds' after i c k) = absurd (no_rule (begin_any ns g (us ++ (w ∷ [])) after c))
  wrong_back us w p l a no_rule q d ds r (goes_on q' after r') = absurd (no_rule (begin_any ns g (us ++ (w ∷ [])) after r'.completes))

  deep_back : (us : List Text) (w : Text) (p : ℕ) → WordAt t us w p → Begin ns (us ++ (w ∷ [])) → ¬ BeginShallow ns (us ++ (w ∷ [])) → (q d : ℕ) (ds : List ℕ)
      (r : Reached ns n us q (d ∷ ds)) → Next ns n us q (d ∷ ds) w → text_fault ns t ≡ Some (TooDeep p)
  deep_back us w p a some no_rule q d ds r (follows i) = absurd (cons≢nil i)
  deep_back us w p a some no_rule q d ds r (wrong_word d' ds' i o) = absurd (begins_known ns g us w some o)
  deep_back us w p a some no_rule q d ds r (too_deep d' ds' after i c k) =
      read_on us q (d ∷ ds) (w ∷ a.0.0) r a.0.1 ∙ k a.0.0 ∙ ap (λ z. Some (TooDeep z)) (r.at ∙ sym a.1)
  deep_back us w p a some no_rule q d ds r (goes_on q' after r') = absurd (no_rule (begin_shallow ns g (us ++ (w ∷ [])) after r'.completes r'.low))

  empty_unknown : operands ns [] ≡ None
  empty_unknown = go (one_of [] ns) refl
    where
      go : (b : Bool) → one_of [] ns ≡ b → cond {A = Option ℕ} b (Some 0) None ≡ None
      go false s = refl
      go true s = let k = find ns [] s in let m = name_at ns g k.0 k.1 in absurd (nil≢cons (sym k.2 ∙ m.is))

  wanted_back : (us : List Text) → WordsAre t us → (q d : ℕ) (ds : List ℕ) → Reached ns n us q (d ∷ ds) → text_fault ns t ≡ Some (WordWanted n)
  wanted_back us (inl parts) q d ds r = read_on us q (d ∷ ds) [] r (parts ∙ sym (append-nil us))
  wanted_back us (inr parts) q d ds r = read_on us q (d ∷ ds) ([] ∷ []) r parts ∙ wrong_is ns n q d ds [] [] empty_unknown

  follow_back : (r : Rule) (rest : Text) → Named (length ns) r → depth r ≤ 32 → t ≡ written ns r ++ (32 ∷ rest) → text_fault ns t ≡ Some (BytesFollow (length (written ns r)))
  follow_back r rest k l e =
      let s = parts_some 32 rest in
      let parts : parted 32 t ≡ words ns r ++ (s.0 ∷ s.1) = ap (parted 32) e ∙ parted_at 32 (written ns r) rest ∙ ap₂ ◌++◌ (parted_written ns g r k) s.2 in
      let far : 0 + length (written ns r) + 1 - 1 ≡ length (written ns r) = omega arith in
      ap (λ z. fault_from ns n 0 z (0 ∷ [])) parts ∙ passes ns n g r 0 k (omega arith) 0 (s.0 ∷ s.1) [] ∙ ap (λ z. Some (BytesFollow z)) far

-- ---- a fault is one by its number and place

same_fault : (e f : RuleFault) → number_of_rule e ≡ number_of_rule f → place_of_rule e ≡ place_of_rule f → e ≡ f
same_fault (WrongWord p) (WrongWord q) i j = ap WrongWord j
same_fault (WrongWord p) (WordWanted q) i j = absurd (omega arith)
same_fault (WrongWord p) (BytesFollow q) i j = absurd (omega arith)
same_fault (WrongWord p) (TooDeep q) i j = absurd (omega arith)
same_fault (WordWanted p) (WrongWord q) i j = absurd (omega arith)
same_fault (WordWanted p) (WordWanted q) i j = ap WordWanted j
same_fault (WordWanted p) (BytesFollow q) i j = absurd (omega arith)
same_fault (WordWanted p) (TooDeep q) i j = absurd (omega arith)
same_fault (BytesFollow p) (WrongWord q) i j = absurd (omega arith)
same_fault (BytesFollow p) (WordWanted q) i j = absurd (omega arith)
same_fault (BytesFollow p) (BytesFollow q) i j = ap BytesFollow j
same_fault (BytesFollow p) (TooDeep q) i j = absurd (omega arith)
same_fault (TooDeep p) (WrongWord q) i j = absurd (omega arith)
same_fault (TooDeep p) (WordWanted q) i j = absurd (omega arith)
same_fault (TooDeep p) (BytesFollow q) i j = absurd (omega arith)
same_fault (TooDeep p) (TooDeep q) i j = ap TooDeep j

-- so that something that merely exists can show which fault a text has
by_some : {A : Type 0} (x : Option RuleFault) (e : RuleFault) → ∥ A ∥₁ → (A → x ≡ Some e) → x ≡ Some e
by_some None e h f = absurd (∥∥₁_elim h ⊥_prop (λ a. some_none e (sym (f a))))
by_some (Some y) e h f =
    ap Some
    (same_fault y e (∥∥₁_elim h (ℕ_set _ _) (λ a. ap number_of_rule (some_inj y e (f a)))) (∥∥₁_elim h (ℕ_set _ _) (λ a. ap place_of_rule (some_inj y e (f a)))))

back : (ns : List Text) (t : Text) → GoodNames ns → (e : RuleFault) → FaultInWords ns t e → text_fault ns t ≡ Some e
back ns t g (WrongWord p) h =
    by_some _ _ h.1
    (λ x. by_some _ _ x.3
    (λ y.
    let a = wanting ns g t x.0 y.0 y.1 y.2 y.3 y.4 in
    wrong_back ns g t x.0 x.1 p h.0 x.2 x.4 a.0 a.1 a.2 a.3 (next ns (length t) x.0 a.0 (a.1 ∷ a.2) x.1 a.3)))
back ns t g (TooDeep p) h =
    by_some _ _ h
    (λ x. by_some _ _ x.3
    (λ y.
    let a = wanting ns g t x.0 y.0 y.1 y.2 y.3 y.4 in
    deep_back ns g t x.0 x.1 p x.2 x.4 x.5 a.0 a.1 a.2 a.3 (next ns (length t) x.0 a.0 (a.1 ∷ a.2) x.1 a.3)))
back ns t g (WordWanted p) h =
    by_some _ _ h.1
    (λ x. by_some _ _ x.2
    (λ y.
    let a = wanting ns g t x.0 y.0 y.1 y.2 y.3 y.4 in
    wanted_back ns g t x.0 x.1 a.0 a.1 a.2 a.3 ∙ ap (λ z. Some (WordWanted z)) (sym h.0)))
back ns t g (BytesFollow p) h =
    by_some _ _ h (λ x. follow_back ns g t x.0 x.1 x.2 x.3 x.4 ∙ ap (λ z. Some (BytesFollow z)) (sym x.5))

pub faults_are_told_by_words : FaultsAreToldByWords
faults_are_told_by_words ns t g e = (told ns g t (parted 32 t) [] 0 (0 ∷ []) (begun ns (length t)) refl e, back ns t g e)

pub words_tell_one_fault : WordsTellOneFault
words_tell_one_fault ns t g e f h k = some_inj e f (sym (back ns t g e h) ∙ back ns t g f k)
