use Rattle.std.proofs.Common.{◌≡◌, ℕ, suc, ◌+◌, ◌-◌, ◌*◌, ◌<◌, ◌≤◌, min, Bool, true, false, cond, eqb, ◌⊎◌, List, [], ◌∷◌, ◌++◌, length, get_or, take, drop, Some, None, codes, Option, sym, refl, ap, ◌∙◌, inl, inr, add-one, arith, length-drop, drop-cons, eq-eqb}
use Rattle.std.proofs.lemmas.Slice.{between_to_end}
use Rattle.std.proofs.lemmas.Bool.{false_from_ne_true}
use Rattle.std.proofs.lemmas.Slice.Eq.{bytes_eq-Decides}
use Rattle.std.proofs.lemmas.Bool.Decides.{nat_tests, leb_tells, eqb_tells}
use Rattle.std.specs.Prelude.{MatchOption, nat_lt, position, is_none, leb, ◌==◌, ◌≢◌}
use Rattle.std.specs.List.{position_or_len}
use Rattle.std.specs.Borrow.{Bor}
use Rattle.std.specs.Str.{bytes_eq}
use Rattle.meaning.specs.Bytes.{Text, parted, before_first, after, all, digit, value}
use Rattle.meaning.specs.Files.{Entry, mapped, or_else, entry, of_fields, signals, rule}
use Rattle.std.proofs.lemmas.List.Quantifiers.{position-Some}
use Rattle.lines.specs.declared.Entry.{Entry as CodeEntry}
use Rattle.lines.specs.Fields.{Cut, Two, cap, figure, capped, fields_of, shown}

-- ---- what follows a word

after_front : (p t : Text) → after p (p ++ t) ≡ Some t
after_front [] t = refl
after_front (b ∷ p) t = let e : eqb b b ≡ true = eq-eqb b b refl in simp (e, after_front p t)

after_none : (p t : Text) → ((rest : Text) → t ≢ p ++ rest) → after p t ≡ None
after_none [] t h = absurd (h t refl)
after_none (b ∷ p) [] h = refl
after_none (b ∷ p) (x ∷ t) h = elim (eqb_tells x b) [
  | inl q ↦ (let ih = after_none p t (λ r e. h r (cc)) in simp (q.0, ih))
  | inr q ↦ simp q.0
]

pub after_is : (p t : Text) (r : Option (Bor Text)) → MatchOption r ((rest : Text) → t ≢ p ++ rest) (λ x. t ≡ p ++ x.now) → mapped (λ x. x.now) r ≡ after p t
after_is p t None h = sym (after_none p t h)
after_is p t (Some x) h = rw h (sym (after_front p x.now))

-- ---- parts

before_ways : (b : ℕ) (t : Bool) (x y : Text) (xs : List Text) → before_first b (cond t (x ∷ xs) (y ∷ [])) ≡ cond t ((b ∷ x) ∷ xs) ((b ∷ y) ∷ [])
before_ways b true x y xs = refl
before_ways b false x y xs = refl

one_more : (i : ℕ) → 1 + i ≡ suc i
one_more i = omega arith

less_more : (i n : ℕ) → nat_lt (suc i) (suc n) ≡ nat_lt i n
less_more i n = grind (arith, nat_tests)

less_none : (n : ℕ) → nat_lt 0 (suc n) ≡ true
less_none n = grind (arith, nat_tests)

parted_by : (c : ℕ) (t : Text) → let i = position_or_len (λ b. eqb b c) t in parted c t ≡ cond (nat_lt i (length t)) (take i t ∷ parted c (drop (suc i) t)) (t ∷ [])
parted_by c [] = refl
parted_by c (b ∷ bs) =
    let i = position_or_len (λ b. eqb b c) bs in
    elim (eqb_tells b c) [
      | inl q ↦ simp (q.0, less_none (length bs))
      | inr q ↦ simp (q.0, one_more i, less_more i (length bs), parted_by c bs) (before_ways b (nat_lt i (length bs)) (take i bs) bs (parted c (drop (suc i) bs)))
    ]

none_ways : (b : Bool) (i : ℕ) (xs ys : List Text) → None ≡ cond b (Some i) None → cond b xs ys ≡ ys
none_ways true i xs ys h = cc
none_ways false i xs ys h = refl

some_ways : (b : Bool) (i j : ℕ) → Some i ≡ cond b (Some j) None → (b ≡ true) × (j ≡ i)
some_ways true i j h = (refl, cc)
some_ways false i j h = cc

pub uncut : (c : ℕ) (t : Text) → None ≡ position (λ b. b == c) t → parted c t ≡ t ∷ []
uncut c t h = let i = position_or_len (λ b. eqb b c) t in parted_by c t ∙ none_ways (nat_lt i (length t)) i _ _ h

pub cut_at : (c i : ℕ) (t : Text) → Some i ≡ position (λ b. b == c) t → let rest = take (length t - (i + 1)) (drop (i + 1) t) in (parted c t ≡ take i t ∷ parted c rest) × (length rest < length t)
cut_at c i t h =
    let j = position_or_len (λ b. eqb b c) t in
    let l : i < length t = (position-Some (λ b. eqb b c) t i 0 (sym h)).0 in
    let w = some_ways (nat_lt j (length t)) i j h in
    let r : take (length t - (i + 1)) (drop (i + 1) t) ≡ drop (i + 1) t = between_to_end t (i + 1) (length t) (omega arith) in
    rw (r, add-one) (rw (w.0, w.1) at (parted_by c t), omega (arith, length-drop (suc i) t))

-- ---- numbers

grows : (n : ℕ) (t : Text) → n ≤ value n t
grows n [] = omega arith
grows n (b ∷ bs) = let ih = grows (n * 10 + (b - 48)) bs in omega arith

figure_cap : (n : ℕ) (t : Text) → figure (min 65536 n) t ≡ figure n t
figure_cap n t = let x = grows n t in let y = grows (min 65536 n) t in ap (λ x. cond (all digit t) (Some x) None) (same t (leb_tells 65536 n))
  where
    same : (t : Text) → ((leb 65536 n ≡ true) × (65536 ≤ n)) ⊎ ((leb 65536 n ≡ false) × (n < 65536)) → cap (value (min 65536 n) t) ≡ cap (value n t)
    same t (inl p) = let x = grows n t in let y = grows (min 65536 n) t in omega arith
    same t (inr p) = let e : min 65536 n ≡ n = omega arith in ap (λ m. cap (value m t)) e

-- one digit more, with the number cut where it is too large
pub next_digit : (n m : ℕ) (t : Text) (i : ℕ) → i < length t → 48 ≤ get_or t i 0 → get_or t i 0 ≤ 57 → m ≡ min 65536 (n * 10 + (get_or t i 0 - 48)) → figure m (drop (i + 1) t) ≡ figure n (drop i t)
next_digit n m t i l p q e =
    let d : drop i t ≡ get_or t i 0 ∷ drop (suc i) t = drop-cons t i 0 l in
    let g : digit (get_or t i 0) ≡ true = grind (arith, nat_tests) in
    rw (d, add-one, e, figure_cap (n * 10 + (get_or t i 0 - 48)) (drop (suc i) t)) (simp g)

-- ---- fields

first_some : (b : ℕ) (ps : List Text) → before_first b ps ≡ [] → ⊥
first_some b [] e = cc
first_some b (p ∷ ps) e = cc

pub parted_some : (c : ℕ) (t : Text) → parted c t ≡ [] → ⊥
parted_some c [] e = cc
parted_some c (b ∷ bs) e = ways (eqb b c) e
  where
    ways : (x : Bool) → cond x ([] ∷ parted c bs) (before_first b (parted c bs)) ≡ [] → ⊥
    ways true e = cc
    ways false e = first_some b (parted c bs) e

pub two_is : (t : Text) (x : Bor Text × Bor Text) (o r : Option (Bor Text × Bor Text)) → Cut 44 t (Some x) → Cut 44 x.1.now o → r ≡ cond (is_none o) (Some x) None → Two t r
two_is t x None r p q e = rw e (p.0 ∙ ap (λ ps. x.0.now ∷ ps) q)
two_is t x (Some y) r p q e = rw e (λ a b h. parted_some 44 y.1.now (let p' = p.0 in let q' = q.0 in cc))

-- a first field k, with no comma in it
abbrev apart : Text → Type 0
apart [] = Unit {0}
apart (b ∷ bs) = (eqb b 44 ≡ false) × apart bs

after_parted : (k t rest : Text) → apart k → after (k ++ (44 ∷ [])) t ≡ Some rest → parted 44 t ≡ k ∷ parted 44 rest
after_parted [] [] rest n e = cc
after_parted [] (b ∷ bs) rest n e = ways (eqb b 44) e
  where
    ways : (x : Bool) → cond x (Some bs) None ≡ Some rest → cond x ([] ∷ parted 44 bs) (before_first b (parted 44 bs)) ≡ [] ∷ parted 44 rest
    ways true e = let q : bs ≡ rest = cc in ap (λ (r : Text). [] ∷ parted 44 r) q
    ways false e = cc
after_parted (k ∷ ks) [] rest n e = cc
after_parted (k ∷ ks) (b ∷ bs) rest n e = ways (after_parted ks bs rest n.1) (eqb_tells b k)
  where
    ways : (after (ks ++ (44 ∷ [])) bs ≡ Some rest → parted 44 bs ≡ ks ∷ parted 44 rest) → ((eqb b k ≡ true) × (b ≡ k)) ⊎ ((eqb b k ≡ false) × (b ≡ k → ⊥)) → cond (eqb b 44) ([] ∷ parted 44 bs) (before_first b (parted 44 bs)) ≡ (k ∷ ks) ∷ parted 44 rest
    ways go (inl p) =
        let f : after (ks ++ (44 ∷ [])) bs ≡ Some rest = simp p.0 at e in
        let ih = go f in
        let c : eqb b 44 ≡ false = ap (λ x. eqb x 44) p.1 ∙ n.0 in
        simp (p.1, n.0, ih)
    ways go (inr p) =
        let f : ◌≡◌ {A = Option Text} None (Some rest) = simp p.0 at e in
        cc

-- a text whose first field is w, with another behind it, begins with w and a comma
before_none : (b : ℕ) (ps qs : List Text) → before_first b ps ≡ [] ∷ qs → ⊥
before_none b [] qs e = cc
before_none b (p ∷ ps) qs e = cc

before_some : (b x : ℕ) (ps qs : List Text) (w a : Text) → before_first b ps ≡ (x ∷ w) ∷ (a ∷ qs) → (b ≡ x) × (ps ≡ w ∷ (a ∷ qs))
before_some b x [] qs w a e = cc
before_some b x (p ∷ ps) qs w a e = (cc, cc)

no_word : (w t a : Text) (qs : List Text) → parted 44 t ≡ w ∷ (a ∷ qs) → None ≡ after (w ++ (44 ∷ [])) t → ⊥
no_word w [] a qs e h = cc
no_word [] (b ∷ bs) a qs e h = elim (eqb_tells b 44) [
  | inl q ↦ (let f : None ≡ Some bs = simp q.0 at h in cc)
  | inr q ↦ before_none b (parted 44 bs) (a ∷ qs) (simp q.0 at e)
]
no_word (x ∷ w) (b ∷ bs) a qs e h = elim (eqb_tells b 44) [
  | inl q ↦ (let f : [] ∷ parted 44 bs ≡ (x ∷ w) ∷ (a ∷ qs) = simp q.0 at e in cc)
  | inr q ↦ (let f = before_some b x (parted 44 bs) qs w a (simp q.0 at e) in no_word w bs a qs f.1 (simp (eq-eqb b x f.0) at h))
]

not_same : (t k a w : Text) (qs : List Text) → parted 44 t ≡ k ∷ (a ∷ qs) → None ≡ after (w ++ (44 ∷ [])) t → bytes_eq k w ≡ false
not_same t k a w qs e h = false_from_ne_true (bytes_eq k w) (λ s. no_word w t a qs (rw ((bytes_eq-Decides k w).0 s) at e) h)

none_fields : (t : Text) (ps : List Text) → parted 44 t ≡ ps → None ≡ after (codes "state,") t → None ≡ after (codes "step,") t → None ≡ of_fields ps
none_fields t [] e h g = refl
none_fields t (k ∷ []) e h g = refl
none_fields t (k ∷ (a ∷ [])) e h g = refl
none_fields t (k ∷ (a ∷ (b ∷ []))) e h g = let q = not_same t k a (codes "step") (b ∷ []) e g in simp q
none_fields t (k ∷ (a ∷ (b ∷ (c ∷ [])))) e h g = let q = not_same t k a (codes "state") (b ∷ (c ∷ [])) e h in simp q
none_fields t (k ∷ (a ∷ (b ∷ (c ∷ (d ∷ ds))))) e h g = refl

-- ---- a whole line, by what follows its first word

fields_after : (k t rest : Text) → apart k → after (k ++ (44 ∷ [])) t ≡ Some rest → of_fields (k ∷ parted 44 rest) ≡ of_fields (parted 44 t)
fields_after k t rest n e = ap of_fields (sym (after_parted k t rest n e))

by_fields : (t : Text) (x y : Option Text) → after (codes "state,") t ≡ x → after (codes "step,") t ≡ y → (r s : Option CodeEntry) → mapped shown r ≡ mapped capped (fields_of (codes "state") x)
    → MatchOption r (mapped shown s ≡ mapped capped (fields_of (codes "step") y)) (λ z. s ≡ Some z) → mapped shown s ≡ mapped capped (of_fields (parted 44 t))
by_fields t (Some u) y i j (Some z) s a b = ap (mapped shown) b ∙ (a ∙ ap (mapped capped) (fields_after (codes "state") t u (refl, (refl, (refl, (refl, (refl, tt))))) i))
by_fields t None y i j (Some z) s a b = cc
by_fields t x (Some v) i j None s a b = b ∙ ap (mapped capped) (fields_after (codes "step") t v (refl, (refl, (refl, (refl, tt)))) j)
by_fields t (Some u) None i j None s a b = b ∙ (a ∙ ap (mapped capped) (fields_after (codes "state") t u (refl, (refl, (refl, (refl, (refl, tt))))) i))
by_fields t None None i j None s a b = b ∙ ap (mapped capped) (none_fields t (parted 44 t) refl (sym i) (sym j))

by_words : (x y : Option Text) (u v f : Option Entry) (p q r s : Option CodeEntry) → mapped shown p ≡ mapped signals x → MatchOption p (mapped shown q ≡ mapped rule y) (λ z. q ≡ Some z)
    → MatchOption q (mapped shown r ≡ mapped capped u) (λ z. r ≡ Some z) → MatchOption r (mapped shown s ≡ mapped capped v) (λ z. s ≡ Some z)
    → (mapped shown r ≡ mapped capped u → mapped shown s ≡ mapped capped f) → mapped shown s ≡ mapped capped (or_else (mapped signals x) (or_else (mapped rule y) f))
by_words (Some n) y u v f (Some p) (Some q) (Some r) s a b d e g = ap (mapped shown) (e ∙ (d ∙ b)) ∙ a
by_words (Some n) y u v f (Some p) (Some q) None s a b d e g = cc
by_words (Some n) y u v f (Some p) None r s a b d e g = cc
by_words (Some n) y u v f None q r s a b d e g = cc
by_words None y u v f (Some p) q r s a b d e g = cc
by_words None (Some n) u v f None (Some q) (Some r) s a b d e g = ap (mapped shown) (e ∙ d) ∙ b
by_words None (Some n) u v f None (Some q) None s a b d e g = cc
by_words None (Some n) u v f None None r s a b d e g = cc
by_words None None u v f None (Some q) r s a b d e g = cc
by_words None None u v f None None r s a b d e g = g d

-- one try after another
pub line_said : (t : Text) (p q r s : Option CodeEntry) → mapped shown p ≡ mapped signals (after (codes "signals,") t)
    → MatchOption p (mapped shown q ≡ mapped rule (after (codes "rule,") t)) (λ z. q ≡ Some z)
    → MatchOption q (mapped shown r ≡ mapped capped (fields_of (codes "state") (after (codes "state,") t))) (λ z. r ≡ Some z)
    → MatchOption r (mapped shown s ≡ mapped capped (fields_of (codes "step") (after (codes "step,") t))) (λ z. s ≡ Some z) → mapped shown s ≡ mapped capped (entry t)
line_said t p q r s a b d e = by_words _ _ _ _ (of_fields (parted 44 t)) p q r s a b d e (λ x. by_fields t _ _ refl refl r s x e)
