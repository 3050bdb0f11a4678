-- The names that a sheet can be opened with are the fit names of the specification.
use Rattle.std.proofs.Common.{◌≡◌, ℕ, zero, suc, ◌<◌, Bool, true, false, not, ◌&&◌, leb, List, [], ◌∷◌, length, get_or, codes, sym, refl, ◌∙◌, subst, arith}
use Rattle.std.specs.List.{AllByRecursion}
use Rattle.std.specs.Str.{bytes_eq}
use Rattle.std.proofs.lemmas.Bool.{and_parts, and_from, false≢true, leb-true, le-leb, not_from_true, not_from_false}
use Rattle.meaning.specs.Bytes.{Text, all, one_of, once}
use Rattle.meaning.specs.Names.{lowercase, is_name, fit_names, names_of, fit}
use Rattle.meaning.proofs.OfWords.{find, one_of_at}
use Rattle.texts.specs.Fit.{Lower, FitName, Fit, FitNamesAreThese}
use Rattle.texts.proofs.OfNames.{same_true, same_false}
use Rattle.texts.proofs.OfOpening.{names_of_some}

not_true : (b : Bool) → not b ≡ true → b ≡ true → ⊥
not_true b n e = false≢true (sym (not_from_true b e) ∙ n)

-- ---- one name

lower_of : (b : ℕ) → lowercase b ≡ true → Lower b
lower_of b h = let k = and_parts (leb 97 b) _ h in (leb-true 97 b k.0, leb-true b 122 k.1)

all_lower : (t : Text) → all lowercase t ≡ true → AllByRecursion Lower t
all_lower [] h = tt
all_lower (b ∷ bs) h = let k = and_parts (lowercase b) _ h in (lower_of b k.0, all_lower bs k.1)

lowercase_all : (t : Text) → AllByRecursion Lower t → all lowercase t ≡ true
lowercase_all [] h = refl
lowercase_all (b ∷ bs) h = and_from (lowercase b) _ (and_from (leb 97 b) _ (le-leb 97 b h.0.0) (le-leb b 122 h.0.1)) (lowercase_all bs h.1)

fit_name_of : (t : Text) → is_name t ≡ true → FitName t
fit_name_of t h =
    let k = and_parts (leb 1 (length t) && leb (length t) 8) _ h in
    let size = and_parts (leb 1 (length t)) _ k.0 in
    let rest = and_parts (all lowercase t) _ k.1 in
    let words = and_parts (not (bytes_eq t (codes "true"))) _ rest.1 in
    record {
      some = leb-true 1 (length t) size.0;
      short = leb-true (length t) 8 size.1;
      lower = all_lower t rest.0;
      not_true = λ e. not_true _ words.0 (same_true t (codes "true") e);
      not_false = λ e. not_true _ words.1 (same_true t (codes "false") e);
    }

name_of_fit : (t : Text) → FitName t → is_name t ≡ true
name_of_fit t f =
    and_from (leb 1 (length t) && leb (length t) 8) _ (and_from (leb 1 (length t)) _ (le-leb 1 (length t) f.some) (le-leb (length t) 8 f.short))
    (and_from (all lowercase t) _ (lowercase_all t f.lower)
    (and_from (not (bytes_eq t (codes "true"))) _ (not_from_false _ (same_false t (codes "true") f.not_true)) (not_from_false _ (same_false t (codes "false") f.not_false))))

-- ---- several names

fit_names_of : (ns : List Text) → all is_name ns ≡ true → AllByRecursion FitName ns
fit_names_of [] h = tt
fit_names_of (n ∷ ns) h = let k = and_parts (is_name n) _ h in (fit_name_of n k.0, fit_names_of ns k.1)

names_of_fit : (ns : List Text) → AllByRecursion FitName ns → all is_name ns ≡ true
names_of_fit [] h = refl
names_of_fit (n ∷ ns) h = and_from (is_name n) _ (name_of_fit n h.0) (names_of_fit ns h.1)

once_differ : (ns : List Text) → once ns ≡ true → (i j : ℕ) → i < j → j < length ns → get_or ns i [] ≡ get_or ns j [] → ⊥
once_differ [] h i j l m e = omega arith
once_differ (n ∷ ns) h i zero l m e = omega arith
once_differ (n ∷ ns) h zero (suc j) l m e =
    not_true (one_of n ns) (and_parts (not (one_of n ns)) _ h).0 (subst (λ (t : Text). one_of t ns ≡ true) (sym e) (one_of_at ns j (omega arith)))
once_differ (n ∷ ns) h (suc i) (suc j) l m e = once_differ ns (and_parts (not (one_of n ns)) _ h).1 i j (omega arith) (omega arith) e

differ_once : (ns : List Text) → ((i j : ℕ) → i < j → j < length ns → get_or ns i [] ≡ get_or ns j [] → ⊥) → once ns ≡ true
differ_once [] d = refl
differ_once (n ∷ ns) d = and_from (not (one_of n ns)) _ (not_from_false _ (lacks (one_of n ns) refl)) (differ_once ns (λ i j l m e. d (suc i) (suc j) (omega arith) (omega arith) e))
  where
    lacks : (b : Bool) → one_of n ns ≡ b → b ≡ false
    lacks false e = refl
    lacks true e = let k = find ns n e in absurd (d 0 (suc k.0) (omega arith) (omega (arith, k.1)) (sym k.2))

pub fit_names_are_these : FitNamesAreThese
fit_names_are_these ns some = (forth, back)
  where
    forth : fit_names ns ≡ true → Fit ns
    forth h =
        let k = and_parts (leb 1 (length ns) && leb (length ns) 8) _ h in
        let size = and_parts (leb 1 (length ns)) _ k.0 in
        let rest = and_parts (all is_name ns) _ k.1 in
        record { few = leb-true (length ns) 8 size.1; each = fit_names_of ns rest.0; differ = once_differ ns rest.1 }

    back : Fit ns → fit_names ns ≡ true
    back f =
        and_from (leb 1 (length ns) && leb (length ns) 8) _ (and_from (leb 1 (length ns)) _ (le-leb 1 (length ns) some) (le-leb (length ns) 8 f.few))
        (and_from (all is_name ns) _ (names_of_fit ns f.each) (differ_once ns f.differ))

-- ---- the names of a text

pub fit_text : (t : Text) → Fit (names_of t) → fit t ≡ true
fit_text t f = (fit_names_are_these (names_of t) (names_of_some t)).1 f

pub unfit_text : (t : Text) → (Fit (names_of t) → ⊥) → fit t ≡ false
unfit_text t n = go (fit t) refl
  where
    go : (b : Bool) → fit t ≡ b → b ≡ false
    go false e = refl
    go true e = absurd (n ((fit_names_are_these (names_of t) (names_of_some t)).0 e))
