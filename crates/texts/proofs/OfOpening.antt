-- Names parted by commas, and which lists of names are fit.
use Rattle.std.proofs.Common.{◌≡◌, ℕ, zero, suc, ◌+◌, ◌<◌, ◌≤◌, Bool, true, false, cond, eqb, List, [], ◌∷◌, ◌++◌, length, get_or, take, drop, Some, None, Option, sym, refl, ap, ◌∙◌, subst, inl, inr, add-one, arith, length-append}
use lib.ListN.{get_or-append}
use Rattle.std.specs.List.{AllByRecursion}
use Rattle.std.specs.Str.{bytes_eq}
use Rattle.std.proofs.ByRecursion.{All-push}
use Rattle.std.proofs.lemmas.Bool.Decides.{nat_tests}
use Rattle.meaning.specs.Bytes.{before_first}
use Rattle.meaning.specs.Names.{names_of}
use Rattle.texts.specs.declared.words.Word.{Word}
use Rattle.texts.specs.Places.{length_to, place_of, one_later}
use Rattle.texts.specs.Words.{fixed_word}
use Rattle.texts.specs.Fit.{Lower, FitName, Fit}
use Rattle.texts.proofs.OfNames.{lt_or_eq, no_true, same_true}
use Rattle.texts.proofs.OfWriting.{name_not_fixed, place_sound}

pub names_of_last : (w : List ℕ) → length (drop (length_to 44 w) w) ≡ 0 → names_of w ≡ take (length_to 44 w) w ∷ []
names_of_last [] h = refl
names_of_last (b ∷ bs) h = go (eqb b 44) h (names_of_last bs)
  where
    go : (t : Bool) → length (drop (cond t 0 (length_to 44 bs + 1)) (b ∷ bs)) ≡ 0 → (length (drop (length_to 44 bs) bs) ≡ 0 → names_of bs ≡ take (length_to 44 bs) bs ∷ [])
        → cond t ([] ∷ names_of bs) (before_first b (names_of bs)) ≡ take (cond t 0 (length_to 44 bs + 1)) (b ∷ bs) ∷ []
    go true h ih = absurd (omega arith)
    go false h ih =
        let e = add-one (length_to 44 bs) in
        let k : length (drop (length_to 44 bs) bs) ≡ 0 = subst (λ (j : ℕ). length (drop j (b ∷ bs)) ≡ 0) e h in
        ap (before_first b) (ih k) ∙ ap (λ (j : ℕ). take j (b ∷ bs) ∷ []) (sym e)

pub names_of_more : (w : List ℕ) → 0 < length (drop (length_to 44 w) w) → names_of w ≡ take (length_to 44 w) w ∷ names_of (drop 1 (drop (length_to 44 w) w))
names_of_more [] h = absurd (omega arith)
names_of_more (b ∷ bs) h = go (eqb b 44) h (names_of_more bs)
  where
    go : (t : Bool) → 0 < length (drop (cond t 0 (length_to 44 bs + 1)) (b ∷ bs)) → (0 < length (drop (length_to 44 bs) bs) → names_of bs ≡ take (length_to 44 bs) bs ∷ names_of (drop 1 (drop (length_to 44 bs) bs)))
        → cond t ([] ∷ names_of bs) (before_first b (names_of bs)) ≡ take (cond t 0 (length_to 44 bs + 1)) (b ∷ bs) ∷ names_of (drop 1 (drop (cond t 0 (length_to 44 bs + 1)) (b ∷ bs)))
    go true h ih = refl
    go false h ih =
        let e = add-one (length_to 44 bs) in
        let k : 0 < length (drop (length_to 44 bs) bs) = subst (λ (j : ℕ). 0 < length (drop j (b ∷ bs))) e h in
        ap (before_first b) (ih k) ∙ ap (λ (j : ℕ). take j (b ∷ bs) ∷ names_of (drop 1 (drop j (b ∷ bs)))) (sym e)

fit_name : (ns ms : List (List ℕ)) (w : List ℕ) → Fit (ns ++ (w ∷ ms)) → FitName w
fit_name ns ms w f = go ns f.each
  where
    go : (ns : List (List ℕ)) → AllByRecursion FitName (ns ++ (w ∷ ms)) → FitName w
    go [] a = a.0
    go (n ∷ ns) a = go ns a.1

get_d_at : (ns ms : List (List ℕ)) (w : List ℕ) → get_or (ns ++ (w ∷ ms)) (length ns) [] ≡ w
get_d_at [] ms w = refl
get_d_at (n ∷ ns) ms w = get_d_at ns ms w

pub fit_unnamed : (ns : List (List ℕ)) (w : List ℕ) → (FitName w → ⊥) → (ms : List (List ℕ)) → Fit (ns ++ (w ∷ ms)) → ⊥
fit_unnamed ns w n ms f = n (fit_name ns ms w f)

pub fit_twice : (ns : List (List ℕ)) (w : List ℕ) (i : ℕ) → Some i ≡ place_of ns w → (ms : List (List ℕ)) → Fit (ns ++ (w ∷ ms)) → ⊥
fit_twice ns w i e ms f =
    let p = place_sound ns w i (sym e) in
    let l = length-append ns (w ∷ ms) in
    f.differ i (length ns) p.0 (omega arith) (get_or-append ns (w ∷ ms) [] i p.0 ∙ sym p.1 ∙ sym (get_d_at ns ms w))

none_place : (ns : List (List ℕ)) (w : List ℕ) → place_of ns w ≡ None → (i : ℕ) → i < length ns → get_or ns i [] ≡ w → ⊥
none_place [] w e i h q = absurd (omega arith)
none_place (n ∷ ns) w e i h q = go (none_place ns w) (bytes_eq n w) refl (place_of ns w) refl e i h q
  where
    go : (place_of ns w ≡ None → (i : ℕ) → i < length ns → get_or ns i [] ≡ w → ⊥) → (t : Bool) → bytes_eq n w ≡ t → (p : Option ℕ) → place_of ns w ≡ p → cond t (Some 0) (one_later p) ≡ None
        → (i : ℕ) → i < length (n ∷ ns) → get_or (n ∷ ns) i [] ≡ w → ⊥
    go below true t p u e i h q = let z : ◌≡◌ {A = ℕ} 0 1 = cc in absurd (omega arith)
    go below false t (Some j) u e i h q = let z : ◌≡◌ {A = ℕ} 0 1 = cc in absurd (omega arith)
    go below false t None u e zero h q = no_true (sym t ∙ same_true n w q)
    go below false t None u e (suc i) h q = below u i (omega arith) q

pub fit_join : (ns : List (List ℕ)) (w : List ℕ) → Fit ns → length ns < 8 → FitName w → None ≡ place_of ns w → Fit (ns ++ (w ∷ []))
fit_join ns w f h n e =
    let l = length-append ns (w ∷ []) in
    record {
      few = omega arith;
      each = All-push FitName ns w f.each n;
      differ = λ i j a b q. elim (lt_or_eq j (length ns) (omega arith)) [
        | inl g ↦ f.differ i j a g (sym (get_or-append ns (w ∷ []) [] i (omega arith)) ∙ q ∙ get_or-append ns (w ∷ []) [] j g)
        | inr g ↦ none_place ns w (sym e) i (omega arith) (sym (get_or-append ns (w ∷ []) [] i (omega arith)) ∙ q ∙ ap (λ (k : ℕ). get_or (ns ++ (w ∷ [])) k []) g ∙ get_d_at ns [] w)
      ];
    }

len_front : (w z : List ℕ) → AllByRecursion Lower w → length_to 0 z ≡ 0 → length_to 0 (w ++ z) ≡ length w
len_front [] z a e = e
len_front (b ∷ bs) z a e =
    let h = a.0.0 in
    let t : eqb b 0 ≡ false = grind (arith, nat_tests) in
    let ih = len_front bs z a.1 e in
    rw (t, ih, add-one)

zeros : (xs : List ℕ) (k : ℕ) → AllByRecursion (λ b. b ≡ 0) xs → length_to 0 (drop k xs) ≡ 0
zeros [] zero a = refl
zeros [] (suc k) a = refl
zeros (b ∷ bs) zero a = let e : b ≡ 0 = a.0 in let t : eqb b 0 ≡ true = grind (arith, nat_tests) in rw t
zeros (b ∷ bs) (suc k) a = zeros bs k a.1

pub name_fits : (w : List ℕ) → (length w ≡ 0 → ⊥) → length w ≤ 8 → AllByRecursion Lower w → None ≡ fixed_word w → FitName w
unfolding fixed_word
name_fits w z h a e = record {
  some = omega (arith, pos (length w) z);
  short = h;
  lower = a;
  not_true = λ q. none_some (e ∙ ap fixed_word q);
  not_false = λ q. none_some (e ∙ ap fixed_word q);
}
  where
    pos : (n : ℕ) → (n ≡ 0 → ⊥) → 0 < n
    pos zero z = absurd (z refl)
    pos (suc n) z = omega arith

    none_some : {x : Word} → None ≡ Some x → ⊥
    none_some e = let z : ◌≡◌ {A = ℕ} 0 1 = cc in absurd (omega arith)

pub fixed_unfit : (w : List ℕ) (x : Word) → Some x ≡ fixed_word w → FitName w → ⊥
fixed_unfit w x e f = let n = name_not_fixed w f in let q : Some x ≡ None = e ∙ n in let z : ◌≡◌ {A = ℕ} 0 1 = cc in absurd (omega arith)

pub fit_none : Fit []
fit_none = record { few = omega arith; each = tt; differ = λ i j a b q. absurd (omega arith) }

pub eight : AllByRecursion {X = ℕ} (λ b. b ≡ 0) (0 ∷ (0 ∷ (0 ∷ (0 ∷ (0 ∷ (0 ∷ (0 ∷ (0 ∷ []))))))))
eight = (refl, (refl, (refl, (refl, (refl, (refl, (refl, (refl, tt))))))))

pub lower_all : (w : List ℕ) (i : ℕ) → length w ≤ i → AllByRecursion Lower (take i w) → AllByRecursion Lower w
lower_all [] i h a = tt
lower_all (b ∷ bs) zero h a = absurd (omega arith)
lower_all (b ∷ bs) (suc i) h a = (a.0, lower_all bs i (omega arith) a.1)

-- a text has at least one name, which may be unfit
pub names_of_some : (w : List ℕ) → 0 < length (names_of w)
names_of_some [] = omega arith
names_of_some (b ∷ bs) = go (eqb b 44) (names_of bs)
  where
    go : (t : Bool) (ns : List (List ℕ)) → 0 < length (cond t ([] ∷ ns) (before_first b ns))
    go true ns = omega arith
    go false [] = omega arith
    go false (n ∷ ns) = omega arith
