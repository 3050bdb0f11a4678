-- The names that are read from a text are held.
use Rattle.std.proofs.Common.{◌≡◌, ℕ, suc, ◌<◌, Bool, true, false, cond, eqb, List, [], ◌∷◌, ◌++◌, map, length, get_or, Some, None, Option, sym, refl, ap, ◌∙◌, subst, append_assoc, arith, length-append, MatchBool}
use lib.ListN.{get_or-append}
use Rattle.std.specs.List.{IsFirstMatchOrLen}
use lib.ListN.{length-map}
use Rattle.std.proofs.lemmas.List.{map-append}
use Rattle.std.specs.Option.{is_some}
use Rattle.fixed.specs.Held.{held}
use Rattle.meaning.specs.Names.{names_of}
use Rattle.texts.specs.declared.words.Word.{Word}
use Rattle.texts.specs.Words.{fixed_word}
use Rattle.texts.specs.Places.{place_of}
use Rattle.texts.specs.Fit.{FitName, Fit}
use Rattle.texts.proofs.OfNames.{no_true}
use Rattle.texts.proofs.OfOpening.{fit_join, fit_twice, fixed_unfit}
use Rattle.rules.specs.declared.names.Name.{Name}
use Rattle.rules.specs.declared.names.Names.{Names}
use Rattle.rules.specs.Names.{letters_of, names_held}
use Rattle.rules.proofs.OfNodes.{front_is}

pub fixed_unfit_some : (w : List ℕ) (x : Option Word) → x ≡ fixed_word w → true ≡ is_some x → FitName w → ⊥
fixed_unfit_some w None e t = absurd (no_true (sym t))
fixed_unfit_some w (Some x) e t = fixed_unfit w x e

pub placed_twice : (ns : List (List ℕ)) (w : List ℕ) (p : Option ℕ) → true ≡ is_some p → p ≡ place_of ns w → (ms : List (List ℕ)) → Fit (ns ++ (w ∷ ms)) → ⊥
placed_twice ns w None t e = absurd (no_true (sym t))
placed_twice ns w (Some i) t e = fit_twice ns w i e

not_placed : (ns : List (List ℕ)) (w : List ℕ) (p : Option ℕ) → false ≡ is_some p → p ≡ place_of ns w → None ≡ place_of ns w
not_placed ns w None t e = e
not_placed ns w (Some i) t e = absurd (no_true t)

pub joined_names : (N : Names) (list : List Name) (w : List ℕ) (x : Name) → length (held N.list) < 8 → (letters_of x ≡ w) × FitName w → (p : Option ℕ) → false ≡ is_some p → p ≡ place_of (names_held N) w → list ≡ held N.list ++ (x ∷ [])
    → Fit (names_held N) → (map letters_of list ≡ names_held N ++ (w ∷ [])) × Fit (names_held N ++ (w ∷ []))
joined_names N list w x h n p t e l f =
    let z = length-map (held N.list) letters_of in (
      ap (map letters_of) l ∙ map-append letters_of (held N.list) (x ∷ []) ∙ ap (λ (v : List ℕ). names_held N ++ (v ∷ [])) n.0,
      fit_join (names_held N) w f (omega arith) n.1 (not_placed (names_held N) w p t e),
    )

-- ---- the parts of a text

parted_last : (w : List ℕ) → ((k d : ℕ) → k < length w → eqb (get_or w k d) 44 ≡ false) → names_of w ≡ w ∷ []
parted_last [] n = refl
parted_last (b ∷ bs) n =
    let t : eqb b 44 ≡ false = n 0 0 (omega arith) in
    let ih = parted_last bs (λ k d l. n (suc k) d (omega arith)) in
    rw (t, ih)

parted_more : (w : List ℕ) (y : ℕ) (rest : List ℕ) → ((k d : ℕ) → k < length w → eqb (get_or w k d) 44 ≡ false) → eqb y 44 ≡ true → names_of (w ++ (y ∷ rest)) ≡ w ∷ names_of rest
parted_more [] y rest n t = rw t
parted_more (b ∷ bs) y rest n t =
    let u : eqb b 44 ≡ false = n 0 0 (omega arith) in
    let ih = parted_more bs y rest (λ k d l. n (suc k) d (omega arith)) t in
    rw (u, ih)

-- the part w that `split` takes off the front of a text, and what is left, if there is more
part_is : (text w rest : List ℕ) (done : Bool) → MatchBool done (text ≡ w) ((y : ℕ) × (text ≡ w ++ (y ∷ rest))) → IsFirstMatchOrLen (λ b. eqb b 44) text (length w) → names_of text ≡ w ∷ cond done [] (names_of rest)
part_is text w rest true e f = ap names_of e ∙ parted_last w (λ k d l. subst (λ (v : List ℕ). eqb (get_or v k d) 44 ≡ false) e (f.0 k d (omega arith) l))
part_is text w rest false e f =
    let g : IsFirstMatchOrLen (λ b. eqb b 44) (w ++ (e.0 ∷ rest)) (length w) = subst (λ (v : List ℕ). IsFirstMatchOrLen (λ b. eqb b 44) v (length w)) e.1 f in
    let l = length-append w (e.0 ∷ rest) in
    ap names_of e.1
    ∙ parted_more w e.0 rest (λ k d h. ap (λ (x : ℕ). eqb x 44) (sym (get_or-append w (e.0 ∷ rest) d k h)) ∙ g.0 k d (omega arith) h)
    (ap (λ (x : ℕ). eqb x 44) (sym (front_is w e.0 rest 0)) ∙ g.1 (omega arith) 0)

pub part_taken : (text w rest : List ℕ) (before after : Bool) → before ≡ false → MatchBool after (text ≡ w) ((y : ℕ) × (text ≡ w ++ (y ∷ rest))) → IsFirstMatchOrLen (λ b. eqb b 44) text (length w) → cond before [] (names_of text) ≡ w ∷ cond after [] (names_of rest)
part_taken text w rest before after b e f = ap (λ (d : Bool). cond d [] (names_of text)) b ∙ part_is text w rest after e f

-- one more part is held
pub part_held : (ns held : List (List ℕ)) (w : List ℕ) (rest rest' all : List (List ℕ)) → all ≡ ns ++ rest → rest ≡ w ∷ rest' → held ≡ ns ++ (w ∷ []) → all ≡ held ++ rest'
part_held ns held w rest rest' all e p h =
    e ∙ ap (λ (v : List (List ℕ)). ns ++ v) p ∙ sym (append_assoc ns (w ∷ []) rest') ∙ ap (λ (v : List (List ℕ)). v ++ rest') (sym h)
