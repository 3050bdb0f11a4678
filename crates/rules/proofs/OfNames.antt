-- Names that are held, by their places.
use Rattle.std.proofs.Common.{◌≡◌, ℕ, ◌<◌, ◌≤◌, false, cond, eqb, ◌≢◌, List, [], ◌∷◌, map, length, get_or, Some, None, Ok, Option, sym, refl, ap, ◌∙◌, arith, MatchOption}
use lib.ListN.{length-map}
use Rattle.std.specs.List.{AllWithin, HoldsAt, position_or_len}
use Rattle.std.specs.Option.{unwrap_or}
use Rattle.std.proofs.lemmas.Bool.{eq-eqb}
use Rattle.std.proofs.lemmas.Bool.Decides.{nat_tests}
use Rattle.std.proofs.lemmas.List.Sums.{position_or_len_is}
use Rattle.std.proofs.lemmas.List.Recursion.{is_position_or_len}
use Rattle.fixed.specs.Held.{held}
use Rattle.fixed.proofs.Held.{held_fits}
use Rattle.texts.specs.declared.words.Leaf.{Leaf}
use Rattle.texts.specs.declared.words.Leaf.TheVariants.{True, False, Name as LeafName}
use Rattle.texts.specs.declared.words.Word.{Word}
use Rattle.texts.specs.declared.words.Word.TheVariants.{Zero}
use Rattle.texts.specs.Places.{length_to, place_of}
use Rattle.texts.specs.Shapes.{LeafNamed}
use Rattle.texts.specs.Words.{heads}
use Rattle.texts.proofs.OfNames.{place_at, place_none, getD_mapped}
use Rattle.texts.proofs.OfWriting.{heads_named}
use Rattle.rules.specs.declared.names.Name.{Name}
use Rattle.rules.specs.declared.names.Names.{Names}
use Rattle.rules.specs.Names.{letters_of, names_held}

length_to_is : (stop : ℕ) (xs : List ℕ) → length_to stop xs ≡ position_or_len (λ x. eqb x stop) xs
length_to_is stop = is_position_or_len (length_to stop) (λ x. eqb x stop) refl (λ x xs. ap (cond (eqb x stop) 0) (omega arith))

other_byte : (x y : ℕ) → x ≢ y → eqb x y ≡ false
other_byte x y n = grind (arith, nat_tests)

-- the bytes before the first `stop`, by the place where it was found
pub length_by : (stop : ℕ) (xs : List ℕ) (p : Option ℕ) → MatchOption p (AllWithin (λ x. x ≢ stop) xs 0 (length xs)) (λ i. (i < length xs) × HoldsAt (λ x. x ≡ stop) xs i × AllWithin (λ x. x ≢ stop) xs 0 i) → unwrap_or p (length xs) ≡ length_to stop xs
length_by stop xs None h = sym (length_to_is stop xs ∙ position_or_len_is (λ x. eqb x stop) xs (length xs) 0 (omega arith) (λ k l. other_byte (get_or xs k 0) stop (h k 0 (omega arith) l)) (λ l. absurd (omega arith)))
length_by stop xs (Some i) h =
    let l = h.0 in
    let e = h.1 0 in
    sym (length_to_is stop xs ∙ position_or_len_is (λ x. eqb x stop) xs i 0 (omega arith) (λ k l. other_byte (get_or xs k 0) stop (h.2 k 0 (omega arith) l)) (λ l. eq-eqb (get_or xs i 0) stop e))

pub names_few : (N : Names) → length (names_held N) ≤ 8
names_few N = let m = length-map (held N.list) letters_of in let f = held_fits N.list in omega arith

-- the place of a name is the first that is spelled so
pub place_is : (w : List ℕ) (xs : List Name) (p r : Option ℕ) → MatchOption p (AllWithin (λ n. letters_of n ≢ w) xs 0 (length xs)) (λ i. (i < length xs) × HoldsAt (λ n. letters_of n ≡ w) xs i × AllWithin (λ n. letters_of n ≢ w) xs 0 i)
    → r ≡ p → r ≡ place_of (map letters_of xs) w
place_is w [] None r h e = e
place_is w [] (Some i) r h e = absurd (let l = h.0 in omega arith)
place_is w (x ∷ xs) None r h e =
    let z = length-map (x ∷ xs) letters_of in
    e ∙ place_none (map letters_of (x ∷ xs)) w (λ k d l q. h k x (omega arith) (omega arith) (sym (getD_mapped letters_of (x ∷ xs) k x d (omega arith)) ∙ q))
place_is w (x ∷ xs) (Some i) r h e =
    let z = length-map (x ∷ xs) letters_of in
    let l = h.0 in
    e ∙ place_at (map letters_of (x ∷ xs)) w i (omega arith) (λ d. getD_mapped letters_of (x ∷ xs) i x d l ∙ h.1 x)
    (λ k d b q. h.2 k x (omega arith) b (sym (getD_mapped letters_of (x ∷ xs) k x d (omega arith)) ∙ q))

-- a leaf that is read is one of at most eight names
pub leaf_small : (N : Names) (total d : ℕ) (w : List ℕ) (x : Word) (l : Leaf) (rest : List ℕ) → heads (names_held N) total d w ≡ Ok (x, rest) → x ≡ Zero l → LeafNamed 8 l
leaf_small N total d w x l rest e is =
    let s = names_few N in
    named_more (length (names_held N)) l (omega arith) (heads_named (names_held N) total d w l rest (e ∙ ap (λ (y : Word). Ok (y, rest)) is))
  where
    named_more : (n : ℕ) (l : Leaf) → n ≤ 8 → LeafNamed n l → LeafNamed 8 l
    named_more n True h k = tt
    named_more n False h k = tt
    named_more n (LeafName i) h k = omega arith
