-- What is left of a file, by the piece that `split_inclusive` takes off its front.
use Rattle.std.proofs.Common.{◌≡◌, ℕ, ◌+◌, ◌-◌, ◌<◌, min, false, true, true≢false, cond, eqb, List, [], ◌∷◌, ◌++◌, length, get_or, take, drop, Some, None, Option, sym, refl, ap, ◌∙◌, subst, inl, inr, append_assoc, length-append, arith}
use lib.ListN.{get_or-append}
use Rattle.std.specs.Prelude.{◌≢◌, MatchOption}
use Rattle.std.specs.Borrow.{Bor}
use Rattle.std.specs.Cmp.Lexicographic.{pointwise}
use Rattle.std.specs.List.{All, onto_first, slice_split, IsFirstMatchOrLen}
use Rattle.std.proofs.lemmas.Bool.Decides.{eqb_tells, leb_tells, Decides-eqb}
use Rattle.std.proofs.lemmas.Slice.Eq.{strip_suffix_is}
use Rattle.std.proofs.lemmas.Grind.{take_at_read}
use Rattle.std.proofs.lemmas.List.{take_at}
use Rattle.std.proofs.lemmas.List.Splits.{slice_split_none, slice_split_at}
use Rattle.meaning.specs.declared.refusals.LineFault.TheVariants.{Table}
use Rattle.meaning.specs.declared.refusals.TableFault.TheVariants.{Form}
use Rattle.meaning.specs.Bytes.{Text, parted, before_first}
use Rattle.meaning.specs.Files.{Rooms, Content, cut, nothing, lines, lines_of, FirstBad}
use Rattle.loading.proofs.OfLoop.{Left, left}

before_is : (b : ℕ) (ps : List Text) → before_first b ps ≡ onto_first b ps
before_is b [] = refl
before_is b (p ∷ ps) = refl

parted_split : (t : Text) → parted 10 t ≡ slice_split (λ b. eqb b 10) t
parted_split [] = refl
parted_split (b ∷ bs) =
    let ih = parted_split bs in
    ap (λ ps. cond (eqb b 10) ([] ∷ ps) (before_first b ps)) ih ∙ ap (cond (eqb b 10) ([] ∷ slice_split (λ b. eqb b 10) bs)) (before_is b (slice_split (λ b. eqb b 10) bs))

-- a piece with its LF
piece_ended : (rest x more a : Text) (i : ℕ) → rest ≡ x ++ more → length x ≡ min (i + 1) (length rest) → IsFirstMatchOrLen (λ b. eqb b 10) rest i → x ≡ a ++ (10 ∷ []) → parted 10 rest ≡ a ∷ parted 10 more
piece_ended rest x more a i e l f s =
    let whole : rest ≡ a ++ (10 ∷ more) = e ∙ ap (λ v. v ++ more) s ∙ append_assoc a (10 ∷ []) more in
    let long = ap length s ∙ length-append a (10 ∷ []) in
    let clean : All (λ b. eqb b 10 ≡ false) a = λ k d h.
    ap (λ v. eqb v 10) (sym (get_or-append a (10 ∷ more) d k h)) ∙ subst (λ v. eqb (get_or v k d) 10 ≡ false) whole (f.0 k d (omega arith) (omega (arith, long, l))) in
    parted_split rest ∙ ap (slice_split (λ b. eqb b 10)) whole ∙ slice_split_at (λ b. eqb b 10) a 10 more clean refl ∙ ap (λ ps. a ∷ ps) (sym (parted_split more))

-- a piece without LF is all that is left
piece_cut : (rest x more : Text) (i : ℕ) → rest ≡ x ++ more → length x ≡ min (i + 1) (length rest) → IsFirstMatchOrLen (λ b. eqb b 10) rest i → ((front : Text) → x ≢ front ++ (10 ∷ [])) → parted 10 rest ≡ rest ∷ []
piece_cut rest x more i e l f n = elim (leb_tells (length rest) i) [
  | inl p ↦ (let low = p.1 in parted_split rest ∙ slice_split_none (λ b. eqb b 10) rest (λ k d h. f.0 k d (omega arith) (omega arith)))
  | inr p ↦ (
      let low = p.1 in
      let ten : get_or rest i 0 ≡ 10 = elim (eqb_tells (get_or rest i 0) 10) [
        | inl q ↦ q.1
        | inr q ↦ absurd (true≢false (sym (f.1 low 0) ∙ q.0))
      ] in
      let long : length x ≡ i + 1 = omega arith in
      let front : x ≡ take i rest ++ (get_or rest i 0 ∷ []) = sym (take_at x more (i + 1) long) ∙ ap (take (i + 1)) (sym e) ∙ (take_at_read rest i 0 low).1 in
      absurd (n (take i rest) (front ∙ ap (λ b. take i rest ++ (b ∷ [])) ten)))
]

-- what `strip_suffix` makes of it: a line, with more behind it; or none, where all that is left has no LF
pub piece_is : (rest x more : Text) (i : ℕ) → rest ≡ x ++ more → length x ≡ min (i + 1) (length rest) → IsFirstMatchOrLen (λ b. eqb b 10) rest i → (r : Option (Bor Text))
    → MatchOption r (pointwise eqb (drop (length x - 1) x) (10 ∷ []) ≡ false) (λ a. (pointwise eqb (drop (length x - 1) x) (10 ∷ []) ≡ true) × (a.now ≡ take (length x - 1) x) × (length a.now + 1 ≡ length x))
    → MatchOption r (parted 10 rest ≡ rest ∷ []) (λ a. (parted 10 rest ≡ a.now ∷ parted 10 more) × (length more < length rest))
piece_is rest x more i e l f None m = piece_cut rest x more i e l f (strip_suffix_is Decides-eqb x (10 ∷ []) None m)
piece_is rest x more i e l f (Some a) m = (piece_ended rest x more a.now i e l f (strip_suffix_is Decides-eqb x (10 ∷ []) (Some a) m), omega (arith, ap length e, length-append x more, m.2))

-- which is refused
pub cut_line : (r : Rooms) (file : Text) (c : Content) (n : ℕ) (rest : Text) → Left r file c n rest → 0 < length rest → parted 10 rest ≡ rest ∷ [] → FirstBad r nothing 1 (lines file) (record { line = n + 1; fault = Table Form })
cut_line r file c n [] g h e = absurd (omega arith)
cut_line r file c n (b ∷ bs) g h e =
    let l : left (b ∷ bs) ≡ cut (b ∷ bs) ∷ [] = ap lines_of e in
    g.bad (record { line = n + 1; fault = Table Form }) (rw l (inl (refl, refl)))
