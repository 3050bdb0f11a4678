-- Words that agree on the signals that a formula names do the same with it. Assumes nothing.
use Rattle.std.proofs.Common.{◌≡◌, ℕ, Bool, ◌&&◌, ◌||◌, List, [], ◌∷◌, ◌++◌, sym, refl, ap, ◌∙◌, ap₂}
use mathlib.Core.Logic.{∥∥₁_elim, ∥∥₁_map}
use mathlib.Core.Bool.{beq, Bool-set}
use Rattle.logic.specs.Formula.{Formula, tru, fls, lit, and, or, next, until, release, Sub}
use Rattle.logic.specs.Formula as F
use Rattle.logic.specs.Witness.{Breach}
use Rattle.logic.specs.Sat.{sat}
use Rattle.logic.specs.Labels.{Kept, whole, a_next, an_until, a_release, an_operand}
use Rattle.logic.specs.Standings.{Standing}
use Rattle.logic.specs.Signals.{LettersAgree, Agree}
use Rattle.logic.specs.Statements.{OnlyNamedSignalsCount}
use Rattle.logic.proofs.Subs.{sub_trans}
use Rattle.logic.proofs.Sat.{breach_is_sat}
use Rattle.logic.proofs.Labels.{map_same}

-- what agrees for f agrees for a subformula
letters_part : {f g : Formula} (s t : ℕ) → Sub g f → LettersAgree f s t → LettersAgree g s t
letters_part s t q h i n = h i (n.0, sub_trans n.1 q)

part : {f g : Formula} (u v : List ℕ) → Sub g f → Agree f u v → Agree g u v
part [] [] q h = tt
part [] (t ∷ v) q h = h
part (s ∷ u) [] q h = h
part (s ∷ u) (t ∷ v) q h = (letters_part s t q h.0, part u v q h.1)

sat_agrees : (f : Formula) (u v : List ℕ) → Agree f u v → sat f u ≡ sat f v
sat_agrees f [] [] h = refl
sat_agrees f [] (t ∷ v) h = absurd h
sat_agrees f (s ∷ u) [] h = absurd h
sat_agrees tru (s ∷ u) (t ∷ v) h = refl
sat_agrees fls (s ∷ u) (t ∷ v) h = refl
sat_agrees (lit i p) (s ∷ u) (t ∷ v) h = ap (λ b. beq b p) (h.0 i (p, F.itself))
sat_agrees (and a b) (s ∷ u) (t ∷ v) h =
    ap₂ ◌&&◌ (sat_agrees a (s ∷ u) (t ∷ v) (part (s ∷ u) (t ∷ v) (F.and_left F.itself) h)) (sat_agrees b (s ∷ u) (t ∷ v) (part (s ∷ u) (t ∷ v) (F.and_right F.itself) h))
sat_agrees (or a b) (s ∷ u) (t ∷ v) h =
    ap₂ ◌||◌ (sat_agrees a (s ∷ u) (t ∷ v) (part (s ∷ u) (t ∷ v) (F.or_left F.itself) h)) (sat_agrees b (s ∷ u) (t ∷ v) (part (s ∷ u) (t ∷ v) (F.or_right F.itself) h))
sat_agrees (next a) (s ∷ u) (t ∷ v) h = sat_agrees a u v (part u v (F.next_of F.itself) h.1)
sat_agrees (until a b) (s ∷ u) (t ∷ v) h =
    ap₂ ◌||◌ (sat_agrees b (s ∷ u) (t ∷ v) (part (s ∷ u) (t ∷ v) (F.until_right F.itself) h))
    (ap₂ ◌&&◌ (sat_agrees a (s ∷ u) (t ∷ v) (part (s ∷ u) (t ∷ v) (F.until_left F.itself) h)) (sat_agrees (until a b) u v h.1))
sat_agrees (release a b) (s ∷ u) (t ∷ v) h =
    ap₂ ◌&&◌ (sat_agrees b (s ∷ u) (t ∷ v) (part (s ∷ u) (t ∷ v) (F.release_right F.itself) h))
    (ap₂ ◌||◌ (sat_agrees a (s ∷ u) (t ∷ v) (part (s ∷ u) (t ∷ v) (F.release_left F.itself) h)) (sat_agrees (release a b) u v h.1))

-- the same letters behind two words that agree
itself_agrees : (f : Formula) (w : List ℕ) → Agree f w w
itself_agrees f [] = tt
itself_agrees f (s ∷ w) = ((λ i n. refl), itself_agrees f w)

longer : (f : Formula) (u v w : List ℕ) → Agree f u v → Agree f (u ++ w) (v ++ w)
longer f [] [] w h = itself_agrees f w
longer f [] (t ∷ v) w h = absurd h
longer f (s ∷ u) [] w h = absurd h
longer f (s ∷ u) (t ∷ v) w h = (h.0, longer f u v w h.1)

turned : (f : Formula) (u v : List ℕ) → Agree f u v → Agree f v u
turned f [] [] h = h
turned f [] (t ∷ v) h = h
turned f (s ∷ u) [] h = h
turned f (s ∷ u) (t ∷ v) h = ((λ i n. sym (h.0 i n)), turned f u v h.1)

breach_over : (f : Formula) (u v : List ℕ) → Agree f u v → Breach f u → Breach f v
breach_over f u v h b = (breach_is_sat f v).1 (sym (sat_agrees f u v h) ∙ (breach_is_sat f u).0 b)

standing_over : (f : Formula) (ks : List Formula) (u v : List ℕ) → Agree f u v → (ℓ : List Bool) → Standing ks (Breach f) u ℓ → Standing ks (Breach f) v ℓ
standing_over f ks u v h ℓ s = ∥∥₁_map s (λ x. (x.0, x.1, x.2, breach_over f (u ++ x.0) (v ++ x.0) (longer f u v x.0 h) x.3))

-- a kept formula is a subformula
kept_part : {f g : Formula} → Kept f g → Sub g f
kept_part whole = F.itself
kept_part (a_next q) = q
kept_part (an_until q) = q
kept_part (a_release q) = q
kept_part (an_operand q) = sub_trans (F.next_of F.itself) q

pub only_named_signals_count : OnlyNamedSignalsCount
only_named_signals_count f ks lists u v h = record {
  breaches = (breach_over f u v h, breach_over f v u (turned f u v h));
  labels = map_same (λ g. sat g u) (λ g. sat g v) ks
      (λ g m. ∥∥₁_elim ((lists g).0 ∣ m ∣₁) (Bool-set _ _) (λ k. sat_agrees g u v (part u v (kept_part k) h)));
  standings = λ ℓ. (standing_over f ks u v h ℓ, standing_over f ks v u (turned f u v h) ℓ);
}
