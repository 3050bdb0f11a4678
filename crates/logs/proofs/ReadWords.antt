-- What follows a word. Assumes nothing.
use Rattle.std.proofs.Common.{◌≡◌, [], ◌∷◌, ◌++◌, eqb, Some, None, Option, inl, inr, refl, sym, ap, ◌∙◌, MatchOption, ◌≢◌}
use Rattle.std.proofs.lemmas.Bool.{cond-true, cond-false, eq-eqb}
use Rattle.std.proofs.lemmas.Bool.Decides.{eqb_tells}
use Rattle.std.specs.Borrow.{Bor}
use Rattle.std.specs.Option.{option_map}
use Rattle.meaning.specs.Bytes.{Text, after}

after_joined : (p r : Text) → after p (p ++ r) ≡ Some r
after_joined [] r = refl
after_joined (b ∷ p) r = cond-true (eqb b b) (after p (p ++ r)) None (eq-eqb b b refl) ∙ after_joined p r

after_none : (p s : Text) → ((r : Text) → s ≢ p ++ r) → after p s ≡ None
after_none [] s h = absurd (h s refl)
after_none (c ∷ p) [] h = refl
after_none (c ∷ p) (b ∷ s) h =
    elim (eqb_tells b c) [
      | inl i ↦ cond-true (eqb b c) (after p s) None i.0 ∙ after_none p s (λ r (e : s ≡ p ++ r). h r (ap (λ x. x ∷ s) i.1 ∙ ap (λ xs. c ∷ xs) e))
      | inr i ↦ cond-false (eqb b c) (after p s) None i.0
    ]

pub after_is : (p s : Text) (r : Option (Bor Text)) → MatchOption r ((rest : Text) → s ≢ p ++ rest) (λ x. s ≡ p ++ x.now) → option_map (λ (x : Bor Text). x.now) r ≡ after p s
after_is p s None h = sym (after_none p s h)
after_is p s (Some x) h = sym (ap (after p) h ∙ after_joined p x.now)
