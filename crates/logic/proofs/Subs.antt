-- Subformulas: transitive, and decided. Assumes nothing.
use Rattle.std.proofs.Common.{◌≡◌, ◌⊎◌, subst, inl, inr}
use Rattle.logic.specs.Formula.{Formula, tru, fls, lit, and, or, next, until, release, same, Sub}
use Rattle.logic.specs.Formula.{itself, and_left, and_right, or_left, or_right, next_of, until_left, until_right, release_left, release_right}

pub sub_trans : {g h f : Formula} → Sub g h → Sub h f → Sub g f
sub_trans p itself = p
sub_trans p (and_left q) = and_left (sub_trans p q)
sub_trans p (and_right q) = and_right (sub_trans p q)
sub_trans p (or_left q) = or_left (sub_trans p q)
sub_trans p (or_right q) = or_right (sub_trans p q)
sub_trans p (next_of q) = next_of (sub_trans p q)
sub_trans p (until_left q) = until_left (sub_trans p q)
sub_trans p (until_right q) = until_right (sub_trans p q)
sub_trans p (release_left q) = release_left (sub_trans p q)
sub_trans p (release_right q) = release_right (sub_trans p q)

-- a subformula of f is f, or a subformula of one of f's parts
abbrev pub Proper : Formula → Formula → Type 0
Proper g tru = ⊥
Proper g fls = ⊥
Proper g (lit i p) = ⊥
Proper g (and a b) = Sub g a ⊎ Sub g b
Proper g (or a b) = Sub g a ⊎ Sub g b
Proper g (next a) = Sub g a
Proper g (until a b) = Sub g a ⊎ Sub g b
Proper g (release a b) = Sub g a ⊎ Sub g b

pub split : {g f : Formula} → Sub g f → (g ≡ f) ⊎ Proper g f
split itself = inl mathlib.Core.Path.refl
split (and_left q) = inr (inl q)
split (and_right q) = inr (inr q)
split (or_left q) = inr (inl q)
split (or_right q) = inr (inr q)
split (next_of q) = inr q
split (until_left q) = inr (inl q)
split (until_right q) = inr (inr q)
split (release_left q) = inr (inl q)
split (release_right q) = inr (inr q)

proper : (g f : Formula) → Proper g f → Sub g f
proper g (and a b) (inl q) = and_left q
proper g (and a b) (inr q) = and_right q
proper g (or a b) (inl q) = or_left q
proper g (or a b) (inr q) = or_right q
proper g (next a) q = next_of q
proper g (until a b) (inl q) = until_left q
proper g (until a b) (inr q) = until_right q
proper g (release a b) (inl q) = release_left q
proper g (release a b) (inr q) = release_right q
proper g tru q = absurd q
proper g fls q = absurd q
proper g (lit i p) q = absurd q

either : {A B : Type 0} → Dec A → Dec B → Dec (A ⊎ B)
either (yes a) d = yes (inl a)
either (no n) (yes b) = yes (inr b)
either (no n) (no m) = no (λ c. elim c [ inl a ↦ n a | inr b ↦ m b ])

join : {g f : Formula} → Dec (g ≡ f) → Dec (Proper g f) → Dec (Sub g f)
join {g} (yes e) d = yes (subst (λ x. Sub g x) e itself)
join {g} {f} (no n) (yes q) = yes (proper g f q)
join (no n) (no m) = no (λ s. elim (split s) [ inl e ↦ n e | inr q ↦ m q ])

pub sub_dec : (g f : Formula) → Dec (Sub g f)
sub_dec g tru = join (same g tru) (no (λ q. q))
sub_dec g fls = join (same g fls) (no (λ q. q))
sub_dec g (lit i p) = join (same g (lit i p)) (no (λ q. q))
sub_dec g (and a b) = join (same g (and a b)) (either (sub_dec g a) (sub_dec g b))
sub_dec g (or a b) = join (same g (or a b)) (either (sub_dec g a) (sub_dec g b))
sub_dec g (next a) = join (same g (next a)) (sub_dec g a)
sub_dec g (until a b) = join (same g (until a b)) (either (sub_dec g a) (sub_dec g b))
sub_dec g (release a b) = join (same g (release a b)) (either (sub_dec g a) (sub_dec g b))
