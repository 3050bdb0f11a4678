-- Which refusal `ok_or` and `?` give. Assumes nothing.
use Rattle.std.proofs.Common.{◌≡◌, ℕ, Some, None, Err, Option, Result, refl, ap, ◌∙◌, arith}
use Rattle.std.specs.Option.{ok_or}
use Rattle.std.specs.Result.{IsErrAnd}
use Rattle.std.proofs.lemmas.Result.{err_from_is_err_and}

-- `?` passes the refusal on
pub passed : {T E : Type 0} (r : Result T E) (e : E) → IsErrAnd r (λ y. y ≡ e) → r ≡ Err e
passed r e h = let p = err_from_is_err_and r h in p.1 ∙ ap Err p.2

pub was_none : {A E : Type 0} (x : Option A) (e y : E) → Err y ≡ ok_or x e → (x ≡ None) × (y ≡ e)
was_none None e y h = (refl, cc)
was_none (Some a) e y h = absurd (let z : ◌≡◌ {A = ℕ} 0 1 = cc in omega arith)
