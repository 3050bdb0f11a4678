-- How many items a fixed list holds. Assumes nothing.
use Rattle.std.proofs.Common.{◌≡◌, ℕ, ◌≤◌, length, arith, length-take-le}
use Rattle.fixed.specs.declared.FixedList.{FixedList}
use Rattle.fixed.specs.Held.{held}

-- as many as its length says
pub held_len : {T : Type 0} {N : ℕ} (l : FixedList T N) → length (held l) ≡ l.len
held_len l = length-take-le l.len l.items (omega (arith, l.size, l.fits))

-- at most N
pub held_fits : {T : Type 0} {N : ℕ} (l : FixedList T N) → length (held l) ≤ N
held_fits l = omega (arith, held_len l, l.fits)
