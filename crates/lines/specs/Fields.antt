-- Parts of a text at a byte, and entries with their numbers capped at 65,536. Assumes nothing.
use Rattle.std.specs.Prelude.{◌≡◌, ℕ, ◌<◌, min, cond, [], ◌∷◌, length, Some, None, Option, ◌≢◌, option_and_then}
use Rattle.std.specs.Borrow.{Bor}
use Rattle.meaning.specs.Bytes.{Text, parted, all, digit, value}
use Rattle.meaning.specs.Files.{Entry as LineEntry, signals, rule, state, step, of_fields}
use Rattle.lines.specs.declared.Entry.{Entry}
use Rattle.lines.specs.declared.Entry.TheVariants.{Signals, Rule, State, Step}

-- a text cut at the first c, if there is one
abbrev pub Cut : ℕ → Text → Option (Bor Text × Bor Text) → Type 0
Cut c t None = parted c t ≡ t ∷ []
Cut c t (Some x) = (parted c t ≡ x.0.now ∷ parted c x.1.now) × (length x.1.now < length t)

-- two fields
abbrev pub Two : Text → Option (Bor Text × Bor Text) → Type 0
Two t None = (a b : Text) → parted 44 t ≢ a ∷ (b ∷ [])
Two t (Some x) = parted 44 t ≡ x.0.now ∷ (x.1.now ∷ [])

-- three fields
abbrev pub Three : Text → Option (Bor Text × Bor Text × Bor Text) → Type 0
Three t None = (a b c : Text) → parted 44 t ≢ a ∷ (b ∷ (c ∷ []))
Three t (Some x) = parted 44 t ≡ x.0.now ∷ (x.1.now ∷ (x.2.now ∷ []))

-- a number, or 65,536 if it is larger
abbrev pub cap : ℕ → ℕ
cap n = min 65536 n

-- the number n with the digits of a text behind it, capped at 65,536; none where a byte is no digit
abbrev pub figure : ℕ → Text → Option ℕ
figure n t = cond (all digit t) (Some (cap (value n t))) None

-- an entry with its numbers capped at 65,536
abbrev pub capped : LineEntry → LineEntry
capped (signals t) = signals t
capped (rule t) = rule t
capped (state n s a) = state (cap n) (cap s) (cap a)
capped (step f t) = step (cap f) (cap t)

-- what the code's entry says
abbrev pub shown : Entry → LineEntry
shown (Signals x) = signals x.now
shown (Rule x) = rule x.now
shown (State n s a) = state n s a
shown (Step f t) = step f t

-- the entry of a line whose first field is k, from what follows its comma
abbrev pub fields_of : Text → Option Text → Option LineEntry
fields_of k o = option_and_then (λ rest. of_fields (k ∷ parted 44 rest)) o
